-- What a reader's answer says of a source.
use Rattle.std.proofs.Common.{Err, Ok}
use Rattle.tk_words.specs.Reading.{IsReading}
use Rattle.tk_words.specs.Texts.{Texts}
use Rattle.tk_words.specs.declared.fault.TextFault.{TextFault}
use Rattle.tk_words.specs.declared.sources.source.Source.{Ghosts}
use Rattle.tk_engines.specs.Engine.{IsRead, IsRefused}

pub is_read : {V S O : Type 0} {texts : Texts V TextFault} {source : Ghosts S} {view : O → V} {old new : S} {value : O}
    → IsReading source texts view old new (Ok value) → IsRead texts source old new (view value)
is_read reads = record { answer = reads.ok; some_text = reads.some_text; intact = reads.intact }

pub is_refused : {V S O : Type 0} {texts : Texts V TextFault} {source : Ghosts S} {view : O → V} {old new : S}
    {fault : TextFault} → IsReading {O = O} source texts view old new (Err fault) → IsRefused texts source old new fault
is_refused reads = record { fault = reads.err; some_fault = reads.some_fault; intact = reads.intact }
