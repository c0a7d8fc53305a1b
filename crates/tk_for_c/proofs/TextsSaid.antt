-- The contents of a text in memory that was read or rejected.
use Rattle.std.proofs.Common.{◌≡◌, ℕ, Bool, List, Option, Some, Ok, Err, subst}
use Rattle.std.specs.Prelude.{IfSome}
use Rattle.tk_words.specs.declared.fault.TextFault.{TextFault}
use Rattle.tk_text.specs.Texts.{Cause, OfText, OfSource, OfMemory, Texts, IsAnswer, IsFaultOf, IsReportedOf, answer_of}
use Rattle.tk_words.specs.declared.sources.source.Source as sources
use Rattle.tk_engines.specs.Engine.{IsRead, IsRefused}
use Rattle.tk_for_c.specs.Texts.{HasFault, TextSays}

-- a text that was read as a value contains this value
pub says : {V S : Type 0} (texts : Texts V TextFault) (source : sources.Ghosts S) (old new : S)
    (text : List ℕ) (v : V) → source.left old ≡ Some text → IsRead texts source old new v → TextSays texts text v
says {V} texts source old new text v e h =
    (subst (λ (o : Option (List ℕ)). IfSome o (λ t. (rest : List ℕ) × (source.left new ≡ Some rest)
    × IsAnswer texts t rest (Ok v))) e h.answer).2.answer

-- the fault of a source whose bytes are specified is that of its text
pub has_cause : {V E : Type 0} (texts : Texts V E) (text : List ℕ) (broken : Bool) (new : Option (List ℕ)) (f : E)
    (cause : Cause) → IsFaultOf texts broken (Some text) new f cause →
    IsReportedOf (Unit {0}) (λ e. answer_of texts text ≡ Err e) f cause
has_cause texts text broken new f OfText h = h.2.answer
has_cause texts text broken new f OfSource h = tt
has_cause texts text broken new f OfMemory h = tt

-- the fault for which a source was rejected is that of its text
pub has_fault : {V S : Type 0} (texts : Texts V TextFault) (text : List ℕ) (source : sources.Ghosts S) (old new : S)
    (f : TextFault) → source.left old ≡ Some text →
    IsRefused texts source old new f → HasFault texts text f
has_fault texts text source old new f e h =
    has_cause texts text (source.broken new) (source.left new) f (texts.cause f)
    (subst (λ (o : Option (List ℕ)). IsFaultOf texts (source.broken new) o (source.left new) f (texts.cause f)) e
    h.fault)
