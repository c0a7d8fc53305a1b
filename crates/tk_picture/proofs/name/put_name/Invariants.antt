-- what is put, and what the rest gives, are what the whole gives
use Rattle.std.proofs.Common.{◌≡◌, List, ℕ, ◌++◌}
use Rattle.tk_writers.specs.Pens.{Puts}
use Rattle.std.specs.Str.Chunks.{utf8_chunks_rest}
use Rattle.tk_picture.specs.Names.{shown_name}
use Rattle.tk_picture.proofs.name.put_name.Given as goal

abbrev pub invariant-loop-chunk : goal.invariant-loop-chunk
invariant-loop-chunk g l = record {
  done : List ℕ;
  puts : Puts g.W.Sink l.initial.pen l.pen done;
  rest : done ++ shown_name (utf8_chunks_rest l.chunk-iterator) ≡ shown_name l.fn.name;
}
