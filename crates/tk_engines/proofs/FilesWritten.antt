-- How files are written, by how each of the two is.
use Rattle.std.proofs.Common.{◌≡◌, Bool, true, Result, Ok, Err, OnErr, inl, inr, refl, subst, sym}
use Rattle.std.specs.Result.{IsErrAnd}
use Rattle.tk_writers.specs.Puts.{Writes}
use Rattle.tk_writers.specs.declared.output.pen.WriteFault.{WriteFault}
use Rattle.tk_writers.specs.declared.output.sink.Sink as sinks
use Rattle.tk_engines.specs.Solve.{Files, HasFailed, WritesFiles}

module _ {F W : Type 0} (files : sinks.Ghosts F) (outs : sinks.Ghosts W) (file file' : F) (out out' : W)
    (texts : Files) where
  -- after the whole text, the lines are
  pub lines_after : (r : Result (Unit {0}) WriteFault) → Writes files file file' (Ok tt) texts.file →
      Writes outs out out' r texts.out → WritesFiles files outs file file' out out' r texts
  lines_after (Ok tt) text lines = (text, lines)
  lines_after (Err f) text lines = inr (text, lines)

  -- the text broke off, and the fault was passed on
  pub text_stopped : (f : WriteFault) (r : Result (Unit {0}) WriteFault) → IsErrAnd r (λ e. e ≡ f) →
      Writes files file file' (Err f) texts.file → WritesFiles files outs file file' out out r texts
  text_stopped f (Err e) is text =
      inl (subst (λ v. Writes files file file' (Err v) texts.file) (sym is) text, (refl, refl))
  text_stopped f (Ok v) is text = elim is [ ]

-- a write of the text failed
pub text_failed : (file out : Bool) (r : Result (Unit {0}) WriteFault) → file ≡ true → OnErr r (HasFailed file out)
text_failed file out (Ok tt) h = tt
text_failed file out (Err f) h = inl h
