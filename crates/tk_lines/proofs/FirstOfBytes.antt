-- The first of some bytes, as the driver asks of it.
use Rattle.std.proofs.Common.{◌≡◌, ℕ, ◌≤◌, List, ◌++◌, length, take, Result, Ok, Err, refl, ap, subst, ◌∙◌}
use Rattle.std.proofs.lemmas.List.{append-nil}
use Rattle.tk_words.specs.declared.fault.TextFault.{TextFault}
use Rattle.tk_words.specs.declared.sources.text_reader.FeedResult.TheVariants.{Done}
use Rattle.tk_words.specs.Texts.{DecidesWithin, IsReported, texts_of, cause_of}
use Rattle.tk_words.proofs.ReportedFaults.{reported_of}
use Rattle.tk_problem.specs.declared.limits.TheConstants.{TEXT_LIMIT}
use Rattle.tk_lines.specs.declared.reader.PieceReader.{PieceReader}
use Rattle.tk_lines.specs.Reader.Handlers.{Promise}
use Rattle.tk_lines.specs.Pieces.{decided_by}
use Rattle.tk_lines.specs.Reader.Places.{DecidesIf, Fed, anything}
use Rattle.tk_lines.specs.Reader.Steps.{HasRun}

module _ {V S : Type 0} (p : Promise V S) (new : PieceReader S) (before bytes : List ℕ) where
  decides_within : (n : ℕ) (a : Result V TextFault) → n ≤ length bytes →
      DecidesIf p.format anything (before ++ take n bytes) a →
      DecidesWithin (texts_of (decided_by p.format) TEXT_LIMIT) before bytes a
  decides_within n a le h = (n, le, λ e more. h e more refl)

  pub reported_run : (f : TextFault) → HasRun p new before bytes (Err f) →
      IsReported (texts_of (decided_by p.format) TEXT_LIMIT)
      (DecidesWithin (texts_of (decided_by p.format) TEXT_LIMIT) before bytes) f
  reported_run f (n, le, h) =
      reported_of ⊥ (λ e. DecidesIf p.format anything (before ++ take n bytes) (Err e))
      (λ e. DecidesWithin (texts_of (decided_by p.format) TEXT_LIMIT) before bytes (Err e)) f (cause_of f.kind)
      (decides_within n (Err f) le) h

  pub whole_run : HasRun p new before bytes (Ok Done) →
      DecidesWithin (texts_of (decided_by p.format) TEXT_LIMIT) before bytes (Ok (p.held new.form))
      × p.complete new.form
  whole_run (n, le, h) = (decides_within n (Ok (p.held new.form)) le h.0, h.1)

  -- none of them
  pub none_taken : (n : ℕ) → n ≡ 0 → Fed p anything new (before ++ take n bytes) → Fed p anything new before
  none_taken n e fed =
      subst (λ (l : List ℕ). Fed p anything new l)
      (ap (λ (k : ℕ). before ++ take k bytes) e ∙ append-nil before) fed
