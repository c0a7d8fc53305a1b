use Rattle.std.proofs.Common.{◌≡◌, ◌≢◌, ◌<◌, ◌≤◌, ◌*◌, ◌+◌, ◌∙◌, inl, inr, ⊎_elim, ap, refl, arith, get_or, set}
use Rattle.std.proofs.lemmas.Bool.{cases_eq}
use Rattle.std.proofs.lemmas.Grind.{div_ceil_times}
use Rattle.std.proofs.lemmas.List.{length-set, get_or-set_same, get_or-set_other}
use Rattle.tk_segments.proofs.naming.note_segment.Goals as goal

pub loop-bucket-init : goal.loop-bucket-init
loop-bucket-init c = record {
  same_length = refl;
  inside =
      λ b le lt. absurd
      (omega (arith, div_ceil_times c.args.segment.low 32 (omega arith), c.div_ceil-first.ensures, le, lt));
  others = λ b out. refl;
}

pub loop-bucket-preserved : goal.loop-bucket-preserved
loop-bucket-preserved c =
    let h = c.loop-bucket in
    let id = c.args.segment.id in
    record {
      same_length = length-set h.table h.bucket id ∙ h.invariant.same_length;
      inside = λ b le lt.
          ⊎_elim
          (λ (e : b ≡ h.bucket). ap (λ u. get_or (set h.table h.bucket id) u 0) e
          ∙ get_or-set_same h.table h.bucket id 0
          (omega (
            arith,
            c.loop-bucket-test.true,
            c.div_ceil-last.ensures,
            c.requires.fits,
            h.invariant.same_length,
          )))
          (λ (ne : b ≢ h.bucket). get_or-set_other h.table h.bucket b id 0 ne
          ∙ h.invariant.inside b le (omega (arith, lt, ne)))
          (cases_eq b h.bucket);
      others = λ b out.
          ⊎_elim
          (λ (a : b * 32 < c.args.segment.low). get_or-set_other h.table h.bucket b id 0 (omega arith)
          ∙ h.invariant.others b (inl a))
          (λ (a : h.bucket + 1 ≤ b). get_or-set_other h.table h.bucket b id 0 (omega (arith, a))
          ∙ h.invariant.others b (inr (omega (arith, a))))
          out;
    }

pub returns : goal.returns
returns c =
    let h = c.loop-bucket in
    let segment = c.args.segment in
    let end : h.bucket ≤ c.div_ceil-last.result =
    h.auto.bucket-end (omega (arith, c.div_ceil-first.ensures, c.div_ceil-last.ensures, c.requires.order)) in
    record {
      size = h.invariant.same_length;
      inside =
          λ b lb le lt. h.invariant.inside b le (omega (arith, c.loop-bucket-test.false, c.div_ceil-last.ensures, lt));
      others = λ b out.
          h.invariant.others b
          (⊎_elim (λ (a : b * 32 < segment.low). inl a)
          (λ (a : segment.high ≤ b * 32). inr (omega (arith, end, c.div_ceil-last.ensures, a))) out);
    }
