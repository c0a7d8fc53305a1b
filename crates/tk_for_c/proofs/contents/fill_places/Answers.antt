use Rattle.std.proofs.Common.{◌∙◌, ap, arith, refl, rules, sym, List}
use Rattle.std.specs.Prelude.{pos, slice_index_or}
use Rattle.std.proofs.lemmas.Int.{to_z-of_z}
use Rattle.std.proofs.lemmas.List.{length-set}
use mir.Syntax.{w64}
use Rattle.tk_problem.specs.declared.point.Point.{Point}
use Rattle.tk_problem.specs.Places.{origin}
use Rattle.tk_for_c.proofs.PointArrays.{same_place}
use Rattle.tk_for_c.proofs.Written.{one_written}
use Rattle.tk_for_c.proofs.contents.fill_places.Goals as goal

pub loop-i-preserved : goal.loop-i-preserved
loop-i-preserved c =
    let held = c.loop-i.invariant in
    let points : List Point = c.args.points.now in
    let is = c.get-place.ensures.place in
    record {
      xs_count = length-set _ _ _ ∙ held.xs_count;
      ys_count = length-set _ _ _ ∙ held.ys_count;
      xs = one_written c.loop-i.xs _ c.loop-i.i _ (pos 0) (λ j. (slice_index_or points j origin).x) refl (search rules)
          (to_z-of_z w64 c.get-place.result.x (search rules) ∙ ap (λ (p : Point). p.x) is) held.xs;
      ys = one_written c.loop-i.ys _ c.loop-i.i _ (pos 0) (λ j. (slice_index_or points j origin).y) refl (search rules)
          (to_z-of_z w64 c.get-place.result.y (search rules) ∙ ap (λ (p : Point). p.y) is) held.ys;
    }

pub returns : goal.returns
returns c =
    let held = c.loop-i.invariant in
    let all = c.loop-i-test.false in
    record {
      count = sym (held.xs_count ∙ c.requires.xs);
      others = held.ys_count ∙ c.requires.ys ∙ sym (held.xs_count ∙ c.requires.xs);
      each = λ i within.
          same_place c.loop-i.xs c.loop-i.ys i _ (held.xs i (omega (arith, within, all)))
          (held.ys i (omega (arith, within, all)));
    }
