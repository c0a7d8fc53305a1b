use Rattle.std.proofs.Common.{◌+◌, ◌/◌, ◌%◌, ◌∙◌, refl, rules}
use Rattle.std.specs.Prelude.{pos}
use Rattle.std.proofs.lemmas.Int.{to_z-of_z}
use Rattle.std.proofs.lemmas.List.{length-set}
use mir.Syntax.{w64}
use Rattle.tk_for_c.proofs.Written.{one_written}
use Rattle.tk_for_c.proofs.tables.fill_rows.Goals as goal

pub loop-i-preserved : goal.loop-i-preserved
loop-i-preserved g c =
    let n = c.size-n.result in (
      length-set _ _ _ ∙ c.loop-i.invariant.0,
      one_written c.loop-i.out _ c.loop-i.i _ (pos 0)
          (λ j. pos (g.M.Metric.distance c.args.metric.now (j / n + 1) (j % n + 1))) refl (search rules)
          (to_z-of_z w64 c.dist.result (search rules) ∙ c.dist.ensures) c.loop-i.invariant.1,
    )
