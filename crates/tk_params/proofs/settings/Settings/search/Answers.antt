use Rattle.std.proofs.Common.{arith, rules, subst, sym}
use Rattle.std.specs.Option.{IfSome}
use Rattle.tk_params.specs.declared.key.Key.TheVariants as keys
use Rattle.tk_params.specs.Requested.{IsInLimits, searched}
use Rattle.tk_params.specs.Reader.Stored.{settings_in}
use Rattle.tk_params.proofs.Limits.{number_at, number_or}
use Rattle.tk_params.proofs.settings.Settings.search.Goals as goal

pub invariant_of-result : goal.invariant_of-result
invariant_of-result c =
    let ss = settings_in c.self.inside.entries in
    let limits = c.self.invariant.limits in
    record {
      some_runs = number_or ss limits keys.Runs 10 _ c.unwrap_or.ensures c.number.ensures (omega arith, omega arith);
      some_trials = subst (λ o. IfSome o (IsInLimits 1 1000000)) (sym c.number-2.ensures)
          (number_at ss limits keys.MaxTrials);
      some_candidates = number_or ss limits keys.MaxCandidates 5 _ c.unwrap_or-3.ensures c.number-4.ensures
          (omega arith, omega arith);
      segments = number_or ss limits keys.OrSegment 3 _ c.unwrap_or-6.ensures c.number-5.ensures
          (omega arith, omega arith);
    }

pub returns : goal.returns
unfolding searched
returns c = search rules
