use Rattle.std.proofs.Common.{◌-◌, ◌^◌, ◌<◌, length, ap, sym, ◌∙◌, arith}
use Rattle.rand_core.specs.Stream.{Stream}
use Rattle.tk_search.specs.Cuts.{kick_swaps}
use Rattle.tk_search.specs.SearchLaws.{AreAlike}
use Rattle.tk_search.specs.Searching.{Searching, NextTrial, first, kicked, none}
use Rattle.tk_search.specs.declared.trials.totals.TrialReport.{TrialReport}
use Rattle.tk_search.proofs.trials.laws.reports_agree.Goals as goal

agree : (old new : Searching) (words rest : Stream) (r s : TrialReport) → NextTrial old words new rest r →
    NextTrial old words new rest s →
    new.totals.moves < 2 ^ 128 - 1 → new.totals.tests < 2 ^ 128 - 1 → new.totals.passes < 2 ^ 128 - 1 → AreAlike r s
agree old new words rest r s (first u a e) (first v b f) m t p = record {
  kicked = a.kicked ∙ sym b.kicked;
  passes = omega (arith, a.adds.passes, b.adds.passes);
  moves = omega (arith, a.adds.moves, b.adds.moves);
  tests = omega (arith, a.adds.tests, b.adds.tests);
  swaps = omega (arith, a.swaps, b.swaps);
}
agree old new words rest r s (first u a e) (kicked v n b) m t p = absurd (omega arith)
agree old new words rest r s (first u a e) (none v n b g f) m t p = absurd (omega arith)
agree old new words rest r s (kicked u k a) (first v b f) m t p = absurd (omega arith)
agree old new words rest r s (kicked u k a) (kicked v n b) m t p = record {
  kicked = a.kicked ∙ sym b.kicked;
  passes = omega (arith, a.adds.passes, b.adds.passes);
  moves = omega (arith, a.adds.moves, b.adds.moves);
  tests = omega (arith, a.adds.tests, b.adds.tests);
  swaps = omega (arith, a.swaps, b.swaps, ap (λ v. kick_swaps (length old.best) v.0) (a.kick.drawn ∙ sym b.kick.drawn));
}
agree old new words rest r s (kicked u k a) (none v n b g f) m t p = absurd (omega arith)
agree old new words rest r s (none u k a h e) (first v b f) m t p = absurd (omega arith)
agree old new words rest r s (none u k a h e) (kicked v n b) m t p = absurd (omega arith)
agree old new words rest r s (none u k a h e) (none v n b g f) m t p = record {
  kicked = a.flags.0 ∙ sym b.flags.0;
  passes = a.counts.0 ∙ sym b.counts.0;
  moves = a.counts.1 ∙ sym b.counts.1;
  tests = a.counts.3 ∙ sym b.counts.3;
  swaps = a.counts.4 ∙ sym b.counts.4;
}

pub returns : goal.returns
returns c = agree
