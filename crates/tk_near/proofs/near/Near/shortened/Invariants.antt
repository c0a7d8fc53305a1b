use Rattle.tk_near.proofs.ShorterLists.{AreShortened}
use Rattle.tk_near.proofs.near.Near.shortened.Given as goal

abbrev pub invariant-loop-c : goal.invariant-loop-c
invariant-loop-c l = AreShortened l.self l.width l.c l.entries.items
