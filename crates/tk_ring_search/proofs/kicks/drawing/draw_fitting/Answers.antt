use Rattle.std.proofs.Common.{ap, ◌∙◌, sym, refl, arith}
use Rattle.std.proofs.lemmas.Grind.{common_steps}
use Rattle.tk_ring_search.specs.Drawing.{none, more}
use Rattle.tk_ring_search.specs.Kicks.{drawn_kick}
use Rattle.tk_ring_search.proofs.kicks.drawing.draw_fitting.Goals as goal

pub loop-draws-init : goal.loop-draws-init
loop-draws-init g c = none

pub loop-draws-preserved : goal.loop-draws-preserved
loop-draws-preserved g c =
    more c.loop-draws.invariant
    (c.draw-kick.ensures.drawn ∙ ap (λ n. drawn_kick n (g.R.Rng.stream c.loop-draws.rng)) c.size-n.ensures)
    (sym c.fits.ensures ∙ c.if-fits.false)

pub returns-then-fits : goal.returns-then-fits
returns-then-fits g c =
    record {
      kick = record {
        before = c.loop-draws.draws;
        left = g.R.Rng.stream c.loop-draws.rng;
        missed = c.loop-draws.invariant;
        drawn = c.draw-kick.ensures.drawn ∙ ap (λ n. drawn_kick n (g.R.Rng.stream c.loop-draws.rng)) c.size-n.ensures;
        is_kick = rw (← c.size-n.ensures) c.draw-kick.ensures.kick;
        fits = sym c.fits.ensures ∙ c.if-fits.true;
        count = refl;
      };
      few = grind (arith, common_steps);
    }
