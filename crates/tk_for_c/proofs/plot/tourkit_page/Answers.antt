use Rattle.std.proofs.Common.{refl}
use Rattle.tk_for_c.proofs.plot.tourkit_page.Goals as goal

pub returns-clause-given : goal.returns-clause-given
returns-clause-given c = λ done.
    (c.page_parts-parts.result, c.page_parts-parts.ensures, _, refl, c.drawn.ensures.given done)
