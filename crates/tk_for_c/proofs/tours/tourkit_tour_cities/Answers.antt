use Rattle.std.proofs.Common.{◌∙◌, ap, length, subst, sym}
use Rattle.tk_text.specs.Tour.{tour_texts}
use Rattle.tk_for_c.proofs.tours.tourkit_tour_cities.Goals as goal
use Rattle.tk_for_c.specs.Outcomes.{with_status}
use Rattle.tk_for_c.specs.Texts.{TextSays}

pub returns-in-Ok-clause-given : goal.returns-in-Ok-clause-given
returns-in-Ok-clause-given c = λ done.
    subst (TextSays tour_texts c.args.tour.now) (sym (c.copied.ensures.given done ∙ c.deref.ensures.value))
    c.in-Ok.ensures.ok

pub returns-in-Ok-clause-room : goal.returns-in-Ok-clause-room
returns-in-Ok-clause-room c = λ full. record {
  cities = c.in-Ok.tour.cities.items;
  is_tour = c.in-Ok.ensures.ok;
  is = c.copied.ensures.room full ∙ ap (λ l. with_status 4 (length l)) c.deref.ensures.value;
}
