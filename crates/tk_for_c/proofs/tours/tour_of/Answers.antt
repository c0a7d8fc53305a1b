use Rattle.std.proofs.Common.{◌≡◌, ap, refl, subst, sym, Bor, List, ℕ, Option, Some}
use Rattle.tk_text.specs.Tour.{tour_texts}
use Rattle.tk_text.specs.Texts.{IsFaultIfSpecified}
use Rattle.tk_words.specs.Sources as sources
use Rattle.tk_for_c.proofs.Refusals.{faulty}
use Rattle.tk_for_c.proofs.TextsSaid.{has_cause}
use Rattle.tk_for_c.proofs.tours.tour_of.Goals as goal
use Rattle.tk_for_c.specs.Outcomes.{text_answer}

pub returns-in-Err : goal.returns-in-Err
returns-in-Err c =
    let fault = c.in-Err.fault in
    let text = c.args.text.now in
    let broken = sources.has_failed {R = Bor (List ℕ)} c.read_tour.new.source in
    let left = Some c.read_tour.new.source.inner.now in
    let reported = subst (λ (o : Option (List ℕ)). IsFaultIfSpecified tour_texts broken o left fault)
    (ap (λ v. Some v.now) c.new.ensures.inner) c.in-Err.ensures.reads.err in
    let is = subst (λ n. c.of_text.result ≡ text_answer 1 fault n) (sym c.of_text.ensures.failure.size)
    c.of_text.ensures.is in
    record {
      ok = tt;
      failure = c.of_text.ensures.failure;
      refused = λ two. faulty tour_texts 1 text fault c.of_text.result two refl is
          (has_cause tour_texts text broken left fault (tour_texts.cause fault) reported);
    }
