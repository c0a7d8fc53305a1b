use Rattle.std.proofs.Common.{◌≡◌, ◌∙◌, ℕ, List, length, sym, ap, subst, arith}
use Rattle.tk_tour.specs.Reversal.{IsInverse, begun_at, reversed_places}
use Rattle.tk_segments.specs.Segments.{shown}
use Rattle.tk_tour.specs.Tour.{IsSizedTour}
use Rattle.std.proofs.Common.{◌++◌, take, drop}
use Rattle.std.proofs.lemmas.Grind.{common_steps}
use Rattle.tk_segments.proofs.SeenTours.Facts.{facts, seen_of, reversed_tour, reversed_list}
use Rattle.tk_segments.proofs.seen.SeenTour.exchange.Goals as goal
use Rattle.tk_segments.proofs.seen.SeenTour.exchange.Goals.{After-exchange_seen}

-- the whole array is written
written : (c : After-exchange_seen) →
    take c.args.self.now.order.len (c.exchange_seen.new.order
    ++ drop (length c.exchange_seen.new.order) c.args.self.now.order.items) ≡ c.exchange_seen.new.order
written c = grind (arith, common_steps)

-- the sequence is reversed at these positions
reversed : (c : After-exchange_seen) →
    shown c.exchange_seen.new.order c.args.self.now.segments.segments.items
    ≡ reversed_places c.args.first c.args.count (seen_of c.args.self.now)
reversed c =
    let s = c.args.self.now in
    ap (shown c.exchange_seen.new.order) (sym c.deref.ensures.value) ∙ c.exchange_seen.ensures.shown
    ∙ ap (λ u. reversed_places c.args.first c.args.count (shown u c.deref.result.now)) c.deref_mut.ensures.value
    ∙ ap (λ u. reversed_places c.args.first c.args.count (shown s.order.items u)) c.deref.ensures.value

pub exchange_seen-requires-clause-tour : goal.exchange_seen-requires-clause-tour
exchange_seen-requires-clause-tour c =
    let s = c.args.self.now in
    rw (c.deref_mut.ensures.value, c.deref.ensures.value) (facts s).tour

pub exchange_seen-requires-clause-first_in : goal.exchange_seen-requires-clause-first_in
exchange_seen-requires-clause-first_in c = omega (arith, (facts c.args.self.now).list, c.requires.first)

pub exchange_seen-requires-clause-count_in : goal.exchange_seen-requires-clause-count_in
exchange_seen-requires-clause-count_in c = omega (arith, (facts c.args.self.now).list, c.requires.count)

pub invariant_of-self-2-clause-tour : goal.invariant_of-self-2-clause-tour
invariant_of-self-2-clause-tour c =
    let s = c.args.self.now in
    let before = (goal.at.invariant_of-self-2-clause-tour c).After-exchange_seen in
    let P : List ℕ → Type 0 = λ u. IsSizedTour (begun_at s.begin (shown u s.segments.segments.items)) in
    subst P (sym (written before)) (reversed_tour s s.begin c.args.first c.args.count _ (reversed before))

pub returns-clause-list : goal.returns-clause-list
returns-clause-list c = λ k lk h.
    let s = c.args.self.now in
    let f = facts s in
    let before = (goal.at.returns-clause-list c).After-exchange_seen in
    ap (λ u. begun_at s.begin (shown u s.segments.segments.items)) (written before) ∙
    reversed_list s k c.args.first c.args.count _ (reversed before) lk
    (omega (arith, f.list, c.requires.first)) (omega (arith, f.list, c.requires.count)) h

pub invariant_of-self-2-clause-inverse : goal.invariant_of-self-2-clause-inverse
invariant_of-self-2-clause-inverse c =
    let s = c.args.self.now in
    let place = c.exchange_seen.new.place in
    let w = written (goal.at.invariant_of-self-2-clause-inverse c).After-exchange_seen in
    let e : take s.place.len (place ++ drop (length place) s.place.items) ≡ place = grind (arith, common_steps) in
    let P : List ℕ → Type 0 = λ u. IsInverse c.exchange_seen.new.order u in
    let Q : List ℕ → Type 0 = λ u. IsInverse u (take s.place.len (place ++ drop (length place) s.place.items)) in
    subst Q (sym w) (subst P (sym e) c.exchange_seen.ensures.places)

pub invariant_of-self-2-clause-sizes : goal.invariant_of-self-2-clause-sizes
invariant_of-self-2-clause-sizes c =
    let s = c.args.self.now in
    let w = written (goal.at.invariant_of-self-2-clause-sizes c).After-exchange_seen in
    (ap length w ∙ c.exchange_seen.auto.order ∙ ap length c.deref_mut.ensures.value ∙ s.sizes.0, s.sizes.1)

pub returns-clause-written : goal.returns-clause-written
returns-clause-written c = grind (arith, common_steps)
