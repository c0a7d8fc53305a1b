use Rattle.std.proofs.Common.{rules, ◌≡◌, ◌-◌, ◌<◌, ◌^◌, List, length, get_or, Some, sym, subst, ap, ◌∙◌}
use Rattle.std.specs.Prelude.{IfSome}
use Rattle.tk_words.specs.declared.fault.TextKind.TheVariants as kinds
use Rattle.tk_lines.specs.Pieces.{Piece}
use Rattle.tk_problem_text.specs.Reader.Parts.{HasParts}
use Rattle.tk_problem_text.specs.Problem.{first_kind, over_capacity, routing_ends_of}
use Rattle.tk_problem_text.proofs.PartEnds.{IsRouting, first_node, few, rest_of_routing}
use Rattle.tk_problem_text.proofs.parts.Parts.routing_end.Goals as goal
use Rattle.tk_problem_text.proofs.parts.Parts.routing_end.Goals.{After-first_over}

routing : (c : After-first_over) →
    IsRouting c.args.self.now c.in-Some.capacity c.in-Some-demand.demand c.in-Some-depot.depot
routing c = record {
  type_is = search rules;
  capacity_is = c.in-Some.is;
  demand_is = c.in-Some-demand.is;
  depot_is = c.in-Some-depot.is;
}

short : (c : After-first_over) (ps : List Piece) → HasParts c.args.self.now ps → length c.deref-2.result.now < 2 ^ 32
short c ps k = subst (λ d. length d < 2 ^ 32) (sym c.deref-2.ensures.value) (few k (routing c))

-- what is wrong with the routing is that a node has too much
over_alone : (c : After-first_over) (ps : List Piece) → HasParts c.args.self.now ps →
    first_kind (routing_ends_of ps) ≡ first_kind (over_capacity c.in-Some.capacity 1 c.deref-2.result.now)
over_alone c ps k =
    let rests : get_or c.in-Some-demand.demand.items (c.in-Some-depot.depot - 1) 0 ≡ 0 =
    ap (λ d. get_or d (c.in-Some-depot.depot - 1) 0) (sym c.deref.ensures.value)
    ∙ sym (c.demand_at.ensures (first_node k (routing c))) ∙ c.if-demand_at-ne0.false in
    rest_of_routing k (routing c) rests
    ∙ ap (λ d. first_kind (over_capacity c.in-Some.capacity 1 d)) (sym c.deref-2.ensures.value)

pub returns-in-Some-first_over-clause-none : goal.returns-in-Some-first_over-clause-none
returns-in-Some-first_over-clause-none c = λ ps k e. cc

pub returns-in-Some-first_over-clause-fault : goal.returns-in-Some-first_over-clause-fault
returns-in-Some-first_over-clause-fault c = λ ps k.
    let at = (goal.at.returns-in-Some-first_over-clause-fault c).After-first_over in
    let found =
    subst (λ o. IfSome o
    (λ node. first_kind (over_capacity c.in-Some.capacity 1 c.deref-2.result.now) ≡ Some
    (kinds.DemandOverCapacity node))) c.in-Some-first_over.is (c.first_over.ensures.some (short at ps k)) in
    over_alone at ps k ∙ found

pub returns-in-None-clause-none : goal.returns-in-None-clause-none
returns-in-None-clause-none c = λ ps k _.
    let at = (goal.at.returns-in-None-clause-none c).After-first_over in
    over_alone at ps k ∙ c.first_over.ensures.none (short at ps k) c.in-None.is
