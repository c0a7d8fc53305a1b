use Rattle.std.proofs.Common.{◌*◌, [], ◌∷◌, ◌++◌, refl, subst}
use Rattle.std.proofs.lemmas.Result.{IfErr-weaker}
use Rattle.tk_words.specs.declared.keyword.Keyword.TheVariants as words
use Rattle.tk_problem_text.specs.declared.sections.open_section.OpenSection.TheVariants.{Places, Explicit, Loads}
use Rattle.tk_lines.specs.Reader.Handlers.{whole}
use Rattle.tk_problem_text.specs.Sections.WeightSection.{weight_count}
use Rattle.tk_problem_text.specs.Problem.{size_of, format_in}
use Rattle.tk_problem_text.specs.Reader.Coordinates.{HasPlaces}
use Rattle.tk_problem_text.specs.Reader.Demands.{HasDemands}
use Rattle.tk_problem_text.specs.Reader.Weighing.{HasWeights}
use Rattle.tk_problem_text.specs.Reader.OpenSections.{IsOpen}
use Rattle.tk_problem_text.proofs.SectionTokens.DemandRows.{demand_tests-reported}
use Rattle.tk_problem_text.proofs.SectionTokens.OpenSections.{takes, refuses, display_take}
use Rattle.tk_problem_text.proofs.sections.open_section.OpenSection.take_number.Goals as goal

pub returns-in-Places-clause-ok : goal.returns-in-Places-clause-ok
returns-in-Places-clause-ok c = λ counted number before word n toks line is_open.
    let o = subst (IsOpen before word n toks) c.in-Places.is is_open in
    takes c.args.token.now c.requires before n toks line number c.take.result words.NodeCoordSection word o.0 o.1
    (3 * size_of before) refl (Places c.take.new.self)
    (HasPlaces (size_of before) c.take.new.self (toks ++ whole c.args.token.now line ∷ []))
    (c.take.ensures.ok (size_of before) toks line o.2) (λ new all. (refl, new, all)) (λ new more. (refl, more, new))

pub returns-in-Places-clause-err : goal.returns-in-Places-clause-err
returns-in-Places-clause-err c = λ counted number before word n toks line is_open.
    let o = subst (IsOpen before word n toks) c.in-Places.is is_open in
    refuses c.args.token.now c.requires before n toks line number c.take.result words.NodeCoordSection word o.0 o.1
    (c.take.ensures.err (size_of before) toks line o.2)

pub returns-in-Explicit-clause-ok : goal.returns-in-Explicit-clause-ok
returns-in-Explicit-clause-ok c = λ counted number before word n toks line is_open.
    let o = subst (IsOpen before word n toks) c.in-Explicit.is is_open in
    takes c.args.token.now c.requires before n toks line number c.take-in-Explicit.result words.EdgeWeightSection word
    o.0 o.1 (weight_count (size_of before) (format_in before)) o.3.1 (Explicit c.take-in-Explicit.new.self)
    (HasWeights (size_of before) (format_in before) c.take-in-Explicit.new.self
    (toks ++ whole c.args.token.now line ∷ []))
    (c.take-in-Explicit.ensures.ok (size_of before) (format_in before) toks line o.2) (λ new all. (refl, new, o.3))
    (λ new more. (refl, more, new, o.3))

pub returns-in-Explicit-clause-err : goal.returns-in-Explicit-clause-err
returns-in-Explicit-clause-err c = λ counted number before word n toks line is_open.
    let o = subst (IsOpen before word n toks) c.in-Explicit.is is_open in
    refuses c.args.token.now c.requires before n toks line number c.take-in-Explicit.result words.EdgeWeightSection word
    o.0 o.1 (c.take-in-Explicit.ensures.err (size_of before) (format_in before) toks line o.2)

pub returns-in-Loads-clause-ok : goal.returns-in-Loads-clause-ok
returns-in-Loads-clause-ok c = λ counted number before word n toks line is_open.
    let o = subst (IsOpen before word n toks) c.in-Loads.is is_open in
    takes c.args.token.now c.requires before n toks line number c.take-in-Loads.result words.DemandSection word o.0 o.1
    (2 * size_of before) refl (Loads c.take-in-Loads.new.self)
    (HasDemands (size_of before) c.take-in-Loads.new.self (toks ++ whole c.args.token.now line ∷ []))
    (c.take-in-Loads.ensures.ok (size_of before) toks line o.2) (λ new all. (refl, new, all, o.3))
    (λ new more. (refl, more, new, o.3))

pub returns-in-Loads-clause-err : goal.returns-in-Loads-clause-err
returns-in-Loads-clause-err c = λ counted number before word n toks line is_open.
    let o = subst (IsOpen before word n toks) c.in-Loads.is is_open in
    refuses c.args.token.now c.requires before n toks line number c.take-in-Loads.result words.DemandSection word o.0
    o.1 (IfErr-weaker c.take-in-Loads.result
    _ _ (demand_tests-reported (size_of before) toks (whole c.args.token.now line) line)
    (c.take-in-Loads.ensures.err (size_of before) toks line o.2))

pub returns-in-Display-clause-ok : goal.returns-in-Display-clause-ok
returns-in-Display-clause-ok c = λ counted number before word n toks line is_open.
    display_take c.args.token.now c.requires before n toks line number c.in-Display.left c.count.new.left c.count.result
    word (subst (IsOpen before word n toks) c.in-Display.is is_open) c.count.ensures.fewer c.count.ensures.last
