use Rattle.std.proofs.Common.{◌≡◌, false, ◌++◌, refl, sym, subst, ◌∙◌}
use Rattle.std.specs.Prelude.{IfOk}
use Rattle.tk_words.specs.declared.keyword.Keyword.TheVariants as words
use Rattle.tk_problem_text.specs.HeaderValues.{problem_type_of, weight_type_of, weight_format_of, header_number}
use Rattle.tk_lines.specs.Pieces.{has}
use Rattle.tk_lines.specs.Reader.Handlers.{a_header}
use Rattle.std.proofs.lemmas.Result.{IfOk-weaker}
use Rattle.tk_problem.specs.declared.limits.TheConstants.{CAPACITY_LIMIT, CITY_LIMIT}
use Rattle.tk_problem_text.proofs.KeptHeaders.{says_known, says_number}
use Rattle.tk_problem_text.proofs.HeaderRecords.{with_comment, with_problem_type, with_dimension, with_capacity}
use Rattle.tk_problem_text.proofs.HeaderRecords.{with_weight_type, with_weight_format, with_coordinate_type}
use Rattle.tk_problem_text.proofs.HeaderRecords.{with_display_type}
use Rattle.tk_problem_text.proofs.headers.Headers.take.Goals as goal

pub returns-in-Name-clause-err : goal.returns-in-Name-clause-err
returns-in-Name-clause-err c = rw c.in-Name.is c.take_name.ensures.err

pub returns-in-Comment-clause-ok : goal.returns-in-Comment-clause-ok
returns-in-Comment-clause-ok c = λ ps v n h _. rw c.in-Comment.is (with_comment c.args.self.now ps v n h, refl)

pub returns-in-Type-clause-ok : goal.returns-in-Type-clause-ok
returns-in-Type-clause-ok c = λ ps v n h s. rw c.in-Type.is (
    IfOk-weaker c.keep.result _ _ (λ _ p. (with_problem_type c.args.self.now ps v n h _ p.0, p.1))
    (c.keep.ensures.ok words.Type problem_type_of _ ps v n refl h.problem_type
    (says_known problem_type_of v _ _ (c.problem_type_of.ensures v s) c.ok_or.ensures.value)))

pub returns-in-Type-clause-err : goal.returns-in-Type-clause-err
returns-in-Type-clause-err c = λ ps v n h s. rw c.in-Type.is (
    c.keep.ensures.err words.Type problem_type_of _ ps v n h.problem_type
    (says_known problem_type_of v _ _ (c.problem_type_of.ensures v s) c.ok_or.ensures.value))

pub returns-in-EdgeWeightType-clause-ok : goal.returns-in-EdgeWeightType-clause-ok
returns-in-EdgeWeightType-clause-ok c = λ ps v n h s. rw c.in-EdgeWeightType.is (
    IfOk-weaker c.keep-in-EdgeWeightType.result _ _ (λ _ p. (with_weight_type c.args.self.now ps v n h _ p.0, p.1))
    (c.keep-in-EdgeWeightType.ensures.ok words.EdgeWeightType weight_type_of _ ps v n refl h.weight_type
    (says_known weight_type_of v _ _ (c.weight_type_of.ensures v s) c.ok_or-in-EdgeWeightType.ensures.value)))

pub returns-in-EdgeWeightType-clause-err : goal.returns-in-EdgeWeightType-clause-err
returns-in-EdgeWeightType-clause-err c = λ ps v n h s. rw c.in-EdgeWeightType.is (
    c.keep-in-EdgeWeightType.ensures.err words.EdgeWeightType weight_type_of _ ps v n h.weight_type
    (says_known weight_type_of v _ _ (c.weight_type_of.ensures v s) c.ok_or-in-EdgeWeightType.ensures.value))

pub returns-in-EdgeWeightFormat-clause-ok : goal.returns-in-EdgeWeightFormat-clause-ok
returns-in-EdgeWeightFormat-clause-ok c = λ ps v n h s. rw c.in-EdgeWeightFormat.is (
    IfOk-weaker c.keep-in-EdgeWeightFormat.result _ _ (λ _ p. (with_weight_format c.args.self.now ps v n h _ p.0, p.1))
    (c.keep-in-EdgeWeightFormat.ensures.ok words.EdgeWeightFormat weight_format_of _ ps v n refl h.weight_format
    (says_known weight_format_of v _ _ (c.weight_format_of.ensures v s) c.ok_or-in-EdgeWeightFormat.ensures.value)))

pub returns-in-EdgeWeightFormat-clause-err : goal.returns-in-EdgeWeightFormat-clause-err
returns-in-EdgeWeightFormat-clause-err c = λ ps v n h s. rw c.in-EdgeWeightFormat.is (
    c.keep-in-EdgeWeightFormat.ensures.err words.EdgeWeightFormat weight_format_of _ ps v n h.weight_format
    (says_known weight_format_of v _ _ (c.weight_format_of.ensures v s) c.ok_or-in-EdgeWeightFormat.ensures.value))

pub returns-in-Dimension-clause-ok : goal.returns-in-Dimension-clause-ok
returns-in-Dimension-clause-ok c = λ ps v n h s. rw c.in-Dimension.is (
    IfOk-weaker c.keep-in-Dimension.result _ _ (λ _ p. (with_dimension c.args.self.now ps v n h _ p.0, p.1))
    (c.keep-in-Dimension.ensures.ok words.Dimension (header_number 2 CITY_LIMIT) _ ps v n refl h.dimension
    (says_number 2 CITY_LIMIT v c.number.result (c.number.ensures.ok v s)
    (λ m. c.number.ensures.err v m s))))

pub returns-in-Dimension-clause-err : goal.returns-in-Dimension-clause-err
returns-in-Dimension-clause-err c = λ ps v n h s. rw c.in-Dimension.is (
    c.keep-in-Dimension.ensures.err words.Dimension (header_number 2 CITY_LIMIT) _ ps v n h.dimension
    (says_number 2 CITY_LIMIT v c.number.result (c.number.ensures.ok v s)
    (λ m. c.number.ensures.err v m s)))

pub returns-in-Capacity-clause-ok : goal.returns-in-Capacity-clause-ok
returns-in-Capacity-clause-ok c = λ ps v n h s. rw c.in-Capacity.is (
    IfOk-weaker c.keep-in-Capacity.result _ _ (λ _ p. (with_capacity c.args.self.now ps v n h _ p.0, p.1))
    (c.keep-in-Capacity.ensures.ok words.Capacity (header_number 1 CAPACITY_LIMIT) _ ps v n refl h.capacity
    (says_number 1 CAPACITY_LIMIT v c.number-in-Capacity.result (c.number-in-Capacity.ensures.ok v s)
    (λ m. c.number-in-Capacity.ensures.err v m s))))

pub returns-in-Capacity-clause-err : goal.returns-in-Capacity-clause-err
returns-in-Capacity-clause-err c = λ ps v n h s. rw c.in-Capacity.is (
    c.keep-in-Capacity.ensures.err words.Capacity (header_number 1 CAPACITY_LIMIT) _ ps v n h.capacity
    (says_number 1 CAPACITY_LIMIT v c.number-in-Capacity.result (c.number-in-Capacity.ensures.ok v s)
    (λ m. c.number-in-Capacity.ensures.err v m s)))

pub returns-then-is_coordinate_type-clause-ok : goal.returns-then-is_coordinate_type-clause-ok
returns-then-is_coordinate_type-clause-ok c = λ ps v n h s. rw c.in-NodeCoordType.is (
    let p =
    subst (λ r. IfOk r (λ _. (c.note.new.came ≡ has words.NodeCoordType (ps ++ a_header words.NodeCoordType v n))
    × (has words.NodeCoordType ps ≡ false))) c.in_ok-note-in-NodeCoordType.was
    (c.note.ensures.ok words.NodeCoordType ps v n refl h.coordinate_type) in (
      with_coordinate_type c.args.self.now ps v n h c.note.new.came p.0,
      rw (p.1, sym (c.is_coordinate_type.ensures v s) ∙ c.if-is_coordinate_type.true) refl,
    ))

pub returns-else-is_coordinate_type-clause-err : goal.returns-else-is_coordinate_type-clause-err
returns-else-is_coordinate_type-clause-err c = λ ps v n h s. rw c.in-NodeCoordType.is (
    let p =
    subst (λ r. IfOk r (λ _. (c.note.new.came ≡ has words.NodeCoordType (ps ++ a_header words.NodeCoordType v n))
    × (has words.NodeCoordType ps ≡ false))) c.in_ok-note-in-NodeCoordType.was
    (c.note.ensures.ok words.NodeCoordType ps v n refl h.coordinate_type) in
    rw (p.1, sym (c.is_coordinate_type.ensures v s) ∙ c.if-is_coordinate_type.false) refl)

pub returns-in-DisplayDataType-clause-ok : goal.returns-in-DisplayDataType-clause-ok
returns-in-DisplayDataType-clause-ok c = λ ps v n h s. rw c.in-DisplayDataType.is (
    IfOk-weaker c.note-in-DisplayDataType.result
    _ _ (λ _ p. (with_display_type c.args.self.now ps v n h c.note-in-DisplayDataType.new.came p.0, rw p.1 refl))
    (c.note-in-DisplayDataType.ensures.ok words.DisplayDataType ps v n refl h.display_type))
