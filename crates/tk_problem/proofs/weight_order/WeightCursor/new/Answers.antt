use Rattle.std.proofs.Common.{◌≡◌, length, sym, ap, ◌∙◌}
use Rattle.std.specs.List.{count_by}
use Rattle.tk_problem.specs.WeightOrder.{order, is_of}
use Rattle.tk_problem.proofs.WeightLines.{order-lines_rest}
use Rattle.tk_problem.proofs.WeightCounts.{length-order, pair-order}
use Rattle.tk_problem.proofs.weight_order.WeightCursor.new.Goals as goal

pub returns : goal.returns
returns c =
    let f = c.args.format in
    let n = c.args.n in
    let all : c.from_line.result ≡ order f n = c.from_line.ensures ∙ sym (order-lines_rest f n) in
    record {
      places = all;
      count = ap length all ∙ length-order f n;
      pairs = λ i j less inside. ap (count_by (is_of i j)) all ∙ pair-order f n i j less inside;
    }
