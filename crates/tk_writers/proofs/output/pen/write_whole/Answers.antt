use Rattle.std.proofs.Common.{◌∙◌, ◌-◌, length, length-take, drop, arith}
use Rattle.tk_writers.proofs.Pieces.Writing.{write_goes_on, Appends-next}
use Rattle.tk_writers.proofs.output.pen.write_whole.Goals as goal

pub loop-taken-preserved : goal.loop-taken-preserved
loop-taken-preserved g c =
    let done = c.loop-taken.taken in
    let xs = c.args.bytes.now in
    let before = c.loop-taken.invariant in
    let fits = c.in-Ok.ensures.bound in
    let most = length-take (length xs - done) (drop done xs) in
    record {
      within = omega arith;
      sent = Appends-next _ _ _ xs done c.in-Ok.n before.within (omega arith) before.sent c.in-Ok.ensures.bytes;
      kept = c.in-Ok.ensures.failed ∙ write_goes_on _ _ _ c.if-n-gt0.true ∙ before.kept;
    }
