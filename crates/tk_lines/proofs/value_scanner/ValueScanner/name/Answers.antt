use Rattle.std.proofs.Common.{◌≤◌, length, ap, arith}
use Rattle.tk_lines.proofs.Headers.HeaderBytes.{name_kept, name_long, name_room}
use Rattle.tk_lines.proofs.value_scanner.ValueScanner.name.Goals as goal

pub returns-then-end-text-clause-long : goal.returns-then-end-text-clause-long
returns-then-end-text-clause-long c =
    λ v h _. name_long c.args.self.now v h (omega (arith, c.if-end-text.true, ap length c.as_slice-text.ensures))

pub returns-clause-name : goal.returns-clause-name
returns-clause-name c = λ v h.
    let fits : c.args.self.now.trimmed ≤ length c.args.self.now.text =
    omega (arith, c.if-end-text.false, ap length c.as_slice-text.ensures) in
    rw c.as_slice-text.ensures (name_kept c.args.self.now v h fits, name_room c.args.self.now v h)
