use Rattle.std.proofs.Common.{◌≤◌, length, sym, ap, ◌∙◌, arith}
use Rattle.tk_problem_text.proofs.HeaderRecords.{with_name, stays_unnamed, nothing, named_so}
use Rattle.tk_problem_text.proofs.headers.Headers.keep_name.Goals as goal

pub returns-then-is_empty-clause-ok : goal.returns-then-is_empty-clause-ok
returns-then-is_empty-clause-ok c = λ ps v n h is short.
    let fresh = sym h.named ∙ c.if-self.false in
    let empty = sym is ∙ nothing c.args.name.now (sym c.is_empty.ensures ∙ c.if-is_empty.true) in (
      with_name c.args.self.now ps v n h c.args.self.now.name (stays_unnamed c.args.self.now ps v n h fresh empty)
          h.short fresh,
      fresh,
    )

pub returns-in-Ok-clause-ok : goal.returns-in-Ok-clause-ok
returns-in-Ok-clause-ok c = λ ps v n h is short.
    let fresh = sym h.named ∙ c.if-self.false in
    let items = c.in-Ok.ensures.items ∙ named_so v c.args.name.now is (sym c.is_empty.ensures ∙ c.if-is_empty.false) in
    let small : length c.in-Ok.name.items ≤ 1024 = omega (arith, ap length c.in-Ok.ensures.items, short) in (
      with_name c.args.self.now ps v n h c.in-Ok.name items small fresh,
      fresh,
    )
