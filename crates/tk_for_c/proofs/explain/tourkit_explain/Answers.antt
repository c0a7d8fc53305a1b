use Rattle.std.proofs.Common.{◌∙◌, ap, arith}
use Rattle.tk_for_c.proofs.explain.tourkit_explain.Goals as goal
use Rattle.tk_for_c.specs.Explained.{explained}

pub returns-in-Ok-page_of-clause-given : goal.returns-in-Ok-page_of-clause-given
returns-in-Ok-page_of-clause-given c = λ _.
    let page = c.in-Ok-page_of.page in
    record {
      kind = page.kind;
      page = c.as_bytes.result.now;
      some = omega (arith, c.as_bytes.ensures.len, c.in-Ok-page_of.ensures.words);
      bytes = c.hand_out.ensures.bytes;
      answer_is = c.answer_of.ensures ∙ ap (λ f. explained page.kind f c.hand_out.result) c.in-Ok-page_of.ensures.fault
          ∙ ap (explained page.kind _) c.hand_out.ensures.needed;
    }
