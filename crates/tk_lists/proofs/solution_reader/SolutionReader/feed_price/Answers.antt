use Rattle.std.proofs.Common.{refl, sym, ap, ◌∙◌, []}
use Rattle.tk_lists.specs.Solution.{Cost}
use Rattle.tk_lines.proofs.Sections.MiddleOfSection.{tokens_of-gap}
use Rattle.tk_lists.proofs.solution_reader.SolutionReader.feed_price.Goals as goal

pub returns-then-blank-clause-went : goal.returns-then-blank-clause-went
returns-then-blank-clause-went c = λ before k unpriced.
    record {
      toks = [];
      stands = (refl, k, unpriced);
      same =
          λ bs w. ap Cost (tokens_of-gap w c.args.self.now.line c.args.byte bs (sym c.blank.ensures ∙ c.if-blank.true));
    }
