use Rattle.std.proofs.Common.{◌∙◌, List, ℕ, sym, subst}
use Rattle.tk_words.specs.Lex.{IsUnbroken}
use Rattle.tk_lines.specs.Reader.Places.{AtToken}
use Rattle.tk_lines.specs.declared.line_state.LineState.TheVariants as places
use Rattle.tk_lines.proofs.KnownStates.{at_place}
use Rattle.tk_lines.proofs.reader.PieceReader.end_token.Goals as goal

pub returns-clause-closed : goal.returns-clause-closed
returns-clause-closed g c = λ next before within fed.
    let at = at_place places.Token c.requires.place fed in
    let is = c.new-token.ensures ∙ c.as_slice.ensures ∙ c.replace-held.ensures.value in
    c.take_token.ensures.taken next before within (subst IsUnbroken (sym is) at.0.0) (record {
      line = fed.line;
      at = subst (λ (held : List ℕ). AtToken g.F.Handler.promise.format g.F.Handler.promise.wants next
          c.args.self.now.form c.args.self.now.line held before) (sym is) at.1;
    })
