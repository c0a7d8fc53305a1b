use Rattle.std.proofs.Common.{◌≡◌, true, false, [], ◌∷◌, ◌++◌, ap, arith, refl, sym, ◌∙◌}
use Rattle.std.proofs.lemmas.List.{length_push}
use Rattle.std.proofs.lemmas.Result.{IfErr-weaker, IfOk-weaker}
use Rattle.tk_words.specs.Entry.{is_keyword, is_some_word}
use Rattle.tk_lines.specs.Pieces.{Clean}
use Rattle.tk_lines.specs.Reader.Handlers.{whole}
use Rattle.tk_problem_text.specs.Problem.{size_of}
use Rattle.tk_problem_text.specs.Reader.Coordinates.{HasPlaces}
use Rattle.tk_problem_text.specs.Reader.PlacedHandler.{HasShown, IsShown}
use Rattle.tk_problem_text.proofs.SectionTokens.FixedSections.{has_taken, ready, reported, stops_at_keyword}
use Rattle.tk_problem_text.proofs.SectionTokens.OpenSections.{keyword_is}
use Rattle.tk_problem_text.proofs.placed_handler.take_shown.Goals as goal

pub returns-then-is_some-clause-err : goal.returns-then-is_some-clause-err
returns-then-is_some-clause-err c = λ before n toks line shown places.
    let is : is_keyword c.args.token.now ≡ true = ap is_some_word (sym c.keyword.ensures)
    ∙ keyword_is c.keyword.result true (sym c.is_some.ensures ∙ c.if-is_some.true) in
    stops_at_keyword shown.tokens (ready c.args.token.now line c.requires) is

pub returns-clause-ok : goal.returns-clause-ok
returns-clause-ok c = λ before n toks line shown places.
    let number : is_keyword c.args.token.now ≡ false = ap is_some_word (sym c.keyword.ensures)
    ∙ keyword_is c.keyword.result false (sym c.is_some.ensures ∙ c.if-is_some.false) in
    let t = whole c.args.token.now line in
    let section = c.take.new.self in
    IfOk-weaker c.take.result _ _ (λ does took. rw took.2
    (has_taken shown.tokens (ready c.args.token.now line c.requires) number took.0 (IsShown before n section)
    (λ ps word m ts. HasShown before n ts × HasPlaces (size_of before) section ts)
    (λ last. record {
      toks = toks ++ t ∷ [];
      after = Clean;
      are = refl;
      sized = shown.sized;
      fresh = shown.fresh;
      places = took.1;
      all = omega (arith, last, length_push toks t);
    })
    (λ tokens. (
      record { sized = shown.sized; fresh = shown.fresh; read = shown.read; tokens = tokens },
      took.1,
    ))))
    (c.take.ensures.ok (size_of before) toks line places shown.tokens.fewer)

pub returns-clause-err : goal.returns-clause-err
returns-clause-err c = λ before n toks line shown places.
    let number : is_keyword c.args.token.now ≡ false = ap is_some_word (sym c.keyword.ensures)
    ∙ keyword_is c.keyword.result false (sym c.is_some.ensures ∙ c.if-is_some.false) in
    IfErr-weaker c.take.result _ _ (reported shown.tokens (ready c.args.token.now line c.requires) number)
    (c.take.ensures.err (size_of before) toks line places)
