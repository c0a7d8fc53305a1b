use Rattle.std.proofs.lemmas.Grind.{common_steps}
use Rattle.std.proofs.Common.{◌∙◌, FitsSigned, w64, rules, sym, arith}
use Rattle.tk_descent.proofs.OfferLists.OneByOne.{Searched-not_worth, Searched-not_allowed, Searched-allowed}
use Rattle.tk_descent.proofs.gains.Gains.find_in.Goals as goal
use Rattle.tk_descent.proofs.gains.Gains.find_in.Goals.{else-gain-gt0-via-then-gain-gt0+else-allows}
use Rattle.tk_descent.proofs.gains.Gains.find_in.Goals.{else-gain-gt0-via-else-gain-gt0}

pub returns-then-allows-clause-searched : goal.returns-then-allows-clause-searched
returns-then-allows-clause-searched g c =
    let i = c.loop-offer.invariant in
    let fits : FitsSigned w64 c.gain-gain.result = search rules in
    Searched-allowed (g.Self.Gains.distance c.args.self.now) _ c.args.offers.now c.loop-offer.offer-index
    _ c.loop-offer-test.true _ _ _ i.searched c.gain-gain.ensures.count c.gain-gain.result fits i.table
    c.gain-gain.ensures.value c.if-gain-gt0.true (sym c.allows.ensures ∙ c.if-allows.true)

pub loop-offer-preserved : goal.loop-offer-preserved
loop-offer-preserved g c =
    let i = c.loop-offer.invariant in
    let fits : FitsSigned w64 c.gain-gain.result = search rules in
    record {
      searched =
          elim c.else-gain-gt0.branch [
            | else-gain-gt0-via-then-gain-gt0+else-allows w ↦ Searched-not_allowed
                (g.Self.Gains.distance c.args.self.now) _ c.args.offers.now c.loop-offer.offer-index _
                c.loop-offer-test.true _ _ _ i.searched c.gain-gain.ensures.count c.gain-gain.result fits i.table
                c.gain-gain.ensures.value (sym w.allows.ensures ∙ w.if-allows.false)
            | else-gain-gt0-via-else-gain-gt0 w ↦ Searched-not_worth
                (g.Self.Gains.distance c.args.self.now) _ c.args.offers.now c.loop-offer.offer-index _
                c.loop-offer-test.true _ _ _ i.searched c.gain-gain.ensures.count c.gain-gain.result fits i.table
                c.gain-gain.ensures.value w.if-gain-gt0.false
          ];
      table = c.gain-gain.ensures.same.0 ∙ i.table;
      range = c.gain-gain.ensures.same.1 ∙ i.range;
    }

pub returns-clause-searched : goal.returns-clause-searched
returns-clause-searched g c = grind (arith, common_steps)

pub allows-requires-clause-on_tour : goal.allows-requires-clause-on_tour
allows-requires-clause-on_tour g c = search rules
