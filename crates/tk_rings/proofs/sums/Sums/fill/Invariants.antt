use Rattle.std.proofs.Common.{◌≡◌}
use Rattle.tk_rings.specs.Sums.{AreSumsBeside, copies_up_to, load_up_to}
use Rattle.tk_rings.proofs.sums.Sums.fill.Given as goal

abbrev pub invariant-loop-k : goal.invariant-loop-k
invariant-loop-k g l =
    let C = g.S.TourStore.cities l.ring in
    record {
      beside : AreSumsBeside l.k l.to l.demands C l.self;
      load : l.load ≡ load_up_to l.demands C l.k;
      count : l.count ≡ copies_up_to l.demands C l.k;
    }
