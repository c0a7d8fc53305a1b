use Rattle.std.proofs.Common.{◌≡◌, ◌+◌, ◌-◌, ◌<◌, length, slice_index, sym, ◌∙◌, ap, arith, inl}
use Rattle.std.proofs.Common.{true, false, ℕ, List, slice_set, subst}
use Rattle.std.proofs.lemmas.Bool.{lt-ltb, le-ltb}
use Rattle.tk_tour.proofs.Tours.{city_in_range}
use Rattle.tk_rings.specs.Capacities.{is_copy}
use Rattle.tk_rings.specs.Sums.{AreSumsBeside, copies_up_to, load_up_to}
use Rattle.tk_rings.proofs.SumsAlong.{copies-at, copies-beside, load-at-copy, load-more}
use Rattle.tk_rings.proofs.SumsFilled.{all_summed, beside_copy, beside_customer}
use Rattle.tk_rings.proofs.sums.Sums.fill.Goals as goal
use Rattle.tk_rings.proofs.sums.Sums.fill.Goals.{then-c-demands, else-c-demands}

pub overflow_sub-load : goal.overflow_sub-load
overflow_sub-load g c =
    let C = g.S.TourStore.cities c.args.ring.now in
    omega (
      arith,
      c.at-c.ensures,
      city_in_range (length C) C (c.loop-k.k + 1 - 1) (g.met.S.TourStore.is_tour c.args.ring.now).2
          (omega (arith, c.loop-k-test.true, c.requires.range)),
    )

pub bounds-demands-c : goal.bounds-demands-c
bounds-demands-c g c =
    let C = g.S.TourStore.cities c.args.ring.now in
    omega (
      arith,
      c.at-c.ensures,
      c.if-c-demands.false,
      city_in_range (length C) C (c.loop-k.k + 1 - 1) (g.met.S.TourStore.is_tour c.args.ring.now).2
          (omega (arith, c.loop-k-test.true, c.requires.range)),
    )

pub loop-k-preserved : goal.loop-k-preserved
loop-k-preserved g c =
    let C = g.S.TourStore.cities c.args.ring.now in
    let demands = c.args.demands.now in
    let i = c.loop-k.invariant in
    let k = c.loop-k.k in
    let room : k < length C = omega (arith, c.loop-k-test.true, c.requires.range) in
    let here : c.at-c.result ≡ slice_index C k =
    c.at-c.ensures ∙ ap (slice_index C) (let same : k + 1 - 1 ≡ k = omega arith in same) in
    let same : (xs ys : List ℕ) → xs ≡ ys → (v : ℕ) → slice_set xs (k + 1) v ≡ slice_set ys (k + 1) v = λ xs ys e v.
    ap (λ z. slice_set z (k + 1) v) e in
    elim c.if-c-demands.branch [
      | then-c-demands w ↦
          let copy : is_copy demands (slice_index C k) ≡ true =
          ap (is_copy demands) (sym here) ∙ lt-ltb _ _ w.if-c-demands.true in
          let count : c.if-c-demands.count ≡ copies_up_to demands C (k + 1) =
          w.count-is ∙ ap (λ v. v + 1) i.count ∙ sym (copies-at demands C k room copy) in
          let load : c.if-c-demands.load ≡ load_up_to demands C (k + 1) =
          w.load-is ∙ i.load ∙ sym (load-at-copy demands C k room copy) in
          record {
            beside = beside_copy demands C k c.args.to c.loop-k-test.true c.requires.range.1 c.loop-k.self _ i.beside
                c.if-c-demands.load c.if-c-demands.count (same _ _ (ap (λ z. z.loads.items) w.self-is) _)
                (same _ _ (ap (λ z. z.counts.items) w.self-is) _) load count
                (omega (
                  arith,
                  w.load-is,
                  i.load,
                  (i.beside.summed k (inl (omega arith)) (omega (
                    arith,
                    room,
                  ))).light,
                )) copy
                (ap (λ z. z.copies.items) w.self-is ∙ ap (λ v. slice_set c.loop-k.self.copies.items v k) i.count);
            load = load;
            count = count;
          }
      | else-c-demands w ↦
          let plain : is_copy demands (slice_index C k) ≡ false =
          ap (is_copy demands) (sym here) ∙ le-ltb _ _ (omega (arith, w.if-c-demands.false)) in
          let count : c.if-c-demands.count ≡ copies_up_to demands C (k + 1) =
          w.count-is ∙ i.count ∙ sym (copies-beside demands C k room plain) in
          let load : c.if-c-demands.load ≡ load_up_to demands C (k + 1) =
          w.load-is ∙ ap (λ v. v + slice_index demands (c.at-c.result - 1)) i.load
          ∙ ap (λ v. load_up_to demands C k + slice_index demands (v - 1)) here ∙ sym (load-more demands C k room) in
          record {
            beside = beside_customer demands C k c.args.to c.loop-k-test.true c.requires.range.1 c.loop-k.self _
                i.beside
                c.if-c-demands.load c.if-c-demands.count (same _ _ (ap (λ z. z.loads.items) w.self-is) _)
                (same _ _ (ap (λ z. z.counts.items) w.self-is) _) load count
                (omega (
                  arith,
                  w.load-is,
                  i.load,
                  (i.beside.summed k (inl (omega arith)) (omega (arith, room))).light,
                  c.type_inv.demands (c.at-c.result - 1),
                )) plain (ap (λ z. z.copies.items) w.self-is);
            load = load;
            count = count;
          }
    ]

pub returns : goal.returns
returns g c =
    let C = g.S.TourStore.cities c.args.ring.now in
    let same : c.loop-k.k ≡ c.args.to = omega (arith, c.loop-k-test.false, c.loop-k.auto.k-end) in
    all_summed c.args.demands.now C c.loop-k.self c.args.to
    (subst (λ k. AreSumsBeside k c.args.to c.args.demands.now C c.loop-k.self) same c.loop-k.invariant.beside)
