-- Segments rotated to begin with another one.
use Rattle.std.proofs.Common.{◌≡◌, ℕ, ◌+◌, ◌≤◌, List, ◌++◌, length, take, drop, sym, ap, ◌∙◌, subst, arith}
use Rattle.std.specs.Prelude.{sum_by}
use Rattle.std.specs.List.{All}
use Rattle.std.proofs.lemmas.List.{take-append-drop}
use Rattle.std.proofs.lemmas.List.Sums.{sum_by-append}
use Rattle.tk_tour.specs.Reversal.{begun_at}
use Rattle.tk_segments.specs.Segments.{shown, segment_size, placed, AreLaidOut}
use Rattle.tk_segments.specs.declared.segment.Segment.{Segment}
use Rattle.tk_segments.proofs.SeenTours.Showing.{shown-begun}
use Rattle.tk_segments.proofs.SeenTours.SeenPlaces.{AreWithin}
use Rattle.tk_segments.proofs.SeenTours.Placing.{shown-placed, sum_sizes-placed, placed-placed, sum_sizes-part}
use Rattle.tk_segments.proofs.SeenTours.Turning.{within_of, all_within, within-append, within_left, within_right}
use Rattle.tk_segments.proofs.SeenTours.Turning.{within-placed, length-shown-sum}

whole_within : (n k : ℕ) (old : List Segment) → AreLaidOut n old → AreWithin n (take k old ++ drop k old)
whole_within n k old h = let P : List Segment → Type 0 = λ v. AreWithin n v in
    subst P (sym (take-append-drop k old)) (within_of n old h.within)

pub begun_shows : (n k v : ℕ) (order : List ℕ) (old new : List Segment) → AreLaidOut n old → n ≤ length order →
    sum_by segment_size (take k old) ≡ v → new ≡ placed 0 (drop k old ++ take k old) →
    shown order new ≡ begun_at v (shown order old)
begun_shows n k v order old new h le e f =
    let us : List Segment = take k old in
    let ws : List Segment = drop k old in
    ap (shown order) f ∙ shown-placed order 0 (ws ++ us) ∙ shown-begun order us ws
    ∙ ap (λ u. begun_at u (shown order (us ++ ws)))
    (length-shown-sum n order us (within_left n us ws (whole_within n k old h)) le ∙ e)
    ∙ ap (λ u. begun_at v (shown order u)) (take-append-drop k old)

pub begun_laid : (n k : ℕ) (old new : List Segment) → AreLaidOut n old → new ≡ placed 0 (drop k old ++ take k old) →
    AreLaidOut n new
begun_laid n k old new h f =
    let us : List Segment = take k old in
    let ws : List Segment = drop k old in
    let all = whole_within n k old h in
    let P : List Segment → Type 0 = λ v. AreLaidOut n v in
    subst P (sym f)
    (record {
      within =
          all_within n (placed 0 (ws ++ us))
          (within-placed n 0 (ws ++ us) (within-append n ws us (within_right n us ws all) (within_left n us ws all)));
      starts = sym (placed-placed 0 0 (ws ++ us));
      whole = omega (
        arith,
        sum_sizes-placed 0 (ws ++ us),
        sum_by-append segment_size ws us,
        sum_sizes-part k old,
        h.whole,
      );
    })

pub begun_sizes : (n k : ℕ) (old : List Segment) → AreLaidOut n old → n ≤ 100000 →
    (All (λ r. r.low ≤ r.high) (drop k old ++ take k old)) × (0 + sum_by segment_size (drop k old ++ take k old) ≤
    100000)
begun_sizes n k old h small =
    let us : List Segment = take k old in
    let ws : List Segment = drop k old in
    let all = whole_within n k old h in
    let w = all_within n (ws ++ us) (within-append n ws us (within_right n us ws all) (within_left n us ws all)) in (
      (λ j d lt. let z = w j d lt in omega (arith, z.0)),
      omega (arith, sum_by-append segment_size ws us, sum_sizes-part k old, h.whole),
    )
