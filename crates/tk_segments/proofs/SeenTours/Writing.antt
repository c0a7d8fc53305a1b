-- The sequence written to a list.
use Rattle.std.proofs.Common.{◌≡◌, ℕ, ◌+◌, ◌<◌, ◌≤◌, List, [], ◌∷◌, ◌++◌, length, take, drop, sym, ap, ◌∙◌}
use Rattle.std.proofs.Common.{subst, arith, get_or}
use Rattle.std.specs.Prelude.{sum_by}
use Rattle.std.proofs.lemmas.List.{take_more, take_all, take_at, append_assoc, append-nil, length-append}
use Rattle.std.proofs.lemmas.List.{length-take-le, length-drop}
use Rattle.std.proofs.lemmas.List.Concat.{flat_map-append}
use Rattle.tk_segments.specs.Segments.{segment_size, shown_by, shown, IsWithin, AreLaidOut}
use Rattle.tk_segments.specs.declared.segment.Segment.{Segment}
use Rattle.tk_segments.proofs.SeenTours.SeenPlaces.{length-shown_by}
use Rattle.tk_segments.proofs.SeenTours.Searching.{start_is, sum_more, sum_all, sum_mono}

-- the positions to which the k-th segment is written
pub record WrittenAt (n k : ℕ) (segments : List Segment) (segment : Segment) : Type 0 where
  pub within : IsWithin n segment
  pub start : segment.start ≡ sum_by segment_size (take k segments)
  pub more : sum_by segment_size (take (k + 1) segments) ≡ segment.start + segment_size segment
  pub fits : segment.start + segment_size segment ≤ n

pub written_at : (n k : ℕ) (segments : List Segment) (segment d : Segment) → AreLaidOut n segments → k < length segments
    →
    segment ≡ get_or segments k d → WrittenAt n k segments segment
written_at n k segments segment d laid lt e =
    let P : Segment → Type 0 = λ r. WrittenAt n k segments r in
    let r : Segment = get_or segments k d in
    let s = start_is n k segments d laid lt in
    let more : sum_by segment_size (take (k + 1) segments) ≡ r.start + segment_size r = sum_more k segments d lt
    ∙ ap (λ u. u + segment_size r) (sym s) in
    let f : WrittenAt n k segments r = record {
      within = laid.within k d lt;
      start = s;
      more = more;
      fits = omega (
        arith,
        more,
        sum_mono (k + 1) (length segments) segments (omega (arith, lt)),
        sum_all n segments
            laid,
      );
    } in
    subst P (sym e) f

-- one more segment is written
pub written_more : (n k : ℕ) (segments : List Segment) (segment d : Segment) (order list new : List ℕ) → AreLaidOut n
    segments →
    k < length segments → segment ≡ get_or segments k d → n ≤ length order → length list ≡ n →
    take (sum_by segment_size (take k segments)) list ≡ shown order (take k segments) →
    new ≡ take segment.start list ++ (shown_by order segment ++ drop (segment.start + segment_size segment) list) →
    take (sum_by segment_size (take (k + 1) segments)) new ≡ shown order (take (k + 1) segments)
written_more n k segments segment d order list new laid lt e le ll done f =
    let w = written_at n k segments segment d laid lt e in
    let A : List ℕ = take segment.start list in
    let B : List ℕ = shown_by order segment in
    let C : List ℕ = drop (segment.start + segment_size segment) list in
    let la : length A ≡ segment.start = length-take-le segment.start list (omega (arith, w.fits, ll)) in
    let lb : length B ≡ segment_size segment = length-shown_by n order segment w.within le in
    let l : length (A ++ B) ≡ sum_by segment_size (take (k + 1) segments) = omega
    (arith, length-append A B, la, lb, w.more) in
    let a : A ≡ shown order (take k segments) = ap (λ u. take u list) w.start ∙ done in
    let all : shown order (take (k + 1) segments) ≡ shown order (take k segments) ++ B =
    ap (shown order) (take_more segments k d lt) ∙ flat_map-append (shown_by order) (take k segments)
    (get_or segments k d ∷ [])
    ∙ ap (λ u. shown order (take k segments) ++ u) (append-nil (shown_by order (get_or segments k d))
    ∙ ap (shown_by order) (sym e)) in
    ap (take (sum_by segment_size (take (k + 1) segments))) (f ∙ sym (append_assoc A B C))
    ∙ take_at (A ++ B) C (sum_by segment_size (take (k + 1) segments)) l
    ∙ ap (λ u. u ++ B) a ∙ sym all

pub length-written : (n k : ℕ) (segments : List Segment) (segment d : Segment) (order list new : List ℕ) → AreLaidOut n
    segments →
    k < length segments → segment ≡ get_or segments k d → n ≤ length order → length list ≡ n →
    new ≡ take segment.start list ++ (shown_by order segment ++ drop (segment.start + segment_size segment) list) →
    length new ≡ n
length-written n k segments segment d order list new laid lt e le ll f =
    let w = written_at n k segments segment d laid lt e in
    let A : List ℕ = take segment.start list in
    let B : List ℕ = shown_by order segment in
    let C : List ℕ = drop (segment.start + segment_size segment) list in
    omega (
      arith,
      ap length f,
      length-append A (B ++ C),
      length-append B C,
      length-take-le segment.start list (omega (arith, w.fits, ll)),
      length-shown_by n order segment w.within le,
      length-drop (segment.start + segment_size segment) list,
      w.fits,
      ll,
    )

-- all segments are written
pub written_all : (n k : ℕ) (segments : List Segment) (order list : List ℕ) → AreLaidOut n segments → length segments ≤
    k →
    length list ≡ n →
    take (sum_by segment_size (take k segments)) list ≡ shown order (take k segments) → list ≡ shown order segments
written_all n k segments order list laid le ll done =
    let e : take k segments ≡ segments = take_all k segments le in
    let s : sum_by segment_size (take k segments) ≡ n = ap (sum_by segment_size) e ∙ laid.whole in
    sym (take_all (sum_by segment_size (take k segments)) list (omega (arith, s, ll))) ∙ done ∙ ap (shown order) e
