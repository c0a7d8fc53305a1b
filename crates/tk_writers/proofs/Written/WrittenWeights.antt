-- A section of the weights of a table: no token of it has a fault, and its weights are the table's.
use Rattle.std.proofs.Common.{◌≡◌, ◌≢◌, ℕ, zero, suc, ◌+◌, ◌-◌, ◌<◌, ◌≤◌, Bool, true, false, cond, eqb, ltb, ◌&&◌, ◌||◌}
use Rattle.std.proofs.Common.{List, [], ◌∷◌, ◌++◌, length, get_or, map, fold, None, pos, refl, sym, ap, ◌∙◌, arith}
use Rattle.std.proofs.Common.{append_assoc, inl, inr}
use Rattle.std.specs.List.{range_with_len, flat_map, list_any, count_by, zip, All}
use Rattle.std.proofs.lemmas.Bool.{eqb-true, eqb-false, ltb-true, cases_eq}
use Rattle.std.proofs.lemmas.List.{append-nil, length-map, map_push}
use Rattle.std.proofs.lemmas.List.Elements.{All-head, All-tail}
use Rattle.std.proofs.lemmas.List.Folds.{list_any-append, list_any_at}
use Rattle.std.proofs.lemmas.List.FromFn.{length-map-range_with_len, get_or-map-range_with_len}
use Rattle.std.proofs.lemmas.List.Sums.{sum_by-cons}
use Rattle.tk_problem.specs.declared.limits.TheConstants.{DISTANCE_LIMIT}
use Rattle.tk_problem.specs.declared.cell.Cell.{Cell}
use Rattle.tk_problem.specs.declared.weights.Format.{Format}
use Rattle.tk_problem.specs.declared.weights.Format.TheVariants as formats
use Rattle.tk_words.specs.Lex.{Token}
use Rattle.tk_lines.specs.Pieces.{first_at}
use Rattle.tk_words.specs.Entry.{is_keyword, is_some_word, natural_or_zero}
use Rattle.tk_problem_text.specs.Sections.Rows.{number_in}
use Rattle.tk_problem_text.specs.Sections.FixedSections.{tokens_stop, all_tests}
use Rattle.tk_writers.specs.ReadBack.{IsTable, lower_triangle}
use Rattle.tk_problem.specs.WeightOrder.{place, order, is_of, weight_of, entries, lower_of, times_written}
use Rattle.tk_problem_text.specs.Sections.WeightSection.{weights_in, is_full, place_behind, weight_tests, lower_weights}
use Rattle.tk_problem_text.proofs.SectionTokens.FixedSections.{checked-ready, at_once, tokens_stop-none, IsReady}
use Rattle.tk_words.proofs.NoWord.{integer-no_word}
use Rattle.tk_problem.proofs.PairWeights.{origin, order-within, IsWithin, two_ways, same_number, is_of-above}
use Rattle.tk_words.proofs.BoolLaws.{or_true}
use Rattle.tk_problem.proofs.LowerTriangle.{place-lower, length-lower}
use Rattle.tk_problem.proofs.WeightCounts.{flat_map-suc, pair-order}
use Rattle.tk_problem_text.proofs.SectionTokens.WeightTokens.{weight_on_diagonal, weight_once, weight_same}
use Rattle.tk_writers.proofs.Written.WrittenLines.{IsWritten, AreWritten}
use Rattle.tk_writers.proofs.Written.WrittenPlaces.{at_place, triangle-order}

-- ---- a pair among places

any_front : (p : Cell → Bool) (xs ys : List Cell) → list_any p xs ≡ true → list_any p (xs ++ ys) ≡ true
any_front p xs ys h = rw (list_any-append p xs ys, h) refl

any_behind : (p : Cell → Bool) (xs ys : List Cell) → list_any p ys ≡ true → list_any p (xs ++ ys) ≡ true
any_behind p xs ys h = rw (list_any-append p xs ys, h) (or_true (list_any p xs))

any_on_line : (p : Cell → Bool) (h : ℕ → Cell) (s c m : ℕ) → s ≤ m → m < s + c → p (h m) ≡ true →
    list_any p (map h (range_with_len s c)) ≡ true
any_on_line p h s c m low high hit =
    list_any_at p (map h (range_with_len s c)) (m - s) origin (omega (arith, length-map-range_with_len h s c))
    (ap p (get_or-map-range_with_len h s c (m - s) m origin (omega arith) (omega arith)) ∙ hit)

any_of_lines : (p : Cell → Bool) (g : ℕ → List Cell) (s c k : ℕ) → s ≤ k → k < s + c → list_any p (g k) ≡ true →
    list_any p (flat_map g (range_with_len s c)) ≡ true
any_of_lines p g s zero k low high hit = absurd (omega arith)
any_of_lines p g s (suc c) k low high hit =
    elim (cases_eq s k) as (λ _. list_any p (flat_map g (range_with_len s (suc c))) ≡ true) [
      | inl same ↦ any_front p (g s) (flat_map g (range_with_len (s + 1) c)) (ap (λ i. list_any p (g i)) same ∙ hit)
      | inr apart ↦ any_behind p (g s) (flat_map g (range_with_len (s + 1) c))
          (any_of_lines p g (s + 1) c k (omega arith) (omega arith) hit)
    ]

any_counted : (p : Cell → Bool) (xs : List Cell) → 0 < count_by p xs → list_any p xs ≡ true
any_counted p [] h = absurd (omega arith)
any_counted p (x ∷ xs) h = by_test (p x) (any_counted p xs) (omega (arith, h, sum_by-cons (λ q. cond (p q) 1 0) x xs))
  where
    by_test : (t : Bool) → (0 < count_by p xs → list_any p xs ≡ true) → 0 < cond t 1 0 + count_by p xs →
        (t || list_any p xs) ≡ true
    by_test true ih k = refl
    by_test false ih k = ih (omega arith)

some_times : (f : Format) → 0 < times_written f
some_times formats.FullMatrix = omega arith
some_times _ = omega arith

-- ---- the weight of a pair

-- entries of a table
abbrev filled : (ℕ → ℕ → ℕ) → List Cell → List (Cell × ℕ)
filled table ps = zip ps (map (at_place table) ps)

module _ (table : ℕ → ℕ → ℕ) (i j : ℕ) (same : table (suc j) (suc i) ≡ table (suc i) (suc j)) where
  hit_value : (p : Cell) → is_of i j p ≡ true → at_place table p ≡ table (suc i) (suc j)
  hit_value p e =
      elim (two_ways (eqb p.row i) (eqb p.column j) (eqb p.row j) (eqb p.column i) e) as (λ _. at_place table p ≡ table
      (suc i) (suc j)) [
        | inl h ↦ ap (λ r. table (suc r) (suc p.column)) (same_number p.row i h.0)
            ∙ ap (λ c. table (suc i) (suc c)) (same_number p.column j h.1)
        | inr h ↦ ap (λ r. table (suc r) (suc p.column)) (same_number p.row j h.0)
            ∙ ap (λ c. table (suc j) (suc c)) (same_number p.column i h.1) ∙ same
      ]

  abbrev weight_behind : ℕ → List Cell → ℕ
  weight_behind w ps = fold (λ w e. cond (is_of i j e.0) e.1 w) w (filled table ps)

  stays : (ps : List Cell) → weight_behind (table (suc i) (suc j)) ps ≡ table (suc i) (suc j)
  stays [] = refl
  stays (p ∷ ps) = by_test (is_of i j p) refl (stays ps)
    where
      by_test : (t : Bool) → is_of i j p ≡ t → weight_behind (table (suc i) (suc j)) ps ≡ table (suc i) (suc j) →
          weight_behind (cond t (at_place table p) (table (suc i) (suc j))) ps ≡ table (suc i) (suc j)
      by_test true e ih = ap (λ w. weight_behind w ps) (hit_value p e) ∙ ih
      by_test false e ih = ih

  found : (w : ℕ) (ps : List Cell) → list_any (is_of i j) ps ≡ true → weight_behind w ps ≡ table (suc i) (suc j)
  found w [] h = absurd cc
  found w (p ∷ ps) h = by_test (is_of i j p) refl (found w ps) h
    where
      by_test : (t : Bool) → is_of i j p ≡ t →
          (list_any (is_of i j) ps ≡ true → weight_behind w ps ≡ table (suc i) (suc j)) →
          (t || list_any (is_of i j) ps) ≡ true → weight_behind (cond t (at_place table p) w) ps ≡ table (suc i) (suc j)
      by_test true e ih k = ap (λ v. weight_behind v ps) (hit_value p e) ∙ stays ps
      by_test false e ih k = ih k

  weight_found : (ps : List Cell) → list_any (is_of i j) ps ≡ true →
      weight_of i j (filled table ps) ≡ table (suc i) (suc j)
  weight_found ps h = found 0 ps h

zip_front : (ps qs : List Cell) (g : Cell → ℕ) → zip (ps ++ qs) (map g ps) ≡ zip ps (map g ps)
zip_front [] [] g = refl
zip_front [] (q ∷ qs) g = refl
zip_front (p ∷ ps) qs g = ap (λ es. (p, g p) ∷ es) (zip_front ps qs g)

-- ---- the weights below the diagonal

map_same : (g h : Cell → ℕ) (ps : List Cell) →
    ((k : ℕ) → k < length ps → g (get_or ps k origin) ≡ h (get_or ps k origin)) → map g ps ≡ map h ps
map_same g h [] same = refl
map_same g h (p ∷ ps) same = ap (λ v. v ∷ map g ps) (same 0 (omega arith))
    ∙ ap (λ vs. h p ∷ vs) (map_same g h ps (λ k less. same (suc k) (omega arith)))

module _ (n : ℕ) (table : ℕ → ℕ → ℕ) (is_table : IsTable n table) where
  swapped : (i j : ℕ) → i < n → j < n → table (suc j) (suc i) ≡ table (suc i) (suc j)
  swapped i j h k = is_table.symmetric (suc j) (suc i) (omega arith) k (omega arith) h

  lower_filled : (f : Format) → lower_of n (filled table (order f n)) ≡ lower_triangle n table
  lower_filled f =
      map_same (λ p. weight_of p.row p.column (filled table (order f n))) (at_place table)
      (order formats.LowerRow n) (λ k less.
      let p : Cell = get_or (order formats.LowerRow n) k origin in
      let at = place-lower n k origin (omega (arith, less, length-lower n)) in
      let some : 0 < count_by (is_of p.row p.column) (order f n) =
      omega (arith, some_times f, pair-order f n p.row p.column at.0 at.1) in
      weight_found table p.row p.column (swapped p.row p.column at.1 (omega (arith, at.0, at.1))) (order f n)
      (any_counted (is_of p.row p.column) (order f n) some))
      ∙ sym (triangle-order n table)

  -- the weights that tokens of the table's numbers give
  pub lower_read : (f : Format) (toks : List Token) → map number_in toks ≡ map (at_place table) (order f n) →
      lower_weights n f toks ≡ lower_triangle n table
  lower_read f toks are = ap (λ ws. lower_of n (zip (order f n) ws)) are ∙ lower_filled f

-- ---- the order of a full matrix: below the diagonal the other half has come before

-- where a format writes a pair twice, its first entry is before this place
abbrev Seen : Format → List Cell → Cell → Type 0
Seen f before p = (is_full f && ltb p.column p.row) ≡ true → list_any (is_of p.row p.column) before ≡ true

abbrev AllSeen : Format → List Cell → List Cell → Type 0
AllSeen f before [] = Unit {0}
AllSeen f before (p ∷ ps) = Seen f before p × AllSeen f (before ++ p ∷ []) ps

seen_append : (f : Format) (before xs ys : List Cell) → AllSeen f before xs → AllSeen f (before ++ xs) ys →
    AllSeen f before (xs ++ ys)
seen_append f before [] ys h k = rw (← append-nil before) k
seen_append f before (x ∷ xs) ys h k =
    (h.0, seen_append f (before ++ x ∷ []) xs ys h.1 (rw (append_assoc before (x ∷ []) xs) k))

not_full : (f : Format) → is_full f ≡ false → (before ps : List Cell) → AllSeen f before ps
not_full f other before [] = tt
not_full f other before (p ∷ ps) = ((λ e. absurd (let k = rw other at e in cc)), not_full f other (before ++ p ∷ []) ps)

abbrev full_row : ℕ → ℕ → List Cell
full_row n i = map (λ j. place i j) (range_with_len 0 n)

seen_row : (i s c : ℕ) (before : List Cell) → ((j : ℕ) → j < i → list_any (is_of i j) before ≡ true) →
    AllSeen formats.FullMatrix before (map (λ j. place i j) (range_with_len s c))
seen_row i s zero before above = tt
seen_row i s (suc c) before above = (
  (λ e. above s (ltb-true s i e)),
  seen_row i (s + 1) c (before ++ place i s ∷ [])
      (λ j h. any_front (is_of i j) before (place i s ∷ []) (above j h)),
)

seen_rows : (n i c : ℕ) → i + c ≤ n →
    AllSeen formats.FullMatrix (flat_map (full_row n) (range_with_len 0 i)) (flat_map (full_row n) (range_with_len i c))
seen_rows n i zero h = tt
seen_rows n i (suc c) h =
    let before = flat_map (full_row n) (range_with_len 0 i) in
    let above : (j : ℕ) → j < i → list_any (is_of i j) before ≡ true = λ j less.
    any_of_lines (is_of i j) (full_row n) 0 i j (omega arith) (omega arith)
    (any_on_line (is_of i j) (λ m. place j m) 0 n i (omega arith) (omega arith) (is_of-above i j)) in
    let next : i + 1 ≡ suc i = omega arith in
    let rest : AllSeen formats.FullMatrix (before ++ full_row n i) (flat_map (full_row n) (range_with_len (i + 1) c)) =
    rw (← flat_map-suc (full_row n) i, next) (seen_rows n (suc i) c (omega arith)) in
    seen_append formats.FullMatrix before (full_row n i) (flat_map (full_row n) (range_with_len (i + 1) c))
    (seen_row i 0 n before above) rest

seen_order : (f : Format) (n : ℕ) → AllSeen f [] (order f n)
seen_order formats.FullMatrix n = seen_rows n 0 n (omega arith)
seen_order f n = not_full f refl [] (order f n)

-- ---- the tests of the tokens

at_length : (qs : List Cell) (p : Cell) (rs : List Cell) → get_or (qs ++ p ∷ rs) (length qs) origin ≡ p
at_length [] p rs = refl
at_length (q ∷ qs) p rs = at_length qs p rs

module _ (n : ℕ) (table : ℕ → ℕ → ℕ) (is_table : IsTable n table) (f : Format) where
  -- one weight, after those of the places before
  one_weight : (qs rs : List Cell) (p : Cell) (before : List Token) (t : Token) → order f n ≡ qs ++ p ∷ rs
      → weights_in before ≡ map (at_place table) qs
      → IsWritten t (at_place table p) → IsWithin n p → Seen f qs p → first_at t.line (weight_tests n f before t) ≡ None
  one_weight qs rs p before t is numbers written within seen =
      by_place (eqb p.row p.column) refl (is_full f && ltb p.column p.row) refl
    where
      count : length before ≡ length qs
      count = sym (length-map before number_in) ∙ ap length numbers ∙ length-map qs (at_place table)

      here : place_behind n f before ≡ p
      here = ap (λ k. get_or (order f n) k origin) count ∙ ap (λ ps. get_or ps (length qs) origin) is
          ∙ at_length qs p rs

      small : p.row ≢ p.column → at_place table p ≤ DISTANCE_LIMIT
      small apart = is_table.weights (suc p.row) (suc p.column) (omega arith) within.0 (omega arith) within.1
          (λ e. apart (omega (arith, e)))

      other_half : (is_full f && ltb p.column p.row) ≡ true →
          at_place table p ≡ weight_of p.row p.column (entries f n (weights_in before))
      other_half e =
          let read : weight_of p.row p.column (entries f n (weights_in before)) ≡ table (suc p.row) (suc p.column) =
          ap (λ ws. weight_of p.row p.column (zip (order f n) ws)) numbers
          ∙ ap (λ ps. weight_of p.row p.column (zip ps (map (at_place table) qs))) is
          ∙ ap (weight_of p.row p.column) (zip_front qs (p ∷ rs) (at_place table))
          ∙ weight_found table p.row p.column (swapped n table is_table p.row p.column within.0 within.1) qs (seen e) in
          sym read

      by_place : (d : Bool) → eqb p.row p.column ≡ d → (b : Bool) → (is_full f && ltb p.column p.row) ≡ b →
          first_at t.line (weight_tests n f before t) ≡ None
      by_place true on b e =
          weight_on_diagonal n f before t p here (pos (at_place table p)) written.is (eqb-true _ _ on)
      by_place false off false e = let apart = eqb-false _ _ off in
          weight_once n f before t p here apart (at_place table p) written.is (small apart) e
      by_place false off true e = let apart = eqb-false _ _ off in
          weight_same n f before t p here apart (at_place table p) written.is (small apart) (other_half e)

  weights_pass : (qs rs : List Cell) (before toks : List Token) → order f n ≡ qs ++ rs
      → weights_in before ≡ map (at_place table) qs
      → AreWritten toks (map (at_place table) rs) → All (IsWithin n) rs → AllSeen f qs rs →
      tokens_stop (weight_tests n f) before toks ≡ None
  weights_pass qs [] before [] is numbers are within seen = tokens_stop-none (weight_tests n f) before
  weights_pass qs [] before (t ∷ toks) is numbers are within seen = absurd are
  weights_pass qs (p ∷ rs) before [] is numbers are within seen = absurd are
  weights_pass qs (p ∷ rs) before (t ∷ toks) is numbers are within seen =
      let first = one_weight qs rs p before t is numbers are.0 (All-head (IsWithin n) p rs within) seen.0 in
      let number : is_keyword t.bytes ≡ false =
      ap is_some_word (integer-no_word t.bytes (pos (at_place table p)) are.0.is) in
      let ready : IsReady t = record { whole = are.0.whole; short = are.0.short } in
      let value : number_in t ≡ at_place table p = ap natural_or_zero are.0.is in
      let more : weights_in (before ++ t ∷ []) ≡ map (at_place table) (qs ++ p ∷ []) =
      map_push number_in before t ∙ ap (λ ws. ws ++ number_in t ∷ []) numbers
      ∙ ap (λ v. map (at_place table) qs ++ v ∷ []) value ∙ sym (map_push (at_place table) qs p) in
      at_once (weight_tests n f) before toks t None (checked-ready t (all_tests (weight_tests n f) before t) ready
      ∙ rw number first)
      ∙ weights_pass (qs ++ p ∷ []) rs (before ++ t ∷ []) toks (is ∙ sym (append_assoc qs (p ∷ []) rs)) more are.1
      (All-tail (IsWithin n) p rs within) seen.1

  -- no token of the table's numbers has a fault
  pub weights_accepted : (toks : List Token) → AreWritten toks (map (at_place table) (order f n)) →
      tokens_stop (weight_tests n f) [] toks ≡ None
  weights_accepted toks are = weights_pass [] (order f n) [] toks refl refl are (order-within f n) (seen_order f n)
