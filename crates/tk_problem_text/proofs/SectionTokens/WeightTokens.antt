-- Explicit weights, token by token.
use Rattle.std.proofs.Common.{IfSome, ◌≡◌, ◌≢◌, ℕ, suc, ◌-◌, ◌<◌, ◌≤◌, true, false, ◌&&◌, eqb, ltb, leb, List, [], ◌∷◌}
use Rattle.std.proofs.Common.{◌++◌, length, get_or, Option, Some, None, ℤ, pos, refl, sym, ap, subst, ◌∙◌, arith}
use Rattle.std.proofs.Common.{length-drop}
use Rattle.std.specs.List.{slice_get}
use Rattle.std.proofs.Math.Bool.{and-false}
use Rattle.std.proofs.lemmas.Bool.{eq-eqb, ne_eqb, eqb-true, eqb-false, le-leb, le-ltb}
use Rattle.std.proofs.lemmas.List.{length-map, length_push, map_push}
use Rattle.tk_problem.specs.declared.limits.TheConstants.{DISTANCE_LIMIT}
use Rattle.tk_problem.specs.declared.cell.Cell.{Cell}
use Rattle.tk_problem.specs.declared.weights.Format.{Format}
use Rattle.tk_words.specs.declared.fault.TextKind.{TextKind}
use Rattle.tk_words.specs.declared.fault.TextKind.TheVariants as kinds
use Rattle.tk_lines.specs.Reader.Handlers.{IsReportedWord}
use Rattle.tk_words.specs.Lex.{Token, integer}
use Rattle.tk_lines.specs.Pieces.{Fault, first_at}
use Rattle.tk_words.specs.Entry.{in_range}
use Rattle.tk_problem_text.specs.Sections.Rows.{number_in}
use Rattle.tk_problem.specs.WeightOrder.{order, weight_of, entries}
use Rattle.tk_problem_text.specs.Sections.WeightSection.{weights_in, is_full, place_behind, weight_tests, weight_count}
use Rattle.tk_problem.specs.WeightsSoFar.{Filling, IsSoFar}
use Rattle.tk_problem_text.specs.declared.sections.explicit_weights.ExplicitWeights.{ExplicitWeights}
use Rattle.tk_problem_text.specs.Reader.Weighing.{HasWeights}
use Rattle.tk_lines.specs.declared.handler.Taken.TheVariants as takens
use Rattle.tk_problem_text.specs.Reader.FixedTokens.{fixed_taken}
use Rattle.tk_problem_text.proofs.SectionTokens.FixedSections.{fixed_taken-last, fixed_taken-more}
use Rattle.tk_problem.proofs.PairWeights.{origin}
use Rattle.tk_problem.proofs.WeightsSoFar.{IsNext, next_place}

-- where this is the next place
module _ (n : ℕ) (f : Format) (toks : List Token) (t : Token) (p : Cell) (here : place_behind n f toks ≡ p) where
  pub weight_on_diagonal : (z : ℤ) → integer t.bytes ≡ Some z → p.row ≡ p.column →
      first_at t.line (weight_tests n f toks t) ≡ None
  weight_on_diagonal z is same =
      let equal : eqb p.row p.column ≡ true = eq-eqb p.row p.column same in
      let behind : ltb p.column p.row ≡ false = le-ltb p.column p.row (omega (arith, same)) in
      rw (here, is, equal, behind, and-false (is_full f)) refl

  module _ (apart : p.row ≢ p.column) where
    pub weight_beyond : (z : ℤ) → integer t.bytes ≡ Some z → in_range 0 DISTANCE_LIMIT (Some z) ≡ false
        → first_at t.line (weight_tests n f toks t) ≡ Some (Fault t.line kinds.OutOfLimit)
    weight_beyond z is beyond =
        let unequal : eqb p.row p.column ≡ false = ne_eqb p.row p.column apart in
        rw (here, is, unequal, beyond) refl

    module _ (w : ℕ) (is : integer t.bytes ≡ Some (pos w)) (small : w ≤ DISTANCE_LIMIT) where
      pub weight_once : (is_full f && ltb p.column p.row) ≡ false → first_at t.line (weight_tests n f toks t) ≡ None
      weight_once once =
          let unequal : eqb p.row p.column ≡ false = ne_eqb p.row p.column apart in
          let above : leb 0 w ≡ true = le-leb 0 w (omega arith) in
          let within : leb w DISTANCE_LIMIT ≡ true = le-leb w DISTANCE_LIMIT small in
          rw (here, is, unequal, above, within, once) refl

      pub weight_same : w ≡ weight_of p.row p.column (entries f n (weights_in toks)) →
          first_at t.line (weight_tests n f toks t) ≡ None
      weight_same same =
          let unequal : eqb p.row p.column ≡ false = ne_eqb p.row p.column apart in
          let above : leb 0 w ≡ true = le-leb 0 w (omega arith) in
          let within : leb w DISTANCE_LIMIT ≡ true = le-leb w DISTANCE_LIMIT small in
          let equal : eqb w (weight_of p.row p.column (entries f n (weights_in toks))) ≡ true = eq-eqb _ _ same in
          rw (here, is, unequal, above, within, equal, and-false (is_full f && ltb p.column p.row)) refl

      pub weight_unlike : (is_full f && ltb p.column p.row) ≡ true →
          w ≢ weight_of p.row p.column (entries f n (weights_in toks)) →
          first_at t.line (weight_tests n f toks t) ≡ Some
          (Fault t.line (kinds.NotSymmetric (suc p.column) (suc p.row)))
      weight_unlike again unlike =
          let unequal : eqb p.row p.column ≡ false = ne_eqb p.row p.column apart in
          let above : leb 0 w ≡ true = le-leb 0 w (omega arith) in
          let within : leb w DISTANCE_LIMIT ≡ true = le-leb w DISTANCE_LIMIT small in
          let other : eqb w (weight_of p.row p.column (entries f n (weights_in toks))) ≡ false = ne_eqb _ _ unlike in
          rw (here, is, unequal, above, within, other, again) refl

module _ (n : ℕ) (f : Format) (s : ExplicitWeights) (toks : List Token) (has : HasWeights n f s toks) where
  pub next_of : (p : Cell) → slice_get s.lower.places 0 ≡ Some p → IsNext f n (weights_in toks) p
  next_of p first = next_place s.lower f n (weights_in toks) p has.so_far first

  pub place_here : (p : Cell) → slice_get s.lower.places 0 ≡ Some p → place_behind n f toks ≡ p
  place_here p first = ap (λ k. get_or (order f n) k origin) (sym (length-map toks number_in)) ∙ (next_of p first).here

  pub more_weights : (lower : Filling) (t : Token) → IsSoFar lower f n (weights_in toks ++ number_in t ∷ []) →
      HasWeights n f (record { format = s.format; lower = lower }) (toks ++ t ∷ [])
  more_weights lower t next =
      record { few = has.few; format = has.format; so_far = rw (map_push number_in toks t) next }

  places_left : length s.lower.places ≡ weight_count n f - length toks
  places_left = ap length has.so_far.places ∙ length-drop (length (weights_in toks)) (order f n)
      ∙ ap (λ k. weight_count n f - k) (length-map toks number_in)

  pub is_last : (before : List Token) (t : Token) → toks ≡ before ++ t ∷ [] → length before < weight_count n f →
      eqb (length s.lower.places) 0 ≡ true → takens.Last ≡ fixed_taken (weight_count n f) before
  is_last before t are fewer done =
      fixed_taken-last (weight_count n f) before
      (omega (arith, fewer, places_left, ap length are, length_push before t, eqb-true _ 0 done))

  pub is_more : (before : List Token) (t : Token) → toks ≡ before ++ t ∷ [] → eqb (length s.lower.places) 0 ≡ false →
      takens.More ≡ fixed_taken (weight_count n f) before
  is_more before t are left =
      fixed_taken-more (weight_count n f) before
      (λ e. eqb-false _ 0 left (omega (arith, places_left, ap length are, length_push before t, e)))

-- of the value that is there
pub if_some : {A : Type 0} (P : A → Type 0) {o : Option A} {a : A} → o ≡ Some a → IfSome o P → P a
if_some P e h = subst (λ o. IfSome o P) e h

-- a second weight of a pair, unlike the first
pub reported_again : (n : ℕ) (f : Format) (s : ExplicitWeights) (toks : List Token) → HasWeights n f s toks
    → (t : Token) (p : Cell) (w : ℕ)
    → slice_get s.lower.places 0 ≡ Some p → p.column < p.row → integer t.bytes ≡ Some (pos w) → w ≤ DISTANCE_LIMIT
    → (is_full s.format && ltb p.column p.row) ≡ true
    → (k : TextKind) → (k ≡ kinds.NotSymmetric (suc p.column) (suc p.row))
    × (w ≢ weight_of p.row p.column (entries f n (weights_in toks)))
    → IsReportedWord (λ k. first_at t.line (weight_tests n f toks t) ≡ Some (Fault t.line k)) k
reported_again n f s toks has t p w first below is small again k unlike =
    let apart : p.row ≢ p.column = λ e. omega (arith, e, below) in
    let full : (is_full f && ltb p.column p.row) ≡ true =
    subst (λ f. (is_full f && ltb p.column p.row) ≡ true) has.format again in
    rw unlike.0 (weight_unlike n f toks t p (place_here n f s toks has p first) apart w is small full unlike.1)
