-- The flags and the queue after a city was woken or taken.
use Rattle.std.proofs.Common.{◌≡◌, ℕ, Some, drop, ◌-◌, ◌+◌, ◌<◌, ◌≤◌, ◌⊎◌, Bool, true, false, cond, ◌||◌, eqb, List, []}
use Rattle.std.proofs.Common.{◌∷◌, ◌++◌, length, get_or, set, sym, ◌∙◌, ap, arith, get_or-set_other}
use Rattle.std.proofs.Common.{get_or-set_same, inl, inr, subst, length-set}
use Rattle.std.specs.List.{count_by}
use Rattle.std.proofs.lemmas.List.Sums.{sum_by-set, sum_by-cons, count_by-le-length}
use Rattle.std.proofs.lemmas.List.{length_push, get_or_read}
use Rattle.std.proofs.lemmas.Bool.{or_cases, or_right, eqb-true, ne_eqb, cases_eq, cond-false}
use Rattle.std.proofs.lemmas.Bool.{false_from_ne_true}
use Rattle.std.specs.Prelude.{slice_get}
use Rattle.tk_descent.specs.Awake.{IsWaking, woken}
use Rattle.tk_distance.specs.Holding.{holds}
use Rattle.circular_buffer.specs.Buffer.{Buffer}
use Rattle.tk_descent.proofs.Lists.{holds-here, holds-push, holds-push_other, holds-push_same, distinct-push}

count-set : (flags : List Bool) (c : ℕ) (v w : Bool) → c < length flags → get_or flags c false ≡ w →
    count_by (λ b. b) (set flags c v) + cond w 1 0 ≡ count_by (λ b. b) flags + cond v 1 0
count-set flags c v w in' e =
    subst (λ z. count_by (λ b. b) (set flags c v) + cond z 1 0 ≡ count_by (λ b. b) flags + cond v 1 0) e
    (sum_by-set (λ b. cond b 1 0) flags c v false in')

module _ (items : List ℕ) (flags : List Bool) (c : ℕ) (h : IsWaking items flags) (in' : c < length flags) where
  asleep : get_or flags c false ≡ false → holds items c ≡ false
  asleep e = sym (h.flag c in') ∙ e

  flag_after : get_or flags c false ≡ false → (k : ℕ) → k < length flags → (k ≡ c) ⊎ (k ≡ c → ⊥) →
      get_or (set flags c true) k false ≡ holds (items ++ c ∷ []) k
  flag_after e k in_k (inl same) = subst (λ z. get_or (set flags c true) z false ≡ holds (items ++ c ∷ []) z) (sym same)
      (get_or-set_same flags c true false in' ∙ sym (holds-push_same items c))
  flag_after e k in_k (inr ne) = get_or-set_other flags c k true false ne ∙ h.flag k in_k
      ∙ sym (holds-push_other items c k ne)

  range_after : 1 ≤ c → (k : ℕ) → (holds items k ≡ true) ⊎ (eqb c k ≡ true) → (1 ≤ k) × (k < length flags)
  range_after low k (inl e) = h.range k e
  range_after low k (inr e) = let s : c ≡ k = eqb-true c k e in (omega arith, omega arith)

  pub IsWaking-wake : 1 ≤ c → get_or flags c false ≡ false → IsWaking (items ++ c ∷ []) (set flags c true)
  IsWaking-wake low e = record {
    count = omega (arith, count-set flags c true false in' e, h.count, length_push items c);
    flag = λ k in_k. flag_after e k (omega (arith, length-set flags c true)) (cases_eq k c);
    range = λ k e2. let r = range_after low k (or_cases (holds items k) (eqb c k) (sym (holds-push items c k) ∙ e2)) in
        (r.0, omega (arith, length-set flags c true));
    distinct = distinct-push items c h.distinct (asleep e);
  }

  pub room : get_or flags c false ≡ false → length items < length flags
  room e =
      omega (
        arith,
        count-set flags c true false in' e,
        h.count,
        count_by-le-length (λ b. b) (set flags c true),
        length-set flags c true,
      )

flag_taken : (x : ℕ) (items : List ℕ) (flags : List Bool) → IsWaking (x ∷ items) flags → x < length flags → (k : ℕ) →
    k < length flags → (k ≡ x) ⊎ (k ≡ x → ⊥) → get_or (set flags x false) k false ≡ holds items k
flag_taken x items flags h in' k in_k (inl same) =
    subst (λ z. get_or (set flags x false) z false ≡ holds items z) (sym same) (get_or-set_same flags x false false in'
    ∙ sym h.distinct.0)
flag_taken x items flags h in' k in_k (inr ne) = get_or-set_other flags x k false false ne ∙ h.flag k in_k
    ∙ ap (λ z. z || holds items k) (ne_eqb x k (λ e. ne (sym e)))

pub IsWaking-take : (x : ℕ) (items : List ℕ) (flags : List Bool) → IsWaking (x ∷ items) flags →
    IsWaking items (set flags x false)
IsWaking-take x items flags h =
    let in' : x < length flags = (h.range x (holds-here x items)).1 in
    let was : get_or flags x false ≡ true = h.flag x in' ∙ holds-here x items in
    record {
      count = omega (arith, count-set flags x false true in' was, h.count);
      flag = λ k in_k. flag_taken x items flags h in' k (omega (arith, length-set flags x false)) (cases_eq k x);
      range = λ k e. let r = h.range k (or_right (eqb x k) (holds items k) e) in
          (r.0, omega (arith, length-set flags x false));
      distinct = h.distinct.1;
    }

front_is : (xs : List ℕ) (x : ℕ) → Some x ≡ slice_get xs 0 → xs ≡ x ∷ drop 1 xs
front_is [] x e = cc
front_is (y ∷ ys) x e = cc

-- the queue and the flags after the front x was taken
pub taken : (items : List ℕ) (flags : List Bool) (x : ℕ) → IsWaking items flags → Some x ≡ slice_get items 0 →
    ((1 ≤ x) × (x < length flags)) × IsWaking (drop 1 items) (set flags x false)
taken items flags x h e =
    let k : IsWaking (x ∷ drop 1 items) flags = subst (λ z. IsWaking z flags) (front_is items x e) h in
    (k.range x (holds-here x (drop 1 items)), IsWaking-take x (drop 1 items) flags k)

pub keep_last_all : (n : ℕ) (xs : List ℕ) → length xs ≤ n → drop (length xs - n) xs ≡ xs
keep_last_all n xs h = let e : length xs - n ≡ 0 = omega arith in ap (λ z. drop z xs) e

-- the queue after a push, if it has room
pub pushed : (items : List ℕ) (flags : List Bool) (c : ℕ) → IsWaking items flags → c < length flags →
    get_or flags c false ≡ false → (drop (length (items ++ c ∷ []) - length flags) (items ++ c ∷ []) ≡ items ++ c ∷ [])
    × (holds items c ≡ false)
pushed items flags c h in' e = (
  keep_last_all (length flags) (items ++ c ∷ []) (omega (arith, length_push items c, room items flags c h in' e)),
  sym (h.flag c in') ∙ e,
)

-- the queue and the flags after a city was woken, by the ring buffer
pub pushed_ring : (items W : List ℕ) (flags : List Bool) (c cap : ℕ) (new : Buffer ℕ) (b : Bool) →
    IsWaking items flags → c < length flags → b ≡ get_or flags c b → b ≡ false → cap ≡ length flags →
    items ≡ W → new ≡ record { items = drop (length (items ++ c ∷ []) - cap) (items ++ c ∷ []); capacity = cap } →
    (new.items ≡ woken W c) × (new.items ≡ items ++ c ∷ []) × (get_or flags c false ≡ false)
pushed_ring items W flags c bound new b h in' read off enough same is =
    let e : get_or flags c false ≡ false = sym (get_or_read flags c b in' read false) ∙ off in
    let p = pushed items flags c h in' e in
    let q : new.items ≡ items ++ c ∷ [] = ap (λ z. z.items) is
    ∙ subst (λ z. drop (length (items ++ c ∷ []) - z) (items ++ c ∷ []) ≡ items ++ c ∷ []) (sym enough) p.0 in (
      q ∙ ap (λ z. z ++ c ∷ []) same
          ∙ sym (cond-false (holds W c) W (W ++ c ∷ []) (ap (λ z. holds z c) (sym same) ∙ p.1)),
      q,
      e,
    )

few_set : (items : List ℕ) (flags : List Bool) → IsWaking items flags → 1 ≤ length flags →
    length items + 1 ≤ length flags
few_set items [] h low = absurd (omega arith)
few_set items (b ∷ flags) h low =
    let none : holds items 0 ≡ false =
    false_from_ne_true (holds items 0) (λ e. absurd (omega (arith, (h.range 0 e).0))) in
    let off : b ≡ false = h.flag 0 (omega arith) ∙ none in
    let one : Bool → ℕ = λ z. cond z 1 0 in
    omega (arith, h.count, sum_by-cons one b flags, ap one off, count_by-le-length (λ z. z) flags)

-- at most all cities are awake
pub few_awake : (items W : List ℕ) (flags : List Bool) (size count : ℕ) → IsWaking items flags → 1 ≤ length flags →
    items ≡ W → length flags - 1 ≡ size → count ≡ length W → count ≤ size
few_awake items W flags size count h low same most is = omega (arith, few_set items flags h low, ap length same)
