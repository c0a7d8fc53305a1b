-- Entries of a table of distances, row by row.
use Rattle.std.proofs.Common.{◌≡◌, ℕ, ◌+◌, ◌-◌, ◌*◌, ◌/◌, ◌%◌, ◌≤◌, ◌<◌, List, [], ◌∷◌, ◌++◌, length, get_or, sym, ap}
use Rattle.std.proofs.Common.{◌∙◌, arith, ⊎_elim, subst}
use Rattle.std.proofs.Math.ListN.{get_or-append}
use Rattle.std.proofs.Math.Nat.{mul-le-mul_right}
use Rattle.std.proofs.Math.Seq.{get_or-append_seam}
use Rattle.std.proofs.lemmas.Bool.{cases_lt}
use Rattle.std.proofs.lemmas.List.{get_or_default, length-append}
use Rattle.std.proofs.lemmas.Nat.{div-mul-add, mod-mul-add}
use Rattle.tk_distance.specs.Cities.{IsCity}
use Rattle.tk_routes.specs.Rows.{AreRows}

-- the distance at column b, counted from 0, after a full rows
row_distance : (dist : ℕ → ℕ → ℕ) (n a b : ℕ) → b < n →
    dist ((a * n + b) / n + 1) ((a * n + b) % n + 1) ≡ dist (a + 1) (b + 1)
row_distance dist n a b h = ap (λ (x : ℕ). dist (x + 1) ((a * n + b) % n + 1)) (div-mul-add a n b h)
    ∙ ap (λ (y : ℕ). dist (a + 1) (y + 1)) (mod-mul-add a n b h)

-- one more distance
pub AreRows-more : (dist : ℕ → ℕ → ℕ) (n a b d : ℕ) (rows : List ℕ) → AreRows dist n rows → length rows ≡ a * n + b →
    b < n → d ≡ dist (a + 1) (b + 1) → AreRows dist n (rows ++ d ∷ [])
AreRows-more dist n a b d rows are long h e j l =
    ⊎_elim
    (λ (k : j < length rows). get_or-append rows (d ∷ []) 0 j k ∙ are j k)
    (λ k.
    let t : j ≡ length rows = omega (arith, k, l, length-append rows (d ∷ [])) in
    let last : get_or (rows ++ d ∷ []) j 0 ≡ d =
    subst (λ (x : ℕ). get_or (rows ++ d ∷ []) x 0 ≡ d) (sym t) (get_or-append_seam rows d [] 0) in
    last ∙ (e ∙ (sym (row_distance dist n a b h) ∙ ap (λ (x : ℕ). dist (x / n + 1) (x % n + 1)) (sym (t ∙ long)))))
    (cases_lt j (length rows))

-- the distance between two cities
pub row_at : (dist : ℕ → ℕ → ℕ) (n a b other : ℕ) (rows : List ℕ) → AreRows dist n rows → length rows ≡ n * n →
    IsCity n a → IsCity n b → get_or rows ((a - 1) * n + (b - 1)) other ≡ dist a b
row_at dist n a b other rows are long p q =
    let h : b - 1 < n = omega (arith, q.0, q.1) in
    let rise : (a - 1 + 1) * n ≤ n * n = mul-le-mul_right n (omega (arith, p.0, p.1)) in
    let l : (a - 1) * n + (b - 1) < length rows = omega (arith, rise, long, h) in
    let ea : a - 1 + 1 ≡ a = omega (arith, p.0) in
    let eb : b - 1 + 1 ≡ b = omega (arith, q.0) in
    get_or_default rows ((a - 1) * n + (b - 1)) other 0 l
    ∙ (are ((a - 1) * n + (b - 1)) l
    ∙ (row_distance dist n (a - 1) (b - 1) h ∙ (ap (λ (x : ℕ). dist x (b - 1 + 1)) ea ∙ ap (dist a) eb)))

-- the table after one more distance
pub rows_pushed : (dist : ℕ → ℕ → ℕ) (n a b d : ℕ) (rows rows' : List ℕ) → rows' ≡ rows ++ d ∷ [] →
    AreRows dist n rows → length rows ≡ a * n + b → b < n → d ≡ dist (a + 1) (b + 1) →
    (length rows' ≡ a * n + (b + 1)) × AreRows dist n rows'
rows_pushed dist n a b d rows rows' e are long h is =
    subst (λ (x : List ℕ). (length x ≡ a * n + (b + 1)) × AreRows dist n x) (sym e)
    (omega (arith, long, length-append rows (d ∷ [])), AreRows-more dist n a b d rows are long h is)
