-- Rows of a node and what belongs to it.
use Rattle.std.proofs.Common.{◌≡◌, ◌≢◌, ℕ, zero, suc, ◌+◌, ◌-◌, ◌<◌, Bool, true, false, cond, eqb, ◌||◌, List, [], ◌∷◌}
use Rattle.std.proofs.Common.{◌++◌, length, get_or, set, map, replicate, Some, None, pos, refl, sym, ap, ◌∙◌, nat_eq}
use Rattle.std.proofs.Common.{arith, subst, ⊎_elim, length-set, get_or-set_same, get_or-set_other}
use Rattle.std.specs.List.{range_with_len}
use Rattle.std.proofs.Math.Bool.{or-false}
use Rattle.std.proofs.lemmas.Bool.{cases_eq, eq-eqb, ne_eqb, le-leb, or_parts}
use Rattle.std.proofs.lemmas.List.{append-nil, length-map, same_lists, length_push}
use Rattle.std.proofs.lemmas.List.FromFn.{length-map-range_with_len, get_or-map-range_with_len}
use Rattle.std.proofs.lemmas.List.Folds.{list_any-append}
use Rattle.tk_words.specs.declared.fault.TextKind.{TextKind}
use Rattle.tk_words.specs.declared.fault.TextKind.TheVariants as kinds
use Rattle.tk_words.specs.Lex.{Token, integer}
use Rattle.tk_words.proofs.BoolLaws.{or_true}
use Rattle.tk_lines.specs.Pieces.{Fault, first_at}
use Rattle.tk_words.specs.Entry.{number_tests}
use Rattle.tk_lines.specs.Reader.Handlers.{IsReportedWord}
use Rattle.tk_problem_text.specs.Reader.Nodes.{Named, HasNamed}
use Rattle.tk_problem_text.specs.Sections.Rows.{number_in, is_among, nodes_in, row_of, by_node, node_tests}
use Rattle.tk_lines.proofs.Pieces.ReportedFaults.{reported_first}

-- ---- a table with an entry for each of 1..n

module _ {A : Type 0} (f g : ℕ → A) (n i : ℕ) (v : A) (lt : i < n) (here : v ≡ g (suc i))
    (others : (c : ℕ) → c ≢ suc i → f c ≡ g c) where
  table-set-at : (k : ℕ) (d : A) → k < n →
      get_or (set (map f (range_with_len 1 n)) i v) k d ≡ get_or (map g (range_with_len 1 n)) k d
  table-set-at k d h = ⊎_elim
      (λ e. let within : i < length (map f (range_with_len 1 n)) = omega (arith, length-map-range_with_len f 1 n) in
      rw e (get_or-set_same (map f (range_with_len 1 n)) i v d within ∙ here
      ∙ sym (get_or-map-range_with_len g 1 n i (suc i) d lt (omega arith))))
      (λ ne. get_or-set_other (map f (range_with_len 1 n)) i k v d ne
      ∙ get_or-map-range_with_len f 1 n k (suc k) d h (omega arith) ∙ others (suc k) (λ e. ne (omega (arith, e)))
      ∙ sym (get_or-map-range_with_len g 1 n k (suc k) d h (omega arith)))
      (cases_eq k i)

  -- a write to a table
  pub table-set : set (map f (range_with_len 1 n)) i v ≡ map g (range_with_len 1 n)
  table-set =
      let same : length (set (map f (range_with_len 1 n)) i v) ≡ length (map g (range_with_len 1 n)) =
      length-set (map f (range_with_len 1 n)) i v ∙ length-map-range_with_len f 1 n
      ∙ sym (length-map-range_with_len g 1 n) in
      same_lists _ _ same
      (λ k d h. table-set-at k d
      (omega (arith, h, length-set (map f (range_with_len 1 n)) i v, length-map-range_with_len f 1 n)))

-- one whose entries are all the same
pub table-replicate : {A : Type 0} (f : ℕ → A) (x : A) → ((c : ℕ) → f c ≡ x) → (a n : ℕ) →
    map f (range_with_len a n) ≡ replicate n x
table-replicate f x same a zero = refl
table-replicate f x same a (suc n) = rw (same a, table-replicate f x same (a + 1) n) refl

-- ---- nodes

pub is_among-push : (c x : ℕ) (nodes : List ℕ) → is_among c (nodes ++ x ∷ []) ≡ (is_among c nodes || (eqb c x || false))
is_among-push c x nodes = list_any-append (nat_eq c) nodes (x ∷ [])

among_same : (c : ℕ) (nodes : List ℕ) → is_among c (nodes ++ c ∷ []) ≡ true
among_same c nodes = is_among-push c c nodes ∙ rw (eq-eqb c c refl) (or_true (is_among c nodes))

among_other : (c x : ℕ) (nodes : List ℕ) → c ≢ x → is_among c (nodes ++ x ∷ []) ≡ is_among c nodes
among_other c x nodes ne = is_among-push c x nodes ∙ rw (ne_eqb c x ne) (or-false (is_among c nodes))

module _ (n : ℕ) (s : Named) (nodes : List ℕ) (has : HasNamed n s nodes) where
  pub flag_at : (index : ℕ) (d : Bool) → index < n → get_or s.flags index d ≡ is_among (suc index) nodes
  flag_at index d lt = ap (λ flags. get_or flags index d) has.flags
      ∙ get_or-map-range_with_len (λ c. is_among c nodes) 1 n index (suc index) d lt (omega arith)

  pub length-flags : length s.flags ≡ n
  length-flags = ap length has.flags ∙ length-map-range_with_len (λ c. is_among c nodes) 1 n

  -- a node that was not named is named
  pub named_more : (index : ℕ) → index < n → length nodes < n →
      HasNamed n (record { flags = set s.flags index true; left = s.left - 1 }) (nodes ++ suc index ∷ [])
  named_more index lt fewer = record {
    flags = ap (λ flags. set flags index true) has.flags
        ∙ table-set (λ c. is_among c nodes) (λ c. is_among c (nodes ++ suc index ∷ [])) n index true lt
        (sym (among_same (suc index) nodes)) (λ c ne. sym (among_other c (suc index) nodes ne));
    left = omega (arith, has.left, length_push nodes (suc index));
  }

-- each row names a node, and so does the row that has begun
pub rows_named : {A : Type 0} (n index : ℕ) (s : Named) (rows : List (ℕ × A)) →
    HasNamed n s (nodes_in rows ++ suc index ∷ []) → s.left + suc (length rows) ≡ n
rows_named n index s rows has =
    omega (arith, has.left, length_push (nodes_in rows) (suc index), length-map rows (λ r. r.0))

-- what holds of whole rows holds of the tokens, where no row has begun
pub whole_rows : (P : List Token → Type 0) (toks rows part : List Token) → part ≡ [] → toks ≡ rows ++ part → P rows →
    P toks
whole_rows P toks rows part none are holds =
    subst P (sym (are ∙ ap (λ p. rows ++ p) none ∙ append-nil rows)) holds

row_of-other : {A : Type 0} (without : A) (rows : List (ℕ × A)) (c x : ℕ) (v : A) → c ≢ x →
    row_of without rows c ≡ row_of without (rows ++ (x, v) ∷ []) c
row_of-other without [] c x v ne = rw (ne_eqb c x ne) refl
row_of-other without (r ∷ rows) c x v ne = ap (λ rest. cond (eqb c r.0) r.1 rest) (row_of-other without rows c x v ne)

row_of-new : {A : Type 0} (without : A) (rows : List (ℕ × A)) (c : ℕ) (v : A) → is_among c (nodes_in rows) ≡ false →
    v ≡ row_of without (rows ++ (c, v) ∷ []) c
row_of-new without [] c v new = rw (eq-eqb c c refl) refl
row_of-new without (r ∷ rows) c v new =
    let parts = or_parts (eqb c r.0) (is_among c (nodes_in rows)) new in
    rw parts.0 (row_of-new without rows c v parts.1)

-- the row of a node that had none
pub by_node-push : {A : Type 0} (without : A) (n index : ℕ) (rows : List (ℕ × A)) (v : A) → index < n
    → is_among (suc index) (nodes_in rows) ≡ false
    → set (by_node without n rows) index v ≡ by_node without n (rows ++ (suc index, v) ∷ [])
by_node-push without n index rows v lt new =
    table-set (row_of without rows) (row_of without (rows ++ (suc index, v) ∷ [])) n index v lt
    (row_of-new without rows (suc index) v new) (λ c ne. row_of-other without rows c (suc index) v ne)

-- ---- the tests of a node

module _ (n : ℕ) (nodes : List ℕ) (t : Token) (index line : ℕ) (is : integer t.bytes ≡ Some (pos (suc index)))
    (lt : index < n) where
  pub number_in-node : number_in t ≡ suc index
  number_in-node = rw is refl

  node_by_flag : (b : Bool) → is_among (suc index) nodes ≡ b →
      first_at line (node_tests n nodes t) ≡ cond b (Some (Fault line kinds.BadNode)) None
  node_by_flag b h = rw (is, le-leb 1 (suc index) (omega arith), le-leb (suc index) n lt, h) refl

  pub node_tests-new : is_among (suc index) nodes ≡ false → first_at line (node_tests n nodes t) ≡ None
  node_tests-new = node_by_flag false

  pub node_tests-again : is_among (suc index) nodes ≡ true →
      first_at line (node_tests n nodes t) ≡ Some (Fault line kinds.BadNode)
  node_tests-again = node_by_flag true

-- what is reported of a node
pub node_tests-reported : (n : ℕ) (nodes : List ℕ) (t : Token) (line : ℕ) (k : TextKind) →
    first_at line (node_tests n nodes t) ≡ Some (Fault line k) →
    IsReportedWord (λ k. first_at line (node_tests n nodes t) ≡ Some (Fault line k)) k
node_tests-reported n nodes t line k = reported_first line k (node_tests n nodes t) (refl, (refl, tt))

-- and of a number
pub number_tests-reported : (low high : ℕ) (bs : List ℕ) (line : ℕ) (k : TextKind) →
    first_at line (number_tests low high bs) ≡ Some (Fault line k) →
    IsReportedWord (λ k. first_at line (number_tests low high bs) ≡ Some (Fault line k)) k
number_tests-reported low high bs line k = reported_first line k (number_tests low high bs) (refl, (refl, tt))
