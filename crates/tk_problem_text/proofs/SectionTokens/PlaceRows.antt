-- Rows of coordinates, token by token.
use Rattle.std.proofs.Common.{◌≡◌, ◌≢◌, ℕ, suc, ◌+◌, ◌*◌, ◌%◌, ◌<◌, ◌≤◌, Bool, true, false, cond, leb, not, List, []}
use Rattle.std.proofs.Common.{◌∷◌, ◌++◌, length, length-append, set, Option, Some, None, Ok, Err, Result, OnOk, ℤ, w64}
use Rattle.std.proofs.Common.{to_z, of_z, refl, sym, ap, ◌∙◌, subst, append_assoc, arith}
use Rattle.std.specs.Int.RustNames.{unsigned_abs}
use Rattle.std.proofs.lemmas.Bool.{eq-eqb, ne_eqb, true≢false}
use Rattle.std.proofs.lemmas.List.{append-nil, length-map, length_push, map_push}
use Rattle.std.specs.Option.{is_none}
use Rattle.std.specs.Result.{is_err}
use Rattle.std.proofs.lemmas.Int.{to_z-of_z, fits_signed_from_abs}
use Rattle.tk_words.specs.declared.fault.TextKind.{TextKind}
use Rattle.tk_words.specs.declared.fault.TextKind.TheVariants as kinds
use Rattle.tk_problem.specs.declared.point.Point.{Point}
use Rattle.tk_lines.specs.declared.handler.Taken.TheVariants as takens
use Rattle.tk_problem_text.specs.declared.sections.coordinates.Wanted.{Wanted}
use Rattle.tk_problem_text.specs.declared.sections.coordinates.Wanted.TheVariants as wants
use Rattle.tk_words.specs.Lex.{Token}
use Rattle.tk_words.specs.Decimal.{decimal_of, limited}
use Rattle.tk_lines.specs.Pieces.{Fault, first_at}
use Rattle.tk_problem.specs.Places.{origin, greatest_coordinate}
use Rattle.tk_problem_text.specs.Reader.FixedTokens.{fixed_taken}
use Rattle.tk_problem_text.specs.Reader.Nodes.{Named, HasNamed, HasNext}
use Rattle.tk_problem_text.specs.Reader.Coordinates.{Placing, IsWantedWithin, HasPlaces}
use Rattle.tk_problem_text.specs.Sections.Rows.{number_in, coordinate_in, is_near, nodes_in, place_rows, row_places}
use Rattle.tk_problem_text.specs.Sections.Rows.{node_tests, coordinate_tests, place_tests}
use Rattle.tk_lines.specs.Reader.Handlers.{IsReportedWord}
use Rattle.tk_problem_text.proofs.SectionTokens.Rows.{by_node-push, rows_named, whole_rows}
use Rattle.tk_lines.proofs.Pieces.ReportedFaults.{reported_first}
use Rattle.tk_problem_text.proofs.SectionTokens.FixedSections.{EndsRow, fixed_taken-last, fixed_taken-more}

-- ---- the rows

abbrev IsWhole : List Token → Type 0
IsWhole rows = length rows ≡ 3 * length (place_rows rows)

pub place_rows-append : (rows more : List Token) → IsWhole rows → place_rows (rows ++ more) ≡ place_rows rows
    ++ place_rows more
unfolding place_rows
place_rows-append [] more h = refl
place_rows-append (a ∷ []) more h = absurd (omega arith)
place_rows-append (a ∷ x ∷ []) more h = absurd (omega arith)
place_rows-append (a ∷ x ∷ y ∷ ts) more h =
    ap (λ rows. (number_in a, record { x = coordinate_in x; y = coordinate_in y }) ∷ rows)
    (place_rows-append ts more (omega arith))

place_rows-row : (a b t : Token) (x y : ℤ) → decimal_of b.bytes ≡ Some x → decimal_of t.bytes ≡ Some y →
    place_rows (a ∷ b ∷ t ∷ []) ≡ (number_in a, record { x = x; y = y }) ∷ []
unfolding place_rows
place_rows-row a b t x y is_x is_y = rw (is_x, is_y) refl

-- ---- the tests

-- the first token of a row is a node
pub place_tests-node : (n : ℕ) (toks : List Token) (t : Token) → IsWhole toks →
    place_tests n toks t ≡ node_tests n (nodes_in (place_rows toks)) t
place_tests-node n toks t whole = rw (eq-eqb (length toks % 3) 0 (omega (arith, whole))) refl

-- the others are coordinates
pub place_tests-coordinate : (n k r : ℕ) (toks : List Token) (t : Token) → length toks ≡ 3 * k + suc r → r < 2 →
    place_tests n toks t ≡ coordinate_tests t
place_tests-coordinate n k r toks t len lt = rw (ne_eqb (length toks % 3) 0 (λ e. omega (arith, len, e))) refl

-- a coordinate within its limit fits its type
pub fits : (x : ℤ) → unsigned_abs x ≤ greatest_coordinate → to_z w64 (of_z w64 x) ≡ x
fits x near = to_z-of_z w64 x (fits_signed_from_abs w64 x (omega (arith, near)))

-- what a coordinate's reader answers
pub limited-ok : (o : Option ℤ) (x : ℤ) → Ok x ≡ limited o → (o ≡ Some x) × (is_near o ≡ true)
limited-ok None x e = absurd cc
limited-ok (Some z) x e = by_test (leb (unsigned_abs z) greatest_coordinate) refl e
  where
    by_test : (b : Bool) → leb (unsigned_abs z) greatest_coordinate ≡ b → Ok x ≡ cond b (Ok z) (Err kinds.OutOfLimit) →
        (Some z ≡ Some x) × (is_near (Some z) ≡ true)
    by_test true h e = (cc, h)
    by_test false h e = absurd cc

limited-err : (o : Option ℤ) (line : ℕ) (k : TextKind) → Err k ≡ limited o →
    first_at line ((is_none o, kinds.BadNumber) ∷ (not (is_near o), kinds.OutOfLimit) ∷ []) ≡ Some (Fault line k)
limited-err None line k e = cc
limited-err (Some z) line k e = by_test (leb (unsigned_abs z) greatest_coordinate) e
  where
    by_test : (b : Bool) → Err k ≡ cond b (Ok z) (Err kinds.OutOfLimit) →
        cond (not b) (Some (Fault line kinds.OutOfLimit)) None ≡ Some (Fault line k)
    by_test true e = absurd cc
    by_test false e = cc

module _ (t : Token) (line : ℕ) where
  pub coordinate_tests-ok : (x : ℤ) → Ok x ≡ limited (decimal_of t.bytes) → first_at line (coordinate_tests t) ≡ None
  coordinate_tests-ok x e =
      let o = limited-ok (decimal_of t.bytes) x e in
      rw (o.1, o.0) refl

  pub coordinate_tests-err : (k : TextKind) → Err k ≡ limited (decimal_of t.bytes) →
      IsReportedWord (λ k. first_at line (coordinate_tests t) ≡ Some (Fault line k)) k
  coordinate_tests-err k e =
      reported_first line k (coordinate_tests t) (refl, (refl, tt)) (limited-err (decimal_of t.bytes) line k e)

-- ---- the states

-- what is wanted next is known
pub opened : (n : ℕ) (places : List Point) (nodes : Named) (wanted next : Wanted) (now : Placing) (toks : List Token)
    → record { places = places; nodes = nodes; wanted = wanted } ≡ now → wanted ≡ next → HasPlaces n now toks →
    HasPlaces n (record { places = places; nodes = nodes; wanted = next }) toks
opened n places nodes wanted next now toks is here has =
    let inside : HasPlaces n (record { places = places; nodes = nodes; wanted = wanted }) toks =
    subst (λ s. HasPlaces n s toks) (sym is) has in
    subst (λ w. HasPlaces n (record { places = places; nodes = nodes; wanted = w }) toks) here inside

-- after whole rows
pub record AtNode (n : ℕ) (places : List Point) (nodes : Named) (toks : List Token) : Type 0 where
  pub whole : IsWhole toks
  pub are : places ≡ row_places n toks
  pub named : HasNamed n nodes (nodes_in (place_rows toks))

-- a coordinate that is wanted has its limit
pub within_y : (size : ℕ) (wanted : Wanted) (index : ℕ) (x : ℤ) → wanted ≡ wants.Y index x →
    IsWantedWithin size wanted →
    unsigned_abs x ≤ greatest_coordinate
within_y size wanted index x is h = let at : IsWantedWithin size (wants.Y index x) =
    subst (IsWantedWithin size) is h in at.1

-- what holds of a success
pub on_ok : {T E P : Type 0} (r : Result T E) → is_err r ≡ false → OnOk r P → P
on_ok (Ok x) e h = h
on_ok (Err x) e h = absurd (true≢false e)

module _ (n : ℕ) (places : List Point) (nodes : Named) (toks : List Token) where
  pub at_node : HasPlaces n (record { places = places; nodes = nodes; wanted = wants.Node }) toks →
      AtNode n places nodes toks
  at_node has =
      whole_rows (AtNode n places nodes) toks has.rows has.part has.begun.0 has.are
      (record { whole = has.whole; are = has.places; named = has.begun.1 })

  pub node_taken : AtNode n places nodes toks → (s : Named) (t : Token) (index : ℕ)
      → HasNext n s (nodes_in (place_rows toks)) t index
      → HasPlaces n (record { places = places; nodes = s; wanted = wants.X index }) (toks ++ t ∷ [])
  node_taken at s t index next =
      record { rows = toks; part = t ∷ []; are = refl; whole = at.whole; places = at.are; begun = (t, refl, next) }

  pub fewer_nodes : AtNode n places nodes toks → length toks < 3 * n → length (nodes_in (place_rows toks)) < n
  fewer_nodes at fewer = omega (arith, at.whole, length-map (place_rows toks) (λ r. r.0))

  pub node_more : AtNode n places nodes toks → takens.More ≡ fixed_taken (3 * n) toks
  node_more at = fixed_taken-more (3 * n) toks (λ e. omega (arith, e, at.whole))

  module _ (index : ℕ)
      (has : HasPlaces n (record { places = places; nodes = nodes; wanted = wants.X index }) toks) where
    pub place_tests-x : (t : Token) → place_tests n toks t ≡ coordinate_tests t
    place_tests-x t =
        let len : length toks ≡ 3 * length (place_rows has.rows) + 1 =
        omega (arith, ap length has.are, length-append has.rows has.part, ap length has.begun.1, has.whole) in
        place_tests-coordinate n (length (place_rows has.rows)) 0 toks t len (omega arith)

    pub x_more : takens.More ≡ fixed_taken (3 * n) toks
    x_more =
        fixed_taken-more (3 * n) toks
        (λ e. omega (arith, e, ap length has.are, length-append has.rows has.part, ap length has.begun.1, has.whole))

    pub x_taken : (t : Token) (x : ℤ) → decimal_of t.bytes ≡ Some x →
        HasPlaces n (record { places = places; nodes = nodes; wanted = wants.Y index x }) (toks ++ t ∷ [])
    x_taken t x is = record {
      rows = has.rows;
      part = has.begun.0 ∷ t ∷ [];
      are = ap (λ ts. ts ++ t ∷ []) (has.are ∙ ap (λ p. has.rows ++ p) has.begun.1)
          ∙ append_assoc has.rows (has.begun.0 ∷ []) (t ∷ []);
      whole = has.whole;
      places = has.places;
      begun = (has.begun.0, t, refl, has.begun.2, is);
    }

  module _ (index : ℕ) (x : ℤ)
      (has : HasPlaces n (record { places = places; nodes = nodes; wanted = wants.Y index x }) toks) where
    length-y : length toks ≡ 3 * length (place_rows has.rows) + 2
    length-y = omega (arith, ap length has.are, length-append has.rows has.part, ap length has.begun.2, has.whole)

    pub place_tests-y : (t : Token) → place_tests n toks t ≡ coordinate_tests t
    place_tests-y t = place_tests-coordinate n (length (place_rows has.rows)) 1 toks t length-y (omega arith)

    named-count : nodes.left + suc (length (place_rows has.rows)) ≡ n
    named-count = rows_named n index nodes (place_rows has.rows) has.begun.3.named

    y_last : nodes.left ≡ 0 → takens.Last ≡ fixed_taken (3 * n) toks
    y_last none = fixed_taken-last (3 * n) toks (omega (arith, none, length-y, named-count))

    y_more : nodes.left ≢ 0 → takens.More ≡ fixed_taken (3 * n) toks
    y_more some = fixed_taken-more (3 * n) toks (λ e. some (omega (arith, e, length-y, named-count)))

    y_taken : (t : Token) (y : ℤ) → decimal_of t.bytes ≡ Some y
        → HasPlaces n
        (record { places = set places index (record { x = x; y = y }); nodes = nodes; wanted = wants.Node })
        (toks ++ t ∷ [])
    y_taken t y is =
        let a = has.begun.0 in
        let b = has.begun.1 in
        let next = has.begun.3 in
        let more : place_rows (has.rows ++ a ∷ b ∷ t ∷ []) ≡ place_rows has.rows
        ++ (suc index, record { x = x; y = y }) ∷ [] =
        place_rows-append has.rows (a ∷ b ∷ t ∷ []) has.whole
        ∙ ap (λ rows. place_rows has.rows ++ rows) (place_rows-row a b t x y has.begun.4 is
        ∙ ap (λ c. (c, record { x = x; y = y }) ∷ []) next.node) in
        record {
          rows = has.rows ++ a ∷ b ∷ t ∷ [];
          part = [];
          are = ap (λ ts. ts ++ t ∷ []) (has.are ∙ ap (λ p. has.rows ++ p) has.begun.2)
              ∙ append_assoc has.rows (a ∷ b ∷ []) (t ∷ []) ∙ sym (append-nil (has.rows ++ a ∷ b ∷ t ∷ []));
          whole =
              rw more
              (omega (
                arith,
                has.whole,
                length-append has.rows (a ∷ b ∷ t ∷ []),
                length_push (place_rows has.rows) (suc index, record { x = x; y = y }),
              ));
          places = ap (λ ps. set ps index (record { x = x; y = y })) has.places
              ∙ rw more
              (by_node-push origin n index (place_rows has.rows) (record { x = x; y = y }) next.within next.new);
          begun = (refl, rw (more, map_push) next.named);
        }

    pub y_ends_row : (t : Token) (y : ℤ) → Ok y ≡ limited (decimal_of t.bytes)
        → EndsRow (HasPlaces n) (place_tests n) (3 * n) nodes.left
        (record { places = set places index (record { x = x; y = y }); nodes = nodes; wanted = wants.Node }) toks t
    y_ends_row t y value = record {
      fine = ap (first_at t.line) (place_tests-y t) ∙ coordinate_tests-ok t t.line y value;
      kept = y_taken t y (limited-ok (decimal_of t.bytes) y value).0;
      last = y_last;
      more = y_more;
    }
