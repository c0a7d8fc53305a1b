-- Rows of demands, token by token.
use Rattle.std.proofs.Common.{◌≡◌, ◌≢◌, ℕ, suc, ◌+◌, ◌*◌, ◌%◌, ◌<◌, Bool, true, false, cond, eqb, List, [], ◌∷◌, ◌++◌}
use Rattle.std.proofs.Common.{length, length-append, set, Option, Some, None, pos, refl, sym, ap, ◌∙◌, subst}
use Rattle.std.proofs.Common.{append_assoc, arith}
use Rattle.std.proofs.lemmas.Bool.{eq-eqb, ne_eqb}
use Rattle.std.proofs.lemmas.List.{append-nil, length-map, length_push, map_push}
use Rattle.tk_problem.specs.declared.limits.TheConstants.{CAPACITY_LIMIT}
use Rattle.tk_words.specs.declared.fault.TextKind.{TextKind}
use Rattle.tk_lines.specs.Pieces.{Fault, first_at}
use Rattle.tk_lines.specs.Reader.Handlers.{IsReportedWord}
use Rattle.tk_lines.specs.declared.handler.Taken.TheVariants as takens
use Rattle.tk_words.specs.Lex.{Token, integer}
use Rattle.tk_problem_text.specs.Reader.FixedTokens.{fixed_taken}
use Rattle.tk_words.specs.Entry.{number_tests}
use Rattle.tk_problem_text.specs.Reader.Nodes.{Named, HasNamed, HasNext}
use Rattle.tk_problem_text.specs.Reader.Demands.{Loading, HasDemands}
use Rattle.tk_problem_text.specs.Sections.Rows.{number_in, nodes_in, demand_rows, demands_of, node_tests, demand_tests}
use Rattle.tk_problem_text.proofs.SectionTokens.Rows.{by_node-push, rows_named, whole_rows, node_tests-reported}
use Rattle.tk_problem_text.proofs.SectionTokens.Rows.{number_tests-reported}
use Rattle.tk_problem_text.proofs.SectionTokens.FixedSections.{EndsRow, fixed_taken-last, fixed_taken-more}

-- ---- the rows

abbrev IsWhole : List Token → Type 0
IsWhole rows = length rows ≡ 2 * length (demand_rows rows)

demand_rows-append : (rows more : List Token) → IsWhole rows → demand_rows (rows ++ more) ≡ demand_rows rows
    ++ demand_rows more
unfolding demand_rows
demand_rows-append [] more h = refl
demand_rows-append (a ∷ []) more h = absurd (omega arith)
demand_rows-append (a ∷ q ∷ ts) more h =
    ap (λ rows. (number_in a, number_in q) ∷ rows) (demand_rows-append ts more (omega arith))

demand_rows-row : (a t : Token) (load : ℕ) → integer t.bytes ≡ Some (pos load) →
    demand_rows (a ∷ t ∷ []) ≡ (number_in a, load) ∷ []
unfolding demand_rows
demand_rows-row a t load is = rw is refl

-- ---- the tests

-- the first token of a row is a node
pub demand_tests-node : (n : ℕ) (toks : List Token) (t : Token) → IsWhole toks →
    demand_tests n toks t ≡ node_tests n (nodes_in (demand_rows toks)) t
demand_tests-node n toks t whole = rw (eq-eqb (length toks % 2) 0 (omega (arith, whole))) refl

-- the first test that holds is reported
pub demand_tests-reported : (n : ℕ) (toks : List Token) (t : Token) (line : ℕ) (k : TextKind) →
    first_at line (demand_tests n toks t) ≡ Some (Fault line k) →
    IsReportedWord (λ k. first_at line (demand_tests n toks t) ≡ Some (Fault line k)) k
demand_tests-reported n toks t line k = by_test (eqb (length toks % 2) 0)
  where
    tests : Bool → List (Bool × TextKind)
    tests b = cond b (node_tests n (nodes_in (demand_rows toks)) t) (number_tests 0 CAPACITY_LIMIT t.bytes)

    by_test : (b : Bool) → first_at line (tests b) ≡ Some (Fault line k) →
        IsReportedWord (λ k. first_at line (tests b) ≡ Some (Fault line k)) k
    by_test true h = node_tests-reported n (nodes_in (demand_rows toks)) t line k h
    by_test false h = number_tests-reported 0 CAPACITY_LIMIT t.bytes line k h

-- ---- the states

-- whether a demand is wanted next is known
pub opened : (n : ℕ) (loads : List ℕ) (nodes : Named) (node next : Option ℕ) (now : Loading) (toks : List Token)
    → record { loads = loads; nodes = nodes; node = node } ≡ now → node ≡ next → HasDemands n now toks →
    HasDemands n (record { loads = loads; nodes = nodes; node = next }) toks
opened n loads nodes node next now toks is here has =
    let inside : HasDemands n (record { loads = loads; nodes = nodes; node = node }) toks =
    subst (λ s. HasDemands n s toks) (sym is) has in
    subst (λ w. HasDemands n (record { loads = loads; nodes = nodes; node = w }) toks) here inside

-- after whole rows
pub record AtNode (n : ℕ) (loads : List ℕ) (nodes : Named) (toks : List Token) : Type 0 where
  pub whole : IsWhole toks
  pub are : loads ≡ demands_of n toks
  pub named : HasNamed n nodes (nodes_in (demand_rows toks))

module _ (n : ℕ) (loads : List ℕ) (nodes : Named) (toks : List Token) where
  pub at_node : HasDemands n (record { loads = loads; nodes = nodes; node = None }) toks → AtNode n loads nodes toks
  at_node has =
      whole_rows (AtNode n loads nodes) toks has.rows has.part has.begun.0 has.are
      (record { whole = has.whole; are = has.loads; named = has.begun.1 })

  pub node_taken : AtNode n loads nodes toks → (s : Named) (t : Token) (index : ℕ)
      → HasNext n s (nodes_in (demand_rows toks)) t index
      → HasDemands n (record { loads = loads; nodes = s; node = Some index }) (toks ++ t ∷ [])
  node_taken at s t index next =
      record { rows = toks; part = t ∷ []; are = refl; whole = at.whole; loads = at.are; begun = (t, refl, next) }

  pub fewer_nodes : AtNode n loads nodes toks → length toks < 2 * n → length (nodes_in (demand_rows toks)) < n
  fewer_nodes at fewer = omega (arith, at.whole, length-map (demand_rows toks) (λ r. r.0))

  pub node_more : AtNode n loads nodes toks → takens.More ≡ fixed_taken (2 * n) toks
  node_more at = fixed_taken-more (2 * n) toks (λ e. omega (arith, e, at.whole))

  module _ (index : ℕ) (has : HasDemands n (record { loads = loads; nodes = nodes; node = Some index }) toks) where
    length-load : length toks ≡ 2 * length (demand_rows has.rows) + 1
    length-load = omega (arith, ap length has.are, length-append has.rows has.part, ap length has.begun.1, has.whole)

    -- the second one is a demand
    pub demand_tests-load : (t : Token) → demand_tests n toks t ≡ number_tests 0 CAPACITY_LIMIT t.bytes
    demand_tests-load t = rw (ne_eqb (length toks % 2) 0 (λ e. omega (arith, length-load, e))) refl

    named-count : nodes.left + suc (length (demand_rows has.rows)) ≡ n
    named-count = rows_named n index nodes (demand_rows has.rows) has.begun.2.named

    load_last : nodes.left ≡ 0 → takens.Last ≡ fixed_taken (2 * n) toks
    load_last none = fixed_taken-last (2 * n) toks (omega (arith, none, length-load, named-count))

    load_more : nodes.left ≢ 0 → takens.More ≡ fixed_taken (2 * n) toks
    load_more some = fixed_taken-more (2 * n) toks (λ e. some (omega (arith, e, length-load, named-count)))

    load_taken : (t : Token) (load : ℕ) → integer t.bytes ≡ Some (pos load) →
        HasDemands n (record { loads = set loads index load; nodes = nodes; node = None }) (toks ++ t ∷ [])
    load_taken t load is =
        let a = has.begun.0 in
        let next = has.begun.2 in
        let more : demand_rows (has.rows ++ a ∷ t ∷ []) ≡ demand_rows has.rows ++ (suc index, load) ∷ [] =
        demand_rows-append has.rows (a ∷ t ∷ []) has.whole
        ∙ ap (λ rows. demand_rows has.rows ++ rows) (demand_rows-row a t load is
        ∙ ap (λ c. (c, load) ∷ []) next.node) in
        record {
          rows = has.rows ++ a ∷ t ∷ [];
          part = [];
          are = ap (λ ts. ts ++ t ∷ []) (has.are ∙ ap (λ p. has.rows ++ p) has.begun.1)
              ∙ append_assoc has.rows (a ∷ []) (t ∷ []) ∙ sym (append-nil (has.rows ++ a ∷ t ∷ []));
          whole =
              rw more
              (omega (
                arith,
                has.whole,
                length-append has.rows (a ∷ t ∷ []),
                length_push (demand_rows has.rows) (suc index, load),
              ));
          loads = ap (λ ls. set ls index load) has.loads
              ∙ rw more (by_node-push 0 n index (demand_rows has.rows) load next.within next.new);
          begun = (refl, rw (more, map_push) next.named);
        }

    pub load_ends_row : (t : Token) (load : ℕ) → first_at t.line (number_tests 0 CAPACITY_LIMIT t.bytes) ≡ None
        → integer t.bytes ≡ Some (pos load)
        → EndsRow (HasDemands n) (demand_tests n) (2 * n) nodes.left
        (record { loads = set loads index load; nodes = nodes; node = None }) toks t
    load_ends_row t load fine is = record {
      fine = ap (first_at t.line) (demand_tests-load t) ∙ fine;
      kept = load_taken t load is;
      last = load_last;
      more = load_more;
    }
