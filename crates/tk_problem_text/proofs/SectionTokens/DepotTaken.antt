-- What the reader of the depot has taken, token by token.
use Rattle.std.proofs.Common.{◌≡◌, ◌≤◌, ℕ, true, false, List, [], ◌∷◌, ◌++◌, get_or, map, Option, Some, None, Result}
use Rattle.std.proofs.Common.{refl, sym, ap, subst}
use Rattle.std.specs.Prelude.{IfOk, IfErr}
use Rattle.tk_problem_text.specs.declared.sections.depot.Depot.{Depot}
use Rattle.tk_words.specs.declared.fault.TextKind.{TextKind}
use Rattle.tk_lines.specs.declared.handler.Taken.{Taken}
use Rattle.tk_words.specs.Lex.{Token, is_empty}
use Rattle.tk_lines.specs.Pieces.{first_at}
use Rattle.tk_words.specs.Entry.{natural_or_zero, IsNumber}
use Rattle.tk_problem_text.specs.Sections.Rows.{number_in}
use Rattle.tk_lines.specs.Reader.Handlers.{IsReportedWord}
use Rattle.tk_problem_text.specs.Sections.FixedSections.{all_tests, tokens_stop}
use Rattle.tk_problem_text.specs.Sections.DepotList.{depot_tests}
use Rattle.tk_problem_text.specs.Reader.DepotTaken.{IsDepot, HasDepot, DepotTakes, DepotRefuses}
use Rattle.tk_problem_text.proofs.SectionTokens.FixedSections.{IsReady, no_stop_at}

pub has_none : (n : ℕ) → HasDepot n (record { size = n; node = None }) []
unfolding tokens_stop
has_none n = record { size = refl; node = refl; good = refl }

module _ (n : ℕ) (s : Depot) (toks : List Token) (has : HasDepot n s toks) where
  at_none : s.node ≡ None → toks ≡ []
  at_none is = subst (λ d. IsDepot n d toks) is has.node

  at_some : (x : ℕ) → s.node ≡ Some x → IsDepot n (Some x) toks
  at_some x is = subst (λ d. IsDepot n d toks) is has.node

  module _ (none : s.node ≡ None) (t : Token) where
    pub refused_first : (k : TextKind) → IsReportedWord (DepotRefuses s.size [] t) k → IsReportedWord
        (DepotRefuses n toks t) k
    refused_first k h = rw (at_none none) (subst (λ m. IsReportedWord (DepotRefuses m [] t) k) has.size h)

    -- the node is taken
    pub has_node : IsReady t → (x : ℕ) → IsNumber 1 s.size t.bytes x →
        first_at t.line (all_tests (depot_tests s.size) [] t) ≡ None →
        HasDepot n (record { size = s.size; node = Some x }) (toks ++ t ∷ [])
    has_node ready x is fine =
        let empty = at_none none in
        rw empty (record {
          size = has.size;
          node = (t, refl, ap natural_or_zero is.is, is.above, subst (λ m. x ≤ m) has.size is.below);
          good =
              no_stop_at (depot_tests n) [] t (has_none n).good ready
              (subst (λ m. first_at t.line (all_tests (depot_tests m) [] t) ≡ None) has.size fine);
        })

  module _ (x : ℕ) (some : s.node ≡ Some x) (t : Token) (r : Result Taken TextKind) where
    pub takes_behind : ((node : Token) → IfOk r (DepotTakes n s s (node ∷ []) t)) → IfOk r (DepotTakes n s s toks t)
    takes_behind h = let a = at_some x some in rw a.1 (h a.0)

    pub refused_behind : ((node : Token) → IfErr r (IsReportedWord (DepotRefuses n (node ∷ []) t))) →
        IfErr r (IsReportedWord (DepotRefuses n toks t))
    refused_behind h = let a = at_some x some in rw a.1 (h a.0)

  pub no_node : s.node ≡ None → is_empty toks ≡ true
  no_node is = ap is_empty (at_none is)

  pub some_node : is_empty toks ≡ false → (x : ℕ) × (s.node ≡ Some x)
  some_node some = by_node s.node refl
    where
      by_node : (d : Option ℕ) → s.node ≡ d → (x : ℕ) × (s.node ≡ Some x)
      by_node None is = let none = no_node is in absurd cc
      by_node (Some x) is = (x, is)

  -- the node is what the first token of the section says
  module _ (x : ℕ) (is : s.node ≡ Some x) where
    pub node_of : (is_empty toks ≡ false) × (x ≡ get_or (map number_in toks) 0 0) × (1 ≤ x) × (x ≤ n)
    node_of = let a = at_some x is in (ap is_empty a.1, rw a.1 (sym a.2), a.3, a.4)

    pub node_of-ended : (t : Token) (ones : List Token) → x ≡ get_or (map number_in ((toks ++ t ∷ []) ++ ones)) 0 0
    node_of-ended t ones = let a = at_some x is in rw a.1 (sym a.2)
