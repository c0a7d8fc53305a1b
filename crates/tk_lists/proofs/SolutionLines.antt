-- Look-ups in the lines of a solution text.
use Rattle.std.proofs.Common.{◌≡◌, ℕ, suc, ◌+◌, ◌<◌, ◌≤◌, leb, ltb, Some, None, Bool, true, false, cond}
use Rattle.std.proofs.Common.{◌||◌, List, [], ◌∷◌, ◌++◌, length, map, ℤ, pos, negsuc, refl, sym, ap, ◌∙◌, append_assoc}
use Rattle.std.proofs.Common.{arith}
use Rattle.std.proofs.lemmas.Bool.{le-leb, lt-leb, le-ltb, or_parts}
use Rattle.std.proofs.Math.Bool.{or_assoc, or-false}
use Rattle.std.proofs.lemmas.List.{append-nil, length-append}
use Rattle.tk_lists.specs.declared.solution_handler.SolutionHandler.{SolutionHandler}
use Rattle.tk_words.specs.Lex.{Token, integer}
use Rattle.tk_lists.specs.Solution.{SolutionLine, Route, Cost, cost_stop, line_trailing_stop, customer_stop}
use Rattle.tk_lists.specs.Solution.{customers_stop, routes_on, routes_in, count_on, count_of, is_cost, has_cost}
use Rattle.tk_lists.specs.Solution.{cost_on, cost_of}
use Rattle.tk_lists.specs.Reader.SolutionReader.{Keeps, IsRoute, IsPriced}
use Rattle.tk_lines.specs.Reader.Handlers.{whole}
use Rattle.tk_lines.specs.Pieces.{Stop, or_else}
use Rattle.std.specs.Int.Signed.{lt_z}
use Rattle.tk_problem.specs.declared.limits.TheConstants.{ENTRY_LIMIT}
use Rattle.tk_lists.proofs.Lists.{nothing_before, numbers_more}

pub routes_of-append : (xs ys : List SolutionLine) → routes_in (xs ++ ys) ≡ routes_in xs ++ routes_in ys
routes_of-append [] ys = refl
routes_of-append (x ∷ xs) ys = ap (λ (rs : List (List ℕ)). routes_on x ++ rs) (routes_of-append xs ys)
    ∙ sym (append_assoc (routes_on x) (routes_in xs) (routes_in ys))

pub count_of-append : (xs ys : List SolutionLine) → count_of (xs ++ ys) ≡ count_of xs + count_of ys
count_of-append [] ys = omega arith
count_of-append (x ∷ xs) ys = omega (arith, count_of-append xs ys)

pub has_cost-append : (xs ys : List SolutionLine) → has_cost (xs ++ ys) ≡ (has_cost xs || has_cost ys)
has_cost-append [] ys = refl
has_cost-append (x ∷ xs) ys = ap (λ (t : Bool). is_cost x || t) (has_cost-append xs ys)
    ∙ sym (or_assoc (is_cost x) (has_cost xs) (has_cost ys))

-- the cost that a first line tells is the one that counts
pub cost_of-append : (xs ys : List SolutionLine) → cost_of (xs ++ ys) ≡ cond (has_cost xs) (cost_of xs) (cost_of ys)
cost_of-append [] ys = refl
cost_of-append (x ∷ xs) ys = by_test (is_cost x) (cost_of-append xs ys)
  where
    by_test : (t : Bool) → cost_of (xs ++ ys) ≡ cond (has_cost xs) (cost_of xs) (cost_of ys) →
        cond t (cost_on x) (cost_of (xs ++ ys)) ≡ cond (t || has_cost xs) (cond t (cost_on x) (cost_of xs)) (cost_of ys)
    by_test true h = refl
    by_test false h = h

pub no_cost : (xs : List SolutionLine) → has_cost xs ≡ false → cost_of xs ≡ pos 0
no_cost [] h = refl
no_cost (x ∷ xs) h =
    let none = or_parts (is_cost x) (has_cost xs) h in
    rw none.0 (no_cost xs none.1)

-- a line of which nothing is kept
pub keeps_line : (s : SolutionHandler) (before : List SolutionLine) (l : SolutionLine) → routes_on l ≡ [] →
    count_on l ≡ 0 → is_cost l ≡ false → Keeps s before [] → Keeps s (before ++ l ∷ []) []
keeps_line s before l no_route no_customer plain k = record {
  routes = k.routes ∙ sym (routes_of-append before (l ∷ []) ∙ rw no_route (append-nil (routes_in before)));
  route = k.route;
  customers = omega (arith, k.customers, count_of-append before (l ∷ []), no_customer);
  priced = k.priced ∙ sym (has_cost-append before (l ∷ []) ∙ rw plain (or-false (has_cost before)));
  cost = k.cost ∙ sym (cost_of-append before (l ∷ []) ∙ rw plain (same (has_cost before) before refl));
}
  where
    same : (t : Bool) (xs : List SolutionLine) → has_cost xs ≡ t → cond t (cost_of xs) (pos 0) ≡ cost_of xs
    same true xs h = refl
    same false xs h = sym (no_cost xs h)

-- a route that is whole
pub keeps_route : (s t : SolutionHandler) (before : List SolutionLine) (toks : List Token) → Keeps s before toks
    → has_cost before ≡ false → map (λ r. r.items) t.routes.items ≡ map (λ r. r.items) s.routes.items ++ s.route.items
    ∷ [] → t.route.items ≡ []
    → t.customers ≡ s.customers → t.priced ≡ s.priced → t.cost ≡ s.cost → Keeps t (before ++ Route toks ∷ []) []
keeps_route s t before toks k unpriced routes route customers priced cost = record {
  routes = routes ∙ rw (k.routes, k.route, routes_of-append before (Route toks ∷ [])) refl;
  route = route;
  customers = omega (arith, customers, k.customers, count_of-append before (Route toks ∷ []));
  priced = priced ∙ k.priced ∙ unpriced ∙ sym (has_cost-append before (Route toks ∷ []) ∙ rw unpriced refl);
  cost = cost ∙ k.cost ∙ no_cost before unpriced ∙ sym (cost_of-append before (Route toks ∷ []) ∙ rw unpriced refl);
}

-- ---- customers

-- after customers at which nothing stops, the next one may stop
customers_on : (k : ℕ) (ts more : List Token) (t : Token) → customers_stop k ts ≡ None →
    customers_stop k (ts ++ t ∷ more) ≡ or_else (customer_stop (k + length ts) t)
    (customers_stop (suc (k + length ts)) more)
customers_on k [] more t fine =
    ap (λ (j : ℕ). or_else (customer_stop j t) (customers_stop (suc j) more)) (omega arith)
customers_on k (x ∷ ts) more t fine =
    let n = nothing_before (customer_stop k x) (customers_stop (suc k) ts) fine in
    rw n.0 (customers_on (suc k) ts more t n.1
    ∙ ap (λ (j : ℕ). or_else (customer_stop j t) (customers_stop (suc j) more)) (omega arith))

pub customers_more : (k : ℕ) (ts : List Token) (t : Token) → customers_stop k ts ≡ None →
    customer_stop (k + length ts) t ≡ None → customers_stop k (ts ++ t ∷ []) ≡ None
customers_more k ts t fine here = customers_on k ts [] t fine ∙ rw here refl

-- the first customer at which something stops, stops the line
pub customers_at : (k : ℕ) (ts more : List Token) (t : Token) (s : Stop) → customers_stop k ts ≡ None →
    customer_stop (k + length ts) t ≡ Some s → customers_stop k (ts ++ t ∷ more) ≡ Some s
customers_at k ts more t s fine stop = customers_on k ts more t fine ∙ rw stop refl

customer_fine : (k n m : ℕ) (bs : List ℕ) → length bs ≤ 64 → integer bs ≡ Some (pos m) → m ≤ 4294967295 →
    k < ENTRY_LIMIT → customer_stop k (whole bs n) ≡ None
customer_fine k n m bs short is low few =
    let a : ltb 64 (length bs) ≡ false = le-ltb _ _ short in
    let b : leb m 4294967295 ≡ true = le-leb _ _ low in
    let c : leb ENTRY_LIMIT k ≡ false = lt-leb _ _ few in
    let z : leb 0 m ≡ true = le-leb _ _ (omega arith) in
    rw (a, is, z, b, c) refl

-- one customer more
pub keeps_customer : (s t : SolutionHandler) (before : List SolutionLine) (toks : List Token) (n m : ℕ) (bs : List ℕ)
    → length bs ≤ 64 → integer bs ≡ Some (pos m) → m ≤ 4294967295 → s.customers < ENTRY_LIMIT
    → t.routes ≡ s.routes → t.route.items ≡ s.route.items ++ m ∷ [] → t.customers ≡ s.customers + 1
    → t.priced ≡ s.priced → t.cost ≡ s.cost
    → Keeps s before toks → IsRoute before toks → Keeps t before (toks ++ whole bs n ∷ [])
    × IsRoute before (toks ++ whole bs n ∷ [])
keeps_customer s t before toks n m bs short is low few routes route customers priced cost k may = (
  record {
    routes = rw routes k.routes;
    route = route ∙ rw k.route (sym (numbers_more toks (whole bs n) ∙ rw is refl));
    customers = omega (arith, customers, k.customers, length-append toks (whole bs n ∷ []));
    priced = priced ∙ k.priced;
    cost = cost ∙ k.cost;
  },
  record {
    priced = may.priced;
    may = may.may;
    fine =
        customers_more (count_of before) toks (whole bs n) may.fine
        (customer_fine _ n m bs short is low (omega (arith, k.customers)));
  },
)

-- ---- the cost

natural_line : (t : Token) (ts : List Token) (n m : ℕ) (ended : Bool) → length t.bytes ≤ 64 → t.whole ≡ true →
    integer t.bytes ≡ Some (pos m) → cost_stop n ended (t ∷ ts) ≡ line_trailing_stop n ts
natural_line t ts n m ended short all is = rw (le-ltb _ _ short, all, is) refl

pub keeps_cost : (s t : SolutionHandler) (before : List SolutionLine) (n : ℕ) (bs : List ℕ) (z : ℤ) → length bs ≤ 64
    → integer bs ≡ Some z → lt_z z (pos 0) ≡ false
    → t.routes ≡ s.routes → t.route ≡ s.route → t.customers ≡ s.customers → t.priced ≡ true → t.cost ≡ z
    → Keeps s before [] → has_cost before ≡ false → IsPriced t before n (whole bs n ∷ [])
keeps_cost s t before n bs z short is low routes route customers priced cost k unpriced =
    let here : SolutionLine = Cost (whole bs n ∷ []) in
    let nat = natural_from z low in
    let number : integer bs ≡ Some (pos nat.0) = is ∙ ap (λ (z : ℤ). Some z) nat.1 in
    record {
      price = whole bs n;
      is = refl;
      fine = λ ended. natural_line (whole bs n) [] n nat.0 ended short refl number;
      trailing = λ ended t ts. natural_line (whole bs n) (t ∷ ts) n nat.0 ended short refl number;
      priced = unpriced;
      keeps = record {
        routes = rw routes (k.routes ∙ sym (routes_of-append before (here ∷ []) ∙ append-nil (routes_in before)));
        route = rw route k.route;
        customers = omega (arith, customers, k.customers, count_of-append before (here ∷ []));
        priced = priced ∙ sym (has_cost-append before (here ∷ []) ∙ rw unpriced refl);
        cost = cost ∙ sym (cost_of-append before (here ∷ []) ∙ rw (unpriced, is) refl);
      };
    }
  where
    natural_from : (z : ℤ) → lt_z z (pos 0) ≡ false → (m : ℕ) × (z ≡ pos m)
    natural_from (pos m) h = (m, refl)
    natural_from (negsuc m) h = absurd cc
