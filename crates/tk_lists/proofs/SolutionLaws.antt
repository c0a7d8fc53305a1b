-- Each solution text has an answer, and what is decided of it stays.
use Rattle.std.proofs.Common.{◌≡◌, ℕ, suc, ◌+◌, Bool, true, false, cond, eqb, ltb, not, List, [], ◌∷◌, ◌++◌}
use Rattle.std.proofs.Common.{length, Option, Some, None, Result, refl, sym, ap, subst, ◌∙◌, arith}
use Rattle.std.specs.Prelude.{codes}
use Rattle.std.specs.Char.{is_ascii_digit}
use Rattle.std.specs.Option.{IsSome}
use Rattle.std.proofs.lemmas.Bool.{ne_eqb, ltb-true, lt-ltb}
use Rattle.tk_words.specs.declared.fault.TextKind.{TextKind}
use Rattle.tk_words.specs.declared.fault.TextKind.TheVariants as kinds
use Rattle.tk_words.specs.declared.fault.TextFault.{TextFault}
use Rattle.tk_words.specs.Lex.{Line, Token, lines, tokens_of, is_blank, is_word_byte, front, behind, after_word}
use Rattle.tk_words.specs.TextLaws.{HasAnswers, StaysDecided}
use Rattle.tk_words.specs.Words.{spells}
use Rattle.tk_words.proofs.BoolLaws.{and_false}
use Rattle.tk_lines.specs.Pieces.{Stop, Open, Fault, first_at, checked, or_else}
use Rattle.tk_lines.proofs.EndedTexts.{AreWhole, NotOpen, WholeTokens, not_open_checked, not_open_first, not_open_or}
use Rattle.tk_lines.proofs.EndedTexts.{some_stopped, whole_lines, whole_tokens_of}
use Rattle.tk_lines.proofs.LinesAndMoreBytes.{a_line, Lasts, checked_grown, lines_grow, or_else_kept, stopped_kept}
use Rattle.tk_lines.proofs.LinesAndMoreBytes.{stopped_stays}
use Rattle.tk_lines.proofs.LinesAndMoreBytes.{tokens_after, tokens_grow}
use Rattle.tk_lines.proofs.Headers.ByteRuns.{front-whole, front_grows}
use Rattle.tk_lines.proofs.MiddleOfLine.{behind-more, front-more}
use Rattle.tk_lines.proofs.SettledSections.{stops, stops_grown}
use Rattle.tk_lists.specs.Solution.{Head, Short, Bad, Behind, Solution, SolutionLine, Other, Cost, colon_head}
use Rattle.tk_lists.specs.Solution.{digits_head, without_first, number_head, route_head, is_sign, is_hash, route_line}
use Rattle.tk_lists.specs.Solution.{may_be_word, by_word, solid_line, line_of, has_cost, count_of, customer_tests}
use Rattle.tk_lists.specs.Solution.{customer_stop, customers_stop, line_trailing_stop, cut_short, cost_stop}
use Rattle.tk_lists.specs.Solution.{route_tests, cost_tests, cost_number_tests, other_tests, line_stop, solution_at_end}
use Rattle.tk_lists.specs.Solution.{judge_lines, solution_decided}
use Rattle.tk_lists.proofs.SolutionWords.{route_stops, solid_other}

-- lines with the same word, whose tails may differ
by_words : (R : SolutionLine → SolutionLine → Type 0) (n : ℕ) (w w' : Bool) (word tail tail' : List ℕ)
    → R (route_line n w (route_head tail)) (route_line n w' (route_head tail'))
    → R (Cost (tokens_of w n (after_word tail))) (Cost (tokens_of w' n (after_word tail'))) → R Other Other
    → R (by_word n w word tail) (by_word n w' word tail')
by_words R n w w' word tail tail' route cost other =
    by_tests (spells word (codes "ROUTE")) (spells word (codes "COST")) _ _ _ _ route cost
  where
    by_tests : (r c : Bool) (x x' y y' : SolutionLine) → R x x' → R y y' →
        R (cond r x (cond c y Other)) (cond r x' (cond c y' Other))
    by_tests true c x x' y y' route cost = route
    by_tests false true x x' y y' route cost = cost
    by_tests false false x x' y y' route cost = other

-- ---- each text has an answer

customers_known : (k : ℕ) (ts : List Token) → WholeTokens ts → NotOpen (customers_stop k ts)
customers_known k [] h = tt
customers_known k (t ∷ ts) h =
    not_open_or (customer_stop k t) (customers_stop (suc k) ts) (not_open_checked 64 t (customer_tests k t) h.0)
    (customers_known (suc k) ts h.1)

cost_known : (n : ℕ) (ts : List Token) → WholeTokens ts → NotOpen (cost_stop n true ts)
cost_known n [] h = tt
cost_known n (t ∷ ts) h =
    not_open_or (checked 64 t (cost_number_tests t)) (line_trailing_stop n ts)
    (not_open_checked 64 t (cost_number_tests t) h.0) (trailing ts)
  where
    trailing : (ts : List Token) → NotOpen (line_trailing_stop n ts)
    trailing [] = tt
    trailing (t ∷ ts) = tt

module _ (before : List SolutionLine) (n : ℕ) where
  route_known : (h : Head) → NotOpen (line_stop before n true (route_line n true h))
  route_known Short =
      not_open_or (first_at n (route_tests before)) (cut_short n true) (not_open_first n (route_tests before)) tt
  route_known Bad = not_open_or (first_at n (route_tests before)) (Some (Fault n kinds.BadNumber))
      (not_open_first n (route_tests before)) tt
  route_known (Behind bs) =
      not_open_or (first_at n (route_tests before)) (customers_stop (count_of before) (tokens_of true n bs))
      (not_open_first n (route_tests before))
      (customers_known (count_of before) (tokens_of true n bs) (whole_tokens_of n bs))

  word_known : (word tail : List ℕ) → NotOpen (line_stop before n true (by_word n true word tail))
  word_known word tail =
      by_words (λ l _. NotOpen (line_stop before n true l)) n true true word tail tail (route_known (route_head tail))
      (not_open_or (first_at n (cost_tests before)) (cost_stop n true (tokens_of true n (after_word tail)))
      (not_open_first n (cost_tests before))
      (cost_known n (tokens_of true n (after_word tail)) (whole_tokens_of n (after_word tail))))
      (not_open_first n (other_tests before))

  solid_known : (bs : List ℕ) → NotOpen (line_stop before n true (solid_line n true bs))
  solid_known [] = tt
  solid_known (b ∷ bs) = word_known (front is_word_byte (b ∷ bs)) (behind is_word_byte (b ∷ bs))

some_end : (before : List SolutionLine) (n : ℕ) → IsSome (solution_at_end before n true)
some_end before n = by_cost (has_cost before) _ _
  where
    by_cost : (t : Bool) (x y : Result Solution TextFault) → IsSome (cond t (Some x) (Some y))
    by_cost true x y = refl
    by_cost false x y = refl

some_judged : (before : List SolutionLine) (n : ℕ) (ls : List Line) → AreWhole ls →
    IsSome (judge_lines before n true ls)
unfolding judge_lines
some_judged before n [] h = some_end before n
some_judged before n (l ∷ ls) h =
    let here : SolutionLine = line_of l.number true l.bytes in
    rw h.0 (some_stopped (line_stop before l.number true here) (judge_lines (before ++ here ∷ []) l.number true ls)
    (solid_known before l.number (behind is_blank l.bytes)) (some_judged (before ++ here ∷ []) l.number ls h.1))

pub some_decided : HasAnswers solution_decided
unfolding solution_decided
some_decided text = some_judged [] 1 (lines true 1 text) (whole_lines text 1)

-- ---- the head of a Route line

-- what more bytes leave of a head
abbrev HeadStays : Head → Head → List ℕ → Type 0
HeadStays Short h x = Unit {0}
HeadStays Bad h x = h ≡ Bad
HeadStays (Behind bs) h x = h ≡ Behind (bs ++ x)

colon_stays : (bs x : List ℕ) → HeadStays (colon_head bs) (colon_head (bs ++ x)) x
colon_stays [] x = tt
colon_stays (b ∷ bs) x = by_colon (eqb b 58)
  where
    by_colon : (t : Bool) → HeadStays (cond t (Behind bs) Bad) (cond t (Behind (bs ++ x)) Bad) x
    by_colon true = refl
    by_colon false = refl

blanks_stay : (bs x : List ℕ) → HeadStays (colon_head (behind is_blank bs)) (colon_head (behind is_blank (bs ++ x))) x
blanks_stay bs x = by_rest (behind is_blank bs) refl
  where
    by_rest : (r : List ℕ) → behind is_blank bs ≡ r →
        HeadStays (colon_head (behind is_blank bs)) (colon_head (behind is_blank (bs ++ x))) x
    by_rest [] f = rw f tt
    by_rest (d ∷ ds) f = rw (f, behind-more is_blank bs x d ds f) (colon_stays (d ∷ ds) x)

digits_stay : (bs x : List ℕ) → HeadStays (digits_head 0 bs) (digits_head 0 (bs ++ x)) x
digits_stay [] x = tt
digits_stay (b ∷ bs) x = by_rest (behind is_ascii_digit (b ∷ bs)) refl
  where
    by_rest : (r : List ℕ) → behind is_ascii_digit (b ∷ bs) ≡ r →
        HeadStays (digits_head 0 (b ∷ bs)) (digits_head 0 ((b ∷ bs) ++ x)) x
    by_rest [] e =
        let all : front is_ascii_digit (b ∷ bs) ≡ b ∷ bs = front-whole is_ascii_digit (b ∷ bs) e in
        let some : eqb (0 + length (front is_ascii_digit (b ∷ bs))) 0 ≡ false =
        ne_eqb _ _ (λ z. omega (arith, z, ap length all)) in
        rw (some, e) (by_long (ltb 18 (0 + length (front is_ascii_digit (b ∷ bs)))) refl)
      where
        by_long : (t : Bool) → ltb 18 (0 + length (front is_ascii_digit (b ∷ bs))) ≡ t →
            HeadStays (cond t Bad Short) (digits_head 0 ((b ∷ bs) ++ x)) x
        by_long true t =
            rw (lt-ltb 18 (0 + length (front is_ascii_digit ((b ∷ bs) ++ x)))
            (omega (arith, ltb-true _ _ t, front_grows is_ascii_digit (b ∷ bs) x e))) refl
        by_long false t = tt
    by_rest (c ∷ cs) e =
        let same : front is_ascii_digit ((b ∷ bs) ++ x) ≡ front is_ascii_digit (b ∷ bs) =
        front-more is_ascii_digit (b ∷ bs) x c cs e in
        let more : behind is_ascii_digit ((b ∷ bs) ++ x) ≡ (c ∷ cs) ++ x =
        behind-more is_ascii_digit (b ∷ bs) x c cs e in
        rw (same, more, e)
        (by_tests (ltb 18 (0 + length (front is_ascii_digit (b ∷ bs))))
        (eqb (0 + length (front is_ascii_digit (b ∷ bs))) 0) (blanks_stay (c ∷ cs) x))
      where
        by_tests : (s t : Bool)
            → HeadStays (colon_head (behind is_blank (c ∷ cs))) (colon_head (behind is_blank ((c ∷ cs) ++ x))) x
            → HeadStays (cond s Bad (cond t Bad (colon_head (behind is_blank (c ∷ cs)))))
            (cond s Bad (cond t Bad (colon_head (behind is_blank ((c ∷ cs) ++ x))))) x
        by_tests false false h = h
        by_tests _ _ h = refl

-- behind blanks, and a first byte that may pass
first_stays : (p : ℕ → Bool) (f : List ℕ → Head) → f [] ≡ Short → ((bs x : List ℕ) → HeadStays (f bs) (f (bs ++ x)) x)
    → (bs x : List ℕ)
    → HeadStays (f (without_first p (behind is_blank bs))) (f (without_first p (behind is_blank (bs ++ x)))) x
first_stays p f short stay bs x = by_rest (behind is_blank bs) refl
  where
    by_first : (t : Bool) (c : ℕ) (cs : List ℕ) →
        HeadStays (f (cond t cs (c ∷ cs))) (f (cond t (cs ++ x) (c ∷ cs ++ x))) x
    by_first true c cs = stay cs x
    by_first false c cs = stay (c ∷ cs) x

    by_rest : (r : List ℕ) → behind is_blank bs ≡ r →
        HeadStays (f (without_first p (behind is_blank bs))) (f (without_first p (behind is_blank (bs ++ x)))) x
    by_rest [] e = rw (e, short) tt
    by_rest (c ∷ cs) e = rw (e, behind-more is_blank bs x c cs e) (by_first (p c) c cs)

number_stays : (bs x : List ℕ) → HeadStays (number_head bs) (number_head (bs ++ x)) x
number_stays = first_stays is_sign (digits_head 0) refl digits_stay

head_stays : (bs x : List ℕ) → HeadStays (route_head bs) (route_head (bs ++ x)) x
head_stays = first_stays is_hash number_head refl number_stays

-- ---- the last line, which may go on

customers_as : (k : ℕ) (ts : List Token) → customers_stop k ts ≡ stops customer_tests (λ k t. suc k) k ts
customers_as k [] = refl
customers_as k (t ∷ ts) = ap (λ (s : Option Stop). or_else (customer_stop k t) s) (customers_as (suc k) ts)

module _ (before : List SolutionLine) (n : ℕ) (w : Bool) (x : List ℕ) (line : ℕ) (k : TextKind) where
  customers_stay : (bs : List ℕ) → customers_stop (count_of before) (tokens_of false n bs) ≡ Some (Fault line k) →
      customers_stop (count_of before) (tokens_of w n (bs ++ x)) ≡ Some (Fault line k)
  customers_stay bs h =
      let g = tokens_grow w n bs x in
      let m : ℕ = count_of before in
      let old = sym (customers_as m (tokens_of false n bs) ∙ ap (stops customer_tests (λ k t. suc k) m) g.old) ∙ h in
      customers_as m (tokens_of w n (bs ++ x)) ∙ ap (stops customer_tests (λ k t. suc k) m) g.new
      ∙ stops_grown customer_tests (λ k t. suc k) line k m g.front g.last g.rest g.lasts old

  trailing_stays : (front last rest : List Token) → Lasts last rest →
      line_trailing_stop n (front ++ last) ≡ Some (Fault line k) →
      line_trailing_stop n (front ++ rest) ≡ Some (Fault line k)
  trailing_stays [] [] rest g h = absurd cc
  trailing_stays [] (t ∷ []) (u ∷ rest) g h = h
  trailing_stays [] _ rest g h = absurd g
  trailing_stays (y ∷ front) last rest g h = h

  cost_grown : (front last rest : List Token) → Lasts last rest →
      cost_stop n false (front ++ last) ≡ Some (Fault line k) → cost_stop n w (front ++ rest) ≡ Some (Fault line k)
  cost_grown [] [] rest g h = absurd (let j : Some Open ≡ Some (Fault line k) = h in cc)
  cost_grown [] (t ∷ []) (u ∷ rest) g h =
      checked_grown 64 t u (cost_number_tests t) (cost_number_tests u) None (line_trailing_stop n rest) line k g h
  cost_grown [] _ rest g h = absurd g
  cost_grown (y ∷ front) last rest g h =
      or_else_kept (checked 64 y (cost_number_tests y)) (line_trailing_stop n (front ++ last))
      (line_trailing_stop n (front ++ rest)) (Fault line k) (trailing_stays front last rest g) h

  cost_stays : (tail : List ℕ) → cost_stop n false (tokens_of false n (after_word tail)) ≡ Some (Fault line k) →
      cost_stop n w (tokens_of w n (after_word (tail ++ x))) ≡ Some (Fault line k)
  cost_stays tail h = let g = tokens_after w n tail x in
      rw g.new (cost_grown g.front g.last g.rest g.lasts (rw g.old at h))

  route_stays : (h h' : Head) → HeadStays h h' x →
      line_stop before n false (route_line n false h) ≡ Some (Fault line k) →
      line_stop before n w (route_line n w h') ≡ Some (Fault line k)
  route_stays Short h' s f = by_first (first_at n (route_tests before)) refl
    where
      by_first : (o : Option Stop) → first_at n (route_tests before) ≡ o →
          line_stop before n w (route_line n w h') ≡ Some (Fault line k)
      by_first None e = absurd (let j = rw e at f in cc)
      by_first (Some z) e = route_stops before n w (Fault line k) h' (e ∙ (rw e at f))
  route_stays Bad h' s f = subst (λ (h : Head). line_stop before n w (route_line n w h) ≡ Some (Fault line k)) (sym s) f
  route_stays (Behind bs) h' s f =
      subst (λ (h : Head). line_stop before n w (route_line n w h) ≡ Some (Fault line k)) (sym s)
      (or_else_kept (first_at n (route_tests before)) (customers_stop (count_of before) (tokens_of false n bs))
      (customers_stop (count_of before) (tokens_of w n (bs ++ x))) (Fault line k) (customers_stay bs) f)

  word_stays : (word tail : List ℕ) → line_stop before n false (by_word n false word tail) ≡ Some (Fault line k) →
      line_stop before n w (by_word n w word (tail ++ x)) ≡ Some (Fault line k)
  word_stays word tail =
      by_words
      (λ l l'. line_stop before n false l ≡ Some (Fault line k) → line_stop before n w l' ≡ Some (Fault line k))
      n false w word tail (tail ++ x) (route_stays (route_head tail) (route_head (tail ++ x)) (head_stays tail x))
      (or_else_kept (first_at n (cost_tests before)) (cost_stop n false (tokens_of false n (after_word tail)))
      (cost_stop n w (tokens_of w n (after_word (tail ++ x)))) (Fault line k) (cost_stays tail)) (λ f. f)

  solid_stays : (b : ℕ) (bs : List ℕ) → line_stop before n false (solid_line n false (b ∷ bs)) ≡ Some (Fault line k) →
      line_stop before n w (solid_line n w ((b ∷ bs) ++ x)) ≡ Some (Fault line k)
  solid_stays b bs f = by_tail (behind is_word_byte (b ∷ bs)) refl
    where
      by_may : (t : Bool) → may_be_word (b ∷ bs) ≡ t → behind is_word_byte (b ∷ bs) ≡ [] →
          line_stop before n w (solid_line n w ((b ∷ bs) ++ x)) ≡ Some (Fault line k)
      by_may true m e =
          absurd (let j = rw (front-whole is_word_byte (b ∷ bs) e, e, m) at f in cc)
      by_may false m e =
          rw (solid_other n (b ∷ bs) (omega arith) e m x w) (rw (front-whole is_word_byte (b ∷ bs) e, e, m) at f)

      by_tail : (y : List ℕ) → behind is_word_byte (b ∷ bs) ≡ y →
          line_stop before n w (solid_line n w ((b ∷ bs) ++ x)) ≡ Some (Fault line k)
      by_tail [] e = by_may (may_be_word (b ∷ bs)) refl e
      by_tail (d ∷ ds) e =
          rw (
            front-more is_word_byte (b ∷ bs) x d ds e,
            behind-more is_word_byte (b ∷ bs) x d ds e,
            and_false (not w),
          ) (word_stays (front is_word_byte (b ∷ bs)) (d ∷ ds) (rw e at f))

  line_stays : (bs : List ℕ) → line_stop before n false (line_of n false bs) ≡ Some (Fault line k) →
      line_stop before n w (line_of n w (bs ++ x)) ≡ Some (Fault line k)
  line_stays bs f = by_held (behind is_blank bs) refl
    where
      by_held : (held : List ℕ) → behind is_blank bs ≡ held →
          line_stop before n w (solid_line n w (behind is_blank (bs ++ x))) ≡ Some (Fault line k)
      by_held [] e = absurd (let j = rw e at f in cc)
      by_held (b ∷ held) e = rw (behind-more is_blank bs x b held e) (solid_stays b held (rw e at f))

-- ---- what is decided stays

module _ (n : ℕ) (bs x : List ℕ) (w : Bool) (rest : List Line) (a : Result Solution TextFault) where
  lines_stay : (front : List Line) (before : List SolutionLine) (m : ℕ) (s t : Bool) →
      judge_lines before m s (front ++ a_line n bs false ∷ []) ≡ Some a →
      judge_lines before m t (front ++ a_line n (bs ++ x) w ∷ rest) ≡ Some a
  unfolding judge_lines
  lines_stay [] before m s t h =
      let old : SolutionLine = line_of n false bs in
      let new : SolutionLine = line_of n w (bs ++ x) in
      stopped_stays (line_stop before n false old) (line_stop before n w new) None
      (judge_lines (before ++ new ∷ []) n w rest) a refl (λ line k. line_stays before n w x line k bs) h
  lines_stay (l ∷ front) before m s t h =
      let here : SolutionLine = line_of l.number l.whole l.bytes in
      stopped_kept (line_stop before l.number l.whole here)
      (judge_lines (before ++ here ∷ []) l.number l.whole (front ++ a_line n bs false ∷ []))
      (judge_lines (before ++ here ∷ []) l.number l.whole (front ++ a_line n (bs ++ x) w ∷ rest)) a
      (lines_stay front (before ++ here ∷ []) l.number l.whole l.whole) h

pub decided_stays : StaysDecided solution_decided
unfolding solution_decided
decided_stays bs a h e more =
    let g = lines_grow e bs more 1 in
    rw g.new (lines_stay g.number g.bytes g.more g.whole g.rest a g.front [] 1 false e (rw g.old at h))
