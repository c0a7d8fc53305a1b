-- The word of a line of a solution text.
use Rattle.std.proofs.Common.{◌≡◌, ℕ, suc, ◌<◌, ◌≤◌, Bool, true, false, cond, eqb, not, ◌&&◌, List, [], ◌∷◌, ◌++◌}
use Rattle.std.proofs.Common.{length, take, ⊎_elim, Some, refl, sym, ap, ◌∙◌, append_assoc, arith}
use Rattle.std.specs.Prelude.{codes}
use Rattle.std.specs.Char.{to_ascii_uppercase}
use Rattle.std.proofs.lemmas.List.{append-nil, length-append, length-take}
use Rattle.std.proofs.lemmas.Bool.{and_parts, or_cases, or_parts}
use Rattle.tk_words.proofs.BoolLaws.{and_false}
use Rattle.tk_lines.specs.Pieces.{Stop, first_at}
use Rattle.tk_words.specs.Lex.{tokens_of, after_word, is_word_byte, is_empty, front, behind}
use Rattle.tk_words.specs.Words.{spells}
use Rattle.tk_lists.specs.Solution.{Head, Short, route_head, route_line, route_tests, line_stop, Cost}
use Rattle.tk_lists.specs.Solution.{SolutionLine, Unsure, Other, begins, may_be_word, by_word, solid_line}
use Rattle.tk_lists.specs.Reader.SolutionReader.{IsLineWord}
use Rattle.tk_lines.proofs.Sections.MiddleOfSection.{tokens_of-none}
use Rattle.tk_lines.proofs.Headers.ByteRuns.{behind-all, front-all, front-whole}

spells_length : (xs ys : List ℕ) → spells xs ys ≡ true → length xs ≡ length ys
spells_length [] [] h = refl
spells_length (x ∷ xs) (y ∷ ys) h =
    ap suc (spells_length xs ys (and_parts (eqb (to_ascii_uppercase x) y) (spells xs ys) h).1)
spells_length _ _ h = absurd cc

and_lesser : (t a b : Bool) → (a ≡ false → b ≡ false) → (t && a) ≡ false → (t && b) ≡ false
and_lesser true a b g h = g h
and_lesser false a b g h = refl

-- what begins with other bytes spells nothing else
begins_longer : (xs zs text : List ℕ) → begins xs text ≡ false → begins (xs ++ zs) text ≡ false
begins_longer [] zs text h = absurd cc
begins_longer (x ∷ xs) zs [] h = refl
begins_longer (x ∷ xs) zs (y ∷ text) h = and_lesser (eqb (to_ascii_uppercase x) y) _ _ (begins_longer xs zs text) h

spells_begins : (xs text : List ℕ) → begins xs text ≡ false → spells xs text ≡ false
spells_begins [] text h = absurd cc
spells_begins (x ∷ xs) [] h = refl
spells_begins (x ∷ xs) (y ∷ text) h = and_lesser (eqb (to_ascii_uppercase x) y) _ _ (spells_begins xs text) h

-- bytes that may become a word are few
pub front_short : (held : List ℕ) → may_be_word held ≡ true → length held < 64
front_short held h =
    ⊎_elim (at_most (codes "ROUTE") (omega arith)) (at_most (codes "COST") (omega arith)) (or_cases _ _ h)
  where
    at_most : (text : List ℕ) → length text ≤ 5 → begins held text ≡ true → length held < 64
    at_most text few is =
        omega (arith, few, spells_length held (take (length held) text) is, length-take (length held) text)

same_other : (t s : Bool) (l : SolutionLine) → s ≡ false → l ≡ Other → cond t (cond s Unsure Other) l ≡ Other
same_other true s l h is = rw h refl
same_other false s l h is = is

by_word-other : (n : ℕ) (w : Bool) (word tail : List ℕ) → spells word (codes "ROUTE") ≡ false →
    spells word (codes "COST") ≡ false → by_word n w word tail ≡ Other
by_word-other n w word tail p q = rw (p, q) refl

-- a line whose word is neither Route nor Cost, whatever follows
pub solid_other : (n : ℕ) (held : List ℕ) → 0 < length held → behind is_word_byte held ≡ [] → may_be_word held ≡ false →
    (bs : List ℕ) (w : Bool) → solid_line n w (held ++ bs) ≡ Other
solid_other n [] some word none bs w = absurd (omega (arith, some))
solid_other n (b ∷ held) some word none bs w =
    let no = or_parts _ _ none in
    let z : List ℕ = front is_word_byte bs in
    let word_is : front is_word_byte ((b ∷ held) ++ bs) ≡ (b ∷ held) ++ z = front-all is_word_byte (b ∷ held) bs word in
    let tail_is : behind is_word_byte ((b ∷ held) ++ bs) ≡ behind is_word_byte bs =
    behind-all is_word_byte (b ∷ held) bs word in
    let r = begins_longer (b ∷ held) z (codes "ROUTE") no.0 in
    let c = begins_longer (b ∷ held) z (codes "COST") no.1 in
    rw (word_is, tail_is)
    (same_other (not w && is_empty (behind is_word_byte bs)) (may_be_word ((b ∷ held) ++ z)) _ (rw (r, c) refl)
    (by_word-other n w ((b ∷ held) ++ z) (behind is_word_byte bs) (spells_begins ((b ∷ held) ++ z) (codes "ROUTE") r)
    (spells_begins ((b ∷ held) ++ z) (codes "COST") c)))

-- a line whose word has ended before a byte
pub solid_ended : (n : ℕ) (held : List ℕ) (b : ℕ) → behind is_word_byte held ≡ [] → is_word_byte b ≡ false →
    (bs : List ℕ) (w : Bool) → solid_line n w (held ++ b ∷ bs) ≡ by_word n w held (b ∷ bs)
solid_ended n [] b word ends bs w = rw (ends, and_false (not w)) refl
solid_ended n (c ∷ held) b word ends bs w =
    let none : front is_word_byte (b ∷ bs) ≡ [] = rw ends refl in
    let word_is : front is_word_byte ((c ∷ held) ++ b ∷ bs) ≡ c ∷ held = front-all is_word_byte (c ∷ held) (b ∷ bs) word
    ∙ rw none (append-nil (c ∷ held)) in
    let tail_is : behind is_word_byte ((c ∷ held) ++ b ∷ bs) ≡ b ∷ bs = behind-all is_word_byte (c ∷ held) (b ∷ bs) word
    ∙ rw ends refl in
    rw (word_is, tail_is, and_false (not w)) refl

-- a line whose word ends it
pub solid_whole : (n : ℕ) (held : List ℕ) → IsLineWord held → solid_line n true held ≡ by_word n true held []
solid_whole n [] word = absurd (omega (arith, word.0))
solid_whole n (b ∷ t) word = rw (front-whole is_word_byte (b ∷ t) word.1.0, word.1.0) refl

-- a byte more of a word
pub word_goes_on : (held : List ℕ) (b : ℕ) → behind is_word_byte held ≡ [] → is_word_byte b ≡ true →
    behind is_word_byte (held ++ b ∷ []) ≡ []
word_goes_on held b word is = behind-all is_word_byte held (b ∷ []) word ∙ rw is refl

pub grown_other : (n : ℕ) (held : List ℕ) (b : ℕ) → behind is_word_byte held ≡ [] → is_word_byte b ≡ true →
    may_be_word (held ++ b ∷ []) ≡ false → (bs : List ℕ) (w : Bool) → solid_line n w (held ++ b ∷ bs) ≡ Other
grown_other n held b word is none bs w =
    ap (solid_line n w) (sym (append_assoc held (b ∷ []) bs))
    ∙ solid_other n (held ++ b ∷ []) (omega (arith, length-append held (b ∷ [])))
    (word_goes_on held b word is) none bs w

module _ (n : ℕ) (held : List ℕ) (b : ℕ) (word : behind is_word_byte held ≡ []) (ends : is_word_byte b ≡ false) where
  pub ended_route : spells held (codes "ROUTE") ≡ true → (bs : List ℕ) (w : Bool) →
      solid_line n w (held ++ b ∷ bs) ≡ route_line n w (route_head (b ∷ bs))
  ended_route is bs w = solid_ended n held b word ends bs w ∙ rw is refl

  pub ended_cost : spells held (codes "ROUTE") ≡ false → spells held (codes "COST") ≡ true → (bs : List ℕ) (w : Bool) →
      solid_line n w (held ++ b ∷ bs) ≡ Cost (tokens_of w n (after_word (b ∷ bs)))
  ended_cost no_route is bs w = solid_ended n held b word ends bs w ∙ rw (no_route, is) refl

  pub ended_other : spells held (codes "ROUTE") ≡ false → spells held (codes "COST") ≡ false →
      (bs : List ℕ) (w : Bool) → solid_line n w (held ++ b ∷ bs) ≡ Other
  ended_other no_route no_cost bs w = solid_ended n held b word ends bs w
      ∙ by_word-other n w held (b ∷ bs) no_route no_cost

-- a Route line may not stand here
pub route_stops : (before : List SolutionLine) (n : ℕ) (w : Bool) (s : Stop) (h : Head) →
    first_at n (route_tests before) ≡ Some s → line_stop before n w (route_line n w h) ≡ Some s
route_stops before n w s Short stop = rw stop refl
route_stops before n w s _ stop = rw stop refl

module _ (n : ℕ) (held : List ℕ) (word : IsLineWord held) where
  pub whole_route : spells held (codes "ROUTE") ≡ true → solid_line n true held ≡ route_line n true (route_head [])
  whole_route is = solid_whole n held word ∙ rw is refl

  pub whole_cost : spells held (codes "ROUTE") ≡ false → spells held (codes "COST") ≡ true →
      solid_line n true held ≡ Cost []
  whole_cost no_route is = solid_whole n held word ∙ rw (no_route, is, tokens_of-none true n) refl

  pub whole_other : spells held (codes "ROUTE") ≡ false → spells held (codes "COST") ≡ false →
      solid_line n true held ≡ Other
  whole_other no_route no_cost = solid_whole n held word ∙ by_word-other n true held [] no_route no_cost
