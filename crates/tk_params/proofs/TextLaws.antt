-- Each parameter text has an answer, and what is decided of it stays.
use Rattle.std.proofs.Common.{◌≡◌, ℕ, suc, ◌-◌, ◌<◌, Bool, true, false, cond, ltb, not, ◌||◌, List, [], ◌∷◌, ◌++◌}
use Rattle.std.proofs.Common.{length, take, drop, Option, Some, None, Err, refl, sym, ap, subst, ◌∙◌}
use Rattle.std.proofs.Common.{append_assoc, arith}
use Rattle.std.specs.Option.{IsSome}
use Rattle.std.proofs.lemmas.Bool.{ltb-true, and_parts, and_from}
use Rattle.std.proofs.lemmas.List.{length-append, length-take, take-append-drop}
use Rattle.tk_words.specs.Lex.{Line, is_blank, is_empty, front, behind, lines}
use Rattle.tk_words.specs.TextLaws.{HasAnswers, StaysDecided}
use Rattle.tk_words.proofs.BoolLaws.{or_true}
use Rattle.tk_lines.proofs.EndedTexts.{AreWhole, whole_lines}
use Rattle.tk_lines.proofs.LinesAndMoreBytes.{a_line, lines_grow}
use Rattle.tk_params.proofs.LineEnds.{Goes, Before, Within, Behind, goes, judge_line, judge_none, over}
use Rattle.tk_params.specs.declared.fault.ParamKind.TheVariants as kinds
use Rattle.tk_params.specs.Params.{Answer, after, answer_at_end, behind_word, counted, is_end, spells_eof, judge_params}
use Rattle.tk_params.specs.Params.{line_limit}
use Rattle.tk_params.specs.Params.{params_decided, param_pieces, word_of}
use Rattle.tk_params.specs.Reader.Places.{ends_in}
use Rattle.tk_params.specs.Values.{Settings, Meaning, Faulty, line_means, settings_of}

-- ---- each text has an answer

some_tests : (a b c : Bool) (x y : Answer) (z : Option Answer) → c ≡ false → IsSome z →
    IsSome (cond a (Some x) (cond b (Some y) (cond c None z)))
some_tests false false true x y z h k = absurd cc
some_tests false false false x y z h k = k
some_tests _ _ c x y z h k = refl

some_after : (n : ℕ) (m : Meaning) (z : Option Answer) → IsSome z → IsSome (after n m z)
some_after n (Faulty kind) z h = refl
some_after n _ z h = h

some_judged : (n : ℕ) (before : Settings) (ls : List Line) → AreWhole ls →
    IsSome (judge_params n before (param_pieces ls))
some_judged n before [] h = rw (judge_none n before) refl
some_judged n before (l ∷ ls) h =
    let means = line_means before (behind is_blank l.bytes) in
    let rest = judge_params l.number (before ++ settings_of means) (param_pieces ls) in
    subst IsSome (sym (judge_line n before l ls))
    (some_tests (ltb line_limit (counted l)) (is_end l) (not l.whole)
    (Err (record { line = l.number; kind = kinds.TooLong })) (answer_at_end l.number before)
    (after l.number means rest) (ap not h.0)
    (some_after l.number means rest (some_judged l.number (before ++ settings_of means) ls h.1)))

pub some_decided : HasAnswers params_decided
unfolding params_decided
some_decided text = some_judged 1 [] (lines true 1 text) (whole_lines text 1)

-- ---- a last line that goes on

-- at a line the text ends, whatever follows
record StillEnds (n : ℕ) (bs x : List ℕ) (w : Bool) : Type 0 where
  pub ends : is_end (a_line n (bs ++ x) w) ≡ true
  pub counts : counted (a_line n (bs ++ x) w) ≡ counted (a_line n bs false)

ended_count : (l : Line) → is_end l ≡ true → counted l ≡ length l.bytes - length (behind_word l.bytes)
ended_count l h = ap (λ (t : Bool). length l.bytes - cond t (length (behind_word l.bytes)) 0) h

still_ends : (n : ℕ) (bs x : List ℕ) (w : Bool) → ends_in bs ≡ true → StillEnds n bs x w
still_ends n bs x w h = by_word (goes bs x)
  where
    some : behind_word bs ≡ [] → ⊥
    some e =
        let both = and_parts (spells_eof (word_of bs)) (not (is_empty (behind_word bs))) h in
        let j : false ≡ true = sym (ap (λ (y : List ℕ). not (is_empty y)) e) ∙ both.1 in cc

    by_word : Goes bs x → StillEnds n bs x w
    by_word (Before e word rest) = absurd (some e)
    by_word (Within e word rest) = absurd (some e)
    by_word (Behind d ds e word rest) =
        let ends : is_end (a_line n (bs ++ x) w) ≡ true =
        and_from _ _ (ap spells_eof word ∙ (and_parts _ _ h).0) (ap (λ (y : List ℕ). w || not (is_empty y)) rest
        ∙ or_true w) in
        let size : length (bs ++ x) - length (behind_word (bs ++ x)) ≡ length bs - length (behind_word bs) =
        omega (arith, length-append bs x, length-append (d ∷ ds) x, ap length rest, ap length e) in
        record {
          ends = ends;
          counts = ended_count (a_line n (bs ++ x) w) ends ∙ size
              ∙ sym (ended_count (a_line n bs false) h);
        }

-- a line that is too long already
over_more : (n : ℕ) (p q x : List ℕ) (w : Bool) → length p ≡ suc line_limit → ends_in (p ++ q) ≡ false →
    ltb line_limit (counted (a_line n ((p ++ q) ++ x) w)) ≡ true
over_more n p q x w len none = by_front (ends_in p) refl
  where
    by_front : (t : Bool) → ends_in p ≡ t → ltb line_limit (counted (a_line n ((p ++ q) ++ x) w)) ≡ true
    by_front true e = absurd (let s = still_ends n p q false e in let j : true ≡ false = sym s.ends ∙ none in cc)
    by_front false e = ap (λ (y : List ℕ). ltb line_limit (counted (a_line n y w))) (append_assoc p q x)
        ∙ over p e n (q ++ x) w len

still_over : (n : ℕ) (bs x : List ℕ) (w : Bool) → ends_in bs ≡ false → line_limit < length bs →
    ltb line_limit (counted (a_line n (bs ++ x) w)) ≡ true
still_over n bs x w none lt =
    let whole = take-append-drop (suc line_limit) bs in
    let len : length (take (suc line_limit) bs) ≡ suc line_limit = omega (arith, lt, length-take (suc line_limit) bs) in
    subst (λ (y : List ℕ). ltb line_limit (counted (a_line n (y ++ x) w)) ≡ true) whole
    (over_more n (take (suc line_limit) bs) (drop (suc line_limit) bs) x w len (ap ends_in whole ∙ none))

ended_tests : (c c' e e' : Bool) (x y : Answer) (z z' : Option Answer) (a : Answer) → c' ≡ c → e ≡ true → e' ≡ true →
    cond c (Some x) (cond e (Some y) z) ≡ Some a → cond c' (Some x) (cond e' (Some y) z') ≡ Some a
ended_tests c c' true e' x y z z' a p q r h = rw (p, r) h
ended_tests c c' false e' x y z z' a p q r h = absurd cc

open_tests : (c c' e e' : Bool) (x y : Answer) (z' : Option Answer) (a : Answer) → (c ≡ true → c' ≡ true) → e ≡ false →
    cond c (Some x) (cond e (Some y) None) ≡ Some a → cond c' (Some x) (cond e' (Some y) z') ≡ Some a
open_tests true c' e e' x y z' a p q h = rw (p refl) h
open_tests false c' true e' x y z' a p q h = absurd (let j : true ≡ false = q in cc)
open_tests false c' false e' x y z' a p q h = absurd (let j : None ≡ Some a = h in cc)

last_stays : (m n : ℕ) (before : Settings) (bs x : List ℕ) (w : Bool) (rest : List Line) (a : Answer) →
    judge_params m before (param_pieces (a_line n bs false ∷ [])) ≡ Some a →
    judge_params m before (param_pieces (a_line n (bs ++ x) w ∷ rest)) ≡ Some a
last_stays m n before bs x w rest a h = by_end (ends_in bs) refl
  where
    by_end : (t : Bool) → ends_in bs ≡ t → judge_params m before (param_pieces (a_line n (bs ++ x) w ∷ rest)) ≡ Some a
    by_end true e =
        let s = still_ends n bs x w e in
        judge_line m before (a_line n (bs ++ x) w) rest
        ∙ ended_tests (ltb line_limit (counted (a_line n bs false))) (ltb line_limit (counted (a_line n (bs ++ x) w)))
        (is_end (a_line n bs false)) (is_end (a_line n (bs ++ x) w))
        (Err (record { line = n; kind = kinds.TooLong })) (answer_at_end n before) None _ a
        (ap (ltb line_limit) s.counts) e s.ends (sym (judge_line m before (a_line n bs false) []) ∙ h)
    by_end false e =
        let size : counted (a_line n bs false) ≡ length bs - 0 =
        ap (λ (t : Bool). length bs - cond t (length (behind_word bs)) 0) e in
        judge_line m before (a_line n (bs ++ x) w) rest
        ∙ open_tests (ltb line_limit (counted (a_line n bs false))) (ltb line_limit (counted (a_line n (bs ++ x) w)))
        (is_end (a_line n bs false)) (is_end (a_line n (bs ++ x) w))
        (Err (record { line = n; kind = kinds.TooLong })) (answer_at_end n before) _ a
        (λ t. still_over n bs x w e (omega (arith, ltb-true _ _ t, size))) e
        (sym (judge_line m before (a_line n bs false) []) ∙ h)

-- ---- what is decided stays

kept_tests : (c e o : Bool) (x y : Answer) (z z' : Option Answer) (a : Answer) → (z ≡ Some a → z' ≡ Some a) →
    cond c (Some x) (cond e (Some y) (cond o None z)) ≡ Some a →
    cond c (Some x) (cond e (Some y) (cond o None z')) ≡ Some a
kept_tests false false false x y z z' a g h = g h
kept_tests _ _ _ x y z z' a g h = h

kept_after : (n : ℕ) (m : Meaning) (z z' : Option Answer) (a : Answer) → (z ≡ Some a → z' ≡ Some a) →
    after n m z ≡ Some a → after n m z' ≡ Some a
kept_after n (Faulty kind) z z' a g h = h
kept_after n _ z z' a g h = g h

module _ (n : ℕ) (bs x : List ℕ) (w : Bool) (rest : List Line) (a : Answer) where
  lines_stay : (front : List Line) (m : ℕ) (before : Settings) →
      judge_params m before (param_pieces (front ++ a_line n bs false ∷ [])) ≡ Some a →
      judge_params m before (param_pieces (front ++ a_line n (bs ++ x) w ∷ rest)) ≡ Some a
  lines_stay [] m before h = last_stays m n before bs x w rest a h
  lines_stay (l ∷ front) m before h =
      let means = line_means before (behind is_blank l.bytes) in
      let now = before ++ settings_of means in
      let old = judge_params l.number now (param_pieces (front ++ a_line n bs false ∷ [])) in
      let new = judge_params l.number now (param_pieces (front ++ a_line n (bs ++ x) w ∷ rest)) in
      judge_line m before l (front ++ a_line n (bs ++ x) w ∷ rest)
      ∙ kept_tests (ltb line_limit (counted l)) (is_end l) (not l.whole)
      (Err (record { line = l.number; kind = kinds.TooLong })) (answer_at_end l.number before)
      (after l.number means old)
      (after l.number means new) a
      (kept_after l.number means old new a (lines_stay front l.number now))
      (sym (judge_line m before l (front ++ a_line n bs false ∷ [])) ∙ h)

pub decided_stays : StaysDecided params_decided
unfolding params_decided
decided_stays bs a h e more =
    let g = lines_grow e bs more 1 in
    rw g.new (lines_stay g.number g.bytes g.more g.whole g.rest a g.front 1 [] (rw g.old at h))
