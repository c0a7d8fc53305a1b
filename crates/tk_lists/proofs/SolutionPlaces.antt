-- What a solution text says, wherever a reader stands.
use Rattle.std.proofs.Common.{◌≡◌, ℕ, suc, ◌+◌, ◌≤◌, Bool, true, false, cond, eqb, ltb, List, [], ◌∷◌, ◌++◌, length}
use Rattle.std.proofs.Common.{Some, None, Err, refl, arith}
use Rattle.std.proofs.lemmas.Bool.{le-ltb}
use Rattle.std.proofs.lemmas.List.{append-nil}
use Rattle.tk_words.specs.declared.fault.TextKind.{TextKind}
use Rattle.tk_lists.specs.declared.route_head.HeadPlace.{HeadPlace}
use Rattle.tk_lists.specs.declared.route_head.HeadPlace.TheVariants as heads
use Rattle.tk_lists.specs.declared.solution_handler.SolutionHandler.{SolutionHandler}
use Rattle.tk_lists.specs.declared.solution_reader.LinePlace.{LinePlace}
use Rattle.tk_lists.specs.declared.solution_reader.LinePlace.TheVariants as places
use Rattle.tk_words.specs.Lex.{LF, Token, lines, is_word_byte}
use Rattle.tk_lines.specs.Pieces.{Open, Fault, stopped}
use Rattle.tk_lists.specs.Solution.{Solution, Short, SolutionLine, Unsure, solid_line, line_stop, solution_at_end}
use Rattle.tk_lists.specs.Solution.{judge_lines, count_of, customer_stop}
use Rattle.tk_lists.specs.Reader.SolutionReader.{head_from, IsHead, line_from, IsLineWord, IsAtPlace, from}
use Rattle.tk_lines.proofs.MiddleOfLine.{lines-byte, lines-LF}
use Rattle.tk_lines.proofs.Sections.SectionEnds.{first_line}
use Rattle.tk_lines.proofs.Headers.ByteRuns.{front-whole}
use Rattle.tk_lines.proofs.Endings.TextEnds.{tokens_of-open}
use Rattle.tk_lines.proofs.Sections.MiddleOfSection.{tokens_of-none}
use Rattle.tk_lists.proofs.SolutionLines.{customers_at}

module _ (before : List SolutionLine) (g : List ℕ → Bool → SolutionLine) (n : ℕ) where
  -- a byte more on the line
  pub from_byte : (h : List ℕ → Bool → SolutionLine) (e : Bool) (b : ℕ) (bs : List ℕ) → eqb b LF ≡ false →
      ((y : List ℕ) (w : Bool) → g (b ∷ y) w ≡ h y w) →
      from before g (lines e n (b ∷ bs)) ≡ from before h (lines e n bs)
  unfolding from
  from_byte h e b bs other same = let k = first_line e n bs in
      rw (lines-byte e n b bs other, k.is, same k.bytes k.whole) refl

  -- a line at which something stops, whatever follows a byte
  pub from_stops : (e : Bool) (b : ℕ) (bs : List ℕ) (k : TextKind) → eqb b LF ≡ false →
      ((y : List ℕ) (w : Bool) → line_stop before n w (g (b ∷ y) w) ≡ Some (Fault n k)) →
      from before g (lines e n (b ∷ bs)) ≡ Some (Err (record { line = n; kind = k }))
  unfolding from
  from_stops e b bs k other stops = let f = first_line e n bs in
      rw (lines-byte e n b bs other, f.is, stops f.bytes f.whole) refl

  -- the end of the line
  pub from_LF : (e : Bool) (bs : List ℕ) → line_stop before n true (g [] true) ≡ None →
      from before g (lines e n (LF ∷ bs)) ≡ from (before ++ g [] true ∷ []) (line_from (n + 1) [] [] places.Start)
      (lines e (n + 1) bs)
  unfolding from judge_lines
  from_LF e bs none =
      let next : suc n ≡ n + 1 = omega arith in
      let k = first_line e (n + 1) bs in
      rw (lines-LF e n bs, none, next, k.is) refl

  pub from_LF_stops : (e : Bool) (bs : List ℕ) (k : TextKind) → line_stop before n true (g [] true) ≡ Some (Fault n k) →
      from before g (lines e n (LF ∷ bs)) ≡ Some (Err (record { line = n; kind = k }))
  unfolding from
  from_LF_stops e bs k stop = rw (lines-LF e n bs, stop) refl

  -- the end of the bytes
  pub from_end : line_stop before n true (g [] true) ≡ None →
      from before g (lines true n []) ≡ solution_at_end (before ++ g [] true ∷ []) n true
  unfolding from lines judge_lines
  from_end none = rw none refl

  pub from_end_stops : (k : TextKind) → line_stop before n true (g [] true) ≡ Some (Fault n k) →
      from before g (lines true n []) ≡ Some (Err (record { line = n; kind = k }))
  unfolding from lines
  from_end_stops k stop = rw stop refl

  pub from_open : stopped {V = Solution} (line_stop before n false (g [] false)) None ≡ None →
      from before g (lines false n []) ≡ None
  unfolding from lines judge_lines
  from_open waiting = waiting

-- ---- where more bytes decide

abbrev Waits : List SolutionLine → ℕ → SolutionLine → Type 0
Waits before n l = stopped {V = Solution} (line_stop before n false l) None ≡ None

pub short_head : (p : HeadPlace) → IsHead p → head_from p [] ≡ Short
short_head (heads.Digits k) h =
    let few : ltb 18 (k + 0) ≡ false = le-ltb _ _ (omega (arith, h)) in
    rw few (same (eqb (k + 0) 0))
  where
    same : (t : Bool) → cond t Short Short ≡ Short
    same true = refl
    same false = refl
short_head _ h = refl

solid_open : (n : ℕ) (held : List ℕ) → IsLineWord held → solid_line n false held ≡ Unsure
solid_open n [] word = absurd (omega (arith, word.0))
solid_open n (b ∷ t) word = rw (front-whole is_word_byte (b ∷ t) word.1.0, word.1.0, word.1.1) refl

customer_open : (k n : ℕ) (held : List ℕ) → length held ≤ 64 →
    customer_stop k (record { bytes = held; line = n; whole = false }) ≡ Some Open
customer_open k n held short = let test : ltb 64 (length held) ≡ false = le-ltb _ _ short in rw test refl

pub waits : (s : SolutionHandler) (before : List SolutionLine) (held : List ℕ) (n : ℕ) (toks : List Token)
    (p : LinePlace) → IsAtPlace s before held n toks p → Waits before n (line_from n held toks p [] false)
waits s before held n toks places.Start at = refl
waits s before held n toks places.Word at = rw (append-nil held, solid_open n held at.2) refl
waits s before held n toks places.Skip at = rw at.2 refl
waits s before held n toks (places.Head p) at = rw (short_head p at.3, at.2.may n) refl
waits s before held n toks places.Gap at = rw (tokens_of-none false n, append-nil toks, at.1.may n, at.1.fine) refl
waits s before held n toks places.Customer at =
    rw (
      append-nil held,
      tokens_of-open n held at.2.0,
      at.1.may n,
      customers_at (count_of before) toks [] _ Open at.1.fine
          (customer_open (count_of before + length toks) n held at.2.1),
    ) refl
waits s before held n toks places.Colon at = rw (tokens_of-none false n, at.2) refl
waits s before held n toks places.Price at = rw (tokens_of-none false n, at.2) refl
waits s before held n toks places.Digits at =
    let test : ltb 64 (length held) ≡ false = le-ltb _ _ at.3.1 in
    rw (append-nil held, tokens_of-open n held at.3.0, at.2, test) refl
waits s before held n toks places.Close at = rw (tokens_of-none false n, append-nil toks, at.priced, at.fine false) refl
