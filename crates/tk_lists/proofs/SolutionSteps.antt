-- What a byte does on a line of a solution text.
use Rattle.std.proofs.Common.{◌≡◌, ℕ, ◌+◌, ◌<◌, Bool, true, false, ltb, List, [], ◌∷◌, ◌++◌, length, Some, Result}
use Rattle.std.proofs.Common.{IfOk, IfErr, refl, sym, ap, ◌∙◌, append_assoc, arith}
use Rattle.std.proofs.lemmas.Bool.{lt-ltb}
use Rattle.std.proofs.lemmas.List.{length-append}
use Rattle.std.proofs.lemmas.Result.{IfOk-weaker, IfErr-weaker}
use Rattle.tk_words.specs.declared.fault.TextKind.{TextKind}
use Rattle.tk_words.specs.declared.fault.TextKind.TheVariants as kinds
use Rattle.tk_lists.specs.declared.solution_reader.LinePlace.TheVariants as places
use Rattle.tk_lists.specs.declared.solution_reader.SolutionReader.{SolutionReader}
use Rattle.tk_words.specs.Lex.{Token, tokens_of, is_blank}
use Rattle.tk_lines.specs.Pieces.{Fault}
use Rattle.tk_lines.specs.Reader.Handlers.{IsReportedWord, whole}
use Rattle.tk_lines.specs.Reader.Places.{IsToken}
use Rattle.tk_lists.specs.Solution.{SolutionLine, Route, Cost, has_cost, count_of, customer_stop, cost_stop}
use Rattle.tk_lists.specs.Reader.SolutionReader.{IsRoute, line_from, Went, LineStopsAt}
use Rattle.tk_lines.proofs.Pieces.ReportedFaults.{reported_word}
use Rattle.tk_lines.proofs.Sections.SectionSteps.{run_more}
use Rattle.tk_lines.proofs.Sections.SectionBytes.{Front, front_token}
use Rattle.tk_lines.proofs.Sections.MiddleOfSection.{tokens_of-run}
use Rattle.tk_lists.proofs.SolutionLines.{customers_at}

-- the same line, reported in two ways
module _ (before : List SolutionLine) (n b : ℕ) (g h : List ℕ → Bool → SolutionLine)
    (same : (bs : List ℕ) (w : Bool) → h (b ∷ bs) w ≡ g (b ∷ bs) w) where
  pub went_same : (s : SolutionReader) → Went before b g s → Went before b h s
  went_same s went =
      record { toks = went.toks; stands = went.stands; same = λ bs w. same bs w ∙ went.same bs w }

  stops_same : (k : TextKind) → LineStopsAt before n b g k → LineStopsAt before n b h k
  stops_same k stops bs w = rw (same bs w) (stops bs w)

  pub ok_same : {T : Type 0} (r : Result T TextKind) (s : SolutionReader) →
      IfOk r (λ _. Went before b g s) → IfOk r (λ _. Went before b h s)
  ok_same r s = IfOk-weaker r _ _ (λ _. went_same s)

  pub err_same : {T : Type 0} (r : Result T TextKind) →
      IfErr r (IsReportedWord (LineStopsAt before n b g)) → IfErr r (IsReportedWord (LineStopsAt before n b h))
  err_same r =
      IfErr-weaker r _ _ (λ k. reported_word (LineStopsAt before n b g) (LineStopsAt before n b h) k (stops_same k))

-- a token that was full, and one byte more
record IsLong (n b : ℕ) (held bs : List ℕ) (w : Bool) : Type 0 where
  token : Front (held ++ b ∷ []) n (tokens_of w n ((held ++ b ∷ []) ++ bs))
  long : ltb 64 (length ((held ++ b ∷ []) ++ token.bytes)) ≡ true

long_token : (n b : ℕ) (held : List ℕ) → is_blank b ≡ false → IsToken held → length held ≡ 64 → (bs : List ℕ)
    (w : Bool) → IsLong n b held bs w
long_token n b held solid token full bs w =
    let u = front_token w n (held ++ b ∷ []) bs (run_more held b token.0 solid) in
    record {
      token = u;
      long =
          lt-ltb _ _ (omega (arith, full, length-append (held ++ b ∷ []) u.bytes, length-append held (b ∷ [])));
    }

module _ (before : List SolutionLine) (n b : ℕ) (held : List ℕ) (toks : List Token) where
  -- a blank after a token
  split : is_blank b ≡ true → IsToken held → (bs : List ℕ) (w : Bool) →
      toks ++ tokens_of w n (held ++ b ∷ bs) ≡ (toks ++ whole held n ∷ []) ++ tokens_of w n bs
  split blank token bs w = ap (λ (ts : List Token). toks ++ ts) (tokens_of-run w n held b bs token.0 blank)
      ∙ sym (append_assoc toks (whole held n ∷ []) (tokens_of w n bs))

  pub customer_same : is_blank b ≡ true → IsToken held → (bs : List ℕ) (w : Bool) →
      line_from n held toks places.Customer (b ∷ bs) w ≡ line_from n [] (toks ++ whole held n ∷ []) places.Gap bs w
  customer_same blank token bs w = ap Route (split blank token bs w)

  pub customer_more : (bs : List ℕ) (w : Bool) →
      line_from n held toks places.Customer (b ∷ bs) w ≡ line_from n (held ++ b ∷ []) toks places.Customer bs w
  customer_more bs w = ap (λ (x : List ℕ). Route (toks ++ tokens_of w n x)) (sym (append_assoc held (b ∷ []) bs))

  pub customer_stops : is_blank b ≡ true → IsToken held → IsRoute before toks → (k : TextKind) →
      customer_stop (count_of before + length toks) (whole held n) ≡ Some (Fault n k) →
      LineStopsAt before n b (line_from n held toks places.Customer) k
  customer_stops blank token may k stop bs w =
      rw (tokens_of-run w n held b bs token.0 blank, may.may n)
      (customers_at (count_of before) toks (tokens_of w n bs) (whole held n) (Fault n k) may.fine stop)

  pub customer_long : is_blank b ≡ false → IsToken held → IsRoute before toks → length held ≡ 64 →
      LineStopsAt before n b (line_from n held toks places.Customer) kinds.TooLong
  customer_long solid token may full bs w =
      let l = long_token n b held solid token full bs w in
      let u = l.token in
      let t : Token = record { bytes = (held ++ b ∷ []) ++ u.bytes; line = n; whole = u.whole } in
      let stop : customer_stop (count_of before + length toks) t ≡ Some (Fault n kinds.TooLong) = rw l.long refl in
      rw (← append_assoc held (b ∷ []) bs, u.is, may.may n)
      (customers_at (count_of before) toks u.rest t (Fault n kinds.TooLong) may.fine stop)

  pub token_grows : is_blank b ≡ false → IsToken held → length held < 64 → IsToken (held ++ b ∷ [])
  token_grows solid token short = (run_more held b token.0 solid, omega (arith, short, length-append held (b ∷ [])))

module _ (before : List SolutionLine) (n b : ℕ) (held : List ℕ) where
  pub cost_same : is_blank b ≡ true → IsToken held → (bs : List ℕ) (w : Bool) →
      line_from n held [] places.Digits (b ∷ bs) w ≡ line_from n [] (whole held n ∷ []) places.Close bs w
  cost_same blank token bs w = ap Cost (tokens_of-run w n held b bs token.0 blank)

  pub cost_more : (bs : List ℕ) (w : Bool) →
      line_from n held [] places.Digits (b ∷ bs) w ≡ line_from n (held ++ b ∷ []) [] places.Digits bs w
  cost_more bs w = ap (λ (x : List ℕ). Cost (tokens_of w n x)) (sym (append_assoc held (b ∷ []) bs))

  pub cost_stops : is_blank b ≡ true → IsToken held → has_cost before ≡ false → (k : TextKind) →
      ((w : Bool) (ts : List Token) → cost_stop n w (whole held n ∷ ts) ≡ Some (Fault n k)) →
      LineStopsAt before n b (line_from n held [] places.Digits) k
  cost_stops blank token unpriced k stop bs w =
      rw (tokens_of-run w n held b bs token.0 blank, unpriced) (stop w (tokens_of w n bs))

  pub cost_long : is_blank b ≡ false → IsToken held → has_cost before ≡ false → length held ≡ 64 →
      LineStopsAt before n b (line_from n held [] places.Digits) kinds.TooLong
  cost_long solid token unpriced full bs w =
      let l = long_token n b held solid token full bs w in
      rw (← append_assoc held (b ∷ []) bs, l.token.is, unpriced, l.long) refl
