-- How a line of a solution text ends.
use Rattle.std.proofs.Common.{◌≡◌, ℕ, ◌+◌, Bool, true, false, List, [], ◌∷◌, ◌++◌, length, Some, refl}
use Rattle.std.proofs.lemmas.List.{append-nil}
use Rattle.tk_words.specs.declared.fault.TextKind.{TextKind}
use Rattle.tk_words.specs.declared.fault.TextKind.TheVariants as kinds
use Rattle.tk_lists.specs.declared.solution_handler.SolutionHandler.{SolutionHandler}
use Rattle.tk_lists.specs.declared.solution_reader.LinePlace.TheVariants as places
use Rattle.tk_words.specs.Lex.{Token, is_blank}
use Rattle.tk_lines.specs.Pieces.{Fault}
use Rattle.tk_lines.specs.Reader.Handlers.{whole}
use Rattle.tk_lines.specs.Reader.Places.{IsToken}
use Rattle.tk_lists.specs.Solution.{SolutionLine, Empty, Other, Route, has_cost, count_of, solid_line, line_stop}
use Rattle.tk_lists.specs.Solution.{customer_stop, cost_stop}
use Rattle.tk_lists.specs.Reader.SolutionReader.{Keeps, IsRoute, IsPriced, IsAtPlace, HasEndedLine, LineStopsAt}
use Rattle.tk_lists.specs.Reader.SolutionReader.{line_from}
use Rattle.tk_lines.proofs.Sections.SectionBytes.{first_token}
use Rattle.tk_lines.proofs.Sections.MiddleOfSection.{tokens_of-none, tokens_of-last}
use Rattle.tk_lists.proofs.SolutionLines.{keeps_line, customers_at}

module _ (s : SolutionHandler) (before : List SolutionLine) (held : List ℕ) (n : ℕ) (toks : List Token) where
  pub end_start : IsAtPlace s before held n toks places.Start →
      HasEndedLine before n (line_from n held toks places.Start [] true) s
  end_start at = record { fine = refl; keeps = keeps_line s before Empty refl refl refl at.1 }

  pub end_skip : IsAtPlace s before held n toks places.Skip →
      HasEndedLine before n (line_from n held toks places.Skip [] true) s
  end_skip at = record { fine = rw at.2 refl; keeps = keeps_line s before Other refl refl refl at.1 }

  pub end_other : Keeps s before [] → solid_line n true held ≡ Other → has_cost before ≡ true →
      HasEndedLine before n (line_from n held toks places.Word [] true) s
  end_other keeps other priced =
      rw (append-nil held, other)
      (record { fine = rw priced refl; keeps = keeps_line s before Other refl refl refl keeps })

  pub end_close : IsAtPlace s before held n toks places.Close →
      HasEndedLine before n (line_from n held toks places.Close [] true) s
  end_close at =
      rw (tokens_of-none true n, append-nil toks)
      (record { fine = rw (at.priced, at.fine true) refl; keeps = at.keeps })

  pub end_gap : IsRoute before toks → Keeps s (before ++ Route toks ∷ []) [] →
      HasEndedLine before n (line_from n held toks places.Gap [] true) s
  end_gap may keeps =
      rw (tokens_of-none true n, append-nil toks) (record { fine = rw (may.may n, may.fine) refl; keeps = keeps })

  pub end_customer : IsToken held → IsRoute before (toks ++ whole held n ∷ []) →
      Keeps s (before ++ Route (toks ++ whole held n ∷ []) ∷ []) [] →
      HasEndedLine before n (line_from n held toks places.Customer [] true) s
  end_customer token may keeps =
      rw (append-nil held, tokens_of-last n held token.0)
      (record { fine = rw (may.may n, may.fine) refl; keeps = keeps })

  pub end_customer_stops : IsToken held → IsRoute before toks → (k : TextKind) →
      customer_stop (count_of before + length toks) (whole held n) ≡ Some (Fault n k) →
      line_stop before n true (line_from n held toks places.Customer [] true) ≡ Some (Fault n k)
  end_customer_stops token may k stop =
      rw (append-nil held, tokens_of-last n held token.0, may.may n)
      (customers_at (count_of before) toks [] (whole held n) (Fault n k) may.fine stop)

  pub end_digits : IsToken held → IsPriced s before n (whole held n ∷ []) →
      HasEndedLine before n (line_from n held toks places.Digits [] true) s
  end_digits token at =
      rw (append-nil held, tokens_of-last n held token.0)
      (record { fine = rw (at.priced, at.fine true) refl; keeps = at.keeps })

  pub end_digits_stops : IsToken held → has_cost before ≡ false → (k : TextKind) →
      ((ended : Bool) (ts : List Token) → cost_stop n ended (whole held n ∷ ts) ≡ Some (Fault n k)) →
      line_stop before n true (line_from n held toks places.Digits [] true) ≡ Some (Fault n k)
  end_digits_stops token unpriced k stop = rw (append-nil held, tokens_of-last n held token.0, unpriced) (stop true [])

  pub end_colon_stops : has_cost before ≡ false →
      line_stop before n true (line_from n held toks places.Colon [] true) ≡ Some (Fault n kinds.BadNumber)
  end_colon_stops unpriced = rw (tokens_of-none true n, unpriced) refl

  pub close_stops : (b : ℕ) → is_blank b ≡ false → IsAtPlace s before held n toks places.Close →
      LineStopsAt before n b (line_from n held toks places.Close) kinds.TrailingData
  close_stops b solid at bs w = let u = first_token w n b bs solid in rw (u.is, at.priced) (at.trailing w _ u.rest)
