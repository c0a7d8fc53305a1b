-- What a text says where its bytes end, wherever a reader stands.
use Rattle.std.proofs.Common.{◌≡◌, ℕ, ◌≤◌, Bool, true, false, List, [], ◌∷◌, ◌++◌, length, Option, Some, None}
use Rattle.std.proofs.Common.{Result, Err, refl, sym, ap, subst, ◌∙◌, arith}
use Rattle.std.proofs.lemmas.Bool.{not-true}
use Rattle.std.proofs.lemmas.List.{append-nil}
use Rattle.tk_words.specs.declared.keyword.Keyword.{Keyword}
use Rattle.tk_words.specs.declared.fault.TextKind.{TextKind}
use Rattle.tk_words.specs.declared.fault.TextFault.{TextFault}
use Rattle.tk_lines.specs.declared.value_scanner.ValueScanner.{ValueScanner}
use Rattle.tk_lines.specs.declared.reader.PieceReader.{PieceReader}
use Rattle.tk_lines.specs.declared.line_state.LineState.{LineState}
use Rattle.tk_lines.specs.declared.line_state.LineState.TheVariants as places
use Rattle.tk_words.specs.Lex.{Line, Token, lines, is_word_byte}
use Rattle.tk_lines.specs.Pieces.{Piece, Clean, Early, Fault, Format, cut, judge, end_piece, stopped, ended, decided_by}
use Rattle.tk_lines.specs.Reader.FromMiddle.{from_line}
use Rattle.tk_words.specs.Texts.{cause_of}
use Rattle.tk_lines.specs.Reader.Handlers.{Promise, a_header, a_section}
use Rattle.tk_lines.specs.Reader.Places.{Next, Within, anything, no_word, a_gap, a_line_end, at_end, DecidesIf, AtLine}
use Rattle.tk_lines.specs.Reader.Places.{AtTail}
use Rattle.tk_lines.specs.Reader.Places.{AtValue, AtBegin, AtToken, AtClose, AtAfter, AtPlace, HeaderTaken, AtEnd, Fed}
use Rattle.tk_lines.specs.Reader.Steps.{EndsPlace, IsSettled, IsAnswered, IsFaultWith, Waits}
use Rattle.tk_words.proofs.ReportedFaults.{reported_of}
use Rattle.tk_lines.proofs.MiddleOfLine.{prepend-nil}
use Rattle.tk_lines.proofs.KnownWordLines.{word_ends_behind, from_line-last}
use Rattle.tk_lines.proofs.Sections.SectionEnds.{First, alone_clean, alone_extent}
use Rattle.tk_lines.proofs.Sections.SectionBytes.{from_line-tokens, first_same, plain_after, plain}
use Rattle.tk_lines.proofs.Endings.TextEnds.{at_none, from_line-end, in_section-end, in_section-shut, open_start}
use Rattle.tk_lines.proofs.Endings.TextEnds.{open_word, open_value_law, open_gap, open_token, open_close, open_after}
use Rattle.tk_lines.proofs.Endings.AfterMinusOne.{open_minus_one}
use Rattle.tk_lines.proofs.Sections.SectionSteps.{begin_plain}

-- ---- the end of the bytes ends a word, a token and a line

end_within : (other : Next) → ((e : Bool) → e ≡ true → other e [] ≡ true) → Within at_end other
end_within other h e [] n = h e n
end_within other h e (b ∷ more) n = absurd cc

pub end_in_gap : Within at_end a_gap
end_in_gap = end_within a_gap (λ e n. n)

pub end_in_no_word : Within at_end no_word
end_in_no_word = end_within no_word (λ e n. n)

pub end_in_line_end : Within at_end a_line_end
end_in_line_end = end_within a_line_end (λ e n. n)

-- the end of the bytes ends what is open at a place
pub end_closes : (place : LineState) → EndsPlace at_end place
end_closes places.Word = end_in_no_word
end_closes places.Token = end_in_gap
end_closes (places.MinusOne o) = end_in_gap
end_closes _ = tt

-- ---- what is decided there

module _ {V : Type 0} (f : Format V) (bs : List ℕ) where
  ended_by : (x : Option (Result V TextFault)) → decided_by f true (bs ++ []) ≡ x → decided_by f true bs ≡ x
  ended_by x h = ap (decided_by f true) (sym (append-nil bs)) ∙ h

  pub decides_ended : (a : Result V TextFault) → DecidesIf f at_end bs a → IsAnswered f bs a
  decides_ended a h = ended_by (Some a) (h true [] refl)

  pub reported_ended : (r : TextFault) → IsFaultWith (DecidesIf f at_end bs) r → IsFaultWith (IsAnswered f bs) r
  reported_ended r h =
      reported_of ⊥ (λ e. DecidesIf f at_end bs (Err e)) (λ e. IsAnswered f bs (Err e)) r (cause_of r.kind)
      (decides_ended (Err r)) h

-- ---- where nothing is open

module _ {V S : Type 0} (f : Format V) (H : S → List Piece → Type 0)
    (W : S → List Piece → Keyword → ℕ → List Token → Type 0) (form : S) (line : ℕ) (bs : List ℕ) where
  pub end_line : AtLine f H at_end form line [] bs → AtEnd f H form line bs
  end_line a =
      record {
        before = a.before;
        holds = a.holds;
        same = ended_by f bs _ (a.same true [] refl)
            ∙ from_line-end f a.before true line a.upto a.lt;
      }

  pub end_close : AtClose f H at_end form line bs → AtEnd f H form line bs
  end_close a = record {
    before = a.before ++ a_section a.word a.first a.toks Clean;
    holds = a.holds;
    same = ended_by f bs _ (a.same true [] refl)
        ∙ in_section-shut f a.before true line a.word a.first a.toks (a.closed.extent []) a.closed.clean;
  }

  pub end_after : (o : Bool) → AtAfter f H at_end form line o [] bs → AtEnd f H form line bs
  end_after o a = record {
    before = a.before ++ a_section a.word a.first a.toks Clean;
    holds = subst (λ (ts : List Token). H form (a.before ++ a_section a.word a.first ts Clean)) (append-nil a.toks)
        (a.holds []);
    same = ended_by f bs _ (a.same true [] refl) ∙ in_section-shut f a.before true line a.word a.first a.toks
        (alone_extent a.ends [] refl) (alone_clean a.ends);
  }

  pub end_header : (held : List ℕ) (word : Keyword) → HeaderTaken f H at_end form line held word bs →
      AtEnd f H form line bs
  end_header held word a = record {
    before = a.before ++ a_header word a.tail line;
    holds = a.holds;
    same = ended_by f bs _ (a.at.same true [] refl)
        ∙ from_line-last f a.before a.at.upto held a.tail line a.at.lt a.at.is_word word a.at.word_is a.header
        (subst (λ (x : List ℕ). no_word true x ≡ true) (append-nil a.tail) (a.at.settled true [] refl))
        ∙ rw a.none refl;
  }

  -- after a section's word, its tokens begin
  pub end_begin : (held : List ℕ) → AtBegin f W at_end form line held bs → AtToken f W at_end form line [] bs
  end_begin held = begin_plain (end_within plain (λ e n. n))

  section_ended : (a : AtToken f W at_end form line [] bs) →
      decided_by f true bs ≡ stopped (f.section a.before a.word a.first a.toks (Early line true))
      (ended f (a.before ++ a_section a.word a.first a.toks (Early line true)) line true
      (f.at_end (a.before ++ a_section a.word a.first a.toks (Early line true))))
  section_ended a = ended_by f bs _ (a.same true [] refl)
      ∙ in_section-end f a.before true line a.word a.first a.toks a.goes.ends

  pub end_section : (form' : S) (a : AtToken f W at_end form line [] bs) →
      H form' (a.before ++ a_section a.word a.first a.toks (Early line true)) →
      f.section a.before a.word a.first a.toks (Early line true) ≡ None → AtEnd f H form' line bs
  end_section form' a holds none = record {
    before = a.before ++ a_section a.word a.first a.toks (Early line true);
    holds = holds;
    same = section_ended a ∙ rw none refl;
  }

  pub end_section_err : (k : TextKind) (a : AtToken f W at_end form line [] bs) →
      f.section a.before a.word a.first a.toks (Early line true) ≡ Some (Fault line k) →
      IsAnswered f bs (Err (record { line = line; kind = k }))
  end_section_err k a stops = section_ended a ∙ rw stops refl

-- no value, no section and nothing else is open
pub nothing_open : {V S : Type 0} (f : Format V) (H : S → List Piece → Type 0)
    (W : S → List Piece → Keyword → ℕ → List Token → Type 0) (form : S) (line : ℕ) (held : List ℕ) (scan : ValueScanner)
    (bs : List ℕ) (place : LineState) → IsSettled place → ((word : Keyword) → place ≡ places.Value word → ⊥) →
    (place ≡ places.Begin → ⊥) → (place ≡ places.Gap → ⊥) → AtPlace f H W at_end form line held scan bs place →
    AtEnd f H form line bs
nothing_open f H W form line held scan bs places.Start settled v b g at = end_line f H W form line bs at
nothing_open f H W form line held scan bs (places.Value word) settled v b g at = absurd (v word refl)
nothing_open f H W form line held scan bs places.Begin settled v b g at = absurd (b refl)
nothing_open f H W form line held scan bs places.Gap settled v b g at = absurd (g refl)
nothing_open f H W form line held scan bs places.Close settled v b g at = end_close f H W form line bs at
nothing_open f H W form line held scan bs (places.After o) settled v b g at = end_after f H W form line bs o at
nothing_open f H W form line held scan bs _ settled v b g at = absurd settled

-- ---- where more may follow, nothing is decided

module _ {V S : Type 0} (f : Format V) (H : S → List Piece → Type 0)
    (W : S → List Piece → Keyword → ℕ → List Token → Type 0) (form : S) (line : ℕ) (held : List ℕ) (scan : ValueScanner)
    (bs : List ℕ) where
  open_value : (word : Keyword) → AtValue f H anything form line held word scan bs → decided_by f false bs ≡ None
  open_value word a = by_tail a.tail a.at a.short
    where
      by_tail : (tail : List ℕ) → AtTail f anything line held word a.before tail bs → length tail ≤ 4096 →
          decided_by f false bs ≡ None
      by_tail [] at short = absurd (let k = at.settled false [] refl in cc)
      by_tail (d ∷ ds) at short =
          at_none f form line bs _ (at.same false [] refl)
          (open_value_law f form line bs a.before at.upto held d ds word at.lt at.is_word
          (not-true (is_word_byte d) (at.settled false [] refl)) at.word_is a.header short)

  no_first : First false line []
  unfolding lines
  no_first = record { bytes = []; whole = false; rest = []; is = refl }

  pub open_begin : AtBegin f W anything form line held bs → decided_by f false bs ≡ None
  unfolding no_first
  open_begin a =
      let ends : no_word false (a.tail ++ []) ≡ true = a.at.settled false [] refl in
      let k = (word_ends_behind a.tail false line [] ends).first in
      let none : k.bytes ≡ [] = (first_same false line [] k no_first).0 in
      at_none f form line bs _ (a.at.same false [] refl)
      (from_line-tokens f a.before a.at.upto held a.tail false line [] a.at.lt a.at.is_word ends a.word a.at.word_is
      a.section [] k refl refl (plain_after a.tail k.bytes a.blank (rw none tt))
      ∙ in_section-end f a.before false line a.word line [] a.goes.ends ∙ rw (a.goes.early line) refl)

  pub open_place : (p : LineState) → AtPlace f H W anything form line held scan bs p → decided_by f false bs ≡ None
  open_place places.Start a = open_start f form line bs H a
  open_place places.Word a = open_word f form line bs H held a.0 a.1
  open_place (places.Value word) a = open_value word a
  open_place places.Begin a = open_begin a
  open_place places.Gap a = open_gap f form line bs W a
  open_place places.Token a = open_token f form line bs W held a.0.0 a.0.1 a.1
  open_place places.Close a = open_close f form line bs H a
  open_place (places.After o) a = open_after f form line bs H o a
  open_place (places.MinusOne o) a = open_minus_one f H form line held bs o a.0.0 a.0.1 a.1

-- ---- the first byte

pub from_first : {V S : Type 0} (f : Format V) (H : S → List Piece → Type 0) (form : S) → H form [] →
    AtLine f H anything form 1 [] []
unfolding decided_by from_line
from_first f H form holds = record {
  before = [];
  upto = 0;
  holds = holds;
  lt = omega arith;
  same = λ e more n. ap (λ (ls : List Line). judge f [] (cut f.extent [] 0 ls ++ end_piece (lines e 1 more)))
      (sym (prepend-nil (lines e 1 more)));
}

-- ---- a step, as the driver asks it

-- what a reader has taken decides nothing
pub fed_waits : {V S : Type 0} {p : Promise V S} {reader : PieceReader S} {bs : List ℕ} → Fed p anything reader bs →
    Waits p reader bs
fed_waits {p = p} {reader = reader} {bs = bs} fed =
    record {
      fed = fed;
      undecided = open_place p.format p.holds p.wants reader.form reader.line reader.held reader.scan bs reader.place
          fed.at;
    }
