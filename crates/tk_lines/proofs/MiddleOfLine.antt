-- What a text says from the middle of a line on.
use Rattle.std.proofs.Common.{◌≡◌, ℕ, suc, ◌<◌, Bool, true, false, eqb, leb, List, [], ◌∷◌, ◌++◌, refl, sym, ap}
use Rattle.std.proofs.Common.{subst, ◌∙◌, append_assoc}
use Rattle.std.proofs.lemmas.List.{append-nil}
use Rattle.std.proofs.lemmas.Bool.{lt-leb}
use Rattle.tk_words.specs.Lex.{LF, Line, onto_line, lines, is_blank, front, behind}
use Rattle.tk_lines.specs.Pieces.{Piece, pieces_at, covered, cut, end_token, end_piece, Format, judge}
use Rattle.tk_lines.specs.Reader.FromMiddle.{ending, prepend, from_line}
use Rattle.tk_lines.proofs.Headers.ByteRuns.{behind-on, front-on}

abbrev pub with_bytes : Line → List ℕ → Line
with_bytes l x = record { number = l.number; bytes = x; whole = l.whole }

pub prepend-nil : (ls : List Line) → prepend [] ls ≡ ls
prepend-nil [] = refl
prepend-nil (l ∷ ls) = refl

pub prepend-onto : (pre : List ℕ) (b : ℕ) (ls : List Line) → prepend pre (onto_line b ls) ≡ prepend (pre ++ b ∷ []) ls
prepend-onto pre b [] = refl
prepend-onto pre b (l ∷ ls) = ap (λ (x : List ℕ). with_bytes l x ∷ ls) (sym (append_assoc pre (b ∷ []) l.bytes))

pub end_token-bytes : (l : Line) (x : List ℕ) (ls : List Line) →
    end_token (record { number = l.number; bytes = x; whole = l.whole }) ls ≡ end_token l ls
end_token-bytes l x [] = refl
end_token-bytes l x (k ∷ ls) = refl

pub end_piece-onto : (b : ℕ) (ls : List Line) → end_piece (onto_line b ls) ≡ end_piece ls
end_piece-onto b [] = refl
end_piece-onto b (l ∷ ls) = ap ending (end_token-bytes l (b ∷ l.bytes) ls)

pub lines-byte : (e : Bool) (n b : ℕ) (bs : List ℕ) → eqb b LF ≡ false → lines e n (b ∷ bs) ≡ onto_line b (lines e n bs)
unfolding lines
lines-byte e n b bs h = rw h refl

pub lines-LF : (e : Bool) (n : ℕ) (bs : List ℕ) → lines e n (LF ∷ bs) ≡ record { number = n; bytes = []; whole = true }
    ∷ lines e (suc n) bs
unfolding lines
lines-LF e n bs = refl

-- a line and others; the first has this number
pub record IsCons (n : ℕ) (ls : List Line) : Type 0 where
  pub first : Line
  pub numbered : first.number ≡ n
  pub rest : List Line
  pub is : ls ≡ first ∷ rest

onto_cons : (b n : ℕ) (ls : List Line) → IsCons n ls → IsCons n (onto_line b ls)
onto_cons b n ls c =
    record {
      first = with_bytes c.first (b ∷ c.first.bytes);
      numbered = c.numbered;
      rest = c.rest;
      is = ap (onto_line b) c.is;
    }

lines_cons_if : (e : Bool) (n b : ℕ) (bs : List ℕ) (t : Bool) → eqb b LF ≡ t → ((m : ℕ) → IsCons m (lines e m bs)) →
    IsCons n (lines e n (b ∷ bs))
unfolding lines
lines_cons_if e n b bs true h ih =
    record {
      first = record { number = n; bytes = []; whole = true };
      numbered = refl;
      rest = lines e (suc n) bs;
      is = rw h refl;
    }
lines_cons_if e n b bs false h ih = subst (IsCons n) (sym (lines-byte e n b bs h)) (onto_cons b n (lines e n bs) (ih n))

pub lines_cons : (e : Bool) (bs : List ℕ) (n : ℕ) → IsCons n (lines e n bs)
unfolding lines
lines_cons e [] n =
    record { first = record { number = n; bytes = []; whole = e }; numbered = refl; rest = []; is = refl }
lines_cons e (b ∷ bs) n = lines_cons_if e n b bs (eqb b LF) refl (λ m. lines_cons e bs m)

pub end_piece-LF : (e : Bool) (n : ℕ) (bs : List ℕ) → end_piece (lines e n (LF ∷ bs)) ≡ end_piece (lines e (suc n) bs)
end_piece-LF e n bs =
    let c = lines_cons e bs (suc n) in
    rw (lines-LF, c.is) refl

-- ---- runs of bytes

-- where something comes after a run, more bytes come after that, and the run stays
pub behind-more : (p : ℕ → Bool) (xs more : List ℕ) (c : ℕ) (cs : List ℕ) → behind p xs ≡ c ∷ cs →
    behind p (xs ++ more) ≡ (c ∷ cs) ++ more
behind-more p xs more c cs h = behind-on p xs more (rw h (λ x. x)) ∙ ap (λ (ys : List ℕ). ys ++ more) h

pub front-more : (p : ℕ → Bool) (xs more : List ℕ) (c : ℕ) (cs : List ℕ) → behind p xs ≡ c ∷ cs →
    front p (xs ++ more) ≡ front p xs
front-more p xs more c cs h = front-on p xs more (rw h (λ x. x))

module _ {V : Type 0} (f : Format V) where
  pub from_line-byte : (before : List Piece) (upto : ℕ) (pre : List ℕ) (e : Bool) (n b : ℕ) (bs : List ℕ) →
      eqb b LF ≡ false → from_line f before upto pre e n (b ∷ bs) ≡ from_line f before upto (pre ++ b ∷ []) e n bs
  unfolding from_line
  from_line-byte before upto pre e n b bs h =
      rw (lines-byte e n b bs h, prepend-onto pre b (lines e n bs), end_piece-onto b (lines e n bs)) refl

  -- a whole line, of which `new` are the pieces
  pub from_line-LF : (before new : List Piece) (upto : ℕ) (pre : List ℕ) (e : Bool) (n : ℕ) (bs : List ℕ) → upto < n
      → pieces_at f.extent before (record { number = n; bytes = pre; whole = true }) (lines e (suc n) bs)
      (behind is_blank pre) ≡ new
      → from_line f before upto pre e n (LF ∷ bs) ≡ judge f before
      (new ++ (cut f.extent (before ++ new) (covered upto new) (lines e (suc n) bs))
      ++ end_piece (lines e (suc n) bs))
  unfolding from_line cut
  from_line-LF before new upto pre e n bs lt h =
      let later : leb n upto ≡ false = lt-leb _ _ lt in
      rw (end_piece-LF e n bs, lines-LF e n bs, append-nil pre, later, h) refl

  pub from_line-blank : (before : List Piece) (upto : ℕ) (pre : List ℕ) (e : Bool) (n : ℕ) (bs : List ℕ) → upto < n
      → behind is_blank pre ≡ []
      → from_line f before upto pre e n (LF ∷ bs) ≡ from_line f before upto [] e (suc n) bs
  unfolding from_line
  from_line-blank before upto pre e n bs lt blank =
      from_line-LF before [] upto pre e n bs lt (rw blank refl)
      ∙ rw (append-nil before, prepend-nil (lines e (suc n) bs)) refl
