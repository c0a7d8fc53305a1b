-- Lists that end with -1, entry by entry.
use Rattle.std.proofs.Common.{◌≡◌, ℕ, suc, ◌+◌, ◌<◌, ◌≤◌, true, false, ltb, ◌&&◌, List, [], ◌∷◌, ◌++◌, length}
use Rattle.std.proofs.Common.{take, Option, Some, None, refl, sym, ap, ◌∙◌, append_assoc, arith}
use Rattle.std.proofs.lemmas.List.{append-nil, length-append}
use Rattle.std.proofs.Math.Seq.{take-append-add}
use Rattle.std.proofs.lemmas.Bool.{lt-ltb, le-ltb}
use Rattle.tk_words.specs.declared.fault.TextKind.TheVariants as kinds
use Rattle.tk_words.specs.Lex.{Token, integer}
use Rattle.tk_lines.specs.Pieces.{Extent, Stop, Open, Fault, or_else}
use Rattle.tk_words.specs.MinusOne.{is_ending, one_more}
use Rattle.tk_words.specs.Entry.{is_eof, numbers_of, natural_or_zero}
use Rattle.tk_lines.specs.Lists.{list_extent, list_entries, AreEntries}
use Rattle.tk_lists.specs.Tour.{entry_stop, entries_stop}

pub list_extent-entries : (ts more : List Token) → AreEntries ts →
    list_extent (ts ++ more) ≡ record {
      count = length ts + (list_extent more).count;
      closed = (list_extent more).closed;
      at_eof = (list_extent more).at_eof;
    }
unfolding list_extent
list_extent-entries [] more h =
    ap (λ (k : ℕ). record { count = k; closed = (list_extent more).closed; at_eof = (list_extent more).at_eof })
    (omega arith)
list_extent-entries (t ∷ ts) more h =
    rw (h.0, h.1, list_extent-entries ts more h.2)
    (ap (λ (k : ℕ). record { count = k; closed = (list_extent more).closed; at_eof = (list_extent more).at_eof })
    (omega arith))

pub nothing_before : (x y : Option Stop) → or_else x y ≡ None → (x ≡ None) × (y ≡ None)
nothing_before None y h = (refl, h)
nothing_before (Some s) y h = absurd cc

-- the first entry at which something stops, stops the list, whatever follows
entries_stop-at : (k : ℕ) (ts more : List Token) (t : Token) (s : Stop) → AreEntries ts → entries_stop k ts ≡ None
    → is_ending t ≡ false → entry_stop (k + length ts) t ≡ Some s
    → entries_stop k (list_entries (ts ++ t ∷ more)) ≡ Some s
unfolding list_entries entries_stop
entries_stop-at k [] more t s h fine goes stop =
    let here : entry_stop k t ≡ Some s = ap (λ (j : ℕ). entry_stop j t) (omega arith) ∙ stop in
    rw (goes, here) refl
entries_stop-at k (x ∷ ts) more t s h fine goes stop =
    let n = nothing_before (entry_stop k x) (entries_stop (suc k) ts) fine in
    rw (h.0, n.0)
    (entries_stop-at (suc k) ts more t s h.2 n.1 goes (ap (λ (j : ℕ). entry_stop j t) (omega arith) ∙ stop))

pub are_more : (ts : List Token) (t : Token) → AreEntries ts → is_ending t ≡ false →
    (t.whole && is_eof t.bytes) ≡ false → AreEntries (ts ++ t ∷ [])
are_more [] t h a b = (a, b, tt)
are_more (x ∷ ts) t h a b = (h.0, h.1, are_more ts t h.2 a b)

pub entries_all : (ts : List Token) → AreEntries ts → list_entries ts ≡ ts
unfolding list_entries
entries_all [] h = refl
entries_all (t ∷ ts) h = rw (h.0, entries_all ts h.2) refl

pub entries_ended : (ts more : List Token) (t : Token) → AreEntries ts → is_ending t ≡ true →
    list_entries (ts ++ t ∷ more) ≡ ts
unfolding list_entries
entries_ended [] more t h end = rw end refl
entries_ended (x ∷ ts) more t h end = rw (h.0, entries_ended ts more t h.2 end) refl

pub fine_more : (k : ℕ) (ts : List Token) (t : Token) → entries_stop k ts ≡ None → entry_stop (k + length ts) t ≡ None →
    entries_stop k (ts ++ t ∷ []) ≡ None
unfolding entries_stop
fine_more k [] t fine here = let h : entry_stop k t ≡ None = ap (λ (j : ℕ). entry_stop j t) (omega arith)
    ∙ here in rw h refl
fine_more k (x ∷ ts) t fine here =
    let n = nothing_before (entry_stop k x) (entries_stop (suc k) ts) fine in
    rw n.0 (fine_more (suc k) ts t n.1 (ap (λ (j : ℕ). entry_stop j t) (omega arith) ∙ here))

pub fine_none : (k : ℕ) → entries_stop k [] ≡ None
unfolding entries_stop
fine_none k = refl

pub numbers_more : (ts : List Token) (t : Token) → numbers_of (ts ++ t ∷ []) ≡ numbers_of ts
    ++ natural_or_zero (integer t.bytes) ∷ []
numbers_more [] t = refl
numbers_more (x ∷ ts) t = ap (λ (ns : List ℕ). natural_or_zero (integer x.bytes) ∷ ns) (numbers_more ts t)

pub length-numbers : (ts : List Token) → length (numbers_of ts) ≡ length ts
length-numbers [] = refl
length-numbers (t ∷ ts) = ap suc (length-numbers ts)

module _ (ts : List Token) (are : AreEntries ts) (fine : entries_stop 0 ts ≡ None) where
  count_past : (t : Token) (more : List Token) → is_ending t ≡ false → (t.whole && is_eof t.bytes) ≡ false →
      (list_extent (ts ++ t ∷ more)).count ≡ length ts + suc (list_extent more).count
  unfolding list_extent
  count_past t more a b = ap (λ (e : Extent). e.count) (list_extent-entries ts (t ∷ more) are) ∙ rw (a, b) refl

  -- a token at which something stops, stops the tokens of the section
  pub list_stops : (t : Token) (more : List Token) (s : Stop) → is_ending t ≡ false
      → (t.whole && is_eof t.bytes) ≡ false → entry_stop (length ts) t ≡ Some s
      → entries_stop 0 (list_entries (take (list_extent (ts ++ t ∷ more)).count (ts ++ t ∷ more))) ≡ Some s
  list_stops t more s a b stop =
      rw (count_past t more a b, take-append-add ts (t ∷ more) (suc (list_extent more).count))
      (entries_stop-at 0 ts (take (list_extent more).count more) t s are fine a
      (ap (λ (j : ℕ). entry_stop j t) (omega arith) ∙ stop))

  pub list_ended : (t : Token) (more : List Token) → is_ending t ≡ true →
      list_extent ((ts ++ t ∷ []) ++ more) ≡ record {
        count = length (ts ++ t ∷ []) + one_more more;
        closed = true;
        at_eof = false;
      }
  unfolding list_extent
  list_ended t more end =
      let assoc : (ts ++ t ∷ []) ++ more ≡ ts ++ t ∷ more = append_assoc ts (t ∷ []) more in
      ap list_extent assoc ∙ list_extent-entries ts (t ∷ more) are
      ∙ rw end
      (ap (λ (k : ℕ). record { count = k; closed = true; at_eof = false })
      (omega (arith, length-append ts (t ∷ []))))

  pub list_eof : (t : Token) (more : List Token) → is_ending t ≡ false → (t.whole && is_eof t.bytes) ≡ true →
      list_extent (ts ++ t ∷ more) ≡ record { count = length ts; closed = false; at_eof = true }
  unfolding list_extent
  list_eof t more a b = list_extent-entries ts (t ∷ more) are
      ∙ rw (a, b) (ap (λ (k : ℕ). record { count = k; closed = false; at_eof = true }) (omega arith))

  pub list_open : list_extent ts ≡ record { count = length ts; closed = false; at_eof = false }
  unfolding list_extent
  list_open = ap list_extent (sym (append-nil ts)) ∙ list_extent-entries ts [] are
      ∙ ap (λ (k : ℕ). record { count = k; closed = false; at_eof = false }) (omega arith)

  pub list_covers : (more : List Token) → length ts ≤ (list_extent (ts ++ more)).count
  list_covers more = rw (list_extent-entries ts more are) (omega arith)

pub entry_long : (k : ℕ) (t : Token) → 64 < length t.bytes → entry_stop k t ≡ Some (Fault t.line kinds.TooLong)
unfolding entry_stop
entry_long k t long = let test : ltb 64 (length t.bytes) ≡ true = lt-ltb _ _ long in rw test refl

pub entry_open : (k : ℕ) (t : Token) → t.whole ≡ false → length t.bytes ≤ 64 → entry_stop k t ≡ Some Open
unfolding entry_stop
entry_open k t goes short = let test : ltb 64 (length t.bytes) ≡ false = le-ltb _ _ short in rw (test, goes) refl
