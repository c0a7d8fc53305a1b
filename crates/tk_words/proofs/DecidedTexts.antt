-- What bytes decide, they decide for every text that begins with them.
use Rattle.std.proofs.Common.{◌≡◌, ℕ, zero, suc, ◌+◌, ◌-◌, ◌≤◌, Bool, true, false, cond, leb, List, [], ◌∷◌, ◌++◌}
use Rattle.std.proofs.Common.{length, take, take-add, drop, Option, Some, None, Result, Ok, Err, refl}
use Rattle.std.proofs.Common.{sym, ap, subst, ◌∙◌, append_assoc, arith}
use Rattle.std.specs.Prelude.{unwrap_or}
use Rattle.std.proofs.lemmas.Bool.{lt-leb, le-leb}
use Rattle.std.proofs.lemmas.List.{length-append, take_at, take-take, length-take, length-drop}
use Rattle.std.proofs.lemmas.List.{take-append-drop, append-nil}
use Rattle.tk_words.specs.Taking.{HasEnded}
use Rattle.tk_words.specs.Texts.{Texts, Decides, DecidesEnded, DecidesWithin, line_behind, IsReported, Answers}
use Rattle.tk_words.specs.Texts.{answer_of}
use Rattle.tk_words.specs.Texts.{WantMore}
use Rattle.tk_words.specs.Texts.{IsReadTo, IsCutOff, IfSpecified, IsAnswerIfSpecified, IsOfSomeText}
use Rattle.tk_words.specs.Reading.{IsReading}
use Rattle.tk_words.specs.declared.sources.source.Source.{Ghosts}
use Rattle.tk_words.specs.declared.sources.reading.TheConstants.{BUFFER_SIZE}
use Rattle.tk_words.proofs.ReportedFaults.{reported_of, fault_of}
use Rattle.std.specs.Io.KnownBytes.{Consumes, IsAtEnd, Keeps}

-- the front of a list, and its rest
take_front : (k : ℕ) (bs more : List ℕ) → length bs ≤ k → take k (bs ++ more) ≡ bs ++ take (k - length bs) more
take_front k [] more h = ap (λ (j : ℕ). take j more) (omega arith)
take_front (suc k) (b ∷ bs) more h =
    let e : suc k - suc (length bs) ≡ k - length bs = omega arith in
    rw e (ap (λ (xs : List ℕ). b ∷ xs) (take_front k bs more (omega arith)))
take_front zero (b ∷ bs) more h = absurd (omega arith)

chosen : {V E : Type 0} (d : Result V E) (t : Bool) (x y : Option (Result V E)) (a : Result V E) →
    x ≡ Some a → y ≡ Some a → unwrap_or (cond t x y) d ≡ a
chosen d true x y a p q = rw p refl
chosen d false x y a p q = rw q refl

module _ {V E : Type 0} (texts : Texts V E) where
  answers_decided : (bs : List ℕ) (a : Result V E) → Decides texts bs a → length bs ≤ suc texts.limit →
      Answers texts bs a
  unfolding answer_of
  answers_decided bs a h le more =
      chosen (Err (texts.too_long (line_behind (take texts.limit (bs ++ more)))))
      (leb (length (bs ++ more)) texts.limit) (texts.decided true (bs ++ more))
      (texts.decided false (take (suc texts.limit) (bs ++ more))) a (h true more)
      (rw (take_front (suc texts.limit) bs more le) (h false (take (suc texts.limit - length bs) more)))

  -- what the front of a piece decides, the piece decides
  answers_piece : (bs piece : List ℕ) (k : ℕ) (a : Result V E) → Answers texts (bs ++ take k piece) a →
      Answers texts (bs ++ piece) a
  answers_piece bs piece k a h more =
      let parts : (bs ++ take k piece) ++ (drop k piece ++ more) ≡ (bs ++ (take k piece ++ drop k piece)) ++ more =
      simp append_assoc in
      ap (λ x. answer_of texts ((bs ++ x) ++ more)) (sym (take-append-drop k piece)) ∙ ap (answer_of texts) (sym parts)
      ∙ h (drop k piece ++ more)

  -- all of a text that is not too long
  pub answer_ended : (bs : List ℕ) (a : Result V E) → length bs ≤ texts.limit → texts.decided true bs ≡ Some a →
      answer_of texts bs ≡ a
  unfolding answer_of
  answer_ended bs a le h = let short : leb (length bs) texts.limit ≡ true = le-leb _ _ le in rw (short, h) refl

  -- a byte too many, with nothing decided
  answers_too_long : (bs last : List ℕ) → length bs ≡ texts.limit → length last ≡ 1 →
      texts.decided false (bs ++ last) ≡ None → Answers texts (bs ++ last) (Err (texts.too_long (line_behind bs)))
  unfolding answer_of
  answers_too_long bs last len one none more =
      let long : leb (length ((bs ++ last) ++ more)) texts.limit ≡ false =
      lt-leb _ _ (omega (arith, one, len, length-append (bs ++ last) more, length-append bs last)) in
      let front : take (suc texts.limit) ((bs ++ last) ++ more) ≡ bs ++ last =
      take_at (bs ++ last) more (suc texts.limit) (omega (arith, one, len, length-append bs last)) in
      let before : take texts.limit ((bs ++ last) ++ more) ≡ bs =
      rw append_assoc (take_at bs (last ++ more) texts.limit len) in
      rw (long, front, before, none) refl

-- ---- a piece, from a place in it on

module _ (bs piece : List ℕ) (start end : ℕ) (le : start ≤ end) (in_piece : end ≤ length piece) where
  pub part_size : length (take (end - start) (drop start piece)) ≡ end - start
  part_size = omega (arith, length-take (end - start) (drop start piece), length-drop start piece)

  -- bytes that are taken of the part from the place to the end
  pub taken_on : (n : ℕ) → n ≤ length (take (end - start) (drop start piece)) →
      (bs ++ take start piece) ++ take n (take (end - start) (drop start piece)) ≡ bs ++ take (start + n) piece
  taken_on n h =
      ap (λ (l : List ℕ). (bs ++ take start piece) ++ l)
      (take-take n (end - start) (drop start piece) (omega (arith, h, part_size)))
      ∙ append_assoc bs (take start piece) (take n (drop start piece))
      ∙ ap (λ (l : List ℕ). bs ++ l) (sym (take-add start n piece))

  module _ {V E : Type 0} (texts : Texts V E) (room : length bs + end ≤ suc texts.limit) where
    -- what they decide, the whole piece decides
    pub decided_within : (a : Result V E) →
        DecidesWithin texts (bs ++ take start piece) (take (end - start) (drop start piece)) a →
        Answers texts (bs ++ piece) a
    decided_within a (n, h, decides) =
        let front : Decides texts (bs ++ take (start + n) piece) a =
        subst (λ (x : List ℕ). Decides texts x a) (taken_on n h) decides in
        let len : length (bs ++ take (start + n) piece) ≤ suc texts.limit =
        omega (
          arith,
          room,
          h,
          part_size,
          length-append bs (take (start + n) piece),
          length-take (start + n) piece,
        ) in
        answers_piece texts bs piece (start + n) a (answers_decided texts _ a front len)

    pub reported_within : (f : E) →
        IsReported texts (DecidesWithin texts (bs ++ take start piece) (take (end - start) (drop start piece))) f →
        IsReported texts (Answers texts (bs ++ piece)) f
    reported_within f h =
        reported_of ⊥
        (λ e. DecidesWithin texts (bs ++ take start piece) (take (end - start) (drop start piece)) (Err e))
        (λ e. Answers texts (bs ++ piece) (Err e)) f (texts.cause f) (decided_within (Err f)) h

-- the byte after the limit decides nothing
pub too_long_at : {V E : Type 0} (texts : Texts V E) (bs piece : List ℕ) (end n : ℕ) → end + 1 ≤ length piece →
    length bs + end ≡ texts.limit → 1 ≤ n → n ≤ length (take (end + 1 - end) (drop end piece)) →
    texts.decided false ((bs ++ take end piece) ++ take n (take (end + 1 - end) (drop end piece))) ≡ None →
    Answers texts (bs ++ piece) (Err (texts.too_long (line_behind (bs ++ take end piece))))
too_long_at texts bs piece end n lt full some few none =
    let byte = take n (take (end + 1 - end) (drop end piece)) in
    let one : length byte ≡ 1 = omega (
      arith,
      some,
      few,
      length-take n (take (end + 1 - end) (drop end piece)),
      part_size [] piece end (end + 1) (omega arith) lt,
    ) in
    let len : length (bs ++ take end piece) ≡ texts.limit =
    omega (arith, full, lt, length-append bs (take end piece), length-take end piece) in
    answers_piece texts bs piece (end + n) _
    (subst (λ (x : List ℕ). Answers texts x (Err (texts.too_long (line_behind (bs ++ take end piece)))))
    (taken_on bs piece end (end + 1) (omega arith) lt n few) (answers_too_long texts _ byte len one none))

-- ---- a source's text is read

module _ {V E S O : Type 0} (source : Ghosts S) (texts : Texts V E) (view : O → V) (old new : S)
    (whole : source.broken new ≡ source.broken old) where
  pub value_read : (v : O) → IsAnswerIfSpecified texts (source.left old) (source.left new) (Ok (view v)) →
      IsOfSomeText texts (Ok (view v)) → IsReading source texts view old new (Ok v)
  value_read v answer some = record { ok = answer; err = tt; some_text = some; some_fault = tt; intact = whole }

  -- a fault of memory, or one that is the answer
  pub fault_read : (P : Result V E → Type 0) (f : E) → IfSpecified (source.left old) (source.left new) (IsReadTo texts)
      → (P (Err f) → IsAnswerIfSpecified texts (source.left old) (source.left new) (Err f))
      → (P (Err f) → IsOfSomeText texts (Err f)) → IsReported texts P f → IsReading source texts view old new (Err f)
  fault_read P f far answer some reported = record {
    ok = tt;
    err = fault_of texts (source.broken new) (source.left old) (source.left new) P f (texts.cause f) far answer
        reported;
    some_text = tt;
    some_fault = reported_of (Unit {0}) (λ e. P (Err e)) (λ e. IsOfSomeText texts (Err e)) f (texts.cause f) some
        reported;
    intact = λ other. whole;
  }

  -- at the end of its bytes
  pub ended_read : (bs : List ℕ) (r : Result O E) → length bs ≤ texts.limit → HasEnded texts view bs r
      → IfSpecified (source.left old) (source.left new) (IsReadTo texts)
      → ((a : Result V E) → DecidesEnded texts bs a → IsAnswerIfSpecified texts (source.left old) (source.left new) a)
      → IsReading source texts view old new r
  ended_read bs (Ok v) le h far answer = value_read v (answer (Ok (view v)) h)
      (bs, answer_ended texts bs (Ok (view v)) le h)
  ended_read bs (Err f) le h far answer = fault_read (DecidesEnded texts bs) f far (answer (Err f))
      (λ e. (bs, answer_ended texts bs (Err f) le e)) h

-- ---- what a source has left

-- all that a source gave stands before what it has left
module _ {V E : Type 0} (texts : Texts V E) (bs : List ℕ) (want : WantMore texts bs) where
  -- the last read gave this piece
  abbrev read_to : (text between rest piece : List ℕ) → length piece ≤ BUFFER_SIZE → text ≡ bs ++ between →
      between ≡ piece ++ rest → IsReadTo texts text rest
  read_to text between rest piece le p q =
      record {
        before = bs;
        last = piece;
        parts = p ∙ ap (λ (x : List ℕ). bs ++ x) q ∙ sym (append_assoc bs piece rest);
        wanted = want;
        buffer = le;
      }

  pub where_read : (old mid new : Option (List ℕ)) (piece : List ℕ) → length piece ≤ BUFFER_SIZE → Consumes old mid bs →
      Consumes mid new piece → IfSpecified old new (IsReadTo texts)
  where_read None mid new piece le p q = tt
  where_read (Some text) None new piece le p q = absurd p
  where_read (Some text) (Some between) None piece le p q = absurd q
  where_read (Some text) (Some between) (Some rest) piece le p q = (rest, refl, read_to text between rest piece le p q)

  pub where_decided : (a : Result V E) (old mid new : Option (List ℕ)) (piece : List ℕ) →
      length piece ≤ BUFFER_SIZE → Consumes old mid bs → Consumes mid new piece → Answers texts (bs ++ piece) a →
      IsAnswerIfSpecified texts old new a
  where_decided a None mid new piece le p q h = tt
  where_decided a (Some text) None new piece le p q h = absurd p
  where_decided a (Some text) (Some between) None piece le p q h = absurd q
  where_decided a (Some text) (Some between) (Some rest) piece le p q h =
      let read = read_to text between rest piece le p q in
      (rest, refl, record { read = read; answer = rw read.parts (h rest); unread = λ _. h })

  pub where_ended : (a : Result V E) (old mid new : Option (List ℕ)) → texts.decided true bs ≡ Some a →
      Consumes old mid bs → Consumes mid new [] → IsAtEnd new → IsAnswerIfSpecified texts old new a
  where_ended a None mid new h p q e = tt
  where_ended a (Some text) None new h p q e = absurd p
  where_ended a (Some text) (Some between) None h p q e = absurd q
  where_ended a (Some text) (Some between) (Some rest) h p q e =
      let whole : text ≡ bs = p ∙ ap (λ (x : List ℕ). bs ++ x) (q ∙ e) ∙ append-nil bs in (
        rest,
        refl,
        record {
          read = read_to text between rest [] (omega arith) p q;
          answer = rw whole (answer_ended texts bs a want.within h);
          unread = λ ne. absurd (ne e);
        },
      )

  -- the source fails, and is as it was
  pub where_cut_off : (line : ℕ) (old mid new : Option (List ℕ)) → line ≡ line_behind bs → Consumes old mid bs →
      Keeps mid new → IfSpecified old new (IsCutOff texts line)
  where_cut_off line None mid new n p q = tt
  where_cut_off line (Some text) None new n p q = absurd p
  where_cut_off line (Some text) (Some between) None n p q = absurd q
  where_cut_off line (Some text) (Some between) (Some rest) n p q =
      (rest, refl, record { before = bs; parts = p ∙ ap (λ (x : List ℕ). bs ++ x) (sym q); wanted = want; line_is = n })
