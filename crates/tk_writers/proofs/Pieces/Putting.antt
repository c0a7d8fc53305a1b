-- Laws of what is put piece by piece.
use Rattle.std.proofs.Common.{◌≡◌, ℕ, ◌+◌, ◌<◌, ◌≤◌, inl, inr, Bool, true, false, List, [], ◌++◌, length, take, Option}
use Rattle.std.proofs.Common.{sym, ap, ◌∙◌, subst, arith, append_assoc, length-append, append-nil, take-append-drop}
use Rattle.std.proofs.Common.{length-drop, drop_of_length-le, Result, Ok, Err, OnErr, ◌^◌}
use Rattle.std.proofs.Math.Seq.{take-add, take-append-le, drop-append-le}
use Rattle.std.specs.Prelude.{nat_lt}
use borrow.Author.Tests.{ltb-true, ltb-false}
use Rattle.std.specs.Io.KnownBytes.{Appends}
use Rattle.std.proofs.KnownBytes.{Appends-trans}
use Rattle.tk_writers.specs.declared.output.pen.Pen.{Pen}
use Rattle.tk_writers.specs.declared.output.pen.WriteFault.{WriteFault}
use Rattle.tk_writers.specs.declared.output.sink.Sink.{Ghosts}
use Rattle.tk_writers.specs.Pens.{PenHolds, Puts, PenEnds}
use Rattle.tk_writers.specs.Puts.{IsPut, Writes}

-- n bytes of a page go out
pub IsPut-sent : {W : Type 0} (sink : Ghosts W) (start : Option (List ℕ))
    (failed : Bool) (text : List ℕ) (w v : W) (written n : ℕ) (stopped : Bool) (page : List ℕ)
    → stopped ≡ false → n ≤ length page → Appends (sink.taken w) (sink.taken v) (take n page)
    → (n ≡ length page → sink.broken v ≡ sink.broken w) → (n < length page → sink.broken v ≡ true)
    → IsPut sink start failed text w written stopped page →
    IsPut sink start failed text v (written + n) (nat_lt n (length page)) []
IsPut-sent sink start failed text w v written n stopped page going fits sent whole part h =
    let waits = (h.waits going).0 in
    let rest : length text ≡ written + length page = omega (arith, ap length waits, length-drop written text, h.fits) in
    let front : take (written + n) text ≡ take written text ++ take n page = take-add written n text
    ∙ ap (λ l. take written text ++ take n l) waits in
    record {
      fits = omega arith;
      sent = subst (Appends start _) (sym front) (Appends-trans start _ _ _ _ h.sent sent);
      waits = λ e. let all : n ≡ length page = omega (arith, ltb-false n (length page) e) in
          (drop_of_length-le text (omega arith), whole all ∙ (h.waits going).1);
      stops = λ e. let some : n < length page = ltb-true n (length page) e in
          (omega arith, inl (part some));
    }

-- all of a text has gone out where no page waits
pub IsPut-whole : {W : Type 0} (sink : Ghosts W) (start : Option (List ℕ))
    (failed : Bool) (text : List ℕ) (w : W) (written : ℕ) (stopped : Bool)
    → IsPut sink start failed text w written stopped [] → stopped ≡ false →
    Appends start (sink.taken w) text × (sink.broken w ≡ failed)
IsPut-whole sink start failed text w written stopped h going =
    let waits = h.waits going in
    let all : take written text ≡ text = sym (append-nil _) ∙ ap (λ l. take written text ++ l) (sym waits.0)
    ∙ take-append-drop written text in
    (subst (Appends start _) all h.sent, waits.1)

-- bytes that are added to the page are put
pub IsPut-added : {W : Type 0} (sink : Ghosts W) (start : Option (List ℕ))
    (failed : Bool) (text : List ℕ) (w : W) (written : ℕ) (stopped : Bool) (page bytes : List ℕ)
    → IsPut sink start failed text w written stopped page →
    IsPut sink start failed (text ++ bytes) w written stopped (page ++ bytes)
IsPut-added sink start failed text w written stopped page bytes h = record {
  fits = omega (arith, h.fits, length-append text bytes);
  sent = subst (Appends start _) (sym (take-append-le written text bytes h.fits)) h.sent;
  waits = λ e. (drop-append-le written text bytes h.fits ∙ ap (λ l. l ++ bytes) (h.waits e).0, (h.waits e).1);
  stops =
      λ e. (
        omega (arith, (h.stops e).0, length-append text bytes),
        elim (h.stops e).1 [ inl b ↦ inl b | inr long ↦ inr (omega (arith, long, length-append text bytes)) ],
      );
}

pub Puts-then : {W : Type 0} {sink : Ghosts W} {p q s : Pen W} {one two : List ℕ}
    → Puts sink p q one → Puts sink q s two → Puts sink p s (one ++ two)
Puts-then {W} {sink} {p} {q} {s} {one} {two} first second = record {
  same = second.same ∙ first.same;
  text = λ start failed text h. subst (λ l. PenHolds sink start failed l s) (append_assoc text one two)
      (second.text start failed (text ++ one) (first.text start failed text h));
}

pub Puts-added : {W : Type 0} (sink : Ghosts W) (p q : Pen W) (bytes : List ℕ)
    → q.sink.ghost_name ≡ p.sink.ghost_name → q.sink.now ≡ p.sink.now → q.written ≡ p.written → q.stopped ≡ p.stopped →
    q.page ≡ p.page ++ bytes → Puts sink p q bytes
Puts-added sink p q bytes same now written stopped page = record {
  same = same;
  text =
      λ start failed text h. rw (now, written, stopped, page)
      (IsPut-added sink start failed text _ _ _ _ bytes h);
}

-- a text is put into a new pen, which ends then; x is what the sink is after the loan to the pen
pub Writes-end : {W : Type 0} (sink : Ghosts W) (v w x : W) (p q : Pen W)
    (r : Result (Unit {0}) WriteFault) (text : List ℕ)
    → PenHolds sink (sink.taken v) (sink.broken v) [] p → Puts sink p q text →
    PenEnds sink q w r → x ≡ w →
    Writes sink v x r text
Writes-end sink v w x p q r text h puts ends is =
    rw is (ends (sink.taken v) (sink.broken v) text (puts.text (sink.taken v) (sink.broken v) [] h))

-- a text of at most 2^63 bytes goes out whole where no write fails
pub broken_at_err : {W : Type 0} (sink : Ghosts W) (v w : W)
    (r : Result (Unit {0}) WriteFault) (text : List ℕ)
    → length text ≤ 2 ^ 63 → Writes sink v w r text → OnErr r (sink.broken w ≡ true)
broken_at_err sink v w (Ok u) text short h = tt
broken_at_err sink v w (Err f) text short h = elim h.cause [ inl b ↦ b | inr long ↦ absurd (omega arith) ]
