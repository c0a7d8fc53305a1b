-- A header's value, byte by byte.
use Rattle.std.proofs.Common.{◌≡◌, ℕ, zero, suc, ◌+◌, ◌<◌, ◌≤◌, ◌&&◌, Bool, true, false, eqb, List, [], ◌∷◌, ◌++◌}
use Rattle.std.proofs.Common.{length, take, min, refl, sym, ap, ◌∙◌, arith}
use Rattle.std.proofs.lemmas.List.{length-append, length-take, append-nil, take-take}
use Rattle.tk_lines.specs.declared.value_scanner.Phase.{Phase}
use Rattle.tk_lines.specs.declared.value_scanner.Phase.TheVariants as phases
use Rattle.tk_lines.specs.declared.value_scanner.ValueScanner.{ValueScanner}
use Rattle.tk_words.specs.Lex.{is_blank, is_empty, front, behind, after_word, trim, trim_end}
use Rattle.tk_lines.specs.Reader.ValueScanner.{IsEmpty, Settled, Scans, InPhase}
use Rattle.tk_lines.specs.HeaderValue.{body, first_word, not_blank}
use Rattle.tk_lines.proofs.Headers.ByteRuns.{behind-all, front-all, front-whole, behind-on, front-on, trim_end-blank}
use Rattle.tk_lines.proofs.Headers.ByteRuns.{trim_end-solid, take-room, take-full, settled_more, after_colon}
use Rattle.tk_lines.proofs.Headers.ByteRuns.{settled_colon, after_other, settled_other}

length_more : (v : List ℕ) (b n : ℕ) → n ≡ length v → n + 1 ≡ length (v ++ b ∷ [])
length_more v b n h = omega (arith, h, length-append v (b ∷ []))

take-twice : (n : ℕ) (xs ys : List ℕ) → take n (take n xs ++ ys) ≡ take n (xs ++ ys)
take-twice zero xs ys = refl
take-twice (suc n) [] ys = refl
take-twice (suc n) (x ∷ xs) ys = ap (λ (r : List ℕ). x ∷ r) (take-twice n xs ys)

module _ (s : ValueScanner) (v : List ℕ) (b : ℕ) (h : Scans s v) where
  abbrev pub kept : List ℕ
  kept = take 1024 (s.text ++ b ∷ [])

  keeps : kept ≡ take 1024 (body v ++ b ∷ [])
  keeps = ap (λ (t : List ℕ). take 1024 (t ++ b ∷ [])) h.text ∙ take-twice 1024 (body v) (b ∷ [])

  nothing_yet : InPhase phases.Before v → body v ≡ []
  nothing_yet p = rw p refl

  -- a byte before the value
  still : (phase : Phase) → InPhase phase (v ++ b ∷ []) → body (v ++ b ∷ []) ≡ body v →
      Scans (record s { count = s.count + 1; phase = phase }) (v ++ b ∷ [])
  still phase is same =
      record {
        phase = is;
        count = length_more v b s.count h.count;
        first = rw same h.first;
        text = rw same h.text;
        small = omega (arith, h.small);
        seen = rw same h.seen;
        trimmed = rw same h.trimmed;
      }

  pub before_blank : s.phase ≡ phases.Before → is_blank b ≡ true →
      Scans (record s { count = s.count + 1 }) (v ++ b ∷ [])
  before_blank e blank =
      let p = rw e at h.phase in
      let now : behind is_blank (v ++ b ∷ []) ≡ [] = behind-all is_blank v (b ∷ []) p ∙ rw blank refl in
      still s.phase (rw e now) (rw (now, p) refl)

  pub before_colon : s.phase ≡ phases.Before → b ≡ 58 →
      Scans (record s { count = s.count + 1; phase = phases.Behind }) (v ++ b ∷ [])
  before_colon e colon =
      let p = rw e at h.phase in
      let none : body (v ++ b ∷ []) ≡ [] = rw colon (ap (behind is_blank) (after_colon v [] p)) in
      still phases.Behind (rw colon (settled_colon v p), none) (none ∙ sym (nothing_yet p))

  begun : Settled (v ++ b ∷ []) → is_blank b ≡ false → body (v ++ b ∷ []) ≡ b ∷ [] →
      Scans (record s
      { count = s.count + 1; phase = phases.First; first = b ∷ []; text = b ∷ []; seen = 1; trimmed = 1 }) (v ++ b ∷ [])
  begun settled solid is =
      record {
        phase = (settled, rw (is, solid) refl, rw is (λ x. x));
        count = length_more v b s.count h.count;
        first = rw (is, solid) refl;
        text = rw is refl;
        small = omega arith;
        seen = rw is refl;
        trimmed = rw (is, solid) refl;
      }

  pub before_first : s.phase ≡ phases.Before → is_blank b ≡ false → eqb b 58 ≡ false →
      Scans (record s
      { count = s.count + 1; phase = phases.First; first = b ∷ []; text = b ∷ []; seen = 1; trimmed = 1 }) (v ++ b ∷ [])
  before_first e solid other =
      let p = rw e at h.phase in
      begun (settled_other v b p solid other) solid (rw (after_other v b [] p solid other, solid) refl)

  pub behind_blank : s.phase ≡ phases.Behind → is_blank b ≡ true →
      Scans (record s { count = s.count + 1 }) (v ++ b ∷ [])
  behind_blank e blank =
      let p = rw e at h.phase in
      let now : body (v ++ b ∷ []) ≡ [] = ap (behind is_blank) (p.0 (b ∷ []))
      ∙ behind-all is_blank (after_word v) (b ∷ []) p.1 ∙ rw blank refl in
      still s.phase (rw e (settled_more v (b ∷ []) p.0, now)) (now ∙ sym p.1)

  pub behind_first : s.phase ≡ phases.Behind → is_blank b ≡ false →
      Scans (record s
      { count = s.count + 1; phase = phases.First; first = b ∷ []; text = b ∷ []; seen = 1; trimmed = 1 }) (v ++ b ∷ [])
  behind_first e solid =
      let p = rw e at h.phase in
      begun (settled_more v (b ∷ []) p.0) solid (ap (behind is_blank) (p.0 (b ∷ []))
      ∙ behind-all is_blank (after_word v) (b ∷ []) p.1 ∙ rw solid refl)

  -- where the value has begun
  on : Settled v → (IsEmpty (body v) → ⊥) → body (v ++ b ∷ []) ≡ body v ++ b ∷ []
  on settled begins = ap (behind is_blank) (settled (b ∷ [])) ∙ behind-on is_blank (after_word v) (b ∷ []) begins

  pub first_blank : s.phase ≡ phases.First → is_blank b ≡ true →
      Scans (record s { count = s.count + 1; phase = phases.Rest; text = kept; seen = s.seen + 1 }) (v ++ b ∷ [])
  first_blank e blank =
      let p = rw e at h.phase in
      let is = on p.0 p.2 in
      let rest : behind not_blank (body v ++ b ∷ []) ≡ b ∷ [] = behind-all not_blank (body v) (b ∷ []) p.1
      ∙ rw blank refl in
      let word : front not_blank (body v ++ b ∷ []) ≡ front not_blank (body v) =
      front-all not_blank (body v) (b ∷ []) p.1
      ∙ rw blank (append-nil (body v) ∙ sym (front-whole not_blank (body v) p.1)) in
      record {
        phase = (settled_more v (b ∷ []) p.0, rw (is, rest) (λ x. x));
        count = length_more v b s.count h.count;
        first = rw (is, word) h.first;
        text = rw is keeps;
        small = omega (arith, h.small);
        seen = rw is (length_more (body v) b s.seen h.seen);
        trimmed = rw (is, trim_end-blank (body v) b blank) h.trimmed;
      }

  ends_on : (xs : List ℕ) → IsEmpty (xs ++ b ∷ []) → ⊥
  ends_on [] x = x
  ends_on (y ∷ xs) x = x

  firsts : s.phase ≡ phases.First → is_blank b ≡ false → (fi : List ℕ) → fi ≡ take 64 (first_word v ++ b ∷ []) →
      Scans (record s { count = s.count + 1; first = fi; text = kept; seen = s.seen + 1; trimmed = s.seen + 1 })
      (v ++ b ∷ [])
  firsts e solid fi fits =
      let p = rw e at h.phase in
      let is = on p.0 p.2 in
      let rest : behind not_blank (body v ++ b ∷ []) ≡ [] = behind-all not_blank (body v) (b ∷ []) p.1
      ∙ rw solid refl in
      let word : front not_blank (body v ++ b ∷ []) ≡ first_word v ++ b ∷ [] = front-all not_blank (body v) (b ∷ []) p.1
      ∙ rw solid (ap (λ (x : List ℕ). x ++ b ∷ []) (sym (front-whole not_blank (body v) p.1))) in
      let n : s.seen + 1 ≡ length (body v ++ b ∷ []) = length_more (body v) b s.seen h.seen in
      record {
        phase = rw e (settled_more v (b ∷ []) p.0, rw (is, rest) refl, rw is (ends_on (body v)));
        count = length_more v b s.count h.count;
        first = rw (is, word) fits;
        text = rw is keeps;
        small = omega (arith, h.small);
        seen = rw is n;
        trimmed = rw (is, trim_end-solid (body v) b solid) n;
      }

  pub first_more : s.phase ≡ phases.First → is_blank b ≡ false → length s.first < 64 →
      Scans (record s
      { count = s.count + 1; first = s.first ++ b ∷ []; text = kept; seen = s.seen + 1; trimmed = s.seen + 1 })
      (v ++ b ∷ [])
  first_more e solid room =
      firsts e solid (s.first ++ b ∷ [])
      (rw h.first (sym (take-room 64 (first_word v) b (omega (arith, room, ap length h.first)))))

  pub first_full : s.phase ≡ phases.First → is_blank b ≡ false → length s.first ≡ 64 →
      Scans (record s { count = s.count + 1; text = kept; seen = s.seen + 1; trimmed = s.seen + 1 }) (v ++ b ∷ [])
  first_full e solid full =
      firsts e solid s.first (h.first ∙ sym (take-full 64 (first_word v) (b ∷ []) (sym (ap length h.first) ∙ full)))

  past : (xs : List ℕ) → (IsEmpty (behind not_blank xs) → ⊥) → IsEmpty xs → ⊥
  past [] k x = k tt
  past (y ∷ xs) k x = x

  rests : s.phase ≡ phases.Rest → (tr : ℕ) → tr ≡ length (trim_end (body v ++ b ∷ [])) →
      Scans (record s { count = s.count + 1; text = kept; seen = s.seen + 1; trimmed = tr }) (v ++ b ∷ [])
  rests e tr fits =
      let p = rw e at h.phase in
      let is = on p.0 (past (body v) p.1) in
      record {
        phase = rw e (
          settled_more v (b ∷ []) p.0,
          rw (is, behind-on not_blank (body v) (b ∷ []) p.1) (ends_on (behind not_blank (body v))),
        );
        count = length_more v b s.count h.count;
        first = rw (is, front-on not_blank (body v) (b ∷ []) p.1) h.first;
        text = rw is keeps;
        small = omega (arith, h.small);
        seen = rw is (length_more (body v) b s.seen h.seen);
        trimmed = rw is fits;
      }

  pub rest_blank : s.phase ≡ phases.Rest → is_blank b ≡ true →
      Scans (record s { count = s.count + 1; text = kept; seen = s.seen + 1 }) (v ++ b ∷ [])
  rest_blank e blank = rests e s.trimmed (rw (trim_end-blank (body v) b blank) h.trimmed)

  pub rest_solid : s.phase ≡ phases.Rest → is_blank b ≡ false →
      Scans (record s { count = s.count + 1; text = kept; seen = s.seen + 1; trimmed = s.seen + 1 }) (v ++ b ∷ [])
  rest_solid e solid =
      rests e (s.seen + 1) (rw (trim_end-solid (body v) b solid) (length_more (body v) b s.seen h.seen))

-- ---- a value without outer blanks

take_trimmed : (xs : List ℕ) → take (length (trim_end xs)) xs ≡ trim_end xs
take_trimmed [] = refl
take_trimmed (x ∷ xs) = by_end (is_blank x && is_empty (trim_end xs)) refl (take_trimmed xs)
  where
    by_end : (t : Bool) → (is_blank x && is_empty (trim_end xs)) ≡ t → take (length (trim_end xs)) xs ≡ trim_end xs →
        take (length (trim_end (x ∷ xs))) (x ∷ xs) ≡ trim_end (x ∷ xs)
    by_end true e before = rw e refl
    by_end false e before = rw e (ap (λ (r : List ℕ). x ∷ r) before)

pub trimmed_short : (xs : List ℕ) → length (trim_end xs) ≤ length xs
trimmed_short [] = omega arith
trimmed_short (x ∷ xs) = by_end (is_blank x && is_empty (trim_end xs)) refl (trimmed_short xs)
  where
    by_end : (t : Bool) → (is_blank x && is_empty (trim_end xs)) ≡ t → length (trim_end xs) ≤ length xs →
        length (trim_end (x ∷ xs)) ≤ length (x ∷ xs)
    by_end true e before = rw e (omega arith)
    by_end false e before = rw e (omega (arith, before))

-- the kept bytes of a value hold all of it that is not too long
pub name_kept : (s : ValueScanner) (v : List ℕ) → Scans s v → s.trimmed ≤ length s.text →
    take s.trimmed s.text ≡ trim (after_word v)
name_kept s v h fits =
    let within : s.trimmed ≤ 1024 = omega (arith, fits, ap length h.text, length-take 1024 (body v)) in
    ap (λ (t : List ℕ). take s.trimmed t) h.text ∙ take-take s.trimmed 1024 (body v) within
    ∙ ap (λ (k : ℕ). take k (body v)) h.trimmed ∙ take_trimmed (body v)

pub name_long : (s : ValueScanner) (v : List ℕ) → Scans s v → length s.text < s.trimmed → 1024 < length
    (trim (after_word v))
name_long s v h past =
    let kept : length s.text ≡ min 1024 (length (body v)) = ap length h.text ∙ length-take 1024 (body v) in
    let short : s.trimmed ≤ length (body v) = omega (arith, h.trimmed, trimmed_short (body v)) in
    omega (arith, kept, short, past, h.trimmed)

pub name_room : (s : ValueScanner) (v : List ℕ) → Scans s v → length (take s.trimmed s.text) ≤ 1024
name_room s v h =
    let kept : length s.text ≡ min 1024 (length (body v)) = ap length h.text ∙ length-take 1024 (body v) in
    omega (arith, kept, length-take s.trimmed s.text)
