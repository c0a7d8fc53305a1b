-- What settings have, and what they ask for, is within the limits of the keys.
use Rattle.std.proofs.Common.{◌≡◌, ◌≢◌, ◌∙◌, ℕ, ◌≤◌, eqb, leb, get_or, arith, Bool, true, false, not, ◌&&◌, List, []}
use Rattle.std.proofs.Common.{◌∷◌, Option, None, Some, ℤ, pos, negsuc, cond, option_map, refl, sym, ap, subst}
use Rattle.std.proofs.lemmas.Bool.{eqb-true, leb-true, and_parts}
use Rattle.std.proofs.lemmas.List.Elements.{All-cons, All-head, All-nil, All-tail}
use Rattle.std.specs.List.{All, list_any}
use Rattle.std.specs.Option.{IfSome, unwrap_or}
use Rattle.std.specs.Str.{is_utf8}
use Rattle.tk_problem.specs.declared.limits.TheConstants.{CANDIDATE_LIMIT}
use Rattle.tk_lines.proofs.Pieces.PieceLookups.{either_false}
use Rattle.tk_words.specs.Entry.{in_range, natural_or_zero}
use Rattle.tk_words.specs.Lex.{integer}
use Rattle.tk_params.specs.declared.key.Key.{Key}
use Rattle.tk_params.specs.declared.key.Key.TheVariants as keys
use Rattle.tk_params.specs.Keys.{all_keys, key_code}
use Rattle.tk_params.proofs.Keys.{ignored_few}
use Rattle.tk_params.specs.Values.{File, Number, Way, Switch, Ignored, Settings, Value, construction_of, file_of}
use Rattle.tk_params.specs.Values.{greatest, has_dollar, least, look, same_key, switch_of, setting_value}
use Rattle.tk_params.specs.Requested.{HasEachKeyOnce, AreSettings, AreWithinLimits, IsFileName, IsSetting, IsInLimits}
use Rattle.tk_params.specs.Requested.{requested_of}
use Rattle.tk_params.specs.Requested.{file_in, asked_number}

-- ---- a key's value

not_dollar : (b : ℕ) → eqb b 36 ≡ false → b ≢ 36
not_dollar b h e = let k : eqb 36 36 ≡ false = subst (λ c. eqb c 36 ≡ false) e h in absurd cc

no_dollar : (bs : List ℕ) → list_any (λ b. eqb b 36) bs ≡ false → All (λ b. b ≢ 36) bs
no_dollar [] h = All-nil (λ b. b ≢ 36)
no_dollar (b ∷ bs) h = let k = either_false (eqb b 36) _ h in
    All-cons (λ c. c ≢ 36) b bs (not_dollar b k.0) (no_dollar bs k.1)

file_setting : (key : Key) (bs : List ℕ) (v : Value) → file_of bs ≡ Some v → list_any (λ b. eqb b 36) bs ≡ false →
    IsSetting key v
file_setting key [] v e h = absurd cc
file_setting key (b ∷ bs) v e h = by_test (is_utf8 (b ∷ bs)) e
  where
    by_test : (t : Bool) → cond (not t) None (Some (File (b ∷ bs))) ≡ Some v → IsSetting key v
    by_test true f = let is : File (b ∷ bs) ≡ v = cc in
        subst (IsSetting key) is (record { some = λ n. absurd cc; no_dollar = no_dollar (b ∷ bs) h })
    by_test false f = absurd cc

within : (key : Key) (o : Option ℤ) (v : Value) →
    option_map Number (cond (in_range (least key) (greatest key) o) (Some (natural_or_zero o)) None) ≡ Some v →
    IsSetting key v
within key None v e = absurd cc
within key (Some (negsuc n)) v e = absurd cc
within key (Some (pos n)) v e = by_test (leb (least key) n && leb n (greatest key)) refl e
  where
    by_test : (t : Bool) → (leb (least key) n && leb n (greatest key)) ≡ t →
        option_map Number (cond t (Some n) None) ≡ Some v → IsSetting key v
    by_test true h f =
        let b = and_parts (leb (least key) n) _ h in
        let is : Number n ≡ v = cc in
        subst (IsSetting key) is (record { least = leb-true _ _ b.0; greatest = leb-true _ _ b.1 })
    by_test false h f = absurd cc

-- a kind of value that has no limits
unlimited : {A : Type 0} (key : Key) (kind : A → Value) (o : Option A) (v : Value) →
    ((x : A) → IsSetting key (kind x)) → option_map kind o ≡ Some v → IsSetting key v
unlimited key kind None v all e = absurd cc
unlimited key kind (Some x) v all e = let is : kind x ≡ v = cc in subst (IsSetting key) is (all x)

pub is_setting : (key : Key) (bs : List ℕ) (v : Value) → has_dollar key bs ≡ false → setting_value key bs ≡ Some v →
    IsSetting key v
is_setting keys.ProblemFile bs v h e = file_setting keys.ProblemFile bs v e h
is_setting keys.TourFile bs v h e = file_setting keys.TourFile bs v e h
is_setting keys.SolutionFile bs v h e = file_setting keys.SolutionFile bs v e h
is_setting keys.InitialTourFile bs v h e = file_setting keys.InitialTourFile bs v e h
is_setting keys.Runs bs v h e = within keys.Runs (integer bs) v e
is_setting keys.MaxTrials bs v h e = within keys.MaxTrials (integer bs) v e
is_setting keys.Seed bs v h e = within keys.Seed (integer bs) v e
is_setting keys.MaxCandidates bs v h e = within keys.MaxCandidates (integer bs) v e
is_setting keys.OrSegment bs v h e = within keys.OrSegment (integer bs) v e
is_setting keys.Construction bs v h e = unlimited keys.Construction Way (construction_of bs) v (λ way. tt) e
is_setting keys.FinalSweep bs v h e = unlimited keys.FinalSweep Switch (switch_of bs) v (λ on. tt) e
is_setting key bs v h e = let is : Ignored ≡ v = cc in subst (IsSetting key) is tt

-- ---- look-ups

at_code : (key : Key) → get_or all_keys (key_code key) keys.Optimum ≡ key
at_code keys.ProblemFile = refl
at_code _ = refl

one_key : (a b : Key) → same_key a b ≡ true → b ≡ a
one_key a b e = sym (at_code b) ∙ ap (λ n. get_or all_keys n keys.Optimum) (sym (eqb-true _ _ e)) ∙ at_code a

look_step : (key : Key) (s : Key × Value) (rest : Option Value) (t : Bool) → same_key key s.0 ≡ t → IsSetting s.0 s.1 →
    IfSome rest (IsSetting key) → IfSome (cond t (Some s.1) rest) (IsSetting key)
look_step key s rest true e h k = subst (λ (x : Key). IsSetting x s.1) (one_key key s.0 e) h
look_step key s rest false e h k = k

look_setting : (key : Key) (ss : Settings) → AreSettings ss → IfSome (look key ss) (IsSetting key)
look_setting key [] h = tt
look_setting key (s ∷ ss) h =
    let P : Key × Value → Type 0 = λ (x : Key × Value). IsSetting x.0 x.1 in
    look_step key s (look key ss) (same_key key s.0) refl (All-head P s ss h) (look_setting key ss (All-tail P s ss h))

file_limits : (key : Key) (o : Option Value) → IfSome o (IsSetting key) → IfSome (file_in o) IsFileName
file_limits key (Some (File name)) h = h
file_limits key _ h = tt

number_limits : (key : Key) (o : Option Value) → IfSome o (IsSetting key) →
    IfSome (asked_number o) (IsInLimits (least key) (greatest key))
number_limits key (Some (Number n)) h = h
number_limits key _ h = tt

or_default : (low high d : ℕ) (o : Option ℕ) → IfSome o (IsInLimits low high) → (low ≤ d) × (d ≤ high) →
    (low ≤ unwrap_or o d) × (unwrap_or o d ≤ high)
or_default low high d None h default = default
or_default low high d (Some n) h default = (h.least, h.greatest)

module _ (ss : Settings) (sound : AreSettings ss) where
  file_at : (key : Key) → IfSome (file_in (look key ss)) IsFileName
  file_at key = file_limits key (look key ss) (look_setting key ss sound)

  pub number_at : (key : Key) → IfSome (asked_number (look key ss)) (IsInLimits (least key) (greatest key))
  number_at key = number_limits key (look key ss) (look_setting key ss sound)

  -- a number with its default
  pub number_or : (key : Key) (d n : ℕ) {o : Option ℕ} → n ≡ unwrap_or o d → o ≡ asked_number (look key ss) →
      (least key ≤ d) × (d ≤ greatest key) → (least key ≤ n) × (n ≤ greatest key)
  number_or key d n is asked default =
      subst (λ (m : ℕ). (least key ≤ m) × (m ≤ greatest key)) (sym (is ∙ ap (λ p. unwrap_or p d) asked))
      (or_default (least key) (greatest key) d _ (number_at key) default)

  pub asked_within : (problem : List ℕ) → HasEachKeyOnce ss → file_in (look keys.ProblemFile ss) ≡ Some problem →
      AreWithinLimits (requested_of problem ss)
  unfolding requested_of
  asked_within problem apart e =
      record {
        problem_file = subst (λ o. IfSome o IsFileName) e (file_at keys.ProblemFile);
        tour_file = file_at keys.TourFile;
        solution_file = file_at keys.SolutionFile;
        initial_tour_file = file_at keys.InitialTourFile;
        few_ignored = ignored_few ss apart;
      }
