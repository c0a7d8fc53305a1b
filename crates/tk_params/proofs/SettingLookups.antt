-- Looking up settings.
use Rattle.std.proofs.Common.{◌≡◌, ◌∙◌, ◌++◌, ◌≤◌, ℕ, eqb, length, get_or, arith, Bool, true, false, Bor, List, [], ◌∷◌}
use Rattle.std.proofs.Common.{Option, None, Some, cond, map, option_map, refl, sym, ap, subst}
use Rattle.std.proofs.Math.Path.{fun_ext}
use Rattle.std.proofs.lemmas.Map.Made.{lookup-map_values}
use Rattle.std.proofs.lemmas.List.{append-nil, map-append}
use Rattle.std.proofs.lemmas.Bool.{cond-false, cond-true, eq-eqb, eqb-true, false_from_ne_true, le-ltb}
use Rattle.std.specs.Prelude.{codes}
use Rattle.std.proofs.lemmas.List.Elements.{All-nil, All-push}
use Rattle.tk_words.specs.Words.{spells}
use Rattle.std.proofs.lemmas.Str.{IsUtf8-from_is_utf8, is_utf8-from_IsUtf8}
use Rattle.std.specs.Str.{IsUtf8, is_utf8}
use Rattle.indexmap.proofs.CallerLemmas.{insert_entry-new}
use Rattle.indexmap.specs.IndexMap.{IndexMap, insert_entry}
use Rattle.std.specs.Map.{lookup}
use Rattle.std.specs.Option.{option_copied, is_some}
use Rattle.tk_params.specs.declared.value.Setting.{Setting}
use Rattle.tk_params.specs.Reader.Lines.{HasTakenLine}
use Rattle.tk_params.specs.Reader.Stored.{AreStored, entry_is, value_is}
use Rattle.tk_params.specs.Requested.{IsSetting, ignored_keys, is_ignored}
use Rattle.tk_params.proofs.Keys.{apart_push}
use Rattle.std.specs.List.{IsDistinct}
use Rattle.tk_params.specs.contracts.key.KeyPartialEq.TheImpl.{eq-value}
use Rattle.tk_params.specs.declared.key.Key.{Key}
use Rattle.tk_params.specs.declared.key.Key.TheVariants as keys
use Rattle.tk_params.specs.Entries.{entry_of, word_entry}
use Rattle.tk_params.specs.Values.{Value, File, Meaning, Nothing, Settings, means, line_means, file_of, has_key}
use Rattle.tk_params.specs.Values.{has_dollar}
use Rattle.tk_params.specs.Values.{key_means, look, same_key, setting_value}

-- keys are equal where they have one place
pub equal_keys : (a b : Key) → eq-value.it a b ≡ same_key a b
equal_keys keys.ProblemFile keys.ProblemFile = refl
equal_keys _ keys.ProblemFile = refl
equal_keys _ _ = refl

lookup_same : {X : Type 0} (key : Key) (es : List (Key × X)) → lookup (eq-value.it key) es ≡ lookup (same_key key) es
lookup_same key es = ap (λ (test : Key → Bool). lookup test es) (fun_ext (equal_keys key))

-- a look-up among what is stored
pub equal_looks : (key : Key) (es : List (Key × Setting)) →
    option_map value_is (lookup (eq-value.it key) es) ≡ look key (map entry_is es)
equal_looks key es = ap (option_map value_is) (lookup_same key es) ∙ sym (lookup-map_values value_is (same_key key) es)

pub option_values : (o : Option (Bor Setting)) {s : Option Setting} {v : Option Value} → option_copied o ≡ s →
    option_map value_is s ≡ v → option_map (λ x. value_is x.now) o ≡ v
option_values None e f = ap (option_map value_is) e ∙ f
option_values (Some x) e f = ap (option_map value_is) e ∙ f

none_stored : (o : Option Setting) (v : Option Value) → option_map value_is o ≡ v → is_some v ≡ false → o ≡ None
none_stored None v e f = refl
none_stored (Some x) v e f = absurd (let k = rw (← e) at f in cc)

-- a new key goes last among what is stored
pub stored_last : {S : Type 0} (m : IndexMap Key Setting S) (key : Key) (setting : Setting)
    → has_key key (map entry_is m.entries) ≡ false
    → map entry_is (insert_entry eq-value.it m.entries key setting) ≡ map entry_is m.entries
    ++ (key, value_is setting) ∷ []
stored_last m key setting absent =
    ap (map entry_is) (insert_entry-new eq-value.it m key setting (none_stored _ _ (equal_looks key m.entries) absent))
    ∙ map-append entry_is m.entries ((key, setting) ∷ [])

-- a look-up of another key, after one is taken out
pub other_look : (m n : List (Key × Setting)) (key other : Key)
    → lookup (eq-value.it other) n ≡ cond (eq-value.it key other) None (lookup (eq-value.it other) m)
    → same_key key other ≡ false
    → look other (map entry_is n) ≡ look other (map entry_is m)
other_look m n key other e apart = sym (equal_looks other n)
    ∙ ap (option_map value_is) (e ∙ cond-false _ _ _ (equal_keys key other ∙ apart)) ∙ equal_looks other m

-- ---- settings with one more

ignored_append : (xs ys : Settings) → ignored_keys (xs ++ ys) ≡ ignored_keys xs ++ ignored_keys ys
unfolding ignored_keys
ignored_append [] ys = refl
ignored_append (x ∷ xs) ys = ap (λ ks. cond (is_ignored x.1) (x.0 ∷ ks) ks) (ignored_append xs ys)
    ∙ by_test (is_ignored x.1)
  where
    by_test : (t : Bool) →
        cond t (x.0 ∷ (ignored_keys xs ++ ignored_keys ys)) (ignored_keys xs ++ ignored_keys ys) ≡ cond t
        (x.0 ∷ ignored_keys xs) (ignored_keys xs) ++ ignored_keys ys
    by_test true = refl
    by_test false = refl

ignored_one : (key : Key) (v : Value) (t : Bool) → is_ignored v ≡ t →
    ignored_keys ((key, v) ∷ []) ≡ cond t (key ∷ []) []
unfolding ignored_keys
ignored_one key v t e = ap (λ (b : Bool). cond b (key ∷ []) []) e

pub none_kept : AreStored [] []
unfolding ignored_keys IsDistinct
none_kept = record { limits = All-nil (λ (x : Key × Value). IsSetting x.0 x.1); apart = tt; ignored = refl }

module _ (ss : Settings) (ks : List Key) (key : Key) (v : Value) (kept : AreStored ss ks)
    (fresh : has_key key ss ≡ false)
    (limits : IsSetting key v) where
  one_more : (t : Bool) → is_ignored v ≡ t → AreStored (ss ++ (key, v) ∷ []) (ks ++ cond t (key ∷ []) [])
  one_more t e =
      record {
        limits = All-push (λ (x : Key × Value). IsSetting x.0 x.1) ss (key, v) kept.limits limits;
        apart = apart_push ss key v kept.apart fresh;
        ignored =
            ap (λ (xs : List Key). xs ++ cond t (key ∷ []) []) kept.ignored
            ∙ ap (λ (xs : List Key). ignored_keys ss ++ xs) (sym (ignored_one key v t e))
            ∙ sym (ignored_append ss ((key, v) ∷ []));
      }

  pub one_more_used : (new : Settings) → new ≡ ss ++ (key, v) ∷ [] → is_ignored v ≡ false → AreStored new ks
  one_more_used new n e =
      rw n (subst (λ (xs : List Key). AreStored (ss ++ (key, v) ∷ []) xs) (append-nil ks) (one_more false e))

  pub one_more_ignored : (new : Settings) (more : List Key) → new ≡ ss ++ (key, v) ∷ [] → more ≡ ks ++ key ∷ [] →
      is_ignored v ≡ true → AreStored new more
  one_more_ignored new more n m e = rw (n, m) (one_more true e)

-- ---- file names

pub file_none : (bs : List ℕ) → (IsUtf8 bs → ⊥) → file_of bs ≡ None
file_none [] h = refl
file_none (b ∷ bs) h = let e : is_utf8 (b ∷ bs) ≡ false =
    false_from_ne_true _ (λ t. h (IsUtf8-from_is_utf8 _ t)) in rw e refl

pub file_some : (bs : List ℕ) → eqb (length bs) 0 ≡ false → IsUtf8 bs → file_of bs ≡ Some (File bs)
file_some [] h u = absurd cc
file_some (b ∷ bs) h u = let e : is_utf8 (b ∷ bs) ≡ true = is_utf8-from_IsUtf8 _ u in rw e refl

-- ---- a key is taken

pub taken_key : (old new : Settings) (key : Key) (bs : List ℕ) (v : Value) → has_key key old ≡ false
    → has_dollar key bs ≡ false → setting_value key bs ≡ Some v → new ≡ old ++ (key, v) ∷ []
    → HasTakenLine old new (key_means old key bs)
taken_key old new key bs v h d e s = rw (h, d, e) (record { sound = tt; settings = s })

-- ---- lines that say nothing

pub nothing_taken : (old : Settings) (m : Meaning) → m ≡ Nothing → HasTakenLine old old m
nothing_taken old m e = rw e (record { sound = tt; settings = sym (append-nil old) })

pub comment_means : (before : Settings) (word rest : List ℕ) → length word ≤ 64 → spells word (codes "COMMENT") ≡ true →
    means before (word_entry word rest) ≡ Nothing
unfolding word_entry
comment_means before word rest le s = ap (means before) (cond-false _ _ _ (le-ltb _ _ le) ∙ cond-true _ _ _ s)

pub empty_means : (before : Settings) (line : List ℕ) → eqb (length line) 0 ≡ true → line_means before line ≡ Nothing
unfolding entry_of
empty_means before [] h = refl
empty_means before (b ∷ bs) h = absurd (let e = eqb-true _ _ h in omega (arith, e))

pub hash_means : (before : Settings) (line : List ℕ) → eqb (length line) 0 ≡ false → get_or line 0 0 ≡ 35 →
    line_means before line ≡ Nothing
unfolding entry_of
hash_means before [] h e = absurd cc
hash_means before (b ∷ bs) h e = ap (means before) (cond-true _ _ _ (eq-eqb _ _ e))
