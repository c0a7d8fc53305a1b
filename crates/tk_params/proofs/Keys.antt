-- How many keys settings have.
use Rattle.std.proofs.Common.{◌≡◌, ◌∙◌, ◌≤◌, ◌++◌, ℕ, suc, Bool, true, false, List, [], ◌∷◌, length, cond, arith, refl}
use Rattle.std.proofs.Common.{sym, subst}
use Rattle.std.proofs.lemmas.Cmp.{on_equiv}
use Rattle.std.proofs.lemmas.List.{map-append}
use Rattle.std.proofs.lemmas.Map.Entries.{length-keys_of}
use Rattle.std.proofs.lemmas.Map.Keys.{IsDistinct-push}
use Rattle.std.proofs.lemmas.Map.Made.{is_some-lookup, length-le_from_is_member}
use Rattle.std.specs.Cmp.{IsEquivalence, nat_eq_equiv}
use Rattle.std.specs.List.{IsDistinct}
use Rattle.std.specs.Map.{keys_of}
use Rattle.std.specs.Set.{is_member}
use Rattle.tk_params.specs.declared.key.Key.{Key}
use Rattle.tk_params.specs.declared.key.Key.TheVariants as keys
use Rattle.tk_params.specs.Keys.{all_keys, key_code}
use Rattle.tk_params.specs.Values.{Settings, Value, has_key, same_key}
use Rattle.tk_params.specs.Requested.{HasEachKeyOnce, ignored_keys, is_ignored}

same_key_laws : IsEquivalence same_key
same_key_laws = on_equiv key_code nat_eq_equiv

is_listed : (key : Key) → is_member same_key all_keys key ≡ true
is_listed keys.ProblemFile = refl
is_listed _ = refl

settings_few : (ss : Settings) → HasEachKeyOnce ss → length ss ≤ length all_keys
settings_few ss apart =
    let few = length-le_from_is_member same_key_laws (keys_of ss) all_keys apart (λ key h. is_listed key) in
    omega (arith, few, length-keys_of ss)

ignored_step : (t : Bool) (key : Key) (ks : List Key) (n : ℕ) → length ks ≤ n → length (cond t (key ∷ ks) ks) ≤ suc n
ignored_step true key ks n le = omega (arith, le)
ignored_step false key ks n le = omega (arith, le)

ignored_among : (ss : Settings) → length (ignored_keys ss) ≤ length ss
unfolding ignored_keys
ignored_among [] = omega arith
ignored_among (s ∷ ss) = ignored_step (is_ignored s.1) s.0 (ignored_keys ss) (length ss) (ignored_among ss)

-- there are at most as many ignored keys as keys
pub ignored_few : (ss : Settings) → HasEachKeyOnce ss → length (ignored_keys ss) ≤ length all_keys
ignored_few ss apart = omega (arith, ignored_among ss, settings_few ss apart)

-- a new key after settings whose keys are apart
pub apart_push : (ss : Settings) (key : Key) (v : Value) → HasEachKeyOnce ss → has_key key ss ≡ false →
    HasEachKeyOnce (ss ++ (key, v) ∷ [])
apart_push ss key v apart fresh =
    let absent = sym (is_some-lookup (same_key key) ss) ∙ fresh in
    subst (IsDistinct same_key) (sym (map-append (λ (s : Key × Value). s.0) ss ((key, v) ∷ [])))
    (IsDistinct-push same_key_laws (keys_of ss) key apart absent)
