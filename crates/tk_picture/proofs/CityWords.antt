-- Words of the lines on cities.
use Rattle.std.proofs.Common.{◌≡◌, ℕ, ◌<◌, ◌≤◌, List, ◌++◌, Option, Some, None, Bor, length, get_or, refl, sym, arith}
use Rattle.std.specs.Prelude.{ℤ, pos, negsuc, int_lt, true, MatchOption, IfSome, codes, decimal, option_copied}
use Rattle.std.specs.Prelude.{slice_get}
use Rattle.std.specs.Int.RustNames.{unsigned_abs}
use Rattle.std.specs.Fmt.{signed_decimal}
use Rattle.std.proofs.lemmas.Int.{ints}
use Rattle.std.proofs.lemmas.Option.{slice_get_past, slice_get_read}

pub signed_below : (z : ℤ) → int_lt z (pos 0) ≡ true → codes "-" ++ decimal (unsigned_abs z) ≡ signed_decimal z
signed_below (pos n) below = absurd (omega (arith, ints, below))
signed_below (negsuc n) below = refl

-- what a slice has at an index
pub got : (r : Option (Bor ℕ)) (xs : List ℕ) (i : ℕ) (P : Bor ℕ → Type 0) → IfSome r (λ x. x.now ≡ get_or xs i x.now)
    → MatchOption r (length xs ≤ i) (λ x. (i < length xs) × P x) → option_copied r ≡ slice_get xs i
got None xs i P is within = sym (slice_get_past xs i within)
got (Some x) xs i P is within = sym (slice_get_read xs (length xs) i x.now refl within.0 is)
