-- Pairs as keys, which are 64-bit numbers: the smaller of two keys represents the pair that comes first.
--     pair_at k      the pair that key k represents
--     IsWide p      a pair that has no key, since its saving is too large for one
use Rattle.std.specs.Prelude.{ℕ, ◌-◌, ◌/◌, ◌%◌, ◌<◌}
use Rattle.tk_starts.specs.declared.merges.pairs.Pair.{Pair}

-- the first 30 bits are 2^30 - 1 less the saving; the smaller and the larger city number follow, with 17 bits each
abbrev pub pair_at : ℕ → Pair
pair_at k = record {
  saving = record { 0 = 1073741823 - k / 131072 / 131072 };
  i = k / 131072 % 131072;
  j = k % 131072;
}

abbrev pub IsKey : ℕ → Type 0
IsKey k = k < 18446744073709551616

abbrev pub IsWide : Pair → Type 0
IsWide p = 1073741823 < p.saving.0
