-- Laws of what is put for each item of a list.
use Rattle.std.proofs.Common.{◌≡◌, ℕ, ◌+◌, ◌<◌, List, ◌++◌, length, take, get_or, refl, append-nil}
use Rattle.std.specs.Prelude.{flat_map}
use Rattle.std.proofs.lemmas.List.{take_more}
use Rattle.std.proofs.Math.Seq.{take-length}
use Rattle.std.proofs.lemmas.Grind.{flat_map-append}

pub flat_map_take : (f : ℕ → List ℕ) (xs : List ℕ) (i : ℕ) → i < length xs →
    flat_map f (take (i + 1) xs) ≡ flat_map f (take i xs) ++ f (get_or xs i 0)
flat_map_take f xs i within = rw (take_more xs i 0 within, flat_map-append, append-nil) refl

pub flat_map_all : (f : ℕ → List ℕ) (xs : List ℕ) (i : ℕ) → i ≡ length xs → flat_map f (take i xs) ≡ flat_map f xs
flat_map_all f xs i all = rw (all, take-length) refl
