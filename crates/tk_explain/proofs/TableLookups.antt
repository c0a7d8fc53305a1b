-- What stands in a table, by the names of its rows.
use Rattle.std.proofs.Common.{◌≡◌, ◌<◌, ◌∙◌, ℕ, List, Some, ap, map, get_or, length, option_map, slice_get, subst, sym}
use Rattle.std.specs.Prelude.{unwrap_or}
use Rattle.std.proofs.lemmas.List.{length-map}
use Rattle.std.proofs.lemmas.Option.{slice_get-get_or, slice_get-map, slice_get_within}

-- a place that has a name is within the table
has_row : {X Y : Type 0} (name : X → Y) (rows : List X) (names : List Y) (i : ℕ) (y : Y) → map name rows ≡ names →
    slice_get names i ≡ Some y → i < length rows
has_row name rows names i y e is =
    subst (λ n. i < n) (ap length (sym e) ∙ length-map rows name) (slice_get_within names i y is)

-- and its row has that name
pub row_named : {X Y : Type 0} (name : X → Y) (rows : List X) (names : List Y) (i : ℕ) (y : Y) (other : X) →
    map name rows ≡ names → slice_get names i ≡ Some y → name (get_or rows i other) ≡ y
row_named name rows names i y other e is =
    ap (λ o. unwrap_or o y)
    (ap (option_map name) (sym (slice_get-get_or rows i other (has_row name rows names i y e is)))
    ∙ sym (slice_get-map name rows i) ∙ ap (λ l. slice_get l i) e ∙ is)
