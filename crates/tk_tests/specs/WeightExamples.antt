-- Examples of explicit weights, in all nine formats.
use Rattle.std.specs.Prelude.{ℕ, suc, ◌+◌, ◌*◌, true, List, [], ◌∷◌, map, codes}
use Rattle.tk_text.specs.declared.Format.{Format}
use Rattle.tk_text.specs.declared.Format.TheVariants as formats
use Rattle.tk_text.specs.Lex.{tokens_of}
use Rattle.tk_text.specs.WeightOrder.{order}
use Rattle.tk_text.specs.WeightSection.{lower_weights}

-- the entries of a matrix with three rows, as the digits of row and column: 23 is in the second row and the third
-- column
abbrev pub entries_of_3 : Format → List ℕ
entries_of_3 f = map (λ p. suc p.row * 10 + suc p.column) (order f 3)

abbrev pub entry_orders : List (Format × List ℕ)
entry_orders =
    (formats.FullMatrix, 11 ∷ 12 ∷ 13 ∷ 21 ∷ 22 ∷ 23 ∷ 31 ∷ 32 ∷ 33 ∷ [])
    ∷ (formats.UpperRow, 12 ∷ 13 ∷ 23 ∷ [])
    ∷ (formats.LowerRow, 21 ∷ 31 ∷ 32 ∷ [])
    ∷ (formats.UpperDiagRow, 11 ∷ 12 ∷ 13 ∷ 22 ∷ 23 ∷ 33 ∷ [])
    ∷ (formats.LowerDiagRow, 11 ∷ 21 ∷ 22 ∷ 31 ∷ 32 ∷ 33 ∷ [])
    ∷ (formats.UpperCol, 12 ∷ 13 ∷ 23 ∷ [])
    ∷ (formats.LowerCol, 21 ∷ 31 ∷ 32 ∷ [])
    ∷ (formats.UpperDiagCol, 11 ∷ 12 ∷ 22 ∷ 13 ∷ 23 ∷ 33 ∷ [])
    ∷ (formats.LowerDiagCol, 11 ∷ 21 ∷ 31 ∷ 22 ∷ 32 ∷ 33 ∷ [])
    ∷ []

-- the weights that the numbers of a format give four cities: those of 1-2, 1-3, 2-3, 1-4, 2-4, 3-4
abbrev pub pair_weights : Format × List ℕ → List ℕ
pair_weights section = lower_weights 4 section.0 (tokens_of true 1 section.1)

-- the same weights in each format; the numbers on the diagonal do not count
abbrev pub weight_lists : List ((Format × List ℕ) × List ℕ)
weight_lists =
    ((formats.FullMatrix, codes "7 1 2 3  1 -8 4 5  2 4 9 6  3 5 6 0"), 1 ∷ 2 ∷ 4 ∷ 3 ∷ 5 ∷ 6 ∷ [])
    ∷ ((formats.UpperRow, codes "1 2 3  4 5  6"), 1 ∷ 2 ∷ 4 ∷ 3 ∷ 5 ∷ 6 ∷ [])
    ∷ ((formats.LowerRow, codes "1  2 4  3 5 6"), 1 ∷ 2 ∷ 4 ∷ 3 ∷ 5 ∷ 6 ∷ [])
    ∷ ((formats.UpperDiagRow, codes "7 1 2 3  -8 4 5  9 6  0"), 1 ∷ 2 ∷ 4 ∷ 3 ∷ 5 ∷ 6 ∷ [])
    ∷ ((formats.LowerDiagRow, codes "7  1 -8  2 4 9  3 5 6 0"), 1 ∷ 2 ∷ 4 ∷ 3 ∷ 5 ∷ 6 ∷ [])
    ∷ ((formats.UpperCol, codes "1  2 4  3 5 6"), 1 ∷ 2 ∷ 4 ∷ 3 ∷ 5 ∷ 6 ∷ [])
    ∷ ((formats.LowerCol, codes "1 2 3  4 5  6"), 1 ∷ 2 ∷ 4 ∷ 3 ∷ 5 ∷ 6 ∷ [])
    ∷ ((formats.UpperDiagCol, codes "7  1 -8  2 4 9  3 5 6 0"), 1 ∷ 2 ∷ 4 ∷ 3 ∷ 5 ∷ 6 ∷ [])
    ∷ ((formats.LowerDiagCol, codes "7 1 2 3  -8 4 5  9 6  0"), 1 ∷ 2 ∷ 4 ∷ 3 ∷ 5 ∷ 6 ∷ [])
    ∷ []
