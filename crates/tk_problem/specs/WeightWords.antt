-- The TSPLIB names of distance types and matrix formats (G. Reinelt, "TSPLIB 95").
use Rattle.std.specs.Prelude.{ℕ, List, [], ◌∷◌, codes}
use Rattle.tk_problem.specs.declared.weights.PlaneKind.{PlaneKind}
use Rattle.tk_problem.specs.declared.weights.PlaneKind.TheVariants as planes
use Rattle.tk_problem.specs.declared.weights.Format.{Format}
use Rattle.tk_problem.specs.declared.weights.Format.TheVariants as formats

-- the TSPLIB name of the distance type
abbrev pub plane_word : PlaneKind → List ℕ
plane_word planes.Euc2d = codes "EUC_2D"
plane_word planes.Ceil2d = codes "CEIL_2D"
plane_word planes.Man2d = codes "MAN_2D"
plane_word planes.Max2d = codes "MAX_2D"
plane_word planes.Att = codes "ATT"

abbrev pub all_planes : List PlaneKind
all_planes =
    planes.Euc2d
    ∷ planes.Ceil2d
    ∷ planes.Man2d
    ∷ planes.Max2d
    ∷ planes.Att
    ∷ []

-- the TSPLIB name of the format
abbrev pub format_word : Format → List ℕ
format_word formats.FullMatrix = codes "FULL_MATRIX"
format_word formats.UpperRow = codes "UPPER_ROW"
format_word formats.LowerRow = codes "LOWER_ROW"
format_word formats.UpperDiagRow = codes "UPPER_DIAG_ROW"
format_word formats.LowerDiagRow = codes "LOWER_DIAG_ROW"
format_word formats.UpperCol = codes "UPPER_COL"
format_word formats.LowerCol = codes "LOWER_COL"
format_word formats.UpperDiagCol = codes "UPPER_DIAG_COL"
format_word formats.LowerDiagCol = codes "LOWER_DIAG_COL"

abbrev pub all_formats : List Format
all_formats =
    formats.FullMatrix
    ∷ formats.UpperRow
    ∷ formats.LowerRow
    ∷ formats.UpperDiagRow
    ∷ formats.LowerDiagRow
    ∷ formats.UpperCol
    ∷ formats.LowerCol
    ∷ formats.UpperDiagCol
    ∷ formats.LowerDiagCol
    ∷ []
