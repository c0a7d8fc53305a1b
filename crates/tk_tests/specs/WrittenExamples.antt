-- Examples of written texts.
use Rattle.std.specs.Prelude.{ℕ, ◌+◌, ◌==◌, List, [], ◌∷◌, ◌++◌, codes, if◌then◌else◌}
use Rattle.tk_text.specs.declared.Format.{Format}
use Rattle.tk_text.specs.declared.Format.TheVariants as formats
use Rattle.tk_text.specs.Written.{tour_line, wrong_count_line, out_of_range_line, repeated_city_line, near_line}
use Rattle.tk_text.specs.MatrixText.{matrix_text}
use Rattle.tk_text.specs.TourWritten.{tour_text}
use Rattle.tk_text.specs.SolutionWritten.{solution_text}
use Rattle.tk_text.specs.Problem.{Lower}
use Rattle.tk_tests.specs.ProblemExamples.{ProblemAnswer, problem_of, tsp}

-- the text itself, as it is written
abbrev pub itself : List ℕ → List ℕ
itself text = text

abbrev pub written_lines : List (List ℕ × List ℕ)
written_lines =
    (tour_line 3 12, codes "tour of 3 cities, length 12\n")
    ∷ (wrong_count_line 4 5, codes "wrong count: 4 wanted, 5 read\n")
    ∷ (out_of_range_line 4 5, codes "out of range at place 4: 5\n")
    ∷ (repeated_city_line 3 2, codes "repeated city at place 3: 2\n")
    ∷ (near_line 10 (3 ∷ 24 ∷ []), codes "10: 3 24\n")
    ∷ (near_line 2 (1 ∷ []), codes "2: 1\n")
    ∷ []

abbrev pub written_texts : List (List ℕ × List ℕ)
written_texts = (
  tour_text (codes "p") 40 (1 ∷ 3 ∷ 2 ∷ 4 ∷ []),
  codes
      "NAME : p.40.tour\nCOMMENT : Length = 40\nTYPE : TOUR\nDIMENSION : 4\nTOUR_SECTION\n1\n3\n2\n4\n-1\nEOF\n",
)
    ∷ (solution_text ((1 ∷ 2 ∷ []) ∷ (3 ∷ 4 ∷ []) ∷ []) 44, codes "Route #1: 1 2\nRoute #2: 3 4\nCost 44\n")
    ∷ (solution_text [] 0, codes "Cost 0\n")
    ∷ []

-- distances of three cities: 3 from 1 to 2, 4 from 1 to 3, 5 from 2 to 3
abbrev pub triangle : ℕ → ℕ → ℕ
triangle a b = if a == b then 0 else a + b

abbrev pub matrix_of : Format → List ℕ
matrix_of f = matrix_text (codes "p") 3 triangle f

-- the lines before the numbers
abbrev pub head : List ℕ → List ℕ
head word = codes "NAME : p\nTYPE : TSP\nDIMENSION : 3\nEDGE_WEIGHT_TYPE : EXPLICIT\nEDGE_WEIGHT_FORMAT : " ++ word
    ++ codes "\nEDGE_WEIGHT_SECTION\n"

abbrev pub matrices : List (Format × List ℕ)
matrices =
    (formats.FullMatrix, head (codes "FULL_MATRIX") ++ codes "0 3 4\n3 0 5\n4 5 0\nEOF\n")
    ∷ (formats.UpperRow, head (codes "UPPER_ROW") ++ codes "3 4\n5\nEOF\n")
    ∷ (formats.LowerRow, head (codes "LOWER_ROW") ++ codes "3\n4 5\nEOF\n")
    ∷ (formats.UpperDiagRow, head (codes "UPPER_DIAG_ROW") ++ codes "0 3 4\n0 5\n0\nEOF\n")
    ∷ (formats.LowerDiagRow, head (codes "LOWER_DIAG_ROW") ++ codes "0\n3 0\n4 5 0\nEOF\n")
    ∷ (formats.UpperCol, head (codes "UPPER_COL") ++ codes "3\n4 5\nEOF\n")
    ∷ (formats.LowerCol, head (codes "LOWER_COL") ++ codes "3 4\n5\nEOF\n")
    ∷ (formats.UpperDiagCol, head (codes "UPPER_DIAG_COL") ++ codes "0\n3 0\n4 5 0\nEOF\n")
    ∷ (formats.LowerDiagCol, head (codes "LOWER_DIAG_COL") ++ codes "0 3 4\n0 5\n0\nEOF\n")
    ∷ []

-- the text in each format is read as the same weights
abbrev pub read_back : Format → ProblemAnswer
read_back f = problem_of (matrix_of f)

abbrev pub same_weights : ProblemAnswer
same_weights = tsp (codes "p") 3 (Lower (3 ∷ 4 ∷ 5 ∷ []))

abbrev pub matrices_read_back : List (Format × ProblemAnswer)
matrices_read_back =
    (formats.FullMatrix, same_weights)
    ∷ (formats.UpperRow, same_weights)
    ∷ (formats.LowerRow, same_weights)
    ∷ (formats.UpperDiagRow, same_weights)
    ∷ (formats.LowerDiagRow, same_weights)
    ∷ (formats.UpperCol, same_weights)
    ∷ (formats.LowerCol, same_weights)
    ∷ (formats.UpperDiagCol, same_weights)
    ∷ (formats.LowerDiagCol, same_weights)
    ∷ []
