-- The keys of parameter files (K. Helsgaun, LKH user guide; docs/FORMATS.md lists those that are specific to tourkit).
use Rattle.std.specs.Prelude.{ℕ, Bool, true, false, List, [], ◌∷◌, Option, codes, find}
use Rattle.tk_words.specs.Words.{spells}
use Rattle.tk_params.specs.declared.key.Key.{Key}
use Rattle.tk_params.specs.declared.key.Key.TheVariants as keys

-- the word of a key
abbrev pub key_word : Key → List ℕ
key_word keys.ProblemFile = codes "PROBLEM_FILE"
key_word keys.TourFile = codes "TOUR_FILE"
key_word keys.SolutionFile = codes "SOLUTION_FILE"
key_word keys.InitialTourFile = codes "INITIAL_TOUR_FILE"
key_word keys.Runs = codes "RUNS"
key_word keys.MaxTrials = codes "MAX_TRIALS"
key_word keys.Seed = codes "SEED"
key_word keys.MaxCandidates = codes "MAX_CANDIDATES"
key_word keys.Construction = codes "CONSTRUCTION"
key_word keys.FinalSweep = codes "FINAL_SWEEP"
key_word keys.OrSegment = codes "OR_SEGMENT"
key_word keys.MoveType = codes "MOVE_TYPE"
key_word keys.PatchingA = codes "PATCHING_A"
key_word keys.PatchingC = codes "PATCHING_C"
key_word keys.Precision = codes "PRECISION"
key_word keys.TraceLevel = codes "TRACE_LEVEL"
key_word keys.Optimum = codes "OPTIMUM"

abbrev pub all_keys : List Key
all_keys =
    keys.ProblemFile
    ∷ keys.TourFile
    ∷ keys.SolutionFile
    ∷ keys.InitialTourFile
    ∷ keys.Runs
    ∷ keys.MaxTrials
    ∷ keys.Seed
    ∷ keys.MaxCandidates
    ∷ keys.Construction
    ∷ keys.FinalSweep
    ∷ keys.OrSegment
    ∷ keys.MoveType
    ∷ keys.PatchingA
    ∷ keys.PatchingC
    ∷ keys.Precision
    ∷ keys.TraceLevel
    ∷ keys.Optimum
    ∷ []

-- the key that the bytes spell, without regard to case
unfoldable pub key_of : List ℕ → Option Key
key_of bs = find (λ key. spells bs (key_word key)) all_keys

-- a number for each key
abbrev pub key_code : Key → ℕ
key_code keys.ProblemFile = 0
key_code keys.TourFile = 1
key_code keys.SolutionFile = 2
key_code keys.InitialTourFile = 3
key_code keys.Runs = 4
key_code keys.MaxTrials = 5
key_code keys.Seed = 6
key_code keys.MaxCandidates = 7
key_code keys.Construction = 8
key_code keys.FinalSweep = 9
key_code keys.OrSegment = 10
key_code keys.MoveType = 11
key_code keys.PatchingA = 12
key_code keys.PatchingC = 13
key_code keys.Precision = 14
key_code keys.TraceLevel = 15
key_code keys.Optimum = 16

-- whether the value of a key is a file name
abbrev pub is_file : Key → Bool
is_file keys.ProblemFile = true
is_file keys.TourFile = true
is_file keys.SolutionFile = true
is_file keys.InitialTourFile = true
is_file _ = false
