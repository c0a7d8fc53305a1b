-- Examples of parameter texts: their parameters, their faults and the lines of these, and the answers that beginnings
-- of texts decide.
use Rattle.std.specs.Prelude.{◌≡◌, ℕ, true, false, List, [], ◌∷◌, ◌++◌, map, Option, Some, None, Ok, Err, codes}
use Rattle.std.specs.Prelude.{replicate}
use Rattle.tk_text.specs.Texts.{answer_of}
use Rattle.tk_params.specs.declared.fault.ParamKind.{ParamKind}
use Rattle.tk_params.specs.declared.fault.ParamKind.TheVariants as kinds
use Rattle.tk_params.specs.declared.key.Key.{Key}
use Rattle.tk_params.specs.declared.key.Key.TheVariants as keys
use Rattle.tk_params.specs.declared.value.Construction.TheVariants.{Nearest, Savings}
use Rattle.tk_engines.specs.Requested.{ParamsAre, SearchIs}
use Rattle.tk_engines.specs.Params.{Answer, params_decided, params_texts}

-- a function returns the value that the table has next to each of its arguments
abbrev pub HasTable : {A B : Type 0} → (A → B) → List (A × B) → Type 0
HasTable f rows = map (λ row. f row.0) rows ≡ map (λ row. row.1) rows

abbrev pub TextAnswer : Type 0
TextAnswer = Option Answer

-- the answer to a text
abbrev pub said_by : List ℕ → TextAnswer
said_by text = params_decided true text

-- the answer to all texts that begin with these bytes
abbrev pub begun_by : List ℕ → TextAnswer
begun_by text = params_decided false text

-- the answer to a text of which at most `limit` bytes are read
abbrev pub said_within : ℕ × List ℕ → Answer
said_within (limit, text) = answer_of (record params_texts { limit = limit }) text

-- these parameters; a fault on this line; or no answer, since more bytes decide it
abbrev pub asks : ParamsAre → TextAnswer
asks p = Some (Ok p)

abbrev pub fault : ℕ → ParamKind → TextAnswer
fault line kind = Some (Err (record { line = line; kind = kind }))

abbrev pub undecided : TextAnswer
undecided = None

-- the search of a text without its keys
abbrev pub by_default : SearchIs
by_default =
    record {
      runs = 10;
      max_trials = None;
      seed = 1;
      max_candidates = 5;
      construction = Nearest;
      final_sweep = false;
      or_segment = 3;
    }

-- the parameters of a text that names only the problem file
abbrev pub only : List ℕ → ParamsAre
only problem =
    record {
      problem_file = problem;
      tour_file = None;
      solution_file = None;
      initial_tour_file = None;
      search = by_default;
      ignored = [];
    }

-- a text whose first line names the problem file p, and its parameters
abbrev pub after_p : List ℕ → List ℕ
after_p text = codes "PROBLEM_FILE = p\n" ++ text

abbrev pub p : ParamsAre
p = only (codes "p")

-- the parameters of a text that names the problem file p and specifies this search
abbrev pub searches : SearchIs → TextAnswer
searches s = asks (record p { search = s })

abbrev pub key_words : List (List ℕ × Option Key)
key_words =
    (codes "PROBLEM_FILE", Some keys.ProblemFile)
    ∷ (codes "TOUR_FILE", Some keys.TourFile)
    ∷ (codes "SOLUTION_FILE", Some keys.SolutionFile)
    ∷ (codes "INITIAL_TOUR_FILE", Some keys.InitialTourFile)
    ∷ (codes "RUNS", Some keys.Runs)
    ∷ (codes "MAX_TRIALS", Some keys.MaxTrials)
    ∷ (codes "SEED", Some keys.Seed)
    ∷ (codes "MAX_CANDIDATES", Some keys.MaxCandidates)
    ∷ (codes "CONSTRUCTION", Some keys.Construction)
    ∷ (codes "FINAL_SWEEP", Some keys.FinalSweep)
    ∷ (codes "OR_SEGMENT", Some keys.OrSegment)
    ∷ (codes "MOVE_TYPE", Some keys.MoveType)
    ∷ (codes "PATCHING_A", Some keys.PatchingA)
    ∷ (codes "PATCHING_C", Some keys.PatchingC)
    ∷ (codes "PRECISION", Some keys.Precision)
    ∷ (codes "TRACE_LEVEL", Some keys.TraceLevel)
    ∷ (codes "OPTIMUM", Some keys.Optimum)
    -- in capital and small letters
    ∷ (codes "ProBLem_fIle", Some keys.ProblemFile)
    ∷ (codes "optimum", Some keys.Optimum)
    -- words that are not keys
    ∷ (codes "", None)
    ∷ (codes "FOO", None)
    ∷ (codes "RUN", None)
    ∷ (codes "RUNSS", None)
    ∷ (codes "RUNS_", None)
    ∷ (codes "COMMENT", None)
    ∷ (codes "EOF", None)
    ∷ (codes "TIME_LIMIT", None)
    ∷ (codes "SYMMETRIC", None)
    ∷ (codes "MOVE-TYPE", None)
    ∷ (codes "PATCHINGA", None)
    ∷ []

abbrev pub accepted : List (List ℕ × TextAnswer)
accepted =
    (codes "PROBLEM_FILE = p", asks p)
    -- blanks, with and without an equals sign, capital and small letters
    ∷ (codes "problem_file p\n", asks p)
    ∷ (codes "ProBLem_fIle\t=\tp \r\n", asks p)
    ∷ (codes " PROBLEM_FILE=p", asks p)
    ∷ (codes "PROBLEM_FILE = = p", asks (only (codes "= p")))
    ∷ (codes "PROBLEM_FILE\tp q \t.tsp\r\n", asks (only (codes "p q \t.tsp")))
    ∷ (codes "PROBLEM_FILE # p\n", asks (only (codes "# p")))
    ∷ (codes "PROBLEM_FILE = " ++ 195 ∷ 169 ∷ [], asks (only (195 ∷ 169 ∷ [])))
    -- the minimum and the maximum of each key
    ∷ (after_p (codes "RUNS = 1"), searches (record by_default { runs = 1 }))
    ∷ (after_p (codes "RUNS = 10000\n"), searches (record by_default { runs = 10000 }))
    ∷ (after_p (codes "MAX_TRIALS = 1\n"), searches (record by_default { max_trials = Some 1 }))
    ∷ (after_p (codes "max_trials 1000000"), searches (record by_default { max_trials = Some 1000000 }))
    ∷ (after_p (codes "SEED = 0\n"), searches (record by_default { seed = 0 }))
    ∷ (after_p (codes "SEED=+4294967295\n"), searches (record by_default { seed = 4294967295 }))
    ∷ (after_p (codes "MAX_CANDIDATES = 1\n"), searches (record by_default { max_candidates = 1 }))
    ∷ (after_p (codes "MAX_CANDIDATES = 100\n"), searches (record by_default { max_candidates = 100 }))
    ∷ (after_p (codes "OR_SEGMENT = 1\n"), searches (record by_default { or_segment = 1 }))
    ∷ (after_p (codes "OR_SEGMENT\t2\n"), searches (record by_default { or_segment = 2 }))
    ∷ (after_p (codes "OR_SEGMENT = 3\n"), asks p)
    ∷ (after_p (codes "RUNS = 003\nSEED = -0\n"), searches (record by_default { runs = 3; seed = 0 }))
    ∷ (after_p (codes "CONSTRUCTION = NEAREST\nFINAL_SWEEP = NO\n"), asks p)
    ∷ (
      after_p (codes "CONSTRUCTION= savings\r\nfinal_sweep = Yes"),
      searches (record by_default { construction = Savings; final_sweep = true }),
    )
    ∷ (
      after_p (codes "TOUR_FILE = t\nSOLUTION_FILE = s\nINITIAL_TOUR_FILE = i\n"),
      asks (record p {
        tour_file = Some (codes "t");
        solution_file = Some (codes "s");
        initial_tour_file =
            Some (codes "i");
      }),
    )
    -- lines that are skipped
    ∷ (after_p (codes "\n \t\r\n# RUNS = 0\n  # $\nCOMMENT\nCOMMENT = $\ncomment = x"), asks p)
    -- keys that are not used, in their order; their values do not matter
    ∷ (
      codes "# c\nMOVE_TYPE = 5\nPROBLEM_FILE = p\nRUNS = 1\n",
      asks (record p { search = record by_default { runs = 1 }; ignored = keys.MoveType ∷ [] }),
    )
    ∷ (
      codes
          "OPTIMUM = 7 $\nTRACE_LEVEL\nPROBLEM_FILE = p\nPRECISION = \nPATCHING_C = = 3\npatching_a 5\nMOVE_TYPE = x y",
      asks (record p {
        ignored = keys.Optimum ∷ keys.TraceLevel ∷ keys.Precision ∷ keys.PatchingC ∷ keys.PatchingA
            ∷ keys.MoveType ∷ [];
      }),
    )
    -- nothing after EOF belongs to the text
    ∷ (after_p (codes "EOF"), asks p)
    ∷ (after_p (codes " eof\nFOO = 1\n"), asks p)
    ∷ (after_p (codes "EOF = 1\nRUNS = 0"), asks p)
    ∷ (after_p (codes "Eof. RUNS"), asks p)
    ∷ []

abbrev pub value_faults : List (List ℕ × TextAnswer)
value_faults =
    -- outside the limits
    (codes "RUNS = 0", fault 1 kinds.BadValue)
    ∷ (codes "RUNS = 10001", fault 1 kinds.BadValue)
    ∷ (codes "MAX_TRIALS = 0", fault 1 kinds.BadValue)
    ∷ (codes "MAX_TRIALS = 1000001", fault 1 kinds.BadValue)
    ∷ (codes "SEED = -1", fault 1 kinds.BadValue)
    ∷ (codes "SEED = 4294967296", fault 1 kinds.BadValue)
    ∷ (codes "MAX_CANDIDATES = 0", fault 1 kinds.BadValue)
    ∷ (codes "MAX_CANDIDATES = 101", fault 1 kinds.BadValue)
    ∷ (codes "OR_SEGMENT = 0", fault 1 kinds.BadValue)
    ∷ (codes "OR_SEGMENT = 4", fault 1 kinds.BadValue)
    ∷ (codes "SEED = 99999999999999999999", fault 1 kinds.BadValue)
    -- no integer, or more than one integer
    ∷ (codes "RUNS", fault 1 kinds.BadValue)
    ∷ (codes "RUNS = ", fault 1 kinds.BadValue)
    ∷ (codes "RUNS = x", fault 1 kinds.BadValue)
    ∷ (codes "RUNS-3", fault 1 kinds.BadValue)
    ∷ (codes "RUNS = 1 2", fault 1 kinds.BadValue)
    ∷ (codes "RUNS = 1.0", fault 1 kinds.BadValue)
    ∷ (codes "RUNS == 1", fault 1 kinds.BadValue)
    ∷ (codes "SEED = 1:", fault 1 kinds.BadValue)
    ∷ (codes "MAX_TRIALS = 1e3", fault 1 kinds.BadValue)
    ∷ (codes "OR_SEGMENT = 1 # c", fault 1 kinds.BadValue)
    -- values that are not one of the choices
    ∷ (codes "CONSTRUCTION = GREEDY", fault 1 kinds.BadValue)
    ∷ (codes "CONSTRUCTION = NEAR", fault 1 kinds.BadValue)
    ∷ (codes "CONSTRUCTION", fault 1 kinds.BadValue)
    ∷ (codes "FINAL_SWEEP = Y", fault 1 kinds.BadValue)
    ∷ (codes "FINAL_SWEEP = 1", fault 1 kinds.BadValue)
    ∷ (codes "FINAL_SWEEP = YES NO", fault 1 kinds.BadValue)
    -- file names that are empty or not UTF-8
    ∷ (codes "PROBLEM_FILE", fault 1 kinds.BadValue)
    ∷ (codes "PROBLEM_FILE = \t\r", fault 1 kinds.BadValue)
    ∷ (codes "TOUR_FILE =", fault 1 kinds.BadValue)
    ∷ (codes "SOLUTION_FILE\n", fault 1 kinds.BadValue)
    ∷ (codes "INITIAL_TOUR_FILE = \n", fault 1 kinds.BadValue)
    ∷ (codes "TOUR_FILE = t" ++ 255 ∷ [], fault 1 kinds.BadValue)
    ∷ (codes "PROBLEM_FILE = " ++ 195 ∷ [], fault 1 kinds.BadValue)
    -- a dollar sign in a file name
    ∷ (codes "PROBLEM_FILE = a$b", fault 1 kinds.DollarInName)
    ∷ (codes "TOUR_FILE = $", fault 1 kinds.DollarInName)
    ∷ (codes "SOLUTION_FILE = $s\n", fault 1 kinds.DollarInName)
    ∷ (codes "INITIAL_TOUR_FILE t$", fault 1 kinds.DollarInName)
    -- lines that do not begin with a letter, and words that are not keys
    ∷ (codes "1 = 1", fault 1 kinds.UnknownKey)
    ∷ (codes "= p", fault 1 kinds.UnknownKey)
    ∷ (codes "-1", fault 1 kinds.UnknownKey)
    ∷ (codes "$", fault 1 kinds.UnknownKey)
    ∷ (codes "_RUNS = 1", fault 1 kinds.UnknownKey)
    ∷ (codes "PROFILE = p", fault 1 kinds.UnknownKey)
    ∷ (codes "TIME_LIMIT = 1", fault 1 kinds.UnknownKey)
    ∷ (codes "COMMENTS = 1", fault 1 kinds.UnknownKey)
    ∷ (codes "EOFS", fault 1 kinds.UnknownKey)
    ∷ (codes "# c\nMOVE_TYPE = 5\nFOO = 1\n", fault 3 kinds.UnknownKey)
    ∷ (195 ∷ 169 ∷ [], fault 1 kinds.UnknownKey)
    ∷ []

abbrev pub fault_orders : List (List ℕ × TextAnswer)
fault_orders =
    -- repeated keys
    (codes "SEED = 1\nSEED = 1\n", fault 2 kinds.RepeatedKey)
    ∷ (codes "PROBLEM_FILE = p\n\n\tproblem_file = q", fault 3 kinds.RepeatedKey)
    ∷ (codes "MOVE_TYPE = 5\nPROBLEM_FILE = p\nmove_type = 5", fault 3 kinds.RepeatedKey)
    -- on one line: RepeatedKey before DollarInName before BadValue
    ∷ (codes "RUNS = 1\nRUNS = 0\n", fault 2 kinds.RepeatedKey)
    ∷ (codes "TOUR_FILE = t\nTOUR_FILE = a$b\n", fault 2 kinds.RepeatedKey)
    ∷ (codes "PROBLEM_FILE = $" ++ 255 ∷ [], fault 1 kinds.DollarInName)
    ∷ (codes "OPTIMUM\nOPTIMUM\n", fault 2 kinds.RepeatedKey)
    -- of two lines with a fault, the first one counts
    ∷ (codes "RUNS = 0\nFOO = 1\n", fault 1 kinds.BadValue)
    ∷ (codes "FOO = 1\nRUNS = 0\n", fault 1 kinds.UnknownKey)
    ∷ (codes "RUNS = 0\nEOF\n", fault 1 kinds.BadValue)
    -- the problem file is missing: at EOF, or at the end
    ∷ (codes "", fault 1 kinds.MissingProblem)
    ∷ (codes "\n\n", fault 3 kinds.MissingProblem)
    ∷ (codes "RUNS = 1", fault 1 kinds.MissingProblem)
    ∷ (codes "RUNS = 1\n", fault 2 kinds.MissingProblem)
    ∷ (codes "RUNS = 1\nEOF\n", fault 2 kinds.MissingProblem)
    ∷ (codes "EOF\nPROBLEM_FILE = p", fault 1 kinds.MissingProblem)
    ∷ (codes "# PROBLEM_FILE = p", fault 1 kinds.MissingProblem)
    ∷ (codes "TOUR_FILE = p\nMOVE_TYPE = 1\n eof ", fault 3 kinds.MissingProblem)
    ∷ []

-- the beginnings of one text
abbrev pub prefixes : List (List ℕ × TextAnswer)
prefixes =
    (codes "", fault 1 kinds.MissingProblem)
    ∷ (codes "# c", fault 1 kinds.MissingProblem)
    ∷ (codes "# c\n", fault 2 kinds.MissingProblem)
    ∷ (codes "# c\nM", fault 2 kinds.UnknownKey)
    ∷ (codes "# c\nMOVE_TYPE", fault 2 kinds.MissingProblem)
    ∷ (codes "# c\nMOVE_TYPE = 5", fault 2 kinds.MissingProblem)
    ∷ (codes "# c\nMOVE_TYPE = 5\n", fault 3 kinds.MissingProblem)
    ∷ (codes "# c\nMOVE_TYPE = 5\nPROBLEM_", fault 3 kinds.UnknownKey)
    ∷ (codes "# c\nMOVE_TYPE = 5\nPROBLEM_FILE", fault 3 kinds.BadValue)
    ∷ (codes "# c\nMOVE_TYPE = 5\nPROBLEM_FILE = ", fault 3 kinds.BadValue)
    ∷ (codes "# c\nMOVE_TYPE = 5\nPROBLEM_FILE = p", asks (record p { ignored = keys.MoveType ∷ [] }))
    ∷ (
      codes "# c\nMOVE_TYPE = 5\nPROBLEM_FILE = p.",
      asks (record (only (codes "p.")) { ignored = keys.MoveType ∷ [] }),
    )
    ∷ (
      codes "# c\nMOVE_TYPE = 5\nPROBLEM_FILE = p.tsp\n",
      asks (record (only (codes "p.tsp")) { ignored = keys.MoveType ∷ [] }),
    )
    ∷ (codes "# c\nMOVE_TYPE = 5\nPROBLEM_FILE = p.tsp\nR", fault 4 kinds.UnknownKey)
    ∷ (codes "# c\nMOVE_TYPE = 5\nPROBLEM_FILE = p.tsp\nRUNS", fault 4 kinds.BadValue)
    ∷ (codes "# c\nMOVE_TYPE = 5\nPROBLEM_FILE = p.tsp\nRUNS = ", fault 4 kinds.BadValue)
    ∷ (
      codes "# c\nMOVE_TYPE = 5\nPROBLEM_FILE = p.tsp\nRUNS = 1",
      asks (record (only (codes "p.tsp")) { search = record by_default { runs = 1 }; ignored = keys.MoveType ∷ [] }),
    )
    ∷ []

abbrev pub lengths : List (List ℕ × TextAnswer)
lengths =
    -- a key of 64 bytes, and one more
    (replicate 64 65, fault 1 kinds.UnknownKey)
    ∷ (replicate 65 65, fault 1 kinds.TooLong)
    ∷ (codes "RUNS = 1\n" ++ replicate 65 65 ++ codes " = 1\n", fault 2 kinds.TooLong)
    -- a line of 4,096 bytes, and one more
    ∷ (codes "#" ++ replicate 4095 120, fault 1 kinds.MissingProblem)
    ∷ (codes "#" ++ replicate 4096 120, fault 1 kinds.TooLong)
    ∷ (replicate 4096 32 ++ codes "\n", fault 2 kinds.MissingProblem)
    ∷ (replicate 4097 32 ++ codes "\n", fault 1 kinds.TooLong)
    ∷ (codes "OPTIMUM = " ++ replicate 4086 120, fault 1 kinds.MissingProblem)
    ∷ (codes "OPTIMUM = " ++ replicate 4087 120, fault 1 kinds.TooLong)
    ∷ (codes "SEED = 1\nSEED =" ++ replicate 4092 32, fault 2 kinds.TooLong)
    -- on the line of EOF, the bytes up to the end of EOF count
    ∷ (replicate 4093 32 ++ codes "EOF = 1", fault 1 kinds.MissingProblem)
    ∷ (replicate 4094 32 ++ codes "EOF", fault 1 kinds.TooLong)
    ∷ (after_p (codes "EOF" ++ replicate 4096 32), asks p)
    ∷ []

abbrev pub beginnings : List (List ℕ × TextAnswer)
beginnings =
    (codes "", undecided)
    ∷ (codes "PROBLEM_FILE = p", undecided)
    ∷ (codes "PROBLEM_FILE = p\n", undecided)
    -- of a line without its end, only the length can be a fault
    ∷ (codes "FOO = 1", undecided)
    ∷ (codes "FOO = 1\n", fault 1 kinds.UnknownKey)
    ∷ (replicate 65 65, undecided)
    ∷ (replicate 65 65 ++ codes "\n", fault 1 kinds.TooLong)
    ∷ (replicate 4096 32, undecided)
    ∷ (replicate 4097 32, fault 1 kinds.TooLong)
    ∷ (codes "SEED = 1\nSEED = 1", undecided)
    ∷ (codes "SEED = 1\nSEED = 1\n", fault 2 kinds.RepeatedKey)
    -- EOF, and a longer word
    ∷ (after_p (codes "EO"), undecided)
    ∷ (after_p (codes "EOF"), undecided)
    ∷ (after_p (codes "EOFX"), undecided)
    ∷ (after_p (codes "EOF "), asks p)
    ∷ (after_p (codes "EOF\n"), asks p)
    ∷ (after_p (codes "EOF="), asks p)
    ∷ (codes "EOF\n", fault 1 kinds.MissingProblem)
    ∷ []

abbrev pub within_limits : List ((ℕ × List ℕ) × Answer)
within_limits =
    ((3, codes "#\n#"), Err (record { line = 2; kind = kinds.MissingProblem }))
    ∷ ((2, codes "#\n#"), Err (record { line = 2; kind = kinds.TooLong }))
    ∷ ((2, codes "#\n\n"), Err (record { line = 2; kind = kinds.TooLong }))
    ∷ ((16, codes "PROBLEM_FILE = p"), Ok p)
    ∷ ((16, codes "PROBLEM_FILE = p\n"), Err (record { line = 1; kind = kinds.TooLong }))
    ∷ ((19, codes "PROBLEM_FILE = p\nEOF\nFOO"), Err (record { line = 2; kind = kinds.TooLong }))
    ∷ ((20, codes "PROBLEM_FILE = p\nEOF\nFOO"), Ok p)
    ∷ ((4, codes "FOO\n\n\n"), Err (record { line = 1; kind = kinds.UnknownKey }))
    ∷ []
