-- Examples of solution texts: their routes and cost, their faults and the lines of these, and the answers that
-- beginnings of texts decide.
use Rattle.std.specs.Prelude.{ℕ, true, false, List, [], ◌∷◌, ◌++◌, Option, Some, None, Result, Ok, Err, pos, codes}
use Rattle.std.specs.Prelude.{replicate}
use Rattle.tk_text.specs.declared.Keyword.TheVariants as words
use Rattle.tk_text.specs.declared.TextKind.{TextKind}
use Rattle.tk_text.specs.declared.TextKind.TheVariants as kinds
use Rattle.tk_text.specs.declared.TextFault.{TextFault}
use Rattle.tk_text.specs.Texts.{answer_of}
use Rattle.tk_text.specs.Pieces.{Stop, Fault}
use Rattle.tk_text.specs.Solution.{Solution, Head, Short, Bad, Behind, customer_stop, solution_decided}
use Rattle.tk_text.specs.Solution.{solution_texts}

abbrev pub SolutionAnswer : Type 0
SolutionAnswer = Option (Result Solution TextFault)

-- the answer to a text
abbrev pub solution_of : List ℕ → SolutionAnswer
solution_of text = solution_decided true text

-- the answer to all texts that begin with these bytes
abbrev pub solution_begun : List ℕ → SolutionAnswer
solution_begun text = solution_decided false text

-- these routes with this cost; a fault on this line; or no answer, since more bytes decide it
abbrev pub routes : List (List ℕ) → ℕ → SolutionAnswer
routes customers cost = Some (Ok (customers, pos cost))

abbrev pub fault : ℕ → TextKind → SolutionAnswer
fault line kind = Some (Err (record { line = line; kind = kind }))

abbrev pub undecided : SolutionAnswer
undecided = None

-- the answer to a text of which at most `limit` bytes are read
abbrev pub solution_within : ℕ × List ℕ → SolutionAnswer
solution_within (limit, text) = Some (answer_of (record solution_texts { limit = limit }) text)

abbrev pub solutions : List (List ℕ × SolutionAnswer)
solutions =
    (codes "Route #1: 1 2\nRoute #2: 3 4\nCost 44\n", routes ((1 ∷ 2 ∷ []) ∷ (3 ∷ 4 ∷ []) ∷ []) 44)
    -- the last line can lack its LF; a route can be empty; there can be no routes
    ∷ (codes "Route #1: 3 2 1\nCost 12", routes ((3 ∷ 2 ∷ 1 ∷ []) ∷ []) 12)
    ∷ (codes " Route 0: 3\nRoute #1:\n Route +1:2 1\r\ncost : 18\nEOF\n", routes ((3 ∷ []) ∷ [] ∷ (2 ∷ 1 ∷ []) ∷ []) 18)
    ∷ (codes "Cost 000\n", routes [] 0)
    ∷ (codes "COST:+07\r\n", routes [] 7)
    ∷ (codes "cost\t-0", routes [] 0)
    -- blanks, signs, and numbers of routes, which are not used
    ∷ (codes " Route #-3:  1 2\r\n Route#+1: \t5 4 3\ncost : 31 \n", routes ((1 ∷ 2 ∷ []) ∷ (5 ∷ 4 ∷ 3 ∷ []) ∷ []) 31)
    ∷ (codes "route # 1 : 2  3  1 \ncost\t45 \n", routes ((2 ∷ 3 ∷ 1 ∷ []) ∷ []) 45)
    ∷ (
      codes " \t\nRoute#123456789012345678\t:0 4294967295\n\nCost 999999999999999999",
      routes ((0 ∷ 4294967295 ∷ []) ∷ []) 999999999999999999,
    )
    -- lines after the cost are ignored
    ∷ (codes "Route #1: 1\nCost 12\n\n-1 -1 -1", routes ((1 ∷ []) ∷ []) 12)
    ∷ (codes "Cost 46\nVEHICLES #2: 1", routes [] 46)
    ∷ (codes "Cost 5\nRoutes\nCosts\nEOF\n#Route", routes [] 5)
    ∷ []

abbrev pub solution_faults : List (List ℕ × SolutionAnswer)
solution_faults =
    (codes "", fault 1 (kinds.Missing words.Cost))
    ∷ (codes "Route #1: 1", fault 1 (kinds.Missing words.Cost))
    ∷ (codes " Route -3:\t5 1 2 3 4\n", fault 2 (kinds.Missing words.Cost))
    -- other lines
    ∷ (codes "EOF\nCost 1\n", fault 1 kinds.UnknownKeyword)
    ∷ (codes "Route #1: 1\nC", fault 2 kinds.UnknownKeyword)
    ∷ (codes "Route1: 1\nCost 1\n", fault 1 kinds.UnknownKeyword)
    ∷ (codes "Route #1: 1\n 2 3\nCost 1\n", fault 2 kinds.UnknownKeyword)
    ∷ (codes "-1\nCost 1\n", fault 1 kinds.UnknownKeyword)
    ∷ (replicate 65 65 ++ codes "\n", fault 1 kinds.UnknownKeyword)
    -- malformed heads
    ∷ (codes "Route #1 1 2\n", fault 1 kinds.BadNumber)
    ∷ (codes "Route #-3\n:2\n", fault 1 kinds.BadNumber)
    ∷ (codes "Route - 3 2 1\n", fault 1 kinds.BadNumber)
    ∷ (codes "Route ##1: 2\n", fault 1 kinds.BadNumber)
    ∷ (codes "Route:\n", fault 1 kinds.BadNumber)
    ∷ (codes "Route", fault 1 kinds.BadNumber)
    ∷ (codes "Route #1234567890123456789: 1\n", fault 1 kinds.BadNumber)
    -- customers
    ∷ (codes "Route #1: 1 EOF\n", fault 1 kinds.BadNumber)
    ∷ (codes "Route #1:: 1 2\n", fault 1 kinds.BadNumber)
    ∷ (codes "Route #1: 1\nRoute #2: 99999999999999999999\n", fault 2 kinds.BadNumber)
    ∷ (codes "Route #1: 3 4 -1\n", fault 1 kinds.OutOfLimit)
    ∷ (codes "Route #1: 4294967296\n", fault 1 kinds.OutOfLimit)
    ∷ (codes "Route #1: 4294967296 x\n", fault 1 kinds.OutOfLimit)
    ∷ (codes "Route #1: " ++ replicate 65 48, fault 1 kinds.TooLong)
    -- the cost
    ∷ (codes "Cost\n: 16\n", fault 1 kinds.BadNumber)
    ∷ (codes "Cost :: 16\n", fault 1 kinds.BadNumber)
    ∷ (codes "Cost 16.5\n", fault 1 kinds.BadNumber)
    ∷ (codes "Cost -1\n", fault 1 kinds.OutOfLimit)
    ∷ (codes "Cost -1 2\n", fault 1 kinds.OutOfLimit)
    ∷ (codes "Cost " ++ replicate 65 48, fault 1 kinds.TooLong)
    ∷ (codes "Route #1: 4\nCost 24 1\n", fault 2 kinds.TrailingData)
    ∷ (codes "\nRoute #1: 2 1\nCost 6 :0\n", fault 3 kinds.TrailingData)
    ∷ (codes "Cost 1 " ++ replicate 65 48, fault 1 kinds.TrailingData)
    -- after the cost
    ∷ (codes "Cost : 46\nroute x\n", fault 2 kinds.TrailingData)
    ∷ (codes "Cost 1\n\n\tCOST", fault 3 kinds.TrailingData)
    ∷ []

abbrev pub solution_beginnings : List (List ℕ × SolutionAnswer)
solution_beginnings =
    (codes "", undecided)
    -- words that can still become Route or Cost
    ∷ (codes " rout", undecided)
    ∷ (codes "Route", undecided)
    ∷ (codes "Routes", fault 1 kinds.UnknownKeyword)
    ∷ (codes "Co ", fault 1 kinds.UnknownKeyword)
    ∷ (codes "x", fault 1 kinds.UnknownKeyword)
    ∷ (codes "#", fault 1 kinds.UnknownKeyword)
    -- heads that more bytes can complete
    ∷ (codes "Route ", undecided)
    ∷ (codes "Route #-", undecided)
    ∷ (codes "Route #- ", fault 1 kinds.BadNumber)
    ∷ (codes "Route #123456789012345678", undecided)
    ∷ (codes "Route #1234567890123456789", fault 1 kinds.BadNumber)
    ∷ (codes "Route #1 ", undecided)
    ∷ (codes "Route #1 x", fault 1 kinds.BadNumber)
    -- a number counts only when it has ended
    ∷ (codes "Route #1: 5 x", undecided)
    ∷ (codes "Route #1: 5 x ", fault 1 kinds.BadNumber)
    ∷ (codes "Route #1: " ++ replicate 65 120, fault 1 kinds.TooLong)
    ∷ (codes "Cost", undecided)
    ∷ (codes "Cost -1", undecided)
    ∷ (codes "Cost -1 ", fault 1 kinds.OutOfLimit)
    ∷ (codes "Cost 1 2", fault 1 kinds.TrailingData)
    -- lines with other words can follow the cost
    ∷ (codes "Cost 1\nEOF\n", undecided)
    ∷ (codes "Cost 1\nRoute", undecided)
    ∷ (codes "Cost 1\nRoute:", fault 2 kinds.TrailingData)
    ∷ []

abbrev pub solutions_within : List ((ℕ × List ℕ) × SolutionAnswer)
solutions_within =
    ((6, codes "Cost 1"), routes [] 1)
    ∷ ((5, codes "Cost 1"), fault 1 kinds.TooLong)
    ∷ ((6, codes "Cost 1\n"), fault 1 kinds.TooLong)
    ∷ ((7, codes "Cost 1\nx"), fault 2 kinds.TooLong)
    -- a fault that the bytes contain
    ∷ ((1, codes "Rx"), fault 1 kinds.UnknownKeyword)
    ∷ ((0, codes "Rx"), fault 1 kinds.TooLong)
    ∷ ((7, codes "Cost 1 2"), fault 1 kinds.TrailingData)
    ∷ ((6, codes "Cost x 2"), fault 1 kinds.BadNumber)
    ∷ ((5, codes "Cost x 2"), fault 1 kinds.TooLong)
    ∷ []

-- the head of a route, given the bytes after the word Route
abbrev pub heads : List (List ℕ × Head)
heads =
    (codes " #1: 5", Behind (codes " 5"))
    ∷ (codes "-07\t:", Behind [])
    ∷ (codes "#", Short)
    ∷ (codes " # +", Short)
    ∷ (codes ":", Bad)
    ∷ (codes " #1 2:", Bad)
    ∷ []

-- a customer after `count` others; 1,000,000 customers are allowed
abbrev pub customer_after : ℕ × List ℕ → Option Stop
customer_after (count, bytes) = customer_stop count (record { bytes = bytes; line = 7; whole = true })

abbrev pub customers_after : List ((ℕ × List ℕ) × Option Stop)
customers_after =
    ((999999, codes "5"), None)
    ∷ ((1000000, codes "5"), Some (Fault 7 kinds.OutOfLimit))
    ∷ ((1000000, codes "x"), Some (Fault 7 kinds.BadNumber))
    ∷ []
