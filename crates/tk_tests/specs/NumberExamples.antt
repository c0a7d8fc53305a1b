-- Examples of numbers.
use Rattle.std.specs.Prelude.{ℕ, ◌^◌, List, [], ◌∷◌, Option, Some, None, Result, Ok, Err, ℤ, pos, neg_ℤ, codes}
use Rattle.tk_text.specs.declared.TextKind.{TextKind}
use Rattle.tk_text.specs.declared.TextKind.TheVariants as kinds
use Rattle.tk_text.specs.Decimal.{decimal_of, limited}

abbrev pub minus : ℕ → ℤ
minus n = neg_ℤ (pos n)

-- an integer is an optional sign and 1 to 18 digits
abbrev pub integers : List (List ℕ × Option ℤ)
integers =
    (codes "0", Some (pos 0))
    ∷ (codes "42", Some (pos 42))
    ∷ (codes "+007", Some (pos 7))
    ∷ (codes "-1", Some (minus 1))
    ∷ (codes "-01", Some (minus 1))
    ∷ (codes "-25", Some (minus 25))
    ∷ (codes "-0", Some (pos 0))
    ∷ (codes "999999999999999999", Some (pos 999999999999999999))
    ∷ (codes "-999999999999999999", Some (minus 999999999999999999))
    ∷ (codes "000000000000000001", Some (pos 1))
    ∷ (codes "0000000000000000001", None)
    ∷ (codes "1000000000000000000", None)
    ∷ (codes "", None)
    ∷ (codes "+", None)
    ∷ (codes "-", None)
    ∷ (codes "--1", None)
    ∷ (codes "1-", None)
    ∷ (codes "1.0", None)
    ∷ (codes "1e3", None)
    ∷ (codes "0x1", None)
    ∷ (codes "1:", None)
    ∷ []

-- a coordinate, in billionths, or its fault
abbrev pub coordinate_of : List ℕ → Result ℤ TextKind
coordinate_of bs = limited (decimal_of bs)

abbrev pub coordinates : List (List ℕ × Result ℤ TextKind)
coordinates =
    (codes "0", Ok (pos 0))
    ∷ (codes "1", Ok (pos 1000000000))
    ∷ (codes "-3", Ok (minus 3000000000))
    ∷ (codes "+12.5", Ok (pos 12500000000))
    ∷ (codes ".5", Ok (pos 500000000))
    ∷ (codes "5.", Ok (pos 5000000000))
    ∷ (codes "1.0e+01", Ok (pos 10000000000))
    ∷ (codes "-2.5E-1", Ok (minus 250000000))
    ∷ (codes "0.123456789", Ok (pos 123456789))
    -- digits after the ninth decimal are dropped, towards zero
    ∷ (codes "0.0000000019", Ok (pos 1))
    ∷ (codes "-0.0000000019", Ok (minus 1))
    ∷ (codes "-0.0000000001", Ok (pos 0))
    ∷ (codes "0.9999999999", Ok (pos 999999999))
    ∷ (codes "187e-875", Ok (pos 0))
    ∷ (codes "0e770", Ok (pos 0))
    -- at most 10^9 in magnitude, after these digits are dropped
    ∷ (codes "1e9", Ok (pos (10 ^ 18)))
    ∷ (codes "-1000000000", Ok (minus 1000000000000000000))
    ∷ (codes "1000000000.0000000009", Ok (pos (10 ^ 18)))
    ∷ (codes "1000000000.000000001", Err kinds.OutOfLimit)
    ∷ (codes "-1000000000.000000001", Err kinds.OutOfLimit)
    ∷ (codes "1e10", Err kinds.OutOfLimit)
    ∷ (codes "1e999", Err kinds.OutOfLimit)
    -- at least one digit, at most one point, and 1 to 3 digits after an e
    ∷ (codes "", Err kinds.BadNumber)
    ∷ (codes ".", Err kinds.BadNumber)
    ∷ (codes "-", Err kinds.BadNumber)
    ∷ (codes "+-1", Err kinds.BadNumber)
    ∷ (codes "1.2.3", Err kinds.BadNumber)
    ∷ (codes "1e", Err kinds.BadNumber)
    ∷ (codes "1e+", Err kinds.BadNumber)
    ∷ (codes "1e0001", Err kinds.BadNumber)
    ∷ (codes "1e1.0", Err kinds.BadNumber)
    ∷ (codes "e5", Err kinds.BadNumber)
    ∷ (codes ".e5", Err kinds.BadNumber)
    ∷ (codes "1,5", Err kinds.BadNumber)
    ∷ []
