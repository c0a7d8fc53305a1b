-- The numbers and the names of the faults.
use Rattle.std.specs.Prelude.{ℕ, List, [], ◌∷◌, codes}
use Rattle.tk_words.specs.declared.fault.TextKind.{TextKind}
use Rattle.tk_words.specs.declared.fault.TextKind.TheVariants as text
use Rattle.tk_params.specs.declared.fault.ParamKind.{ParamKind}
use Rattle.tk_params.specs.declared.fault.ParamKind.TheVariants as params
use Rattle.tk_diagnosis.specs.declared.fault.FileFault.{FileFault}
use Rattle.tk_diagnosis.specs.declared.fault.FileFault.TheVariants as files
use Rattle.tk_explain.specs.declared.fault_table.FaultText.{FaultText}

-- the number and the name of a fault
abbrev pub named : FaultText → List ℕ × List ℕ
named fault = (fault.number.now, fault.name.now)

-- the faults of problem, tour and solution files, of parameter files, of an initial tour, and, without numbers, of the
-- verdicts on tours and on routes
abbrev pub faults : List (List ℕ × List ℕ)
faults =
    (codes "1", codes "UnknownKeyword") ∷
    (codes "2", codes "Repeated") ∷
    (codes "3", codes "Missing") ∷
    (codes "4", codes "Unsupported") ∷
    (codes "5", codes "BadNumber") ∷
    (codes "6", codes "OutOfLimit") ∷
    (codes "7", codes "BadNode") ∷
    (codes "8", codes "NotSymmetric") ∷
    (codes "9", codes "Truncated") ∷
    (codes "10", codes "TrailingData") ∷
    (codes "11", codes "BadDepot") ∷
    (codes "12", codes "DemandOverCapacity") ∷
    (codes "13", codes "TooLong") ∷
    (codes "14", codes "Read") ∷
    (codes "15", codes "NoMemory") ∷
    (codes "1", codes "UnknownKey") ∷
    (codes "2", codes "RepeatedKey") ∷
    (codes "3", codes "BadValue") ∷
    (codes "4", codes "MissingProblem") ∷
    (codes "5", codes "DollarInName") ∷
    (codes "6", codes "TooLong") ∷
    (codes "7", codes "Read") ∷
    (codes "8", codes "NoMemory") ∷
    (codes "1", codes "WrongCount") ∷
    (codes "2", codes "OutOfRange") ∷
    (codes "3", codes "RepeatedCity") ∷
    (codes "", codes "WrongCount") ∷
    (codes "", codes "OutOfRange") ∷
    (codes "", codes "RepeatedCity") ∷
    (codes "", codes "BadCustomer") ∷
    (codes "", codes "ServedTwice") ∷
    (codes "", codes "OverCapacity") ∷
    (codes "", codes "NotServed") ∷
    (codes "", codes "WrongCost") ∷ []

-- the number and the name of a kind of fault
abbrev pub text_named : TextKind → List ℕ × List ℕ
text_named text.UnknownKeyword = (codes "1", codes "UnknownKeyword")
text_named text.Repeated = (codes "2", codes "Repeated")
text_named (text.Missing keyword) = (codes "3", codes "Missing")
text_named text.Unsupported = (codes "4", codes "Unsupported")
text_named text.BadNumber = (codes "5", codes "BadNumber")
text_named text.OutOfLimit = (codes "6", codes "OutOfLimit")
text_named text.BadNode = (codes "7", codes "BadNode")
text_named (text.NotSymmetric a b) = (codes "8", codes "NotSymmetric")
text_named text.Truncated = (codes "9", codes "Truncated")
text_named text.TrailingData = (codes "10", codes "TrailingData")
text_named text.BadDepot = (codes "11", codes "BadDepot")
text_named (text.DemandOverCapacity node) = (codes "12", codes "DemandOverCapacity")
text_named text.TooLong = (codes "13", codes "TooLong")
text_named text.Read = (codes "14", codes "Read")
text_named text.NoMemory = (codes "15", codes "NoMemory")

abbrev pub param_named : ParamKind → List ℕ × List ℕ
param_named params.UnknownKey = (codes "1", codes "UnknownKey")
param_named params.RepeatedKey = (codes "2", codes "RepeatedKey")
param_named params.BadValue = (codes "3", codes "BadValue")
param_named params.MissingProblem = (codes "4", codes "MissingProblem")
param_named params.DollarInName = (codes "5", codes "DollarInName")
param_named params.TooLong = (codes "6", codes "TooLong")
param_named params.Read = (codes "7", codes "Read")
param_named params.NoMemory = (codes "8", codes "NoMemory")

-- the number and the name of the fault of a file
abbrev pub fault_named : FileFault → List ℕ × List ℕ
fault_named (files.Text f) = text_named f.kind
fault_named (files.Parameters f) = param_named f.kind
