-- The effect of a line of a parameter file on its reader.
use Rattle.std.specs.Prelude.{◌≡◌, ◌++◌}
use Rattle.tk_params.specs.declared.fault.ParamKind.{ParamKind}
use Rattle.tk_params.specs.declared.fault.ParamKind.TheVariants as kinds
use Rattle.tk_params.specs.Values.{Meaning, Faulty, Settings, settings_of}

-- the meaning is not a fault
abbrev pub IsFaultless : Meaning → Type 0
IsFaultless (Faulty kind) = ⊥
IsFaultless _ = Unit {0}

-- the kind of a fault satisfies P, unless memory ran out
abbrev pub IsReportedKind : (ParamKind → Type 0) → ParamKind → Type 0
IsReportedKind P kinds.NoMemory = Unit {0}
IsReportedKind P k = P k

-- a line without a fault has been taken
pub record HasTakenLine (old new : Settings) (means : Meaning) : Type 0 where
  pub sound : IsFaultless means
  pub settings : new ≡ old ++ settings_of means
