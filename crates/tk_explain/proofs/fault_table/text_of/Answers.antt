use Rattle.std.proofs.Common.{◌≡◌, ◌<◌, Some, arith, rules, slice_get}
use Rattle.std.proofs.lemmas.Option.{slice_get_within}
use Rattle.tk_explain.proofs.TableLookups.{row_named}
use Rattle.tk_explain.proofs.fault_table.text_of.Goals as goal
use Rattle.tk_explain.specs.Faults.{fault_named, faults, named}

pub offset_bounds-faults-place : goal.offset_bounds-faults-place
offset_bounds-faults-place c =
    let at : slice_get faults c.match-fault.place ≡ Some (fault_named c.args.fault.now) = search rules in
    let low : c.match-fault.place < 34 = slice_get_within faults c.match-fault.place _ at in omega (arith, low)

pub bounds-faults-place : goal.bounds-faults-place
bounds-faults-place c =
    let at : slice_get faults c.match-fault.place ≡ Some (fault_named c.args.fault.now) = search rules in
    slice_get_within faults c.match-fault.place _ at

pub returns : goal.returns
returns c =
    let at : slice_get faults c.match-fault.place ≡ Some (fault_named c.args.fault.now) = search rules in
    row_named (λ f. named f.now) c.faults.result faults c.match-fault.place _ _ c.faults.ensures at
