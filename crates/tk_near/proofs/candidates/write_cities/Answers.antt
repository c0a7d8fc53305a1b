use Rattle.std.proofs.Common.{arith, ◌+◌, ◌*◌, ◌-◌, ◌<◌, length, ap, ◌∙◌, slice_set, slice_index_or}
use Rattle.tk_near.specs.declared.candidates.Candidate.{Candidate}
use Rattle.tk_near.proofs.FlatLists.{written_more, product_step}
use Rattle.tk_near.proofs.candidates.write_cities.Goals as goal

pub loop-i-preserved : goal.loop-i-preserved
loop-i-preserved c =
    let fits : (c.args.c - 1) * length c.args.kept.now + c.loop-i.i < length c.args.entries.now =
    omega (arith, product_step c.args.c (length c.args.kept.now) c.requires.city) in
    let d : Candidate = record { distance = 0; city = 0 } in
    ap (λ v. slice_set v ((c.args.c - 1) * length c.args.kept.now + c.loop-i.i)
    (slice_index_or c.args.kept.now c.loop-i.i d).city) c.loop-i.invariant
    ∙ written_more c.args.entries.now ((c.args.c - 1) * length c.args.kept.now) c.loop-i.i c.args.kept.now d fits
    (omega arith)
