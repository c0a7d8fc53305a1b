use Rattle.tk_near.proofs.plane.partition_at_median.+select.Given as goal

abbrev pub decreases-select : goal.decreases-select
decreases-select l = l.rounds
