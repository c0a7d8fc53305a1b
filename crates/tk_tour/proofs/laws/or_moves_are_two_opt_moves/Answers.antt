use Rattle.tk_tour.proofs.SegmentMove.{turns_both, turns_path_back, turns_segment_back}
use Rattle.tk_tour.proofs.laws.or_moves_are_two_opt_moves.Goals as goal

pub returns-clause-first : goal.returns-clause-first
returns-clause-first c = λ _ _ _ _ _ _ _ cut. turns_both cut

pub returns-clause-second : goal.returns-clause-second
returns-clause-second c = λ _ _ _ _ _ _ _ cut. turns_path_back cut

pub returns-clause-third : goal.returns-clause-third
returns-clause-third c = λ _ _ _ _ _ _ _ cut. turns_segment_back cut
