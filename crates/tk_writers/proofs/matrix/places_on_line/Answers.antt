use Rattle.std.proofs.Common.{refl, inl, inr}
use Rattle.tk_problem.specs.declared.weights.Format.TheVariants as formats
use Rattle.tk_writers.proofs.MatrixLines.{on_line-all, on_line-from_k, on_line-behind_k, on_line-to_k, on_line-before_k}
use Rattle.tk_writers.proofs.matrix.places_on_line.Goals as goal

pub returns-in-FullMatrix-clause-places : goal.returns-in-FullMatrix-clause-places
returns-in-FullMatrix-clause-places c =
    rw c.in-FullMatrix.is (on_line-all c.args.n c.args.k formats.FullMatrix (λ m. refl))

pub returns-in-UpperRow-clause-places : goal.returns-in-UpperRow-clause-places
returns-in-UpperRow-clause-places c =
    on_line-behind_k c.args.n c.args.k c.args.f (λ m. elim c.in-UpperRow.is [ inl e ↦ rw e refl | inr e ↦ rw e refl ])
    c.requires.city.0 c.requires.city.1

pub returns-in-LowerRow-clause-places : goal.returns-in-LowerRow-clause-places
returns-in-LowerRow-clause-places c =
    on_line-before_k c.args.n c.args.k c.args.f (λ m. elim c.in-LowerRow.is [ inl e ↦ rw e refl | inr e ↦ rw e refl ])
    c.requires.city.0 c.requires.city.1

pub returns-in-UpperDiagRow-clause-places : goal.returns-in-UpperDiagRow-clause-places
returns-in-UpperDiagRow-clause-places c =
    on_line-from_k c.args.n c.args.k c.args.f (λ m. elim c.in-UpperDiagRow.is [ inl e ↦ rw e refl | inr e ↦ rw e refl ])
    c.requires.city.0 c.requires.city.1

pub returns-in-LowerDiagRow-clause-places : goal.returns-in-LowerDiagRow-clause-places
returns-in-LowerDiagRow-clause-places c =
    on_line-to_k c.args.n c.args.k c.args.f (λ m. elim c.in-LowerDiagRow.is [ inl e ↦ rw e refl | inr e ↦ rw e refl ])
    c.requires.city.0 c.requires.city.1
