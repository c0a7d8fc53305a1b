-- Two facts of one outcome.
use Rattle.std.proofs.Common.{Result, Ok, Err, IfOk}

pub IfOk-both : {T E : Type 0} (r : Result T E) (P Q : T → Type 0) → IfOk r P → IfOk r Q → IfOk r (λ v. P v × Q v)
IfOk-both (Ok v) P Q p q = (p, q)
IfOk-both (Err e) P Q p q = p
