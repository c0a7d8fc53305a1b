-- A fault that is reported of one answer, reported of another.
use Rattle.std.proofs.Common.{List, [], ℕ, Bool, Option, None, Some, Result, Err, refl, arith}
use Rattle.tk_words.specs.Texts.{Cause, OfText, OfSource, OfMemory, Texts, IsReportedOf, WantMore, IfSpecified}
use Rattle.tk_words.specs.Texts.{IsReadTo}
use Rattle.tk_words.specs.Texts.{IsAnswerIfSpecified, IsFaultOf}

pub reported_of : {E : Type 0} (R : Type 0) (P Q : E → Type 0) (f : E) (cause : Cause) → (P f → Q f) →
    IsReportedOf ⊥ P f cause → IsReportedOf R Q f cause
reported_of R P Q f OfText h p = h p
reported_of R P Q f OfSource h p = absurd p
reported_of R P Q f OfMemory h p = tt

-- of a text that was read so far: a fault of memory, or one that is its answer
pub fault_of : {V E : Type 0} (texts : Texts V E) (broken : Bool) (old new : Option (List ℕ)) (P : Result V E → Type 0)
    (f : E) (cause : Cause) → IfSpecified old new (IsReadTo texts)
    → (P (Err f) → IsAnswerIfSpecified texts old new (Err f))
    → IsReportedOf ⊥ (λ e. P (Err e)) f cause → IsFaultOf texts broken old new f cause
fault_of texts broken old new P f OfText r h p = h p
fault_of texts broken old new P f OfSource r h p = absurd p
fault_of texts broken old new P f OfMemory r h p = r

-- of a text of which nothing was read
pub where_unread : {V E : Type 0} (texts : Texts V E) (left : Option (List ℕ)) → WantMore texts [] →
    IfSpecified left left (IsReadTo texts)
where_unread texts None want = tt
where_unread texts (Some text) want =
    (text, refl, record { before = []; last = []; parts = refl; wanted = want; buffer = omega arith })
