-- A reader's place, where it is known.
use Rattle.std.proofs.Common.{◌≡◌, ℕ, Bool, true, List, [], ◌∷◌, ◌++◌, Result, Err, sym, subst}
use Rattle.std.proofs.lemmas.Bool.{eqb-true}
use Rattle.tk_words.specs.declared.fault.TextKind.{TextKind}
use Rattle.tk_words.specs.declared.fault.TextKind.TheVariants as kinds
use Rattle.tk_words.specs.declared.fault.TextFault.{TextFault}
use Rattle.tk_words.specs.Texts.{cause_of}
use Rattle.tk_words.proofs.ReportedFaults.{reported_of}
use Rattle.tk_lines.specs.declared.line_state.LineState.{LineState}
use Rattle.tk_lines.specs.declared.line_state.LineState.TheVariants as places
use Rattle.tk_lines.specs.declared.reader.PieceReader.{PieceReader}
use Rattle.tk_lines.specs.Pieces.{Format}
use Rattle.tk_lines.specs.Reader.Handlers.{Promise, IsReportedWord}
use Rattle.tk_lines.specs.Reader.Places.{Next, Within, this, anything, DecidesIf, AtPlace, Fed}
use Rattle.tk_lines.specs.Reader.Steps.{IsFaultWith, EndsPlace, ends_at}
use Rattle.tk_lines.proofs.LineSteps.{decides_byte}

-- where a reader stands that has taken these bytes
pub at_place : {V S : Type 0} {p : Promise V S} {next : Next} {reader : PieceReader S} {bs : List ℕ} (place : LineState)
    →
    reader.place ≡ place → Fed p next reader bs →
    AtPlace p.format p.holds p.wants next reader.form reader.line reader.held reader.scan bs place
at_place {p = p} {next = next} {reader = reader} {bs = bs} place e fed =
    subst
    (λ (q : LineState). AtPlace p.format p.holds p.wants next reader.form reader.line reader.held reader.scan bs q) e
    fed.at

-- a kind that a form reported, as a fault
pub reported_word : {V : Type 0} (P : TextKind → Type 0) (Q : Result V TextFault → Type 0) (line : ℕ) (k : TextKind) →
    IsReportedWord P k → (P k → Q (Err (record { line = line; kind = k }))) →
    IsFaultWith Q (record { line = line; kind = k })
reported_word P Q line kinds.NoMemory p h = tt
reported_word P Q line kinds.Read p h = absurd p
reported_word P Q line _ p h = h p

pub this_within : (b : ℕ) (other : Next) → ((e : Bool) (more : List ℕ) → other e (b ∷ more) ≡ true) →
    Within (this b) other
this_within b other h e [] k = absurd (cc)
this_within b other h e (c ∷ more) k = subst (λ (x : ℕ). other e (x ∷ more) ≡ true) (sym (eqb-true c b k)) (h e more)

-- what is refused before a byte that comes, is refused with it
pub reported_byte : {V : Type 0} (f : Format V) (b : ℕ) (bs : List ℕ) (r : TextFault) →
    IsFaultWith (DecidesIf f (this b) bs) r → IsFaultWith (DecidesIf f anything (bs ++ b ∷ [])) r
reported_byte f b bs r h =
    reported_of ⊥ (λ e. DecidesIf f (this b) bs (Err e)) (λ e. DecidesIf f anything (bs ++ b ∷ []) (Err e)) r
    (cause_of r.kind) (decides_byte f b bs (Err r)) h

-- a byte that ends what is open at a place
pub this_ends : (b : ℕ) (place : LineState) → ends_at b place ≡ true → EndsPlace (this b) place
this_ends b places.Word h = this_within b _ (λ e more. h)
this_ends b places.Token h = this_within b _ (λ e more. h)
this_ends b (places.MinusOne o) h = this_within b _ (λ e more. h)
this_ends b _ h = tt
