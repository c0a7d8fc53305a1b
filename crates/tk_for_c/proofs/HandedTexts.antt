-- Texts that were written to buffers, and the answers with their sizes.
use Rattle.std.proofs.Common.{◌≡◌, ℕ, List, length, ap, ◌∙◌}
use Rattle.tk_for_c.specs.HandedOut.{handed_out}
use Rattle.tk_for_c.specs.Outcomes.{with_status, with_status_twice}
use Rattle.tk_for_c.specs.Texts.{AreWritten, IsWritten}
use Rattle.tk_for_c.specs.declared.answer.Answer.{Answer}

-- one text, which the code passes as these bytes
pub written : {status s n : ℕ} {bytes text old new : List ℕ} {answer : Answer} → answer ≡ with_status s n → s ≡ status
    → n ≡ length bytes → new ≡ handed_out bytes old → bytes ≡ text → IsWritten status text old new answer
written {status} {s} {n} {bytes} {text} {old} is same size put all = record {
  answer_is = is ∙ ap (λ k. with_status k n) same ∙ ap (with_status status) (size ∙ ap length all);
  bytes = put ∙ ap (λ l. handed_out l old) all;
}

-- two texts
pub both_written : {status s n m : ℕ} {bytes text old new bytes' text' old' new' : List ℕ} {answer : Answer}
    → answer ≡ with_status_twice s n m → s ≡ status
    → n ≡ length bytes → new ≡ handed_out bytes old → bytes ≡ text
    → m ≡ length bytes' → new' ≡ handed_out bytes' old' → bytes' ≡ text' →
    AreWritten status text old new text' old' new' answer
both_written {status} {s} {n} {m} {bytes} {text} {old} {new} {bytes'} {text'} {old'} is same size put all size' put'
    all' = record {
      answer_is = is ∙ ap (λ k. with_status_twice k n m) same
          ∙ ap (λ k. with_status_twice status k m) (size ∙ ap length all)
          ∙ ap (with_status_twice status (length text)) (size' ∙ ap length all');
      first = put ∙ ap (λ l. handed_out l old) all;
      second = put' ∙ ap (λ l. handed_out l old') all';
    }
