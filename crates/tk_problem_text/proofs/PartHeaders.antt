-- The parts of a problem, with one header more.
use Rattle.std.proofs.Common.{◌≡◌, ◌≤◌, ◌⊎◌, ⊎_elim, inl, inr, ℕ, Bool, true, false, cond, List, ◌++◌, Option, Some}
use Rattle.std.proofs.Common.{None, refl, sym, ◌∙◌}
use Rattle.std.proofs.lemmas.Bool.{or_parts}
use Rattle.tk_problem.specs.declared.limits.TheConstants.{TABLE_LIMIT}
use Rattle.tk_words.specs.declared.keyword.Keyword.{Keyword}
use Rattle.tk_words.specs.declared.keyword.Keyword.TheVariants as words
use Rattle.tk_words.specs.declared.fault.TextKind.TheVariants as kinds
use Rattle.tk_problem_text.specs.declared.headers.Headers.{Headers}
use Rattle.tk_problem_text.specs.declared.parts.Parts.{Parts}
use Rattle.tk_problem.specs.declared.weights.Weights.TheVariants.{Lower}
use Rattle.tk_problem.specs.Shape.{WeightsFit}
use Rattle.tk_words.specs.Words.{same_word}
use Rattle.tk_lines.specs.Pieces.{Piece, Stop, Fault, first_at, has}
use Rattle.tk_lines.specs.Reader.Handlers.{a_header}
use Rattle.tk_lines.proofs.Pieces.PieceValues.{has-header}
use Rattle.tk_problem_text.specs.Reader.Headers.{HasHeaders}
use Rattle.tk_problem_text.specs.Reader.Parts.{HasParts, HasNoSection}
use Rattle.tk_problem_text.specs.Problem.{problem_header, size_of, format_in, points_of, lower_in, demands_of}
use Rattle.tk_problem_text.proofs.KeptHeaders.{OneMore, one_header}
use Rattle.tk_problem_text.proofs.PartsKept.{some_stays, keeps_on, size_stays, format_stays, points_stay, demands_stay}
use Rattle.tk_problem_text.proofs.PartsKept.{lower_stays, depot_stays}

-- a header's word, which is none of a section's
record IsHeader (word : Keyword) : Type 0 where
  places : same_word word words.NodeCoordSection ≡ false
  lower : same_word word words.EdgeWeightSection ≡ false
  demand : same_word word words.DemandSection ≡ false
  depot : same_word word words.DepotSection ≡ false
  display : same_word word words.DisplayDataSection ≡ false

not_first : (t : Bool) (n : ℕ) (s rest : Option Stop) → cond t (Some (Fault n kinds.Repeated)) rest ≡ None → t ≡ false
not_first true n s rest h = absurd cc
not_first false n s rest h = refl

-- a header that is taken: it is a known one, and where sections rest on it, it is new
module _ (ps : List Piece) (v : List ℕ) (n : ℕ) where
  is_header : (word : Keyword) → first_at n (problem_header ps word v) ≡ None → IsHeader word
  is_header words.NodeCoordSection h = absurd cc
  is_header words.EdgeWeightSection h = absurd cc
  is_header words.DemandSection h = absurd cc
  is_header words.DepotSection h = absurd cc
  is_header words.DisplayDataSection h = absurd cc
  is_header _ h = record { places = refl; lower = refl; demand = refl; depot = refl; display = refl }

  size_is_new : (word : Keyword) → first_at n (problem_header ps word v) ≡ None →
      (same_word word words.Dimension ≡ false) ⊎ (has words.Dimension ps ≡ false)
  size_is_new words.Dimension h = inr (not_first (has words.Dimension ps) n None _ h)
  size_is_new _ h = inl refl

  format_is_new : (word : Keyword) → first_at n (problem_header ps word v) ≡ None →
      (same_word word words.EdgeWeightFormat ≡ false) ⊎ (has words.EdgeWeightFormat ps ≡ false)
  format_is_new words.EdgeWeightFormat h = inr (not_first (has words.EdgeWeightFormat ps) n None _ h)
  format_is_new _ h = inl refl

module _ (p : Parts) (ps : List Piece) (w : Keyword) (v : List ℕ) (n : ℕ) (headers : Headers)
    (new : HasHeaders headers (ps ++ a_header w v n)) (k : HasParts p ps)
    (fine : first_at n (problem_header ps w v) ≡ None) where
  abbrev after : List Piece
  after = ps ++ a_header w v n

  more : OneMore w ps after
  more = one_header w ps v n

  is : IsHeader w
  is = is_header ps v n w fine

  -- the size and the format stay, or no section came that rests on them
  size : (size_of ps ≡ size_of after) ⊎ HasNoSection ps
  size = ⊎_elim (λ other. inl (size_stays more other)) (λ fresh. inr (k.sized fresh)) (size_is_new ps v n w fine)

  format : (format_in ps ≡ format_in after) ⊎ (has words.EdgeWeightSection ps ≡ false)
  format = ⊎_elim (λ other. inl (format_stays more other)) (λ fresh. inr (k.formatted fresh))
      (format_is_new ps v n w fine)

  points : (points_of ps ≡ points_of after) ⊎ (has words.NodeCoordSection ps ≡ false)
  points = ⊎_elim (λ same. inl (points_stay more same is.places)) (λ none. inr none.places) size

  demands : (demands_of ps ≡ demands_of after) ⊎ (has words.DemandSection ps ≡ false)
  demands = ⊎_elim (λ same. inl (demands_stay more same is.demand)) (λ none. inr none.demand) size

  lower : (lower_in ps ≡ lower_in after) ⊎ (has words.EdgeWeightSection ps ≡ false)
  lower = ⊎_elim (λ same. ⊎_elim (λ also. inl (lower_stays more same also is.lower)) inr format)
      (λ none. inr none.lower) size

  unseen : (word : Keyword) → has word after ≡ false → has word ps ≡ false
  unseen word none = (or_parts (has word ps) (same_word w word) (sym (has-header word w ps v n) ∙ none)).0

  no_section : HasNoSection ps → HasNoSection after
  no_section h = record {
    places = more.has_same words.NodeCoordSection is.places ∙ h.places;
    lower = more.has_same words.EdgeWeightSection is.lower ∙ h.lower;
    demand = more.has_same words.DemandSection is.demand ∙ h.demand;
    depot = more.has_same words.DepotSection is.depot ∙ h.depot;
  }

  -- a header that is taken
  pub after_header : HasParts (record p { headers = headers }) after
  after_header = record {
    headers = new;
    places = keeps_on more k.places is.places points;
    lower = keeps_on more k.lower is.lower lower;
    demand = keeps_on more k.demand is.demand demands;
    depot = keeps_on more k.depot is.depot (inl (depot_stays more is.depot));
    display = k.display ∙ sym (more.has_same words.DisplayDataSection is.display);
    sized = λ none. no_section (k.sized (unseen words.Dimension none));
    formatted = λ none. more.has_same words.EdgeWeightSection is.lower
        ∙ k.formatted (unseen words.EdgeWeightFormat none);
    lower_fits = some_stays words.EdgeWeightSection ps p.lower (λ m x. WeightsFit m (Lower x)) k.lower.came
        (⊎_elim inl (λ none. inr none.lower) size) k.lower_fits;
    demand_small = some_stays words.DemandSection ps p.demand (λ m _. m ≤ TABLE_LIMIT) k.demand.came
        (⊎_elim inl (λ none. inr none.demand) size) k.demand_small;
    depot_in = some_stays words.DepotSection ps p.depot (λ m d. (1 ≤ d) × (d ≤ m)) k.depot.came
        (⊎_elim inl (λ none. inr none.depot) size) k.depot_in;
  }
