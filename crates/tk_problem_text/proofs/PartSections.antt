-- The parts of a problem, with one section more.
use Rattle.std.proofs.Common.{◌≡◌, ◌≤◌, inl, ℕ, true, false, List, ◌++◌, Option, Some, refl, sym, subst, ◌∙◌}
use Rattle.std.specs.Prelude.{IfSome, Vec, map, get_or}
use Rattle.std.proofs.lemmas.Bool.{true≢false}
use Rattle.tk_words.specs.declared.keyword.Keyword.{Keyword}
use Rattle.tk_words.specs.declared.keyword.Keyword.TheVariants as words
use Rattle.tk_problem_text.specs.declared.parts.Parts.{Parts}
use Rattle.tk_problem.specs.declared.point.Point.{Point}
use Rattle.tk_problem.specs.declared.weights.Weights.TheVariants.{Lower}
use Rattle.tk_problem.specs.Shape.{WeightsFit}
use Rattle.tk_words.specs.Lex.{Token}
use Rattle.tk_words.specs.Words.{same_word}
use Rattle.tk_words.proofs.BoolLaws.{or_true}
use Rattle.tk_lines.specs.Pieces.{Piece, After, has, tokens_in}
use Rattle.tk_lines.specs.Reader.Handlers.{a_section}
use Rattle.tk_problem_text.specs.Reader.Headers.{HasHeaders}
use Rattle.tk_problem_text.specs.Reader.Parts.{HasParts, KeepsValue}
use Rattle.tk_problem_text.specs.Problem.{size_of, format_in, points_of, lower_in, demands_of, depot_of}
use Rattle.std.specs.declared.alloc.Global.{Global}
use Rattle.tk_problem.specs.declared.limits.TheConstants.{TABLE_LIMIT}
use Rattle.tk_problem_text.specs.Sections.Rows.{row_places, number_in}
use Rattle.tk_problem_text.specs.Sections.Rows as Rows
use Rattle.tk_problem_text.specs.Sections.WeightSection.{lower_weights}
use Rattle.tk_lines.proofs.Pieces.PieceLookups.{tokens_in-new}
use Rattle.tk_lines.proofs.Pieces.PieceValues.{has-section}
use Rattle.tk_problem_text.proofs.KeptHeaders.{OneMore, Next, stays, comes, next_is, notes_next, one_section}
use Rattle.tk_problem_text.proofs.PartsKept.{keeps_on, size_stays, format_stays, points_stay, demands_stay, lower_stays}
use Rattle.tk_problem_text.proofs.PartsKept.{depot_stays}
use Rattle.tk_problem_text.proofs.HeaderRecords.{past_section}

-- what is kept of each section
abbrev HasPoints : List Piece → Option (List Point) → Type 0
HasPoints ps kept = KeepsValue words.NodeCoordSection (λ x. x) (points_of ps) kept ps

abbrev HasLower : List Piece → Option (Vec ℕ Global) → Type 0
HasLower ps kept = KeepsValue words.EdgeWeightSection (λ x. x.items) (lower_in ps) kept ps
    × (has words.EdgeWeightFormat ps ≡ false → has words.EdgeWeightSection ps ≡ false)
    × IfSome kept (λ x. WeightsFit (size_of ps) (Lower x))

abbrev HasDemand : List Piece → Option (Vec ℕ Global) → Type 0
HasDemand ps kept = KeepsValue words.DemandSection (λ x. x.items) (demands_of ps) kept ps
    × IfSome kept (λ _. size_of ps ≤ TABLE_LIMIT)

abbrev HasHome : List Piece → Option ℕ → Type 0
HasHome ps kept = KeepsValue words.DepotSection (λ d. d) (depot_of ps) kept ps
    × IfSome kept (λ d. (1 ≤ d) × (d ≤ size_of ps))

module _ (p : Parts) (ps : List Piece) (n : ℕ) (toks : List Token) (after : After) (k : HasParts p ps)
    (sized : has words.Dimension ps ≡ true) where
  abbrev now : Keyword → List Piece
  now w = ps ++ a_section w n toks after

  one : (w : Keyword) → OneMore w ps (now w)
  one w = one_section w ps n toks after

  came_now : (w : Keyword) → same_word w w ≡ true → has w (now w) ≡ true
  came_now w same = has-section w w ps n toks after ∙ rw same (or_true (has w ps))

  tokens_now : (w : Keyword) → same_word w w ≡ true → has w ps ≡ false → tokens_in w (now w) ≡ toks
  tokens_now w same fresh = tokens_in-new w ps (a_section w n toks after) fresh ∙ rw same refl

  -- what is kept of each section, in the order of `HasParts`, makes the parts
  with_section : (w : Keyword) (q : Parts) → same_word w words.Dimension ≡ false
      → same_word w words.EdgeWeightFormat ≡ false → HasHeaders q.headers (now w)
      → Next w words.NodeCoordSection (HasPoints (now w)) p.places q.places
      → Next w words.EdgeWeightSection (HasLower (now w)) p.lower q.lower
      → Next w words.DemandSection (HasDemand (now w)) p.demand q.demand
      → Next w words.DepotSection (HasHome (now w)) p.depot q.depot
      → Next w words.DisplayDataSection (λ x. x ≡ has words.DisplayDataSection (now w)) p.has_display q.has_display
      → HasParts q (now w)
  with_section w q other other' headers places lower demand depot display =
      let more : OneMore w ps (now w) = one w in
      let size : size_of ps ≡ size_of (now w) = size_stays more other in
      let lower_is : HasLower (now w) q.lower = next_is lower (λ apart. (
        keeps_on more k.lower apart (inl (lower_stays more size (format_stays more other') apart)),
        λ gone. more.has_same words.EdgeWeightSection apart
            ∙ k.formatted (sym (more.has_same words.EdgeWeightFormat other') ∙ gone),
        subst (λ m. IfSome p.lower (λ x. WeightsFit m (Lower x))) size k.lower_fits,
      )) in
      let demand_is : HasDemand (now w) q.demand = next_is demand (λ apart. (
        keeps_on more k.demand apart (inl (demands_stay more size apart)),
        subst (λ m. IfSome p.demand (λ _. m ≤ TABLE_LIMIT)) size k.demand_small,
      )) in
      let depot_is : HasHome (now w) q.depot = next_is depot (λ apart. (
        keeps_on more k.depot apart (inl (depot_stays more apart)),
        subst (λ m. IfSome p.depot (λ d. (1 ≤ d) × (d ≤ m))) size k.depot_in,
      )) in
      record {
        headers = headers;
        places = next_is places (λ apart. keeps_on more k.places apart (inl (points_stay more size apart)));
        lower = lower_is.0;
        demand = demand_is.0;
        depot = depot_is.0;
        display = notes_next words.DisplayDataSection more k.display display;
        sized = λ gone. absurd (true≢false (sym sized ∙ sym (more.has_same words.Dimension other) ∙ gone));
        formatted = lower_is.1;
        lower_fits = lower_is.2;
        demand_small = demand_is.1;
        depot_in = depot_is.1;
      }

  pub with_places : has words.NodeCoordSection ps ≡ false → (x : List Point) → x ≡ row_places (size_of ps) toks →
      HasParts (record p { places = Some x }) (now words.NodeCoordSection)
  with_places fresh x is =
      let w : Keyword = words.NodeCoordSection in
      let size = size_stays (one words.NodeCoordSection) refl in
      with_section w (record p { places = Some x }) refl refl
      (past_section p.headers w ps n toks after k.headers refl refl refl refl refl refl refl refl)
      (comes (record { came = came_now w refl; is = is ∙ rw (tokens_now w refl fresh, ← size) refl })) (stays refl)
      (stays refl) (stays refl) (stays refl)

  pub with_lower : has words.EdgeWeightSection ps ≡ false → (x : Vec ℕ Global)
      → x.items ≡ lower_weights (size_of ps) (format_in ps) toks → has words.EdgeWeightFormat ps ≡ true
      → WeightsFit (size_of ps) (Lower x) → HasParts (record p { lower = Some x }) (now words.EdgeWeightSection)
  with_lower fresh x is formatted fit =
      let w : Keyword = words.EdgeWeightSection in
      let size = size_stays (one words.EdgeWeightSection) refl in
      let format = format_stays (one words.EdgeWeightSection) refl in
      with_section w (record p { lower = Some x }) refl refl
      (past_section p.headers w ps n toks after k.headers refl refl refl refl refl refl refl refl) (stays refl) (comes (
        record { came = came_now w refl; is = is ∙ rw (tokens_now w refl fresh, ← size, ← format) refl },
        λ gone. absurd (true≢false (sym formatted ∙ sym ((one w).has_same words.EdgeWeightFormat refl) ∙ gone)),
        subst (λ m. WeightsFit m (Lower x)) size fit,
      )) (stays refl) (stays refl) (stays refl)

  pub with_demand : has words.DemandSection ps ≡ false → (x : Vec ℕ Global)
      → x.items ≡ Rows.demands_of (size_of ps) toks → size_of ps ≤ TABLE_LIMIT
      → HasParts (record p { demand = Some x }) (now words.DemandSection)
  with_demand fresh x is few =
      let w : Keyword = words.DemandSection in
      let size = size_stays (one words.DemandSection) refl in
      with_section w (record p { demand = Some x }) refl refl
      (past_section p.headers w ps n toks after k.headers refl refl refl refl refl refl refl refl) (stays refl)
      (stays refl) (comes (
        record { came = came_now w refl; is = is ∙ rw (tokens_now w refl fresh, ← size) refl },
        subst (λ m. m ≤ TABLE_LIMIT) size few,
      )) (stays refl) (stays refl)

  pub with_depot : has words.DepotSection ps ≡ false → (x : ℕ) → x ≡ get_or (map number_in toks) 0 0 →
      (1 ≤ x) × (x ≤ size_of ps) → HasParts (record p { depot = Some x }) (now words.DepotSection)
  with_depot fresh x is within =
      let w : Keyword = words.DepotSection in
      let size = size_stays (one words.DepotSection) refl in
      with_section w (record p { depot = Some x }) refl refl
      (past_section p.headers w ps n toks after k.headers refl refl refl refl refl refl refl refl) (stays refl)
      (stays refl) (stays refl) (comes (
        record { came = came_now w refl; is = is ∙ rw (tokens_now w refl fresh) refl },
        subst (λ m. (1 ≤ x) × (x ≤ m)) size within,
      )) (stays refl)

  pub with_display : HasParts (record p { has_display = true }) (now words.DisplayDataSection)
  with_display =
      let w : Keyword = words.DisplayDataSection in
      with_section w (record p { has_display = true }) refl refl
      (past_section p.headers w ps n toks after k.headers refl refl refl refl refl refl refl refl) (stays refl)
      (stays refl) (stays refl) (stays refl) (comes (sym (came_now w refl)))
