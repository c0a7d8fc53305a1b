-- The reader of problems, piece by piece.
use Rattle.std.proofs.Common.{◌≡◌, ◌≢◌, ℕ, ◌*◌, ◌≤◌, Bool, true, false, List, [], ◌∷◌, ◌++◌, length, Option, Some, None}
use Rattle.std.proofs.Common.{is_some, refl, sym, ap, subst, ◌∙◌}
use Rattle.tk_words.specs.declared.fault.TextKind.TheVariants as kinds
use Rattle.tk_words.specs.declared.keyword.Keyword.{Keyword}
use Rattle.tk_words.specs.declared.keyword.Keyword.TheVariants as words
use Rattle.tk_lines.specs.declared.handler.Taken.{Taken}
use Rattle.tk_lines.specs.declared.handler.Taken.TheVariants.{More, Last, Ending, Eof}
use Rattle.tk_problem_text.specs.declared.sections.depot.Depot.{Depot}
use Rattle.tk_problem_text.specs.declared.sections.open_section.OpenSection.{OpenSection}
use Rattle.tk_problem_text.specs.declared.sections.open_section.OpenSection.TheVariants.{Nothing, Places, Loads, Home}
use Rattle.tk_words.specs.Lex.{Token, is_empty}
use Rattle.tk_lines.specs.Pieces.{Piece, After, Early, Fault, Format, has}
use Rattle.tk_lines.specs.Reader.Handlers.{a_section, Goes, HasTakenToken}
use Rattle.std.specs.Prelude.{map, slice_index}
use Rattle.tk_problem.specs.declared.limits.TheConstants.{TABLE_LIMIT}
use Rattle.tk_problem_text.specs.Sections.Rows.{number_in}
use Rattle.tk_problem_text.specs.Problem.{size_of, problem_format}
use Rattle.tk_problem_text.specs.Reader.Coordinates.{Placing, HasPlaces}
use Rattle.tk_problem_text.specs.Reader.Demands.{Loading, HasDemands}
use Rattle.tk_problem_text.specs.Reader.DepotTaken.{IsDepot}
use Rattle.tk_problem_text.specs.Reader.OpenSections.{IsOpen, IsPast, IsFirstNode}
use Rattle.tk_problem_text.proofs.SectionTokens.DepotTaken.{node_of}
use Rattle.tk_problem_text.proofs.SectionTokens.FixedSections as Fixed
use Rattle.tk_problem_text.proofs.SectionTokens.DepotList as Home
use Rattle.tk_problem_text.proofs.PartsWhole.{some_of}

-- ---- after a section

module _ (before : List Piece) (word : Keyword) (n : ℕ) (ps : List Piece) (P : List Piece → Type 0)
    (fresh : has word before ≡ false) where
  pub past_places : (s : Placing) → IsPast before word n (Places s) ps
      → ((toks : List Token) (after : After) → HasPlaces (size_of before) s toks → length toks ≡ 3 * size_of before →
      has words.NodeCoordSection before ≡ false → P (before ++ a_section words.NodeCoordSection n toks after)) →
      P ps
  past_places s past keep =
      let is = past.full.0 in
      subst P (sym (past.are ∙ ap (λ w. before ++ a_section w n past.toks past.after) is))
      (keep past.toks past.after past.full.1 past.full.2 (subst (λ w. has w before ≡ false) is fresh))

  pub past_loads : (s : Loading) → IsPast before word n (Loads s) ps
      → ((toks : List Token) (after : After) → HasDemands (size_of before) s toks → length toks ≡ 2 * size_of before →
      size_of before ≤ TABLE_LIMIT → has words.DemandSection before ≡ false →
      P (before ++ a_section words.DemandSection n toks after)) → P ps
  past_loads s past keep =
      let is = past.full.0 in
      subst P (sym (past.are ∙ ap (λ w. before ++ a_section w n past.toks past.after) is))
      (keep past.toks past.after past.full.1 past.full.2 past.full.3 (subst (λ w. has w before ≡ false) is fresh))

-- ---- a section that goes on, and where it ends early

pub goes_open : (before : List Piece) (word : Keyword) (n : ℕ) (toks : List Token) (s : OpenSection) →
    IsOpen before word n toks s → Goes problem_format before word n toks
goes_open before word n toks Nothing is = absurd is
goes_open before word n toks (Home s) is = subst (λ w. Goes problem_format before w n toks) (sym is.0) (Home.goes is.1)
goes_open before word n toks _ is = Fixed.goes is.1

-- but after a depot
abbrev pub is_home : OpenSection → Bool
is_home (Home s) = is_some s.node
is_home _ = false

pub not_home : (s : OpenSection) → ((d : Depot) → s ≢ Home d) → is_home s ≡ false
not_home (Home s) h = absurd (h s refl)
not_home _ h = refl

pub early_stop : (before : List Piece) (word : Keyword) (n : ℕ) (toks : List Token) (s : OpenSection) (line : ℕ) →
    IsOpen before word n toks s → is_home s ≡ false →
    problem_format.section before word n toks (Early line true) ≡ Some (Fault line kinds.Truncated)
early_stop before word n toks Nothing line is none = absurd is
early_stop before word n toks (Home s) line is none = by_node s.node refl
  where
    by_node : (d : Option ℕ) → s.node ≡ d →
        problem_format.section before word n toks (Early line true) ≡ Some (Fault line kinds.Truncated)
    by_node (Some d) e = let f : true ≡ false = ap is_some (sym e) ∙ none in absurd cc
    by_node None e =
        let no_token : toks ≡ [] = subst (λ d. IsDepot (size_of before) d toks) e is.2.node in
        rw is.0 (Home.ends_early is.1 (ap is_empty no_token) line)
early_stop before word n toks _ line is none = Fixed.ends_early is.1 line

module _ (before : List Piece) (word : Keyword) (n : ℕ) (toks : List Token) (s : Depot) (line : ℕ)
    (is : IsOpen before word n toks (Home s)) (some : is_some s.node ≡ true) where
  pub home_past : IsPast before word n (Home s) (before ++ a_section word n toks (Early line true))
      × (problem_format.section before word n toks (Early line true) ≡ None)
  home_past =
      let node = some_of s.node some in
      let first = node_of (size_of before) s toks is.2 node.0 node.1 in
      let is_first = subst (IsFirstNode (size_of before) (slice_index (map number_in toks) 0)) (sym node.1)
      (first.1, first.2, first.3) in (
        record { toks = toks; after = Early line true; are = refl; full = (is.0, is_first) },
        rw is.0 (Home.ends_behind is.1 first.0 line),
      )

-- ---- what a token does

module _ {V : Type 0} (f : Format V) (P Q : List Piece → Type 0) (W X : List Piece → Keyword → ℕ → List Token → Type 0)
    (before : List Piece) (word : Keyword) (n : ℕ) (toks : List Token) (t : Token) where
  pub taken_more : (taken : Taken) → taken ≡ More → ((ts : List Token) → W before word n ts → X before word n ts) →
      HasTakenToken f P W before word n toks t taken → HasTakenToken f Q X before word n toks t taken
  taken_more More is each h = (each (toks ++ t ∷ []) h.0, h.1)
  taken_more _ is each h = absurd cc

  pub taken_end : (taken : Taken) → taken ≢ More → ((ps : List Piece) → P ps → Q ps) →
      HasTakenToken f P W before word n toks t taken → HasTakenToken f Q X before word n toks t taken
  taken_end More is each h = absurd (is refl)
  taken_end Last is each h = (each _ h.0, h.1)
  taken_end Ending is each h = ((λ ones. each _ (h.0 ones)), h.1)
  taken_end Eof is each h = (each _ h.0, h.1)
