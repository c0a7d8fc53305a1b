-- The places of the cities at the end of a text.
use Rattle.std.proofs.Common.{◌≡◌, ℕ, Bool, true, false, List, Option, Some, None, length}
use Rattle.std.proofs.Common.{refl, sym, ap, ◌∙◌}
use Rattle.std.specs.Prelude.{unwrap_or}
use Rattle.std.proofs.lemmas.Bool.{true≢false}
use Rattle.std.proofs.lemmas.List.FromFn.{length-map-range_with_len}
use Rattle.tk_problem.specs.Places.{origin}
use Rattle.tk_problem.specs.declared.point.Point.{Point}
use Rattle.tk_words.specs.Lex.{Token}
use Rattle.tk_words.specs.declared.keyword.Keyword.TheVariants as words
use Rattle.tk_lines.specs.Pieces.{Piece, has, tokens_in}
use Rattle.tk_problem_text.specs.declared.display.Display.{Display}
use Rattle.tk_problem_text.specs.declared.display.Display.TheVariants.{Open, Read, Unread}
use Rattle.tk_problem_text.specs.declared.header_values.WeightType.{WeightType}
use Rattle.tk_problem_text.specs.declared.header_values.WeightType.TheVariants as types
use Rattle.tk_problem_text.specs.declared.parts.Parts.{Parts}
use Rattle.tk_problem_text.specs.declared.placed_problem.PlacesOrigin.TheVariants.{DisplayData, NodeCoordinates}
use Rattle.tk_problem_text.specs.Placed.{PlacedIs, given_places}
use Rattle.tk_problem_text.specs.Problem.{points_of, size_of, weight_type}
use Rattle.tk_problem_text.specs.Reader.Parts.{HasParts, KeepsValue}
use Rattle.tk_problem_text.specs.Reader.PlacedHandler.{AreEnough, HasDisplay, places_in}
use Rattle.tk_problem_text.specs.Sections.Rows.{place_rows, row_of, row_places}

pub same_placed : (x y : PlacedIs) → x.problem ≡ y.problem → x.places ≡ y.places → x ≡ y
same_placed x y e f = rw (e, f) refl

rows_fit : (n : ℕ) (toks : List Token) → length (row_places n toks) ≡ n
rows_fit n toks = length-map-range_with_len (row_of origin (place_rows toks)) 1 n

module _ (p : Parts) (ps : List Piece) (parts : HasParts p ps) where
  size_is : size_of ps ≡ unwrap_or p.headers.dimension 0
  size_is = ap (λ (o : Option ℕ). unwrap_or o 0) parts.headers.dimension.says

  abbrev Done : Option WeightType → Option (List Point) → Display → Type 0
  Done kind nodes display = (places_in kind nodes display ≡ given_places ps)
      × AreEnough (unwrap_or p.headers.dimension 0) (places_in kind nodes display)

  -- without display data
  by_nodes : weight_type ps ≡ Some types.Explicit → has words.DisplayDataSection ps ≡ false
      → (nodes : Option (List Point)) → KeepsValue words.NodeCoordSection (λ x. x) (points_of ps) nodes ps
      → Done (Some types.Explicit) nodes Unread
  by_nodes type none None kept = rw (type, none, kept.came) (refl, tt)
  by_nodes type none (Some nodes) kept =
      rw (type, none, kept.came) (
        ap (λ points. Some (record { origin = NodeCoordinates; points = points })) kept.is,
        ap length kept.is ∙ rows_fit (size_of ps) (tokens_in words.NodeCoordSection ps) ∙ size_is,
      )

  explicit_done : weight_type ps ≡ Some types.Explicit → (display : Display) → HasDisplay ps display →
      Done (Some types.Explicit) p.places display
  explicit_done type Unread h = by_test (has words.DisplayDataSection ps) refl
    where
      by_test : (t : Bool) → has words.DisplayDataSection ps ≡ t → Done (Some types.Explicit) p.places Unread
      by_test true e = absurd (true≢false (sym (h e) ∙ rw type refl))
      by_test false e = by_nodes type e p.places parts.places
  explicit_done type (Open section) h = elim h [ ]
  explicit_done type (Read points) h =
      rw (type, h.0) (
        ap (λ points. Some (record { origin = DisplayData; points = points })) h.2,
        ap length h.2 ∙ rows_fit (size_of ps) (tokens_in words.DisplayDataSection ps) ∙ size_is,
      )

  done : (display : Display) → HasDisplay ps display → Done p.headers.weight_type p.places display
  done display h = by_type p.headers.weight_type refl
    where
      by_type : (kind : Option WeightType) → p.headers.weight_type ≡ kind → Done kind p.places display
      by_type None e = rw (parts.headers.weight_type.says ∙ e) (refl, tt)
      by_type (Some (types.Plane kind)) e = rw (parts.headers.weight_type.says ∙ e) (refl, tt)
      by_type (Some types.Explicit) e = explicit_done (parts.headers.weight_type.says ∙ e) display h

pub places_done : (p : Parts) (ps : List Piece) (display : Display) → HasParts p ps → HasDisplay ps display →
    places_in p.headers.weight_type p.places display ≡ given_places ps
places_done p ps display parts h = (done p ps parts display h).0

pub enough_placed : (p : Parts) (ps : List Piece) (display : Display) → HasParts p ps → HasDisplay ps display →
    AreEnough (unwrap_or p.headers.dimension 0) (places_in p.headers.weight_type p.places display)
enough_placed p ps display parts h = (done p ps parts display h).1
