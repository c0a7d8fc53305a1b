-- The headers of a problem, with one piece more.
use Rattle.std.proofs.lemmas.Bool.{eqb-true}
use Rattle.std.proofs.Common.{◌≡◌, ◌≤◌, ℕ, Bool, true, false, eqb, length, arith, List, [], ◌∷◌, ◌++◌, Option, refl}
use Rattle.std.proofs.Common.{sym, ap, ◌∙◌}
use Rattle.std.specs.Prelude.{Vec, unwrap_or}
use Rattle.std.specs.declared.alloc.Global.{Global}
use Rattle.tk_problem.specs.declared.limits.TheConstants.{CAPACITY_LIMIT, CITY_LIMIT}
use Rattle.tk_words.specs.declared.keyword.Keyword.{Keyword}
use Rattle.tk_words.specs.declared.keyword.Keyword.TheVariants as words
use Rattle.tk_problem_text.specs.declared.headers.Headers.{Headers}
use Rattle.tk_problem_text.specs.declared.header_values.ProblemType.{ProblemType}
use Rattle.tk_problem_text.specs.declared.header_values.WeightType.{WeightType}
use Rattle.tk_problem_text.specs.declared.header_values.WeightFormat.{WeightFormat}
use Rattle.tk_words.specs.Lex.{Token, trim, after_word, is_empty}
use Rattle.tk_words.specs.Words.{same_word}
use Rattle.tk_problem_text.specs.HeaderValues.{problem_type_of, weight_type_of, weight_format_of, header_number}
use Rattle.tk_problem_text.specs.HeaderValues.{name_of}
use Rattle.tk_lines.specs.Pieces.{Piece, After, has, value_of}
use Rattle.tk_lines.specs.Reader.Handlers.{a_header, a_section}
use Rattle.tk_problem_text.specs.Reader.Kept.{KeepsHeader}
use Rattle.tk_problem_text.specs.Reader.Headers.{HasHeaders}
use Rattle.tk_lines.proofs.Pieces.PieceValues.{value_of-new, value_of-none}
use Rattle.tk_problem_text.proofs.KeptHeaders.{OneMore, Next, stays, comes, one_header, one_section, next_is}
use Rattle.tk_problem_text.proofs.KeptHeaders.{keeps_next, notes_next, noted}

-- what is kept of each word's header, in the order of `HasHeaders`, makes the headers with one piece more
abbrev NextHeader : {A : Type 0} → Keyword → Keyword → (List ℕ → Option A) → Option A → Option A → List Piece → Type 0
NextHeader w word f old new qs = Next w word (λ x. KeepsHeader word f x qs) old new

abbrev NextFlag : Keyword → Keyword → Bool → Bool → List Piece → Type 0
NextFlag w word old new qs = Next w word (λ x. x ≡ has word qs) old new

abbrev IsNamed : List Piece → Vec ℕ Global → Type 0
IsNamed qs name = (name.items ≡ name_of (unwrap_or (value_of words.Name qs) [])) × (length name.items ≤ 1024)

next_headers : {w : Keyword} {ps qs : List Piece} {h h' : Headers} → OneMore w ps qs → HasHeaders h ps
    → NextFlag w words.Name h.has_name h'.has_name qs → Next w words.Name (IsNamed qs) h.name h'.name
    → NextHeader w words.Type problem_type_of h.problem_type h'.problem_type qs
    → NextHeader w words.Dimension (header_number 2 CITY_LIMIT) h.dimension h'.dimension qs
    → NextHeader w words.Capacity (header_number 1 CAPACITY_LIMIT) h.capacity h'.capacity qs
    → NextHeader w words.EdgeWeightType weight_type_of h.weight_type h'.weight_type qs
    → NextHeader w words.EdgeWeightFormat weight_format_of h.weight_format h'.weight_format qs
    → NextFlag w words.NodeCoordType h.has_coordinate_type h'.has_coordinate_type qs
    → NextFlag w words.DisplayDataType h.has_display_type h'.has_display_type qs
    → HasHeaders h' qs
next_headers more k named name problem_type dimension capacity weight_type weight_format coordinate_type display_type =
    let is_named = next_is name
    (λ other. (k.name ∙ ap (λ o. name_of (unwrap_or o [])) (sym (more.value_same words.Name other)), k.short)) in
    record {
      named = notes_next words.Name more k.named named;
      name = is_named.0;
      short = is_named.1;
      problem_type = keeps_next more k.problem_type problem_type;
      dimension = keeps_next more k.dimension dimension;
      capacity = keeps_next more k.capacity capacity;
      weight_type = keeps_next more k.weight_type weight_type;
      weight_format = keeps_next more k.weight_format weight_format;
      coordinate_type = notes_next words.NodeCoordType more k.coordinate_type coordinate_type;
      display_type = notes_next words.DisplayDataType more k.display_type display_type;
    }

module _ (h : Headers) (ps : List Piece) (v : List ℕ) (n : ℕ) (k : HasHeaders h ps) where
  abbrev now : Keyword → List Piece
  now w = ps ++ a_header w v n

  one : (w : Keyword) → OneMore w ps (now w)
  one w = one_header w ps v n

  pub with_problem_type : (x : Option ProblemType) → KeepsHeader words.Type problem_type_of x (now words.Type) →
      HasHeaders (record h { problem_type = x }) (now words.Type)
  with_problem_type x new = next_headers (one words.Type) k (stays refl) (stays refl) (comes new) (stays refl)
      (stays refl) (stays refl) (stays refl) (stays refl) (stays refl)

  pub with_dimension : (x : Option ℕ) → KeepsHeader words.Dimension (header_number 2 CITY_LIMIT) x (now words.Dimension)
      → HasHeaders (record h { dimension = x }) (now words.Dimension)
  with_dimension x new = next_headers (one words.Dimension) k (stays refl) (stays refl) (stays refl) (comes new)
      (stays refl) (stays refl) (stays refl) (stays refl) (stays refl)

  pub with_capacity : (x : Option ℕ)
      → KeepsHeader words.Capacity (header_number 1 CAPACITY_LIMIT) x (now words.Capacity)
      → HasHeaders (record h { capacity = x }) (now words.Capacity)
  with_capacity x new = next_headers (one words.Capacity) k (stays refl) (stays refl) (stays refl) (stays refl)
      (comes new) (stays refl) (stays refl) (stays refl) (stays refl)

  pub with_weight_type : (x : Option WeightType)
      → KeepsHeader words.EdgeWeightType weight_type_of x (now words.EdgeWeightType)
      → HasHeaders (record h { weight_type = x }) (now words.EdgeWeightType)
  with_weight_type x new = next_headers (one words.EdgeWeightType) k (stays refl) (stays refl) (stays refl) (stays refl)
      (stays refl) (comes new) (stays refl) (stays refl) (stays refl)

  pub with_weight_format : (x : Option WeightFormat)
      → KeepsHeader words.EdgeWeightFormat weight_format_of x (now words.EdgeWeightFormat)
      → HasHeaders (record h { weight_format = x }) (now words.EdgeWeightFormat)
  with_weight_format x new = next_headers (one words.EdgeWeightFormat) k (stays refl) (stays refl) (stays refl)
      (stays refl) (stays refl) (stays refl) (comes new) (stays refl) (stays refl)

  pub with_coordinate_type : (x : Bool) → x ≡ has words.NodeCoordType (now words.NodeCoordType) →
      HasHeaders (record h { has_coordinate_type = x }) (now words.NodeCoordType)
  with_coordinate_type x new = next_headers (one words.NodeCoordType) k (stays refl) (stays refl) (stays refl)
      (stays refl) (stays refl) (stays refl) (stays refl) (comes new) (stays refl)

  pub with_display_type : (x : Bool) → x ≡ has words.DisplayDataType (now words.DisplayDataType) →
      HasHeaders (record h { has_display_type = x }) (now words.DisplayDataType)
  with_display_type x new = next_headers (one words.DisplayDataType) k (stays refl) (stays refl) (stays refl)
      (stays refl) (stays refl) (stays refl) (stays refl) (stays refl) (comes new)

  pub with_comment : HasHeaders h (now words.Comment)
  with_comment = next_headers (one words.Comment) k (stays refl) (stays refl) (stays refl) (stays refl) (stays refl)
      (stays refl) (stays refl) (stays refl) (stays refl)

  -- the name comes, and the bytes are those that it gives
  pub with_name : (name : Vec ℕ Global) → name.items ≡ name_of v → length name.items ≤ 1024 → has words.Name ps ≡ false
      → HasHeaders (record h { has_name = true; name = name }) (now words.Name)
  with_name name is small fresh =
      let value = value_of-new words.Name words.Name ps v n refl fresh in
      let says : name_of v ≡ name_of (unwrap_or (value_of words.Name (now words.Name)) []) =
      ap (λ (o : Option (List ℕ)). name_of (unwrap_or o [])) (sym value) in
      next_headers (one words.Name) k (comes (noted words.Name ps v n refl)) (comes (is ∙ says, small)) (stays refl)
      (stays refl) (stays refl) (stays refl) (stays refl) (stays refl) (stays refl)

  -- without a name or with an empty one, it is Unnamed
  pub stays_unnamed : has words.Name ps ≡ false → trim (after_word v) ≡ [] → h.name.items ≡ name_of v
  stays_unnamed fresh empty = k.name ∙ rw (value_of-none words.Name ps fresh, empty) refl

-- a section of a word that is no header changes nothing
pub past_section : (h : Headers) (w : Keyword) (ps : List Piece) (n : ℕ) (toks : List Token) (after : After)
    → HasHeaders h ps → same_word w words.Name ≡ false → same_word w words.Type ≡ false
    → same_word w words.Dimension ≡ false → same_word w words.Capacity ≡ false
    → same_word w words.EdgeWeightType ≡ false → same_word w words.EdgeWeightFormat ≡ false
    → same_word w words.NodeCoordType ≡ false → same_word w words.DisplayDataType ≡ false
    → HasHeaders h (ps ++ a_section w n toks after)
past_section h w ps n toks after k o1 o2 o3 o4 o5 o6 o7 o8 =
    next_headers (one_section w ps n toks after) k (stays o1) (stays o1) (stays o2) (stays o3) (stays o4) (stays o5)
    (stays o6) (stays o7) (stays o8)

-- ---- empty names

pub nothing : (xs : List ℕ) → eqb (length xs) 0 ≡ true → xs ≡ []
nothing [] h = refl
nothing (x ∷ xs) h = absurd (let z : length (x ∷ xs) ≡ 0 = eqb-true _ _ h in omega (arith, z))

pub something : (xs : List ℕ) → eqb (length xs) 0 ≡ false → is_empty xs ≡ false
something [] h = absurd cc
something (x ∷ xs) h = refl

-- a name that is not empty is what is read
pub named_so : (v xs : List ℕ) → xs ≡ trim (after_word v) → eqb (length xs) 0 ≡ false → xs ≡ name_of v
named_so v xs is some = is ∙ rw (ap is_empty (sym is) ∙ something xs some) refl
