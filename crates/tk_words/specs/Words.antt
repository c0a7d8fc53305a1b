-- The words of the formats.
use Rattle.std.specs.Prelude.{ℕ, Bool, true, false, ◌&&◌, ◌==◌, List, [], ◌∷◌, map, Option, find}
use Rattle.std.specs.Prelude.{codes}
use Rattle.std.specs.Char.{to_ascii_uppercase}
use Rattle.tk_words.specs.Lex.{is_letter}
use Rattle.tk_words.specs.declared.keyword.Keyword.{Keyword}
use Rattle.tk_words.specs.declared.keyword.Keyword.TheVariants as words
use Rattle.tk_words.specs.declared.keyword.Role.{Role}
use Rattle.tk_words.specs.declared.keyword.Role.TheVariants.{BeginsHeader, BeginsSection, EndsText}

abbrev pub same_bytes : List ℕ → List ℕ → Bool
same_bytes [] [] = true
same_bytes (a ∷ as') (b ∷ bs) = a == b && same_bytes as' bs
same_bytes _ _ = false

-- the bytes spell the text, which is in capitals, without regard to case
abbrev pub spells : List ℕ → List ℕ → Bool
spells bs text = same_bytes (map to_ascii_uppercase bs) text

-- whether the bytes begin with a letter, as every word does
abbrev pub begins_word : List ℕ → Bool
begins_word [] = false
begins_word (b ∷ bs) = is_letter b

-- the word as the formats write it
abbrev pub word : Keyword → List ℕ
word words.Name = codes "NAME"
word words.Comment = codes "COMMENT"
word words.Type = codes "TYPE"
word words.Dimension = codes "DIMENSION"
word words.Capacity = codes "CAPACITY"
word words.EdgeWeightType = codes "EDGE_WEIGHT_TYPE"
word words.EdgeWeightFormat = codes "EDGE_WEIGHT_FORMAT"
word words.NodeCoordType = codes "NODE_COORD_TYPE"
word words.DisplayDataType = codes "DISPLAY_DATA_TYPE"
word words.Distance = codes "DISTANCE"
word words.ServiceTime = codes "SERVICE_TIME"
word words.Vehicles = codes "VEHICLES"
word words.NodeCoordSection = codes "NODE_COORD_SECTION"
word words.EdgeWeightSection = codes "EDGE_WEIGHT_SECTION"
word words.DemandSection = codes "DEMAND_SECTION"
word words.DepotSection = codes "DEPOT_SECTION"
word words.DisplayDataSection = codes "DISPLAY_DATA_SECTION"
word words.EdgeDataSection = codes "EDGE_DATA_SECTION"
word words.FixedEdgesSection = codes "FIXED_EDGES_SECTION"
word words.TourSection = codes "TOUR_SECTION"
word words.Eof = codes "EOF"
word words.Cost = codes "Cost"

-- the words that begin a line of a problem or a tour; `Cost` begins a line only in solutions
abbrev pub all_keywords : List Keyword
all_keywords =
    words.Name
    ∷ words.Comment
    ∷ words.Type
    ∷ words.Dimension
    ∷ words.Capacity
    ∷ words.EdgeWeightType
    ∷ words.EdgeWeightFormat
    ∷ words.NodeCoordType
    ∷ words.DisplayDataType
    ∷ words.Distance
    ∷ words.ServiceTime
    ∷ words.Vehicles
    ∷ words.NodeCoordSection
    ∷ words.EdgeWeightSection
    ∷ words.DemandSection
    ∷ words.DepotSection
    ∷ words.DisplayDataSection
    ∷ words.EdgeDataSection
    ∷ words.FixedEdgesSection
    ∷ words.TourSection
    ∷ words.Eof
    ∷ []

-- the keyword whose word the bytes spell, without regard to case
unfoldable pub keyword_of : List ℕ → Option Keyword
keyword_of bs = find (λ keyword. spells bs (word keyword)) all_keywords

-- a number for each word
abbrev pub code : Keyword → ℕ
code words.Name = 0
code words.Comment = 1
code words.Type = 2
code words.Dimension = 3
code words.Capacity = 4
code words.EdgeWeightType = 5
code words.EdgeWeightFormat = 6
code words.NodeCoordType = 7
code words.DisplayDataType = 8
code words.Distance = 9
code words.ServiceTime = 10
code words.Vehicles = 11
code words.NodeCoordSection = 12
code words.EdgeWeightSection = 13
code words.DemandSection = 14
code words.DepotSection = 15
code words.DisplayDataSection = 16
code words.EdgeDataSection = 17
code words.FixedEdgesSection = 18
code words.TourSection = 19
code words.Eof = 20
code words.Cost = 21

abbrev pub same_word : Keyword → Keyword → Bool
same_word a b = code a == code b

-- the role of a word
abbrev pub role : Keyword → Role
role words.NodeCoordSection = BeginsSection
role words.EdgeWeightSection = BeginsSection
role words.DemandSection = BeginsSection
role words.DepotSection = BeginsSection
role words.DisplayDataSection = BeginsSection
role words.EdgeDataSection = BeginsSection
role words.FixedEdgesSection = BeginsSection
role words.TourSection = BeginsSection
role words.Eof = EndsText
role _ = BeginsHeader
