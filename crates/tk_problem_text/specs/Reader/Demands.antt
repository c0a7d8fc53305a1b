-- The state of the reader of demands.
use Rattle.std.specs.Prelude.{IfErr, Result, ◌≡◌, ◌<◌, ◌*◌, ℕ, List, [], ◌∷◌, ◌++◌, length, Option, Some, None}
use Rattle.tk_words.specs.declared.fault.TextKind.{TextKind}
use Rattle.tk_lines.specs.declared.handler.Taken.{Taken}
use Rattle.tk_lines.specs.Pieces.{Fault, first_at}
use Rattle.tk_lines.specs.Reader.Handlers.{whole}
use Rattle.tk_problem_text.specs.Sections.Rows.{demand_tests, demand_rows, nodes_in, demands_of}
use Rattle.tk_words.specs.Lex.{Token}
use Rattle.tk_problem_text.specs.Reader.Nodes.{Named, HasNamed, HasNext}

-- the demands of the nodes, the nodes that have been named, and the node whose demand is expected next
pub record Loading : Type 0 where
  pub loads : List ℕ
  pub nodes : Named
  pub node : Option ℕ

-- the index is one of a demand
abbrev pub IsIndex : ℕ → Option ℕ → Type 0
IsIndex size None = Unit {0}
IsIndex size (Some index) = index < size

pub record IsLoading (loads : List ℕ) (nodes : Named) (node : Option ℕ) : Type 0 where
  pub sizes : length nodes.flags ≡ length loads
  pub within : IsIndex (length loads) node

-- the tokens of an incomplete row, after rows that name these nodes
abbrev pub HasPart : ℕ → Named → List ℕ → Option ℕ → List Token → Type 0
HasPart n s nodes None part = (part ≡ []) × HasNamed n s nodes
HasPart n s nodes (Some index) part = (a : Token) × (part ≡ a ∷ []) × HasNext n s nodes a index

-- the reader has taken these tokens of the rows of n nodes: complete rows, and a part of one
pub record HasDemands (n : ℕ) (s : Loading) (toks : List Token) : Type 0 where
  pub rows : List Token
  pub part : List Token
  pub are : toks ≡ rows ++ part
  pub whole : length rows ≡ 2 * length (demand_rows rows)
  pub loads : s.loads ≡ demands_of n rows
  pub begun : HasPart n s.nodes (nodes_in (demand_rows rows)) s.node part

-- a token is refused, with the fault of the first test that is true; this does not allocate memory
abbrev pub RefusesDemand : List ℕ → Loading → Result Taken TextKind → Type 0
RefusesDemand token old result =
    (n : ℕ) (toks : List Token) (line : ℕ) → HasDemands n old toks →
    IfErr result (λ k. first_at line (demand_tests n toks (whole token line)) ≡ Some (Fault line k))
