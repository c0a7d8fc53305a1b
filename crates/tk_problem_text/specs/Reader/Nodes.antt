-- The nodes that the rows of a section name.
use Rattle.std.specs.Prelude.{IfErr, IfOk, None, Result, Some}
use Rattle.tk_words.specs.declared.fault.TextKind.{TextKind}
use Rattle.tk_lines.specs.Pieces.{Fault, first_at}
use Rattle.tk_lines.specs.Reader.Handlers.{whole}
use Rattle.tk_problem_text.specs.Sections.Rows.{node_tests, number_in, is_among}
use Rattle.std.specs.Prelude.{◌≡◌, ◌<◌, ◌+◌, ℕ, suc, Bool, false, List, [], ◌∷◌, ◌++◌, length, map}
use Rattle.std.specs.List.{range_with_len}
use Rattle.tk_words.specs.Lex.{Token}

-- for each node whether it has been named, and the number of nodes that have not been
pub record Named : Type 0 where
  pub flags : List Bool
  pub left : ℕ

-- of the nodes 1..n, these have been named, each once
pub record HasNamed (n : ℕ) (s : Named) (nodes : List ℕ) : Type 0 where
  pub flags : s.flags ≡ map (λ c. is_among c nodes) (range_with_len 1 n)
  pub left : s.left + length nodes ≡ n

-- a token has named the node of this index, after these nodes
pub record HasNext (n : ℕ) (s : Named) (nodes : List ℕ) (t : Token) (index : ℕ) : Type 0 where
  pub within : index < n
  pub node : number_in t ≡ suc index
  pub new : is_among (suc index) nodes ≡ false
  pub named : HasNamed n s (nodes ++ suc index ∷ [])

-- a token names a node that has not been named
abbrev pub NamesNode : List ℕ → Named → Named → Result ℕ TextKind → Type 0
NamesNode token old new result =
    (n : ℕ) (nodes : List ℕ) (line : ℕ) → HasNamed n old nodes → length nodes < n →
    IfOk result (λ index. HasNext n new nodes (whole token line) index
    × (first_at line (node_tests n nodes (whole token line)) ≡ None))

-- a token is refused: it is not a node, or the node has been named
abbrev pub RefusesNode : List ℕ → Named → Result ℕ TextKind → Type 0
RefusesNode token old result =
    (n : ℕ) (nodes : List ℕ) (line : ℕ) → HasNamed n old nodes →
    IfErr result (λ k. first_at line (node_tests n nodes (whole token line)) ≡ Some (Fault line k))
