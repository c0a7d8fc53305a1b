-- The guarantees of the form of problem texts.
use Rattle.std.specs.Prelude.{◌≡◌, ℕ, true, false, List}
use Rattle.tk_words.specs.declared.keyword.Keyword.{Keyword}
use Rattle.tk_words.specs.declared.keyword.Keyword.TheVariants as words
use Rattle.tk_problem_text.specs.declared.problem_handler.ProblemHandler.{ProblemHandler}
use Rattle.tk_words.specs.Lex.{Token}
use Rattle.tk_lines.specs.Reader.Handlers.{Promise}
use Rattle.tk_lines.specs.Pieces.{Piece, has}
use Rattle.tk_problem_text.specs.Reader.Parts.{HasParts, IsWhole, problem_in}
use Rattle.tk_problem_text.specs.Problem.{ProblemIs, problem_format}
use Rattle.tk_problem_text.specs.Reader.OpenSections.{IsOpen}

abbrev pub ProblemHolds : ProblemHandler → List Piece → Type 0
ProblemHolds s before = HasParts s.parts before

pub record ProblemWants (s : ProblemHandler) (before : List Piece) (word : Keyword) (n : ℕ)
    (toks : List Token) : Type 0 where
  pub parts : HasParts s.parts before
  pub sized : has words.Dimension before ≡ true
  pub fresh : has word before ≡ false
  pub section : IsOpen before word n toks s.current

abbrev pub problem_held : ProblemHandler → ProblemIs
problem_held s = problem_in s.parts

abbrev pub HasAllParts : ProblemHandler → Type 0
HasAllParts s = IsWhole s.parts

abbrev pub problem_promise : Promise ProblemIs ProblemHandler
problem_promise =
    record {
      format = problem_format;
      holds = ProblemHolds;
      wants = ProblemWants;
      held = problem_held;
      complete = HasAllParts;
    }
