-- The trials of a run, and what a watcher was shown of several runs.
use Rattle.std.proofs.Common.{◌≡◌, ℕ, ℤ, List, [], ◌∷◌, ◌++◌, sym, ap, ◌∙◌, subst, append_assoc}
use Rattle.std.proofs.lemmas.List.{append-nil}
use Rattle.std.proofs.lemmas.Grind.{flat_map-append}
use Rattle.rand_core.specs.Stream.{Stream}
use Rattle.tk_search.specs.Searching.{Searching, SearchRun, begin, trial}
use Rattle.tk_solve.specs.Events.{Event}
use Rattle.tk_solve.specs.Runs.{Run, Trials, untried, tried, shown_of}
use Rattle.tk_solve.specs.Watching.{WereShown, nothing, next}

-- trials that are reported are trials of a search
pub run_of : {reported : ℕ → ℤ → Searching → Event} {begun : Searching} {words : Stream} {t : ℕ} {shown : List Event}
    {ended : Searching} {rest : Stream} →
    Trials reported begun words t shown ended rest → SearchRun begun words t ended rest
run_of untried = begin
run_of (tried before step) = trial (run_of before) step

-- one list after another
pub shown_both : {W : Type 0} {shows : W → Event → W → Type 0} {old mid : W} {before : List Event} →
    WereShown shows old mid before →
    {new : W} {shown : List Event} → WereShown shows mid new shown → WereShown shows old new (before ++ shown)
shown_both {W} {shows} {old} {mid} {before} first nothing =
    subst (WereShown shows old mid) (sym (append-nil before)) first
shown_both {W} {shows} {old} {mid} {before} first {new} (next {shown} {event} rest is) =
    subst (WereShown shows old new) (append_assoc before shown (event ∷ [])) (next (shown_both first rest) is)

-- what is shown of one more run
pub shown_of_more : (runs : List Run) (run : Run) → shown_of (runs ++ run ∷ []) ≡ shown_of runs ++ run.shown
shown_of_more runs run = flat_map-append (λ (r : Run). r.shown) runs (run ∷ [])
    ∙ ap (λ v. shown_of runs ++ v) (append-nil run.shown)
