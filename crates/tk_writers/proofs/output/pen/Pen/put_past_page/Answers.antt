use Rattle.std.proofs.Common.{refl, sym, ap, ◌∙◌, ◌≡◌, ◌++◌, [], append_assoc, append-nil, take-append-drop}
use Rattle.tk_writers.proofs.Pieces.Putting.{Puts-added, Puts-then}
use Rattle.tk_writers.proofs.output.pen.Pen.put_past_page.Goals as goal

pub loop-rest-preserved : goal.loop-rest-preserved
loop-rest-preserved g c =
    let done = c.loop-rest.invariant.0 in
    let piece = c.split_at.result.0.now in
    let rest = c.split_at.result.1.now in
    let parts : piece ++ rest ≡ c.loop-rest.rest.now =
    rw (c.split_at.ensures.front, c.split_at.ensures.back) (take-append-drop _ _) in (
      done ++ (piece ++ []),
      rw append-nil (append_assoc done piece rest ∙ ap (λ l. done ++ l) parts ∙ c.loop-rest.invariant.1),
      Puts-then c.loop-rest.invariant.2
          (Puts-then (Puts-added _ _ _ _ refl refl refl refl c.push.ensures) c.send_page.ensures.puts),
    )

pub returns : goal.returns
returns g c =
    rw (sym c.loop-rest.invariant.1)
    (Puts-then c.loop-rest.invariant.2 (Puts-added _ _ _ _ refl refl refl refl c.push-2.ensures))
