use Rattle.std.proofs.Common.{◌∷◌, [], ap, append-nil, map-id, subst, sym, ◌++◌, ◌∙◌}
use Rattle.std.specs.Prelude.{flat_map}
use Rattle.std.proofs.lemmas.Grind.{flat_map-append}
use Rattle.std.proofs.lemmas.Iterator.{YieldsList-from_chars}
use Rattle.std.proofs.lemmas.Iterator.Consumers.{YieldsList-end}
use Rattle.tk_writers.specs.Pens.{Puts}
use Rattle.tk_writers.proofs.Pieces.Putting.{Puts-then}
use Rattle.tk_picture.specs.Names.{shown_byte}
use Rattle.tk_picture.proofs.name.put_text.Goals as goal

pub loop-c-preserved : goal.loop-c-preserved
loop-c-preserved g c =
    let more = flat_map-append shown_byte c.loop-c.yielded (c.in-Some.c ∷ [])
    ∙ ap (λ l. flat_map shown_byte c.loop-c.yielded ++ l) (append-nil (shown_byte c.in-Some.c)) in
    subst (Puts _ _ _) (sym more) (Puts-then c.loop-c.invariant c.put_char.ensures)

pub returns : goal.returns
returns g c =
    let end = YieldsList-end (YieldsList-from_chars c.args.text.now c.utf8.text cc) c.loop-c.yielded
    _ c.loop-c.yielded_by _ _ c.in-None.is c.next.ensures.steps in
    subst (Puts _ _ _) (ap (flat_map shown_byte) (sym (map-id c.loop-c.yielded) ∙ end.0)) c.loop-c.invariant
