use Rattle.std.proofs.Common.{◌∙◌, Some, ap, sym}
use Rattle.std.specs.Prelude.{option_map}
use Rattle.tk_for_c.proofs.contents.list_written.Goals as goal

pub returns-in-Some-clause-given : goal.returns-in-Some-clause-given
returns-in-Some-clause-given c = λ done.
    ap (option_map (λ entries. entries.now)) c.in-Some.is ∙ ap Some (sym (c.copied.ensures.given done))

pub returns-in-Some-clause-room : goal.returns-in-Some-clause-room
returns-in-Some-clause-room c = λ full.
    (c.in-Some.entries.now, ap (option_map (λ entries. entries.now)) c.in-Some.is, c.copied.ensures.room full)
