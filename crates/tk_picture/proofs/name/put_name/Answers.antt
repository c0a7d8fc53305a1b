use Rattle.std.proofs.Common.{[], ◌∷◌, ◌++◌, ◌<◌, ◌≡◌, ap, append-nil, append_assoc, length, rules, subst, sym, ◌∙◌}
use Rattle.std.specs.Prelude.{flat_map, IsUtf8}
use Rattle.std.specs.Str.{chars}
use Rattle.std.specs.Str.Chunks.{utf8_chunks_rest}
use Rattle.tk_writers.specs.Pens.{Puts}
use Rattle.tk_writers.proofs.Pieces.Putting.{Puts-then}
use Rattle.tk_picture.specs.Names.{shown_byte}
use Rattle.tk_picture.proofs.ShownNames.{shown_chunk, shown_empty, shown_last}
use Rattle.tk_picture.proofs.name.put_name.Goals as goal

pub loop-chunk-preserved-then-not-is_empty : goal.loop-chunk-preserved-then-not-is_empty
loop-chunk-preserved-then-not-is_empty g c =
    let steps = c.in-Some.ensures.steps in
    let before = c.loop-chunk.invariant in
    let valid = c.in-Some.chunk.valid.now in
    let some : 0 < length c.in-Some.chunk.invalid.now = search rules in
    let utf8 : IsUtf8 valid = subst IsUtf8 c.valid.ensures c.valid.utf8 in
    let text = shown_chunk _ _ _ _ steps.0 steps.3.0 steps.3.1 some utf8 in
    record {
      done = (before.done ++ flat_map shown_byte (chars valid)) ++ (0xEF ∷ 0xBF ∷ 0xBD ∷ []);
      puts = Puts-then (Puts-then before.puts (rw c.valid.ensures at c.put_text.ensures))
          (rw c.as_bytes.ensures.value at c.put.ensures);
      rest = simp append_assoc (rw text at before.rest);
    }

pub loop-chunk-preserved : goal.loop-chunk-preserved
loop-chunk-preserved g c =
    let steps = c.in-Some.ensures.steps in
    let before = c.loop-chunk.invariant in
    let valid = c.in-Some.chunk.valid.now in
    let none : length c.in-Some.chunk.invalid.now ≡ 0 = search rules in
    let utf8 : IsUtf8 valid = subst IsUtf8 c.valid.ensures c.valid.utf8 in
    let text = shown_last _ _ _ _ steps.0 steps.3.0 none (steps.2 none) utf8 in
    record {
      done = before.done ++ flat_map shown_byte (chars valid);
      puts = Puts-then before.puts (rw c.valid.ensures at c.put_text.ensures);
      rest = rw append_assoc (rw text at before.rest);
    }

pub returns : goal.returns
returns g c =
    let none = shown_empty (utf8_chunks_rest c.loop-chunk.chunk-iterator) c.in-None.ensures.steps.0 in
    subst (Puts _ _ _) (sym (append-nil c.loop-chunk.invariant.done)
    ∙ ap (λ l. c.loop-chunk.invariant.done ++ l) (sym none) ∙ c.loop-chunk.invariant.rest)
    c.loop-chunk.invariant.puts
