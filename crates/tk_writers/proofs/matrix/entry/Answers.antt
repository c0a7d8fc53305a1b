use Rattle.std.proofs.Common.{◌≡◌, ◌∙◌, ℕ, SFits, ap, nat_abs, refl, rules, sym, w64}
use Rattle.std.proofs.lemmas.Int.{to_z-of_z}
use Rattle.tk_writers.specs.FormatLines.{entry_place}
use Rattle.tk_writers.proofs.matrix.entry.Goals as goal
use Rattle.tk_writers.proofs.matrix.entry.Goals.{then-is_by_columns, else-is_by_columns}

pub returns : goal.returns
returns g c = λ table gives.
    let k = c.args.k in
    let m = c.args.m in
    elim c.if-is_by_columns.branch [
      | then-is_by_columns w ↦
          let columns = sym c.is_by_columns.ensures ∙ w.if-is_by_columns.true in
          let here : entry_place c.args.f k m ≡ (m, k) = rw columns refl in
          let fits : SFits w64 w.d-distance.result = search rules in
          let given = gives.gives m k _ c.requires.m.0 c.requires.m.1 c.requires.k.0 c.requires.k.1
          w.d-distance.ensures in
          ap nat_abs (w.distance-is ∙ to_z-of_z w64 w.d-distance.result fits ∙ given)
          ∙ sym (ap (λ (p : ℕ × ℕ). table p.0 p.1) here)
      | else-is_by_columns w ↦
          let rows = sym c.is_by_columns.ensures ∙ w.if-is_by_columns.false in
          let here : entry_place c.args.f k m ≡ (k, m) = rw rows refl in
          let distance = w.d-distance-else-is_by_columns in
          let fits : SFits w64 distance.result = search rules in
          let given = gives.gives k m _ c.requires.k.0 c.requires.k.1 c.requires.m.0 c.requires.m.1
          distance.ensures in
          ap nat_abs (w.distance-is ∙ to_z-of_z w64 distance.result fits ∙ given)
          ∙ sym (ap (λ (p : ℕ × ℕ). table p.0 p.1) here)
    ]
