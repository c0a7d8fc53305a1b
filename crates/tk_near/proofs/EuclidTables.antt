-- A table in the plane whose distances are those of EUC_2D among some places.
use Rattle.std.proofs.Common.{◌≡◌, ◌∙◌, ap, length}
use Rattle.tk_problem.specs.PlacesOf.{places_of}
use Rattle.tk_problem.specs.declared.points.Places.{Places}
use Rattle.tk_problem.specs.declared.weights.PlaneKind.TheVariants.{Euc2d}
use Rattle.tk_distance.specs.PlaneOf.{city_distance}
use Rattle.tk_distance.specs.Tables.{table_distance, table_size}
use Rattle.tk_distance.specs.declared.planes.Planes.{Planes}
use Rattle.tk_distance.specs.declared.table.Table.{Table}
use Rattle.tk_distance.specs.declared.table.Table.TheVariants as tables

pub euclid_table : (table : Table) (planes : Planes) (places : Places) → table ≡ tables.Planes planes →
    (planes.kind ≡ Euc2d) × (planes.places ≡ places) →
    (table_distance table ≡ city_distance Euc2d (places_of places)) × (table_size table ≡ length (places_of places))
euclid_table table planes places is same = (
  ap table_distance is ∙ ap (λ kind. city_distance kind (places_of planes.places)) same.0
      ∙ ap (λ at. city_distance Euc2d (places_of at)) same.1,
  ap table_size is ∙ ap (λ at. length (places_of at)) same.1,
)
