-- What is asked of the cities of a table, where the distances are those of EUC_2D among whole coordinates.
use Rattle.std.proofs.Common.{◌≡◌, length, ap, ◌∙◌}
use Rattle.tk_problem.specs.PlacesOf.{places_of}
use Rattle.tk_problem.specs.declared.points.Places.{Places}
use Rattle.tk_problem.specs.declared.points.Places.TheVariants.{Whole}
use Rattle.tk_problem.specs.declared.weights.PlaneKind.{PlaneKind}
use Rattle.tk_problem.specs.declared.weights.PlaneKind.TheVariants.{Euc2d}
use Rattle.tk_distance.specs.PlaneOf.{city_distance}
use Rattle.tk_distance.specs.declared.euclid.Euclid.{Euclid}
use Rattle.tk_distance.specs.declared.planes.Planes.{Planes}
use Rattle.tk_distance.specs.declared.table.Table.{Table}
use Rattle.tk_distance.specs.declared.table.Table.TheVariants as Kind
use Rattle.tk_solve.specs.declared.options.TourOptions.{TourOptions}
use Rattle.tk_solve.specs.Starts.{task_of, task_over}

pub euclid_task : (table : Table) (planes : Planes) (euclid : Euclid) (options : TourOptions)
    → table ≡ Kind.Planes planes
    → (planes.kind ≡ Euc2d) × (planes.places ≡ Whole euclid.unit euclid.places)
    → task_of table options ≡ task_over (length (places_of (Whole euclid.unit euclid.places)))
    (city_distance Euc2d (places_of (Whole euclid.unit euclid.places))) options
euclid_task table planes euclid options is same =
    ap (λ (t : Table). task_of t options) is
    ∙ ap
    (λ (kind : PlaneKind). task_over (length (places_of planes.places))
    (city_distance kind (places_of planes.places)) options) same.0
    ∙ ap (λ (places : Places). task_over (length (places_of places)) (city_distance Euc2d (places_of places)) options)
    same.1
