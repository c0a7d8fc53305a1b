-- What is probably wrong with the contents of a file that has no fault.
use Rattle.std.specs.Prelude.{ℕ, ◌-◌, Bool, false, ◌&&◌, ◌||◌, ◌==◌, nat_lt, List, [], ◌∷◌, length}
use Rattle.std.specs.Prelude.{Option, Some, None, Vec, slice_index_or, if◌then◌else◌}
use Rattle.std.specs.declared.alloc.Global.{Global}
use Rattle.std.specs.List.{list_any}
use Rattle.tk_params.specs.Requested.{ParamsAre}
use Rattle.tk_diagnosis.specs.declared.remark.Remark.{Remark}
use Rattle.tk_diagnosis.specs.declared.remark.Remark.TheVariants as remarks
use Rattle.tk_explain.specs.declared.valid.Valid.{Valid}
use Rattle.tk_explain.specs.declared.valid.Valid.TheVariants as contents

abbrev pub contains_zero : List ℕ → Bool
contains_zero numbers = list_any (λ n. n == 0) numbers

-- city 0 is in a tour
abbrev pub on_cities : List ℕ → Option Remark
on_cities cities = if contains_zero cities then Some remarks.City0 else None

abbrev pub has_zero : List (Vec ℕ Global) → Bool
has_zero routes = list_any (λ route. contains_zero route.items) routes

-- the first of several numbers is the last one, too
abbrev pub is_closed : List ℕ → Bool
is_closed route =
    nat_lt 1 (length route) && slice_index_or route 0 0 == slice_index_or route (length route - 1) 0

abbrev pub has_closed : List (Vec ℕ Global) → Bool
has_closed routes = list_any (λ route. is_closed route.items) routes

-- 0 is on a route, or a route is closed
abbrev pub on_routes : List (Vec ℕ Global) → Option Remark
on_routes routes =
    if has_zero routes then Some remarks.Customer0
    else (if has_closed routes then Some remarks.Closed else None)

abbrev pub begins_with_colon : List ℕ → Bool
begins_with_colon [] = false
begins_with_colon (b ∷ bs) = b == 58

abbrev pub has_colon : Option (List ℕ) → Bool
has_colon None = false
has_colon (Some name) = begins_with_colon name

-- a file name begins with a colon
abbrev pub on_names : ParamsAre → Option Remark
on_names params =
    if has_colon (Some params.problem_file) || has_colon params.tour_file || has_colon params.solution_file
    || has_colon params.initial_tour_file then Some remarks.Colon else None

abbrev pub remark_on : Valid → Option Remark
remark_on (contents.Problem problem) = None
remark_on (contents.Tour tour) = on_cities tour.cities.items
remark_on (contents.Solution solution) = on_routes solution.routes.items
remark_on (contents.Parameters params) = on_names params
