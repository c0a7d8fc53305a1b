use Rattle.std.proofs.Common.{◌≤◌, arith}
use Rattle.std.proofs.lemmas.Nat.{mul-le}
use Rattle.tk_problem.specs.declared.limits.TheConstants.{CANDIDATE_LIMIT, CITY_LIMIT}
use Rattle.tk_near.proofs.near.room_for.Goals as goal

pub overflow_mul-count : goal.overflow_mul-count
overflow_mul-count g c =
    let few : c.size.result ≤ CITY_LIMIT = omega (arith, c.size.ensures, g.met.M.Metric.size_limit c.args.m.now) in
    omega (arith, mul-le c.size.result c.args.k CITY_LIMIT CANDIDATE_LIMIT few c.requires)
