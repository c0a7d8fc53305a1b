use Rattle.std.proofs.Common.{lit<, lit≤, arith}
use Rattle.tk_metric.specs.Distance.{square_sum}
use Rattle.tk_distance.proofs.ExactRoots.Covering.{least_between}
use Rattle.tk_distance.proofs.ExactRoots.Rounding.{nearest_between, nearest_length}
use Rattle.tk_tests.proofs.metric.examples.distances.Goals as goal

pub returns-clause-euclidean : goal.returns-clause-euclidean
returns-clause-euclidean c = (
  nearest_between (square_sum 0 0) 0 (lit≤ tt) (lit< tt),
  (
    nearest_between (square_sum 0 499999999) 0 (lit≤ tt) (lit< tt),
    (
      nearest_between (square_sum 0 500000000) 1 (lit≤ tt) (lit< tt),
      (
        nearest_between (square_sum 1000000000 1000000000) 1 (lit≤ tt) (lit< tt),
        (
          nearest_between (square_sum 3000000000 4000000000) 5 (lit≤ tt) (lit< tt),
          (
            nearest_between (square_sum 2000000000000000000 2000000000000000000) 2828427125 (lit≤ tt) (lit< tt),
            tt,
          ),
        ),
      ),
    ),
  ),
)

pub returns-clause-rounded_up : goal.returns-clause-rounded_up
returns-clause-rounded_up c = (
  least_between 1 (square_sum 0 0) 0 (lit≤ tt) (λ some. absurd (omega arith)),
  (
    least_between 1 (square_sum 0 1) 1 (lit≤ tt) (λ some. lit< tt),
    (
      least_between 1 (square_sum 1000000000 1000000000) 2 (lit≤ tt) (λ some. lit< tt),
      (
        least_between 1 (square_sum 3000000000 4000000000) 5 (lit≤ tt) (λ some. lit< tt),
        (
          least_between 1 (square_sum 3000000000 4000000001) 6 (lit≤ tt) (λ some. lit< tt),
          (
            least_between 1 (square_sum 2000000000000000000 2000000000000000000) 2828427125 (lit≤ tt) (λ some. lit< tt),
            tt,
          ),
        ),
      ),
    ),
  ),
)

pub returns-clause-manhattan : goal.returns-clause-manhattan
returns-clause-manhattan c = (
  nearest_length 0 0 (lit≤ tt) (lit< tt),
  (
    nearest_length 499999999 0 (lit≤ tt) (lit< tt),
    (
      nearest_length 2500000000 3 (lit≤ tt) (lit< tt),
      (
        nearest_length 4000000000000000000 4000000000 (lit≤ tt) (lit< tt),
        tt,
      ),
    ),
  ),
)

pub returns-clause-maximum : goal.returns-clause-maximum
returns-clause-maximum c = (
  nearest_length 0 0 (lit≤ tt) (lit< tt),
  (
    nearest_length 2500000000 3 (lit≤ tt) (lit< tt),
    (
      nearest_length 2499999999 2 (lit≤ tt) (lit< tt),
      (
        nearest_length 2000000000000000000 2000000000 (lit≤ tt) (lit< tt),
        tt,
      ),
    ),
  ),
)

pub returns-clause-pseudo_euclidean : goal.returns-clause-pseudo_euclidean
returns-clause-pseudo_euclidean c = (
  least_between 10 (square_sum 0 0) 0 (lit≤ tt) (λ some. absurd (omega arith)),
  (
    least_between 10 (square_sum 1000000000 3000000000) 1 (lit≤ tt) (λ some. lit< tt),
    (
      least_between 10 (square_sum 1000000000 3000000001) 2 (lit≤ tt) (λ some. lit< tt),
      (
        least_between 10 (square_sum 10000000000 10000000000) 5 (lit≤ tt) (λ some. lit< tt),
        (
          least_between 10 (square_sum 2000000000000000000 2000000000000000000) 894427191 (lit≤ tt) (λ some. lit< tt),
          tt,
        ),
      ),
    ),
  ),
)
