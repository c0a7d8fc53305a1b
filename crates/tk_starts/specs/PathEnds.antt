-- The arrays of the paths, and the joints that they represent.
use Rattle.std.specs.Prelude.{◌≡◌, ◌≢◌, ℕ, ◌+◌, ◌<◌, true, List, [], ◌∷◌, ◌==◌, ◌⊎◌, ◌↔◌, if◌then◌else◌, slice_index_or}
use Rattle.std.specs.Prelude.{◌-◌, Bool, ◌||◌, ◌&&◌, not, nat_le, length}
use Rattle.tk_distance.specs.Holding.{holds, IsDistinct}
use Rattle.tk_distance.specs.Cities.{IsCity}
use Rattle.tk_starts.specs.Joints.{part, part_load, joints_at, IsChain, last_from}
use Rattle.tk_starts.specs.declared.merges.pairs.Pair.{Pair}

-- the two are x and y, in either order
abbrev pub AreBoth : ℕ → ℕ → ℕ → ℕ → Type 0
AreBoth p q x y = ((p ≡ x) × (q ≡ y)) ⊎ ((p ≡ y) × (q ≡ x))

-- the neighbours lead from c, which was reached from `before`, along the list to an end
unfoldable pub Follows : (ℕ → ℕ) → (ℕ → ℕ) → ℕ → ℕ → List ℕ → Type 0
Follows one two before c [] = AreBoth (one c) (two c) before 0
Follows one two before c (d ∷ xs) = AreBoth (one c) (two c) before d × (0 < d) × Follows one two c d xs

abbrev pub IsEnd : (ℕ → ℕ) → (ℕ → ℕ) → ℕ → Type 0
IsEnd one two c = (one c ≡ 0) ⊎ (two c ≡ 0)

abbrev pub one_if : ℕ → ℕ
one_if x = if x == 0 then 0 else 1

-- the part of a, as the path from a to z
pub record IsPathOf (n : ℕ) (E : List Pair) (one two : ℕ → ℕ) (a z : ℕ) (xs : List ℕ) : Type 0 where
  pub last : last_from a xs ≡ z
  pub chain : IsChain E a xs
  pub distinct : IsDistinct (a ∷ xs)
  pub whole : (b : ℕ) → (holds (a ∷ xs) b ≡ true) ↔ (part E b ≡ part E a)
  pub inside : (b : ℕ) → holds (a ∷ xs) b ≡ true → IsCity n b
  pub follows : Follows one two 0 a xs

-- for each city its neighbours, and for each end of a path its other end and its load
pub record AreEnds (n : ℕ) (load : ℕ → ℕ) (E : List Pair) (one two other weight : ℕ → ℕ) : Type 0 where
  pub degree : (c : ℕ) → IsCity n c → joints_at E c ≡ one_if (one c) + one_if (two c)
  pub paths : (c : ℕ) → IsCity n c → IsEnd one two c → (xs : List ℕ) × IsPathOf n E one two c (other c) xs
  pub back : (c : ℕ) → IsCity n c → IsEnd one two c → IsEnd one two (other c) × (other (other c) ≡ c)
  pub only : (c d : ℕ) → IsCity n c → IsCity n d → IsEnd one two c → IsEnd one two d → part E d ≡ part E c →
      (d ≡ c) ⊎ (d ≡ other c)
  pub total : (c : ℕ) → IsCity n c → IsEnd one two c → weight c ≡ part_load load E n (part E c)
  pub covered : (c : ℕ) → IsCity n c → (d : ℕ) × (IsCity n d × IsEnd one two d × (part E d ≡ part E c))

-- i and j become neighbours
pub record IsLinked (i j : ℕ) (one two one' two' : ℕ → ℕ) : Type 0 where
  pub first : (x : ℕ) → AreBoth (one i) (two i) x 0 → AreBoth (one' i) (two' i) x j
  pub second : (x : ℕ) → AreBoth (one j) (two j) x 0 → AreBoth (one' j) (two' j) x i
  pub rest : (c : ℕ) → c ≢ i → c ≢ j → (one' c ≡ one c) × (two' c ≡ two c)

-- a and b get a new value each, and all others keep theirs
pub record IsSetAt (a x b y : ℕ) (f f' : ℕ → ℕ) : Type 0 where
  pub first : f' a ≡ x
  pub second : f' b ≡ y
  pub rest : (c : ℕ) → c ≢ a → c ≢ b → f' c ≡ f c

-- the paths of the two cities of e, before and after they are joined at these cities
pub record IsJoin (n : ℕ) (load : ℕ → ℕ) (E : List Pair) (e : Pair)
    (one two other weight one' two' other' weight' : ℕ → ℕ) : Type 0 where
  pub ends : AreEnds n load E one two other weight
  pub first : IsCity n e.i × IsEnd one two e.i
  pub second : IsCity n e.j × IsEnd one two e.j
  pub apart : part E e.i ≢ part E e.j
  pub linked : IsLinked e.i e.j one two one' two'
  pub far : IsSetAt (other e.i) (other e.j) (other e.j) (other e.i) other other'
  pub heavy : IsSetAt (other e.i) (weight e.i + weight e.j) (other e.j) (weight e.i + weight e.j) weight weight'

abbrev pub at : List ℕ → ℕ → ℕ
at xs c = slice_index_or xs c 0

-- like AreEnds, for four arrays with an entry for each city and one for 0
abbrev pub AreJoined : ℕ → (ℕ → ℕ) → List Pair → List ℕ → List ℕ → List ℕ → List ℕ → Type 0
AreJoined n load E one two other weight = AreEnds n load E (at one) (at two) (at other) (at weight)

-- the load of city c, in a list that begins with city 1
abbrev pub load_of : List ℕ → ℕ → ℕ
load_of loads c = slice_index_or loads (c - 1) 0

-- two different cities of 1..n
abbrev pub IsPairWithin : ℕ → Pair → Type 0
IsPairWithin n p = IsCity n p.i × IsCity n p.j × (p.i ≢ p.j)

abbrev pub is_end_at : List ℕ → List ℕ → ℕ → Bool
is_end_at one two c = (at one c == 0) || (at two c == 0)

-- whether the two cities of p are ends of two paths whose total load is within the capacity
abbrev pub may_join_at : List ℕ → List ℕ → List ℕ → List ℕ → ℕ → Pair → Bool
may_join_at one two other weight capacity p =
    is_end_at one two p.i && is_end_at one two p.j && not (at other p.i == p.j) && nat_le (at weight p.j) capacity
    && nat_le (at weight p.i) (capacity - at weight p.j)

-- the neighbours lead from a along the list to an end, over fewer than n further cities; all cities are of 1..n
pub record IsWay (n : ℕ) (one two : ℕ → ℕ) (a : ℕ) (xs : List ℕ) : Type 0 where
  pub follows : Follows one two 0 a xs
  pub inside : (b : ℕ) → holds (a ∷ xs) b ≡ true → IsCity n b
  pub short : length xs < n
