-- Paths as the code stores them: for each city its neighbours, and for each end of a path the other end and the load.
use Rattle.std.specs.Prelude.{◌≡◌, ◌≢◌, ℕ, ◌+◌, ◌-◌, ◌<◌, List, length, map, vec_len, Vec}
use Rattle.std.specs.declared.alloc.Global.{Global}
use Rattle.tk_distance.specs.Cities.{IsCity}
use Rattle.tk_starts.specs.declared.merges.pairs.Pair.{Pair}
use Rattle.tk_starts.specs.declared.merges.paths.Paths.{Paths}
use Rattle.tk_starts.specs.Joints.{ArePartPaths, joints_at}
use Rattle.tk_starts.specs.PathEnds.{AreJoined, IsSetAt, at, load_of}

-- each of the four lists has n entries
abbrev pub HaveSize : Paths → ℕ → Type 0
HaveSize p n = (vec_len p.one ≡ n) × (vec_len p.two ≡ n) × (vec_len p.other ≡ n) × (vec_len p.load ≡ n)

-- the lists have the same length
abbrev pub AreEven : Paths → Type 0
AreEven p = (vec_len p.two ≡ vec_len p.one) × (vec_len p.other ≡ vec_len p.one) × (vec_len p.load ≡ vec_len p.one)

-- each city is a path of its own, with its load
abbrev pub AreSingle : List ℕ → Paths → Type 0
AreSingle loads p =
    (c : ℕ) → IsCity (length loads) c → (at p.one.items c ≡ 0) × (at p.two.items c ≡ 0) × (at p.other.items c ≡ c)
    × (at p.load.items c ≡ load_of loads c)

-- the other ends of the paths of i and j are within the lists, and differ
abbrev pub HaveEnds : Paths → ℕ → ℕ → Type 0
HaveEnds p i j =
    (at p.other.items i < vec_len p.one) × (at p.other.items j < vec_len p.one)
    × (at p.other.items i ≢ at p.other.items j)

-- the paths of i and j are joined: their far ends become the ends of one path
abbrev pub EndsMeet : ℕ → ℕ → Paths → Paths → Type 0
EndsMeet i j old new =
    IsSetAt (at old.other.items i) (at old.other.items j) (at old.other.items j) (at old.other.items i)
    (at old.other.items) (at new.other.items)

-- both ends of the joined path get the total load
abbrev pub LoadsMeet : ℕ → ℕ → Paths → Paths → Type 0
LoadsMeet i j old new =
    IsSetAt (at old.other.items i) (at old.load.items i + at old.load.items j) (at old.other.items j)
    (at old.load.items i + at old.load.items j) (at old.load.items) (at new.load.items)

-- the paths that these joints form, with these loads
abbrev pub AreOf : Paths → (ℕ → ℕ) → List Pair → Type 0
AreOf p load joints =
    AreJoined (vec_len p.one - 1) load joints p.one.items p.two.items p.other.items p.load.items

-- these are the lists of the paths, except for that of the hub, which is in no joint
abbrev pub AreListsOf : Paths → ℕ → List (Vec ℕ Global) → Type 0
AreListsOf p hub lists =
    (load : ℕ → ℕ) (joints : List Pair) → AreOf p load joints → joints_at joints hub ≡ 0
    → ArePartPaths (vec_len p.one - 1) hub joints (map (λ x. x.items) lists)
