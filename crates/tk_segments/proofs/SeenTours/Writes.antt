-- The swaps pay for the writes: an amortized analysis with a potential.
use Rattle.std.proofs.Common.{◌≡◌, ℕ, ◌+◌, ◌-◌, ◌*◌, ◌/◌, ◌<◌, ◌≤◌, ◌^◌, Bool, ⊎_elim, length, subst, ap, arith}
use Rattle.std.specs.Prelude.{if◌then◌else◌}
use Rattle.std.proofs.lemmas.Bool.{cases_lt, le-leb, lt-leb}
use Rattle.tk_tour.specs.Counters.{saturated}
use Rattle.tk_segments.specs.SeenTours.{list_of, reversal_cost, room_cost, room_of, segment_count_of}
use Rattle.tk_segments.specs.Writes.{ArePaid}
use Rattle.tk_segments.specs.declared.seen.SeenTour.{SeenTour}

less_times : (a b c : ℕ) → b ≤ c → a * b ≤ a * c
less_times a b c le = grind arith

times_less : (a b c : ℕ) → a ≤ b → a * c ≤ b * c
times_less a b c le = grind arith

factor : (a b c : ℕ) → 1 ≤ a → a * b ≤ a * c → b ≤ c
factor a b c some le = grind arith

-- after a reversal by swaps
pub paid_exchange : (n room writes segments swaps more : ℕ) → ArePaid n room writes segments swaps →
    ArePaid n room (writes + 2 * more) segments (swaps + more)
paid_exchange n room writes segments swaps more h = record { some = h.some; paid = grind (arith, h.paid) }

-- after a reversal of segments, which adds at most two of them
pub paid_turn : (n room writes segments swaps segments' more least : ℕ) → ArePaid n room writes segments swaps → 1 ≤
    segments' →
    segments' ≤ segments + 2 → n ≤ room * least → least ≤ more →
    ArePaid n room writes segments' (swaps + more)
paid_turn n room writes segments swaps segments' more least h some two enough le =
    let a : n * (segments' - 1) ≤ n * (segments - 1 + 2) =
    less_times n (segments' - 1) (segments - 1 + 2) (omega (arith, two, h.some)) in
    let b : room * least ≤ room * more = less_times room least more le in
    let c : n * (segments - 1 + 2) ≡ n * (segments - 1) + 2 * n = grind arith in
    let d : room * (swaps + more) ≡ room * swaps + room * more = grind arith in
    record { some = some; paid = omega (arith, a, b, c, d, enough, h.paid) }

-- after the array is rewritten, because there is no room for two more segments
pub paid_rewrite : (n room writes segments swaps : ℕ) → ArePaid n room writes segments swaps → room + 1 ≤ segments →
    ArePaid n room (writes + n) 1 swaps
paid_rewrite n room writes segments swaps h full =
    let a : n * room ≤ n * (segments - 1) = less_times n room (segments - 1) (omega (arith, full)) in
    let b : room * (writes + n) ≡ room * writes + n * room = grind arith in
    record { some = omega arith; paid = omega (arith, a, b, h.paid) }

pub writes_bound : (n room writes segments swaps : ℕ) → 1 ≤ room → ArePaid n room writes segments swaps → writes ≤ 2 *
    swaps
writes_bound n room writes segments swaps some h =
    let b : 2 * (room * swaps) ≡ room * (2 * swaps) = grind arith in
    factor room writes (2 * swaps) some (omega (arith, h.paid, b))

-- how many array positions are written to make room for two more segments, and below to reverse `count` positions
pub room_cost-none : (tour : SeenTour) → segment_count_of tour ≤ room_of tour → room_cost tour ≡ 0
room_cost-none tour le =
    ap (λ (b : Bool). if b then 0 else length (list_of tour)) (le-leb (segment_count_of tour) (room_of tour) le)

pub room_cost-all : (tour : SeenTour) → room_of tour < segment_count_of tour → room_cost tour ≡ length (list_of tour)
room_cost-all tour lt =
    ap (λ (b : Bool). if b then 0 else length (list_of tour)) (lt-leb (segment_count_of tour) (room_of tour) lt)

pub reversal_cost-short : (tour : SeenTour) (count : ℕ) → count ≤ tour.short →
    reversal_cost tour count ≡ 2 * (count / 2)
reversal_cost-short tour count le =
    ap (λ (b : Bool). if b then 2 * (count / 2) else room_cost tour) (le-leb count tour.short le)

pub reversal_cost-long : (tour : SeenTour) (count : ℕ) → tour.short < count → reversal_cost tour count ≡ room_cost tour
reversal_cost-long tour count lt =
    ap (λ (b : Bool). if b then 2 * (count / 2) else room_cost tour) (lt-leb count tour.short lt)

-- counters that saturate at their maximum
paid_saturated : (n room writes segments swaps : ℕ) → ArePaid n room writes segments swaps → 1 ≤ room → n ≤ 100000 →
    segments ≤ 100000 →
    ArePaid n room (saturated writes) segments (saturated swaps)
paid_saturated n room writes segments swaps h some small few =
    let greatest : ℕ = 2 ^ 64 - 1 in
    let a : room * saturated writes ≤ room * writes = less_times room (saturated writes) writes (omega arith) in
    let b : room * saturated writes ≤ room * greatest = less_times room (saturated writes) greatest (omega arith) in
    let c : n * (segments - 1) ≤ n * 100000 = less_times n (segments - 1) 100000 (omega (arith, few)) in
    let d : 1 * greatest ≤ room * greatest = times_less 1 room greatest some in
    ⊎_elim
    (λ (big : greatest < swaps).
    let e : saturated swaps ≡ greatest = omega (arith, big) in
    record { some = h.some; paid = omega (arith, b, c, d, small, ap (λ u. 2 * (room * u)) e) })
    (λ (exact : swaps ≤ greatest).
    let e : saturated swaps ≡ swaps = omega (arith, exact) in
    record { some = h.some; paid = omega (arith, a, h.paid, ap (λ u. 2 * (room * u)) e) })
    (cases_lt greatest swaps)

-- `counted`, the sum of two such counters, is at least the saturated number of swaps
pub paid_counted : (n room writes segments swaps counted : ℕ) → ArePaid n room writes segments swaps → 1 ≤ room → n ≤
    100000 →
    segments ≤ 100000 → saturated swaps ≤ counted →
    ArePaid n room (saturated writes) segments counted
paid_counted n room writes segments swaps counted h some small few le =
    let k = paid_saturated n room writes segments swaps h some small few in
    record { some = k.some; paid = omega (arith, k.paid, less_times room (saturated swaps) counted le) }

-- after segments are joined
pub paid_fewer : (n room writes segments swaps segments' : ℕ) → ArePaid n room writes segments swaps → 1 ≤ segments' →
    segments' ≤ segments →
    ArePaid n room writes segments' swaps
paid_fewer n room writes segments swaps segments' h some le =
    record {
      some = some;
      paid = omega (arith, h.paid, less_times n (segments' - 1) (segments - 1) (omega (arith, le)));
    }

-- with fewer writes
paid_less : (n room writes writes' segments swaps : ℕ) → writes' ≤ writes → ArePaid n room writes segments swaps →
    ArePaid n room writes' segments swaps
paid_less n room writes writes' segments swaps le h =
    record { some = h.some; paid = omega (arith, h.paid, less_times room writes' writes le) }

pub paid_alike : (n n' room room' writes writes' segments swaps swaps' : ℕ) → n ≡ n' → room ≡ room' → writes' ≤ writes →
    swaps ≡ swaps' → ArePaid n room writes segments swaps →
    ArePaid n' room' writes' segments swaps'
paid_alike n n' room room' writes writes' segments swaps swaps' e f g i h =
    let P : ℕ → Type 0 = λ u. ArePaid u room writes segments swaps in
    let Q : ℕ → Type 0 = λ u. ArePaid n' u writes segments swaps in
    let R : ℕ → Type 0 = λ u. ArePaid n' room' writes segments u in
    paid_less n' room' writes writes' segments swaps' g (subst R i (subst Q f (subst P e h)))
