use Rattle.std.proofs.Common.{◌≡◌, ℕ, ◌-◌, [], length, vec_len, refl, subst, arith}
use Rattle.tk_starts.specs.PathEnds.{AreJoined, load_of}
use Rattle.tk_starts.specs.Joints.{joints}
use Rattle.tk_starts.proofs.Merging.Parts.HubApart.{all_within, finished}
use Rattle.tk_starts.proofs.Merging.Lists.SavingsLaws.{tour_of_lists, light_lists, filled_lists}
use Rattle.tk_starts.proofs.merges.savings.savings_lists.Goals as goal

pub joined_paths-requires-clause-within : goal.joined_paths-requires-clause-within
joined_paths-requires-clause-within g c =
    all_within _ _ _ _ _ c.in_ok-pairs.pairs c.requires.loads c.in_ok-pairs.ensures

pub lists-requires-clause-some : goal.lists-requires-clause-some
lists-requires-clause-some g c =
    let p = c.in_ok-paths.paths in
    let e : length c.args.loads.now ≡ vec_len p.one - 1 = omega (arith, c.in_ok-paths.ensures.sizes.0) in
    let joined = subst (λ (n : ℕ). AreJoined n (load_of c.args.loads.now)
    (joints (load_of c.args.loads.now) (length c.args.loads.now) c.args.capacity [] c.in_ok-pairs.pairs)
    p.one.items p.two.items p.other.items p.load.items) e c.in_ok-paths.ensures.joined in
    (load_of c.args.loads.now, (_, joined))

pub returns-clause-lists : goal.returns-clause-lists
returns-clause-lists g c =
    let p = c.in_ok-paths.paths in
    let f : vec_len p.one - 1 ≡ g.M.Metric.size_of c.args.metric.now =
    omega (arith, c.in_ok-paths.ensures.sizes.0, c.requires.loads) in
    finished _ _ _ _ _ _ c.in_ok-pairs.pairs c.in_ok-pairs.pairs (load_of c.args.loads.now) c.args.capacity p.one.items
    p.two.items p.other.items p.load.items _
    c.requires.loads f refl c.in_ok-pairs.ensures c.in_ok-paths.ensures.joined c.in_ok-lists.ensures

pub returns-clause-once : goal.returns-clause-once
returns-clause-once g c =
    tour_of_lists _ _ _ _ (load_of c.args.loads.now) c.args.capacity (λ x. x.items) c.in_ok-lists.lists.items
    c.requires.hub (returns-clause-lists g c)

pub returns-clause-within : goal.returns-clause-within
returns-clause-within g c light =
    light_lists _ _ _ _ (load_of c.args.loads.now) c.args.capacity (λ x. x.items) c.in_ok-lists.lists.items
    (returns-clause-lists g c) light

pub returns-clause-filled : goal.returns-clause-filled
returns-clause-filled g c =
    filled_lists _ _ _ _ (load_of c.args.loads.now) c.args.capacity (λ x. x.items) c.in_ok-lists.lists.items
    (returns-clause-lists g c)
