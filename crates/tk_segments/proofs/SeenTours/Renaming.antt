-- After an update of `home`, segments that have changed are found again.
use Rattle.std.proofs.Common.{◌≡◌, ◌≤◌, ◌*◌, ◌++◌, ◌∙◌, ℕ, List, length, take, subst, arith}
use Rattle.tk_segments.specs.Segments.{AreNamed, CanBeFound, AreFound}
use Rattle.tk_segments.specs.declared.segment.Segment.{Segment}
use Rattle.tk_segments.specs.declared.segments.Segments.{Segments}
use Rattle.tk_segments.proofs.WrittenFronts.{at_front}
use Rattle.tk_segments.proofs.SeenTours.Names.{found_by_home}

-- the invariants of the segments, with a new `home` and a new table
pub record AreRenamed (s : Segments) (segments : List Segment) (home table : List ℕ) : Type 0 where
  pub named : AreNamed segments home
  pub found : AreFound s.size 32 segments home table
  pub homes : length home ≡ s.most
  pub buckets : s.size ≤ 32 * length table

pub renamed : (s : Segments) (segments reported : List Segment) (home table rest more : List ℕ) → reported ≡ segments →
    length home ≡ length s.home.items → length table ≡ length s.table.items → AreNamed reported home →
    CanBeFound s.size 32 segments table →
    AreRenamed s segments (take s.home.len (home ++ rest)) (take s.table.len (table ++ more))
renamed s segments reported home table rest more e lh lt names found =
    let O : List Segment → Type 0 = λ u. AreNamed u home in
    let named : AreNamed segments home = subst O e names in
    let P : List ℕ → Type 0 = λ u. AreRenamed s segments u (take s.table.len (table ++ more)) in
    let Q : List ℕ → Type 0 = λ u. AreRenamed s segments home u in
    at_front P s.home.len home rest (omega (arith, lh, s.home.ok.0))
    (at_front Q s.table.len table more (omega (arith, lt, s.table.ok.0))
    (record {
      named = named;
      found = found_by_home s.size 32 segments home table named found;
      homes = lh ∙ s.homes;
      buckets = omega (arith, lt, s.buckets);
    }))
