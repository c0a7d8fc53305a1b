-- Draws of kicks.
--     Misses q demands ring words k rest      k kicks were drawn, and the ring fits after none of them
--     AreDraws q demands ring words drawn rest      draws until a ring fits after a kick
use Rattle.std.specs.Prelude.{◌≡◌, ℕ, ◌+◌, ◌≤◌, List, length, true, false, nat_lt, if◌then◌else◌, MatchOption}
use Rattle.rand_core.specs.Stream.{Stream}
use Rattle.tk_ring_search.specs.Kicks.{IsKick, drawn_kick, is_within, kicked}
use Rattle.tk_ring_search.specs.declared.kicks.drawing.Drawn.{Drawn}
use Rattle.tk_ring_search.specs.declared.kicks.kick.Kick.{Kick}

-- k kicks were drawn from a random stream, and the ring fits after none of them
pub data Misses (q : ℕ) (demands ring : List ℕ) (words : Stream) : ℕ → Stream → Type 0 where
  none : Misses q demands ring words 0 words
  more : {k : ℕ} {left rest : Stream} {kick : Kick} → Misses q demands ring words k left →
      (kick, rest) ≡ drawn_kick (length ring) left → is_within q demands (kicked kick ring) ≡ false →
      Misses q demands ring words (k + 1) rest

-- the last of this many kicks that were drawn is the first after which the ring fits
pub record IsFirstFit (q : ℕ) (demands ring : List ℕ) (words : Stream) (draws : ℕ) (kick : Kick) (rest : Stream) :
    Type 0 where
  pub before : ℕ
  pub left : Stream
  pub missed : Misses q demands ring words before left
  pub drawn : (kick, rest) ≡ drawn_kick (length ring) left
  pub is_kick : IsKick (length ring) kick
  pub fits : is_within q demands (kicked kick ring) ≡ true
  pub count : draws ≡ before + 1

-- the most draws for one kick of a ring of n elements
abbrev pub most_draws : ℕ → ℕ
most_draws n = if nat_lt n 8 then 0 else 1000

-- draws until the ring fits after a kick, or until that many kicks were drawn
pub record AreDraws (q : ℕ) (demands ring : List ℕ) (words : Stream) (drawn : Drawn) (rest : Stream) : Type 0 where
  pub kick : MatchOption drawn.kick
      (Misses q demands ring words drawn.draws rest × (drawn.draws ≡ most_draws (length ring)))
      (λ kick. IsFirstFit q demands ring words drawn.draws kick rest)
  pub few : drawn.draws ≤ most_draws (length ring)
