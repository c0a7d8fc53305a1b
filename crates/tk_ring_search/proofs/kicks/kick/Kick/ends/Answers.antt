use Rattle.std.proofs.Common.{ℕ, zero, suc, [], ◌∷◌, length, arith}
use Rattle.std.specs.List.{All}
use Rattle.tk_distance.specs.Cities.{IsCity}
use Rattle.tk_ring_search.proofs.kicks.kick.Kick.ends.Goals as goal

all_eight : (n a b c d e f g h : ℕ) → IsCity n a → IsCity n b → IsCity n c → IsCity n d → IsCity n e → IsCity n f →
    IsCity n g → IsCity n h → All (IsCity n) (a ∷ b ∷ c ∷ d ∷ e ∷ f ∷ g ∷ h ∷ [])
all_eight n a b c d e f g h ha hb hc hd he hf hg hh zero z lt = ha
all_eight n a b c d e f g h ha hb hc hd he hf hg hh (suc zero) z lt = hb
all_eight n a b c d e f g h ha hb hc hd he hf hg hh (suc (suc zero)) z lt = hc
all_eight n a b c d e f g h ha hb hc hd he hf hg hh (suc (suc (suc zero))) z lt = hd
all_eight n a b c d e f g h ha hb hc hd he hf hg hh (suc (suc (suc (suc zero)))) z lt = he
all_eight n a b c d e f g h ha hb hc hd he hf hg hh (suc (suc (suc (suc (suc zero))))) z lt = hf
all_eight n a b c d e f g h ha hb hc hd he hf hg hh (suc (suc (suc (suc (suc (suc zero)))))) z lt = hg
all_eight n a b c d e f g h ha hb hc hd he hf hg hh (suc (suc (suc (suc (suc (suc (suc zero))))))) z lt = hh
all_eight n a b c d e f g h ha hb hc hd he hf hg hh (suc (suc (suc (suc (suc (suc (suc (suc k)))))))) z lt =
    absurd (omega arith)

pub returns-clause-cities : goal.returns-clause-cities
returns-clause-cities g c =
    all_eight (length (g.S.TourStore.cities c.args.ring.now)) _ _ _ _ _ _ _ _ c.at.ensures.city c.at-2.ensures.city
    c.at-3.ensures.city c.at-4.ensures.city c.at-5.ensures.city c.at-6.ensures.city c.at-7.ensures.city
    c.at-8.ensures.city

pub returns-clause-value : goal.returns-clause-value
returns-clause-value g c = cc
