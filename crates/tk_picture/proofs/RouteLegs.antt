-- The legs of a route, up to one more.
use Rattle.std.proofs.Common.{◌≡◌, ℕ, ◌+◌, ◌<◌, ◌≤◌, List, [], ◌∷◌, ◌++◌, length, get_or, sym, ap, subst, ◌∙◌}
use Rattle.std.proofs.Common.{append-nil, append_assoc, arith}
use Rattle.std.specs.Prelude.{map, flat_map, drop}
use Rattle.std.proofs.lemmas.List.{drop_all, drop_more, get_or-map, length-map}
use Rattle.tk_distance.specs.Cities.{IsCity}
use Rattle.tk_writers.specs.Pens.{Puts}
use Rattle.tk_writers.specs.declared.output.pen.Pen.{Pen}
use Rattle.tk_writers.specs.declared.output.sink.Sink.{Ghosts}
use Rattle.tk_writers.proofs.Pieces.Putting.{Puts-then}
use Rattle.tk_routes.specs.Instance.{Instance, node_of}
use Rattle.tk_picture.specs.PageText.{leg_word, leg_words, legs}
use Rattle.tk_picture.proofs.EmptyPen.{Puts-none}

-- the words of the legs of a route from one of its nodes on, before which k customers are served
abbrev pub rest_words : Instance → List ℕ → ℕ → ℕ → List ℕ
rest_words i route k from = flat_map leg_word (legs i.distance from (drop k (map (node_of i.depot) route)) i.depot)

rest_more : (i : Instance) (route : List ℕ) (k from node : ℕ) → k < length route
    → node ≡ node_of i.depot (get_or route k 0)
    → rest_words i route k from ≡ leg_word (i.distance from node) ++ rest_words i route (k + 1) node
rest_more i route k from node lt is =
    let nodes = map (node_of i.depot) route in
    let within : k < length nodes = omega (arith, lt, length-map route (node_of i.depot)) in
    let at : get_or nodes k 0 ≡ node = get_or-map (node_of i.depot) route k 0 0 lt ∙ sym is in
    ap (λ (l : List ℕ). flat_map leg_word (legs i.distance from l i.depot))
    (drop_more nodes k 0 within ∙ ap (λ (c : ℕ). c ∷ drop (k + 1) nodes) at)

rest_end : (i : Instance) (route : List ℕ) (k from : ℕ) → length route ≤ k
    → rest_words i route k from ≡ leg_word (i.distance from i.depot)
rest_end i route k from le =
    let nodes = map (node_of i.depot) route in
    let past : length nodes ≤ k = omega (arith, le, length-map route (node_of i.depot)) in
    ap (λ (l : List ℕ). flat_map leg_word (legs i.distance from l i.depot)) (drop_all k nodes past) ∙ append-nil _

-- the legs to the first k customers are put, of whom `from` is the last
pub record AreLegsPut {W : Type 0} (sink : Ghosts W) (p q : Pen W) (i : Instance) (route : List ℕ) (k from : ℕ)
    : Type 0 where
  pub from_in : IsCity i.size from
  pub written : List ℕ
  pub text : Puts sink p q written
  pub left : written ++ rest_words i route k from ≡ leg_words i route

pub no_legs_put : {W : Type 0} {sink : Ghosts W} {p : Pen W} {i : Instance} {route : List ℕ} {from : ℕ}
    → IsCity i.size from → from ≡ i.depot → AreLegsPut sink p p i route 0 from
no_legs_put {W} {sink} {p} {i} {route} {from} known is =
    record { from_in = known; written = []; text = Puts-none; left = ap (rest_words i route 0) is }

pub one_more_leg : {W : Type 0} {sink : Ghosts W} {p q r : Pen W} {i : Instance} {route : List ℕ} {k from : ℕ}
    (node : ℕ) → k < length route → node ≡ node_of i.depot (get_or route k 0) → IsCity i.size node
    → AreLegsPut sink p q i route k from → Puts sink q r (leg_word (i.distance from node))
    → AreLegsPut sink p r i route (k + 1) node
one_more_leg {W} {sink} {p} {q} {r} {i} {route} {k} {from} node lt is known before here =
    record {
      from_in = known;
      written = before.written ++ leg_word (i.distance from node);
      text = Puts-then before.text here;
      left = append_assoc before.written (leg_word (i.distance from node)) (rest_words i route (k + 1) node)
          ∙ ap (λ (l : List ℕ). before.written ++ l) (sym (rest_more i route k from node lt is)) ∙ before.left;
    }

pub last_leg : {W : Type 0} {sink : Ghosts W} {p q r : Pen W} {i : Instance} {route : List ℕ} {k from : ℕ}
    → length route ≤ k → AreLegsPut sink p q i route k from → Puts sink q r (leg_word (i.distance from i.depot))
    → Puts sink p r (leg_words i route)
last_leg {W} {sink} {p} {q} {r} {i} {route} {k} {from} le before here =
    subst (Puts sink p r)
    (ap (λ (l : List ℕ). before.written ++ l) (sym (rest_end i route k from le)) ∙ before.left)
    (Puts-then before.text here)
