-- Lists that are cut at an index.
use Rattle.std.proofs.Common.{◌≡◌, ℕ, ◌+◌, ◌<◌, List, [], ◌∷◌, ◌++◌, length, take, drop, get_or, set, sym, ap, ◌∙◌, ◌≤◌}
use Rattle.std.proofs.Common.{append-nil, append_assoc, arith}
use Rattle.std.specs.Prelude.{map}
use Rattle.std.specs.List.{All, concat}
use Rattle.std.proofs.lemmas.List.{take-append-drop, take_all, take_more, drop_more, map-append, length-map}
use Rattle.std.proofs.lemmas.List.{length-take, length-take-le, get_or_at, set_at}
use Rattle.std.proofs.lemmas.List.Elements.{All-cons, All-head, All-nil, All-tail}
use Rattle.std.proofs.lemmas.List.Folds.{concat-append}

-- a list consists of the elements before an index, the element there, and those after it
pub cut_at : {X : Type 0} (xs : List X) (k : ℕ) (d : X) → k < length xs →
    xs ≡ take k xs ++ get_or xs k d ∷ drop (k + 1) xs
cut_at xs k d lt = sym (take-append-drop k xs) ∙ ap (λ v. take k xs ++ v) (drop_more xs k d lt)

pub cut_map : {X : Type 0} (f : X → List ℕ) (xs : List X) (k : ℕ) (x : X) → k < length xs → x ≡ get_or xs k x →
    map f xs ≡ map f (take k xs) ++ f x ∷ map f (drop (k + 1) xs)
cut_map f xs k x lt is =
    ap (map f) (cut_at xs k x lt) ∙ map-append f (take k xs) (get_or xs k x ∷ drop (k + 1) xs)
    ∙ ap (λ v. map f (take k xs) ++ f v ∷ map f (drop (k + 1) xs)) (sym is)

pub map-take_more : {X : Type 0} (f : X → List ℕ) (xs : List X) (k : ℕ) (x : X) → k < length xs → x ≡ get_or xs k x →
    map f (take (k + 1) xs) ≡ map f (take k xs) ++ f x ∷ []
map-take_more f xs k x lt is =
    ap (map f) (take_more xs k x lt) ∙ map-append f (take k xs) (get_or xs k x ∷ [])
    ∙ ap (λ v. map f (take k xs) ++ f v ∷ []) (sym is)

pub concat-take_more : {X : Type 0} (f : X → List ℕ) (xs : List X) (k : ℕ) (x : X) → k < length xs → x ≡ get_or xs k x →
    concat (map f (take (k + 1) xs)) ≡ concat (map f (take k xs)) ++ f x
concat-take_more f xs k x lt is =
    ap concat (map-take_more f xs k x lt is) ∙ concat-append (map f (take k xs)) (f x ∷ [])
    ∙ ap (λ v. concat (map f (take k xs)) ++ v) (append-nil (f x))

-- what is true of each element of a concatenation is true of each element of its first list, and below of its second
pub All-front : {X : Type 0} (P : X → Type 0) (xs ys : List X) → All P (xs ++ ys) → All P xs
All-front P [] ys h = All-nil P
All-front P (x ∷ xs) ys h = All-cons P x xs (All-head P x (xs ++ ys) h) (All-front P xs ys (All-tail P x (xs ++ ys) h))

pub All-back : {X : Type 0} (P : X → Type 0) (xs ys : List X) → All P (xs ++ ys) → All P ys
All-back P [] ys h = h
All-back P (x ∷ xs) ys h = All-back P xs ys (All-tail P x (xs ++ ys) h)

pub length-before : {X : Type 0} (f : X → List ℕ) (xs : List X) (k : ℕ) → k < length xs →
    k + 1 ≡ length (map f (take k xs)) + 1
length-before f xs k lt = omega (arith, length-map (take k xs) f, length-take k xs)

pub map-take_all : {X : Type 0} (f : X → List ℕ) (xs : List X) (k : ℕ) → length xs ≤ k → map f (take k xs) ≡ map f xs
map-take_all f xs k le = ap (map f) (take_all k xs le)

-- a list whose first k elements have been mapped, after one more is mapped
pub mapped_on : {Y : Type 0} (f : Y → Y) (zs ys : List Y) (k : ℕ) (z d : Y) → k < length ys →
    zs ≡ map f (take k ys) ++ drop k ys → z ≡ f (get_or zs k d) →
    set zs k z ≡ map f (take (k + 1) ys) ++ drop (k + 1) ys
mapped_on f zs ys k z d lt is new =
    let le : k ≤ length ys = omega arith in
    let size : length (map f (take k ys)) ≡ k = length-map (take k ys) f ∙ length-take-le k ys le in
    let cut : zs ≡ map f (take k ys) ++ get_or ys k d ∷ drop (k + 1) ys = is
    ∙ ap (λ v. map f (take k ys) ++ v) (drop_more ys k d lt) in
    let old : get_or zs k d ≡ get_or ys k d = ap (λ v. get_or v k d) cut
    ∙ get_or_at (map f (take k ys)) (get_or ys k d) (drop (k + 1) ys) d k size in
    let front : map f (take (k + 1) ys) ≡ map f (take k ys) ++ f (get_or ys k d) ∷ [] = ap (map f) (take_more ys k d lt)
    ∙ map-append f (take k ys) (get_or ys k d ∷ []) in
    ap (λ v. set v k z) cut ∙ set_at (map f (take k ys)) (get_or ys k d) (drop (k + 1) ys) z k size
    ∙ ap (λ v. map f (take k ys) ++ v ∷ drop (k + 1) ys) (new ∙ ap f old)
    ∙ sym (append_assoc (map f (take k ys)) (f (get_or ys k d) ∷ []) (drop (k + 1) ys))
    ∙ ap (λ v. v ++ drop (k + 1) ys) (sym front)
