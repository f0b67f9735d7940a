-- A contour has one tangential cover.
-- By rising first places alone; nothing is used of runs.
use Rattle.std.proofs.Common.{◌≡◌, inl, inr, ◌<◌, refl, ap, sym, ◌∙◌, arith, List, [], ◌∷◌}
use Rattle.std.specs.Prelude.{All, AllPairs, Contains}
use Rattle.std.proofs.lemmas.List.Elements.{All-contains}
use Rattle.shape_terms.specs.Points.{Point}
use Rattle.shape_terms.specs.Covers.{Stretch, IsCover}
use Rattle.shape_terms.proofs.SameCycles.{pairs-head, pairs-tail, head_in, later_in, in_cases, in_none}

abbrev Rises : Stretch → Stretch → Type 0
Rises x y = x.first < y.first

first_same : (x y : Stretch) (xs ys : List Stretch) → All (Rises x) xs → All (Rises y) ys → Contains (y ∷ ys) x → Contains (x ∷ xs) y → x ≡ y
first_same x y xs ys h k i j = elim (in_cases y ys x i) [
  | inl e ↦ sym e
  | inr l ↦ elim (in_cases x xs y j) [
    | inl e ↦ e
    | inr m ↦ absurd (let a = All-contains (Rises x) xs y h m in let b = All-contains (Rises y) ys x k l in omega (arith, a, b))
  ]
]

-- what stands behind the first stretch of the one list stands behind that of the other
behind : (x y : Stretch) (xs ys : List Stretch) → x ≡ y → All (Rises x) xs → ((z : Stretch) → Contains (x ∷ xs) z → Contains (y ∷ ys) z) → (z : Stretch)
    → Contains xs z → Contains ys z
behind x y xs ys e h a z i = elim (in_cases y ys z (a z (later_in x xs z i))) [
  | inl q ↦ absurd (let r = All-contains (Rises x) xs z h i in let f = ap (λ (s : Stretch). s.first) (e ∙ q) in omega (arith, r, f))
  | inr q ↦ q
]

same_rising : (xs ys : List Stretch) → AllPairs Rises xs → AllPairs Rises ys → ((z : Stretch) → Contains xs z → Contains ys z)
    → ((z : Stretch) → Contains ys z → Contains xs z) → xs ≡ ys
same_rising [] [] h k a b = refl
same_rising [] (y ∷ ys) h k a b = absurd (in_none y (b y (head_in y ys)))
same_rising (x ∷ xs) [] h k a b = absurd (in_none x (a x (head_in x xs)))
same_rising (x ∷ xs) (y ∷ ys) h k a b =
    let hx = pairs-head Rises x xs h in
    let hy = pairs-head Rises y ys k in
    let e = first_same x y xs ys hx hy (a x (head_in x xs)) (b y (head_in y ys)) in
    let t = same_rising xs ys (pairs-tail Rises x xs h) (pairs-tail Rises y ys k) (behind x y xs ys e hx a) (behind y x ys xs (sym e) hy b) in
    λ i. e i ∷ t i

pub cover_once : (points : List Point) (xs ys : List Stretch) → IsCover points xs → IsCover points ys → xs ≡ ys
cover_once points xs ys h k = same_rising xs ys h.rising k.rising (λ z i. (k.exact z).1 ((h.exact z).0 i)) (λ z i. (h.exact z).1 ((k.exact z).0 i))
