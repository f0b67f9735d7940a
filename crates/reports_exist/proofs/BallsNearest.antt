-- Each object point of a picture has a nearest background point, and one of them lies in the framed box.
-- Laws of pictures and points alone; which balls a report lists belongs elsewhere.
use Rattle.std.proofs.Common.{◌≡◌, ◌⊎◌, inl, inr, ℕ, zero, suc, ◌+◌, ◌*◌, ◌<◌, ◌≤◌, Bool, true, false, refl, ap, sym, ◌∙◌, subst, arith, List, [], ◌∷◌, length}
use Rattle.std.proofs.Common.{map, ℤ, pos, negsuc, ◌-ℤ◌}
use Rattle.std.specs.Prelude.{IsTrue, All, nat_abs}
use Rattle.std.proofs.lemmas.Bool.{cases_Bool}
use Rattle.std.proofs.lemmas.Int.{ints}
use Rattle.std.proofs.lemmas.Nat.{mul-le}
use Rattle.std.proofs.lemmas.List.Elements.{All-nil, All-cons, All-head, All-tail}
use native.Mathlib.Decide.{dec_lt}
use Rattle.shape_terms.specs.Limits.{most_coordinate}
use Rattle.shape_terms.specs.Points.{Point, box_count, squared_distance}
use Rattle.shape_terms.specs.Pictures.{Picture, at, IsBackground, Least}
use Rattle.shape_terms.specs.FramedBox.{framed_sides, framed_point, IsWithin}
use Rattle.shape_terms.specs.Distances.{NearFact}
use Rattle.shape_terms.proofs.Boxes.{in_box_length}
use Rattle.shape_terms.proofs.FramedBoxes.{length-framed_point}
use Rattle.shape_terms.proofs.NearestFound.{corner_background, least_found}
use Rattle.shape_terms.proofs.Numbered.{object_in_box}
use Rattle.shape_terms.proofs.SquaredDistances.{squared_distance-cons}

-- ---- the least of some numbers

pub below_suc : (P : ℕ → Type 0) (n : ℕ) → ((j : ℕ) → j < n → P j) → P n → (j : ℕ) → j < suc n → P j
below_suc P n h here j l = elim (dec_lt j n) [
  | yes m ↦ h j m
  | no m ↦ (let e : n ≡ j = omega arith in subst P e here)
]

-- of the first n numbers that do not pass the test, i gives the least
record IsLowest (f : ℕ → ℕ) (test : ℕ → Bool) (n i : ℕ) : Type 0 where
  below : i < n
  off : test i ≡ false
  least : (j : ℕ) → j < n → test j ≡ false → f i ≤ f j

module _ (f : ℕ → ℕ) (test : ℕ → Bool) where
  still_lowest : (n i : ℕ) → IsLowest f test n i → (test n ≡ false → f i ≤ f n) → IsLowest f test (suc n) i
  still_lowest n i h le = record {
    below = (let b = h.below in omega arith);
    off = h.off;
    least = below_suc (λ j. test j ≡ false → f i ≤ f j) n h.least le;
  }

  now_lowest : (n : ℕ) → test n ≡ false → ((j : ℕ) → j < n → test j ≡ false → f n ≤ f j) → IsLowest f test (suc n) n
  now_lowest n e le = record {
    below = omega arith;
    off = e;
    least = below_suc (λ j. test j ≡ false → f n ≤ f j) n le (λ e. omega arith);
  }

  lowest_or_none : (n : ℕ) → ((i : ℕ) × IsLowest f test n i) ⊎ ((j : ℕ) → j < n → test j ≡ false → ⊥)
  lowest_or_none zero = inr (λ j l e. absurd (omega arith))
  lowest_or_none (suc n) = elim (cases_Bool (test n)) [
    | inl t ↦ elim (lowest_or_none n) [
      | inl h ↦ inl (h.0, still_lowest n h.0 h.1 (λ e. absurd (let c : true ≡ false = sym t ∙ e in cc)))
      | inr none ↦ inr (below_suc (λ j. test j ≡ false → ⊥) n none (λ e. let c : true ≡ false = sym t ∙ e in cc))
    ]
    | inr e ↦ elim (lowest_or_none n) [
      | inl h ↦ elim (dec_lt (f n) (f h.0)) [
        | yes l ↦ inl (n, now_lowest n e (λ j m d. let k = h.1.least j m d in omega arith))
        | no l ↦ inl (h.0, still_lowest n h.0 h.1 (λ d. omega arith))
      ]
      | inr none ↦ inl (n, now_lowest n e (λ j m d. absurd (none j m d)))
    ]
  ]

-- ---- nearest background points

some_framed : (sides : List ℕ) → 0 < box_count (framed_sides sides)
some_framed [] = omega arith
some_framed (n ∷ sides) =
    let r = some_framed sides in
    let m : 1 * 1 ≤ (n + 2) * box_count (framed_sides sides) = mul-le 1 1 (n + 2) (box_count (framed_sides sides)) (omega arith) (omega arith) in
    omega arith

-- an object point with a nearest background point, which lies in a framed box, and their squared distance
pub record IsFound (X : Picture) (f : NearFact) : Type 0 where
  pub object : IsTrue (at X f.p)
  pub least : Least X f.p f.q f.s
  pub near : IsWithin (negsuc 0) (pos most_coordinate) f.q

-- the points of facts, in order
abbrev pub points_of : List NearFact → List Point
points_of facts = map (λ f. f.p) facts

module _ (X : Picture) (axes : 0 < length X.sides) (within : (i : ℕ) → IsWithin (negsuc 0) (pos most_coordinate) (framed_point X.sides i)) where
  abbrev distance : Point → ℕ → ℕ
  distance p i = squared_distance p (framed_point X.sides i)

  abbrev is_object : ℕ → Bool
  is_object i = at X (framed_point X.sides i)

  nearest : (p : Point) → IsTrue (at X p) → (f : NearFact) × (f.p ≡ p) × IsFound X f
  nearest p o = elim (lowest_or_none (distance p) is_object (box_count (framed_sides X.sides))) [
    | inl h ↦ (
        let q = framed_point X.sides h.0 in
        let background : IsBackground X q = record { point = length-framed_point X.sides h.0; value = h.1.off } in
        let least = least_found X p q (distance p h.0) (object_in_box X p o) background refl h.1.least in
        (record { p = p; q = q; s = distance p h.0 }, refl, record { object = o; least = least; near = within h.0 }))
    | inr none ↦ absurd (none 0 (some_framed X.sides) (corner_background X axes).value)
  ]

  -- of each point of a list of object points
  pub all_nearest : (ps : List Point) → All (λ p. IsTrue (at X p)) ps → (facts : List NearFact) × (points_of facts ≡ ps) × All (IsFound X) facts
  all_nearest [] h = ([], refl, All-nil (IsFound X))
  all_nearest (p ∷ ps) h =
      let f = nearest p (All-head (λ p. IsTrue (at X p)) p ps h) in
      let r = all_nearest ps (All-tail (λ p. IsTrue (at X p)) p ps h) in
      (f.0 ∷ r.0, ap (λ (q : Point). q ∷ points_of r.0) f.1 ∙ ap (λ qs. p ∷ qs) r.1, All-cons (IsFound X) f.0 r.0 f.2 r.2)

-- ---- an object point is apart from the background

square_none : (n rest : ℕ) → n * n + rest ≡ 0 → n ≡ 0
square_none n rest e = elim (dec_lt 0 n) [
  | yes l ↦ (let m : 1 * 1 ≤ n * n = mul-le 1 1 n n (omega arith) (omega arith) in absurd (omega arith))
  | no l ↦ omega arith
]

abs_none : (z : ℤ) → nat_abs z ≡ 0 → z ≡ pos 0
abs_none (pos n) e = ap pos e
abs_none (negsuc n) e = absurd (omega arith)

same_point : (p q : Point) → length p ≡ length q → squared_distance p q ≡ 0 → p ≡ q
same_point [] [] l e = refl
same_point [] (y ∷ q) l e = absurd (omega arith)
same_point (x ∷ p) [] l e = absurd (omega arith)
same_point (x ∷ p) (y ∷ q) l e =
    let c = squared_distance-cons x y p q in
    let n = square_none (nat_abs (x -ℤ y)) (squared_distance p q) (omega arith) in
    let z : x -ℤ y ≡ pos 0 = abs_none (x -ℤ y) n in
    let h : x ≡ y = omega (arith, ints) in
    let r = same_point p q (omega arith) (omega (arith, c, e)) in
    ap (λ v. v ∷ p) h ∙ ap (λ v. y ∷ v) r

pub some_distance : (X : Picture) (f : NearFact) → IsFound X f → 0 < f.s
some_distance X f h = elim (dec_lt 0 f.s) [
  | yes m ↦ m
  | no m ↦ (
      let d = h.least.distance in
      let axes = in_box_length X.sides f.p (object_in_box X f.p h.object) in
      let e : f.p ≡ f.q = same_point f.p f.q (axes ∙ sym h.least.background.point) (omega arith) in
      let c : true ≡ false = sym h.object ∙ (ap (at X) e ∙ h.least.background.value) in
      cc)
]
