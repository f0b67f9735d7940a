-- The near neighbours of points, one by one or as a set: whether one of them is of a patch, and which of them touch it.
-- Laws over lists of points.
use Rattle.std.proofs.Common.{◌≡◌, ℕ, ◌+◌, ◌-◌, ◌^◌, ◌<◌, ◌≤◌, refl, ap, sym, ◌∙◌, subst, arith, inl, inr, Bool, List, [], length, drop, Some}
use Rattle.std.specs.Prelude.{◌⊎◌, ◌↔◌, IsTrue, not, nat_eq, slice_get}
use Rattle.std.specs.Int.{bit_at}
use Rattle.std.specs.Int.Count.{count_trailing_zeros}
use Rattle.std.proofs.lemmas.Nat.Bits.{bit_at-zero}
use Rattle.std.proofs.lemmas.Bool.Decides.{nat_tests}
use native.Mathlib.Decide.{ℕ_discrete}
use Rattle.std.proofs.lemmas.Bool.{cases_lt}
use Rattle.std.proofs.lemmas.Option.{slice_get_within}
use Rattle.shape_terms.specs.Points.{Point, in_box, box_count, raster_number, raster_point}
use Rattle.shape_terms.proofs.Boxes.{raster_below, raster_point-raster_number}
use Rattle.shape_terms.specs.Pictures.{Picture, at}
use Rattle.shape_terms.specs.Adjacency.{Near, Lists, near_point}
use Rattle.shape_terms.proofs.AdjacencySymmetric.{near_sym}
use Rattle.shape_adj.specs.NearMasks.{near_total, IsNearMask}
use Rattle.judge_outline.specs.Exposure.{AreMarked, IsNearTo, IsNearObject}
use Rattle.judge_outline.proofs.LeastBits.{least_in}
use Rattle.shape_terms.proofs.SameCycles.{in_none}
use Rattle.shape_terms.proofs.Places.{place_of, of_place, place_drop}

-- ---- one point

-- the point with the number of a neighbour
pub number_of_near : (sides other : List ℕ) (p from : Point) (k n : ℕ) → sides ≡ other → from ≡ p → n ≡ raster_number sides (near_point from k)
    → IsTrue (in_box sides (near_point p k)) → (n < box_count other) × (raster_point other n ≡ near_point p k)
number_of_near sides other p from k n same is e inside =
    let number : n ≡ raster_number sides (near_point p k) = e ∙ ap (λ q. raster_number sides (near_point q k)) is in
    let below : n < box_count sides = (let l = raster_below sides (near_point p k) inside in omega (arith, l, number)) in (
      omega (arith, below, ap box_count same),
      ap (λ s. raster_point s n) (sym same) ∙ ap (raster_point sides) number
          ∙ raster_point-raster_number sides (near_point p k) inside,
    )

-- the set of the neighbours of the point with a number, in the box of the picture
pub mask_here : (sides : List ℕ) (X : Picture) (values : List Bool) (from p : Point) (m : ℕ) → sides ≡ X.sides → values ≡ X.values → from ≡ p
    → IsNearMask (record { sides = sides; values = values }) from m → IsNearMask X p m
mask_here sides X values from p m same filled is mask =
    subst (λ q. IsNearMask X q m) is (subst (λ Y. IsNearMask Y from m) (λ i. record { sides = same i; values = filled i }) mask)

-- one of the neighbours is object
pub touch_yes : (recent : Picture) (p q : Point) (n k : ℕ) → Lists Near near_point n p → k < n → q ≡ near_point p k → IsTrue (at recent q)
    → IsNearObject recent p
touch_yes recent p q n k h l e c = (q, c, subst (Near p) (sym e) (h.only k l))

-- and where none is, the point is near no object point
pub touch_no : (recent : Picture) (p : Point) (n k : ℕ) → Lists Near near_point n p → n ≤ k → ((j : ℕ) → j < k → IsTrue (at recent (near_point p j)) → ⊥)
    → IsNearObject recent p → ⊥
touch_no recent p n k h l none (q, c, near) =
    let r = h.each q near in
    none r.0 (let m = r.1 in omega arith) (subst (λ z. IsTrue (at recent z)) (sym r.2) c)

-- it is near one exactly where its set of object neighbours is not empty
pub touch_set : (recent : Picture) (p : Point) (m : ℕ) → Lists Near near_point (near_total (length p)) p → IsNearMask recent p m → m < 2 ^ 32
    → IsTrue (not (nat_eq m 0)) ↔ IsNearObject recent p
touch_set recent p m h mask small = (
  λ t.
      let k = count_trailing_zeros 32 m in
      let i = (mask k).0 (least_in m small (some t)) in
      touch_yes recent p (near_point p k) (near_total (length p)) k h i.0 refl i.1,
  λ (q, c, near). some_back (
      let r = h.each q near in
      let i = (mask r.0).1 (r.1, subst (λ z. IsTrue (at recent z)) (sym r.2) c) in
      elim (ℕ_discrete m 0) [
        | yes z ↦ absurd (let a = sym (ap (λ x. bit_at x r.0) z) ∙ i in let b = bit_at-zero r.0 in omega arith)
        | no n ↦ omega arith
      ]),
)
  where
    some : IsTrue (not (nat_eq m 0)) → 0 < m
    some t = grind (arith, nat_tests, t)

    some_back : 0 < m → IsTrue (not (nat_eq m 0))
    some_back l = grind (arith, nat_tests, l)

-- ---- the points round one

-- the object points among the neighbours of p are marked, but for those that are still to do
pub record Gathering (left : Picture) (p : Point) (todo : ℕ → Type 0) (old new : Picture) : Type 0 where
  pub only : (q : Point) → IsTrue (at new q) → IsTrue (at old q) ⊎ (IsTrue (at left q) × Near q p)
  pub kept : (q : Point) → IsTrue (at old q) → IsTrue (at new q)
  pub each : (j : ℕ) → j < near_total (length p) → IsTrue (at left (near_point p j)) → todo j ⊎ IsTrue (at new (near_point p j))

module _ (left : Picture) (p : Point) where
  pub gather_none : (todo : ℕ → Type 0) (old : Picture) → ((j : ℕ) → j < near_total (length p) → IsTrue (at left (near_point p j)) → todo j)
      → Gathering left p todo old old
  gather_none todo old all = record { only = λ q a. inl a; kept = λ q a. a; each = λ j l h. inl (all j l h) }

  module _ (todo next : ℕ → Type 0) (k : ℕ) (old new : Picture) (g : Gathering left p todo old new) (moves : (j : ℕ) → todo j → (j ≡ k) ⊎ next j) where
    -- neighbour k is marked now
    pub gather_yes : (q : Point) (more : Picture) → Lists Near near_point (near_total (length p)) p → k < near_total (length p) → q ≡ near_point p k
        → IsTrue (at left q) → ((r : Point) → IsTrue (at more r) ↔ (IsTrue (at new r) ⊎ (q ≡ r))) → Gathering left p next old more
    gather_yes q more h l e here put = record {
      only = λ r a. elim ((put r).0 a)
          [ inl o ↦ g.only r o | inr s ↦ inr (subst (λ z. IsTrue (at left z)) s here, near_sym p r (subst (Near p) (sym e ∙ s) (h.only k l))) ];
      kept = λ r a. (put r).1 (inl (g.kept r a));
      each = λ j m f. elim (g.each j m f) [
        | inl t ↦ elim (moves j t) [ inl s ↦ inr ((put (near_point p j)).1 (inr (e ∙ ap (near_point p) (sym s)))) | inr n ↦ inl n ]
        | inr a ↦ inr ((put (near_point p j)).1 (inl a))
      ];
    }

    -- neighbour k is background
    pub gather_no : (IsTrue (at left (near_point p k)) → ⊥) → Gathering left p next old new
    gather_no none = record {
      only = g.only;
      kept = g.kept;
      each = λ j m f. elim (g.each j m f) [
        | inl t ↦ elim (moves j t) [ inl s ↦ absurd (none (subst (λ i. IsTrue (at left (near_point p i))) s f)) | inr n ↦ inl n ]
        | inr a ↦ inr a
      ];
    }

  -- nothing is left to do
  pub gather_all : (todo : ℕ → Type 0) (old new : Picture) → Lists Near near_point (near_total (length p)) p
      → ((j : ℕ) → j < near_total (length p) → todo j → ⊥) → Gathering left p todo old new → (q : Point)
      → IsTrue (at new q) ↔ (IsTrue (at old q) ⊎ (IsTrue (at left q) × Near q p))
  gather_all todo old new h done g q = (g.only q, λ c. back c)
    where
      back : (IsTrue (at old q) ⊎ (IsTrue (at left q) × Near q p)) → IsTrue (at new q)
      back (inl a) = g.kept q a
      back (inr (there, near)) =
          let r = h.each q (near_sym q p near) in
          elim (g.each r.0 r.1 (subst (λ z. IsTrue (at left z)) (sym r.2) there)) [
            | inl t ↦ absurd (done r.0 r.1 t)
            | inr a ↦ subst (λ z. IsTrue (at new z)) r.2 a
          ]

-- ---- the points round all of a patch

-- the object points that are Near one of the points from place start to place i are marked
pub record GatheredTo (left : Picture) (taken : List Point) (start i : ℕ) (marks : Picture) : Type 0 where
  pub only : (q : Point) → IsTrue (at marks q) → IsTrue (at left q) × ((m : ℕ) × (start ≤ m) × (r : Point) × (slice_get taken m ≡ Some r) × Near q r)
  pub each : (q : Point) → IsTrue (at left q) → (m : ℕ) → start ≤ m → m < i → (r : Point) → slice_get taken m ≡ Some r → Near q r → IsTrue (at marks q)

pub gathered_none : (left : Picture) (taken : List Point) (start : ℕ) (marks : Picture) → AreMarked [] marks → GatheredTo left taken start start marks
gathered_none left taken start marks h = record { only = λ q a. absurd (in_none q ((h.each q).0 a)); each = λ q object m a b r e n. absurd (omega arith) }

pub gathered_more : (left : Picture) (taken : List Point) (start i : ℕ) (p : Point) (old new : Picture) → start ≤ i → slice_get taken i ≡ Some p
    → ((q : Point) → IsTrue (at new q) ↔ (IsTrue (at old q) ⊎ (IsTrue (at left q) × Near q p))) → GatheredTo left taken start i old
    → GatheredTo left taken start (i + 1) new
gathered_more left taken start i p old new l there h g = record {
  only = λ q c. elim ((h q).0 c) [ inl o ↦ g.only q o | inr n ↦ (n.0, (i, l, p, there, n.1)) ];
  each = λ q object m a b r e n. elim (cases_lt m i) [
    | inl k ↦ (h q).1 (inl (g.each q object m a k r e n))
    | inr k ↦
        let same : m ≡ i = omega arith in
        let s : Some p ≡ Some r = sym there ∙ ap (slice_get taken) (sym same) ∙ e in
        let t : p ≡ r = cc in
        (h q).1 (inr (object, subst (Near q) (sym t) n))
  ];
}

pub gathered_all : (left : Picture) (taken : List Point) (start i : ℕ) (marks : Picture) → length taken ≤ i → GatheredTo left taken start i marks → (q : Point)
    → IsTrue (at marks q) ↔ (IsTrue (at left q) × IsNearTo (drop start taken) q)
gathered_all left taken start i marks l g q = (
  λ c.
      let r = g.only q c in
      let m = r.1 in (
        r.0,
        (
          m.2,
          of_place (drop start taken) (m.0 - start) m.2
              (place_drop start taken (m.0 - start) ∙ ap (slice_get taken) (let a = m.1 in let e : start + (m.0 - start) ≡ m.0 = omega arith in e) ∙ m.3),
          m.4,
        ),
      ),
  λ t.
      let n = t.1 in
      let k = place_of (drop start taken) n.0 n.1 in
      let e : slice_get taken (start + k.0) ≡ Some n.0 = sym (place_drop start taken k.0) ∙ k.1 in
      g.each q t.0 (start + k.0) (omega arith) (let w = slice_get_within taken (start + k.0) n.0 e in omega (arith, w, l)) n.0 e n.2,
)
