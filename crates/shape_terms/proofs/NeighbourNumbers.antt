-- The numbers of the neighbours of a point: each neighbour has exactly one.
-- Laws for any number of axes; a picture does not matter here.
use Rattle.std.proofs.Common.{◌≡◌, ℕ, ◌<◌, sym, ◌∙◌, arith, List, [], length, map, get_or}
use Rattle.std.specs.Prelude.{◌≢◌, AllPairs, Contains}
use Rattle.std.proofs.lemmas.List.{get_or_default, get_or-map, length-map}
use native.Mathlib.Decide.{dec_lt}
use Rattle.shape_terms.specs.Points.{Point}
use Rattle.shape_terms.specs.Adjacency.{moved, near_steps, side_steps, near_point, side_point, Near, Side, Round, Lists}
use Rattle.shape_terms.proofs.NearNeighbours.{near_points_near, near_listed, near_points_distinct}
use Rattle.shape_terms.proofs.SideNeighbours.{side_points_side, side_listed, side_points_distinct, side_is_near}

-- the point that the step with number k leads to stands at place k of the points that the steps lead to
at_place : (p : Point) (vs : List Point) (k : ℕ) → k < length vs → get_or (map (moved p) vs) k [] ≡ moved p (get_or vs k [])
at_place p vs k h = get_or-map (moved p) vs k [] [] h

-- a point that a step leads to has a number
number_of : (p : Point) (vs : List Point) (q : Point) → Contains (map (moved p) vs) q → (k : ℕ) × (k < length vs) × (moved p (get_or vs k []) ≡ q)
number_of p vs q (k, h, e) =
    let l : k < length vs = (let n = length-map vs (moved p) in omega arith) in
    (k, l, sym (at_place p vs k l) ∙ (get_or_default (map (moved p) vs) k [] q h ∙ e))

-- steps that lead to distinct points have one number each
one_number : (p : Point) (vs : List Point) (j k : ℕ) → AllPairs (λ x y. x ≢ y) (map (moved p) vs) → j < length vs → k < length vs
    → moved p (get_or vs j []) ≡ moved p (get_or vs k []) → j ≡ k
one_number p vs j k apart l r e =
    let n = length-map vs (moved p) in
    let f : get_or (map (moved p) vs) j [] ≡ get_or (map (moved p) vs) k [] = at_place p vs j l ∙ (e ∙ sym (at_place p vs k r)) in
    elim (dec_lt j k) [
      | yes a ↦ absurd (apart j k [] a (omega arith) f)
      | no a ↦ elim (dec_lt k j) [
        | yes b ↦ absurd (apart k j [] b (omega arith) (sym f))
        | no b ↦ omega arith
      ]
    ]

-- ---- near neighbours

pub near_number : (p q : Point) → Near p q → (k : ℕ) × (k < length (near_steps (length p))) × (near_point p k ≡ q)
near_number p q h = number_of p (near_steps (length p)) q (near_listed p q h)

pub near_of_number : (p : Point) (k : ℕ) → k < length (near_steps (length p)) → Near p (near_point p k)
near_of_number p k h =
    let l = length-map (near_steps (length p)) (moved p) in
    rw (at_place p (near_steps (length p)) k h) at (near_points_near p k [] (omega arith))

pub near_once : (p : Point) (j k : ℕ) → j < length (near_steps (length p)) → k < length (near_steps (length p)) → near_point p j ≡ near_point p k → j ≡ k
near_once p j k a b e = one_number p (near_steps (length p)) j k (near_points_distinct p) a b e

-- ---- side neighbours

pub side_number : (p q : Point) → Side p q → (k : ℕ) × (k < length (side_steps (length p))) × (side_point p k ≡ q)
side_number p q h = number_of p (side_steps (length p)) q (side_listed p q h)

pub side_of_number : (p : Point) (k : ℕ) → k < length (side_steps (length p)) → Side p (side_point p k)
side_of_number p k h =
    let l = length-map (side_steps (length p)) (moved p) in
    rw (at_place p (side_steps (length p)) k h) at (side_points_side p k [] (omega arith))

pub side_once : (p : Point) (j k : ℕ) → j < length (side_steps (length p)) → k < length (side_steps (length p)) → side_point p j ≡ side_point p k → j ≡ k
side_once p j k a b e = one_number p (side_steps (length p)) j k (side_points_distinct p) a b e

-- ---- side neighbours among the near ones

pub side_is_round : (p q : Point) → Side p q → Round p q
side_is_round p q h = (side_is_near p q h, let e = h.1 in omega arith)

-- ---- all of them

pub near_listed_once : (p : Point) → Lists Near near_point (length (near_steps (length p))) p
near_listed_once p = record { each = near_number p; only = near_of_number p; once = near_once p }

pub side_listed_once : (p : Point) → Lists Side side_point (length (side_steps (length p))) p
side_listed_once p = record { each = side_number p; only = side_of_number p; once = side_once p }
