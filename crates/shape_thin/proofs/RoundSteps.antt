-- The walk over the near neighbours of a point that was deleted, by its mask, while those that are reached are looked at.
-- Laws over pictures and keys alone.
use Rattle.std.proofs.Common.{◌≡◌, ℕ, ◌+◌, ◌^◌, ◌<◌, ◌≤◌, Bool, true, false, List, length, sym, ◌∙◌, ap, subst, arith}
use Rattle.std.specs.Prelude.{IsTrue}
use Rattle.shape_terms.specs.Points.{Point, in_box, box_count, raster_number, raster_point}
use Rattle.shape_terms.specs.Pictures.{Picture, at}
use Rattle.shape_terms.specs.Adjacency.{near_steps, near_point}
use Rattle.shape_terms.specs.Parts.{Object}
use Rattle.shape_terms.proofs.Boxes.{raster_below, raster_point-raster_number}
use Rattle.shape_adj.specs.NearMasks.{In}
use Rattle.shape_queue.specs.declared.key.Key.{Key}
use Rattle.shape_queue.specs.Waiting.{Waits, IsQueue, IsQueueBut, IsLookedAt}
use Rattle.shape_queue.specs.Standing.{LaterFrom}
use Rattle.shape_queue.proofs.LookSteps.{round_start, round_more_at, round_pass, round_end}
use Rattle.shape_thin.proofs.RoundPlaces.{least_of, others_of, IsWalk, walk_start, walk_end, walk_come, walk_more, walk_place}

-- where the old queue was right but for the near neighbours of p, this one is right but for those from number k on
abbrev pub WaitsFrom : Picture → Picture → List ℕ → Point → ℕ → (Key → Bool) → (Key → Bool) → ℕ → Type 0
WaitsFrom left reached ds p n old now k = (passed : ℕ) → IsQueueBut p passed left reached ds old
    → Waits left.sides left reached ds (LaterFrom ds passed left.sides p n k) now

pub round_begins : (left reached : Picture) (ds : List ℕ) (p : Point) (n mask : ℕ) (old : Key → Bool) (before : ℕ) → n ≡ length (near_steps (length p))
    → IsWalk (WaitsFrom left reached ds p n old old) n mask mask before before
round_begins left reached ds p n mask old before total =
    walk_start (WaitsFrom left reached ds p n old old) n mask before (λ passed w. round_start left.sides left reached ds passed p n total old w)

-- the mask has all near neighbours that are reached, and so far the walk came
module _ {left reached : Picture} {ds : List ℕ} {p : Point} {n mask : ℕ} {old now : Key → Bool} {rest before steps : ℕ}
    (masked : (k : ℕ) → k < n → Object reached (near_point p k) → In mask k) (w : IsWalk (WaitsFrom left reached ds p n old now) n mask rest before steps) where
  -- a place that the mask has not is passed
  passes : (j : ℕ) → j < n → (In mask j → ⊥) → WaitsFrom left reached ds p n old now j → WaitsFrom left reached ds p n old now (j + 1)
  passes j b free h passed q = round_pass left.sides left reached ds passed p n j now (h passed q) (λ o. free (masked j b o))

  pub round_ends : rest ≡ 0 → (passed : ℕ) → IsQueueBut p passed left reached ds old → IsQueue passed left reached ds now
  round_ends z passed q = round_end left.sides left reached ds passed p n n now (omega arith)
      (walk_end (WaitsFrom left reached ds p n old now) n mask before passes steps
      (subst (λ r. IsWalk (WaitsFrom left reached ds p n old now) n mask r before steps) z w) passed q)

  -- some of the mask is left, and it has only near neighbours in the box
  module _ (small : rest < 2 ^ 32) (more : 0 < rest) (boxed : (k : ℕ) → In mask k → (k < n) × IsTrue (in_box left.sides (near_point p k))) where
    -- the least place that is left is that of a near neighbour in the box
    pub round_there : (least_of rest < n) × IsTrue (in_box left.sides (near_point p (least_of rest)))
    round_there = boxed (least_of rest) (walk_place (WaitsFrom left reached ds p n old now) n mask rest before steps w small more)

    -- and the places before it are passed
    come : WaitsFrom left reached ds p n old now (least_of rest)
    come = walk_come (WaitsFrom left reached ds p n old now) n mask before passes rest steps w small more round_there.0

    -- i is its raster number
    module _ {i : ℕ} (e : i ≡ raster_number left.sides (near_point p (least_of rest))) where
      pub round_below : i < box_count left.sides
      round_below = let l = raster_below left.sides (near_point p (least_of rest)) round_there.1 in omega (arith, l, e)

      here : raster_point left.sides i ≡ near_point p (least_of rest)
      here = ap (raster_point left.sides) e ∙ raster_point-raster_number left.sides (near_point p (least_of rest)) round_there.1

      -- it is looked at where it is reached
      pub round_looked : {new : Key → Bool} {steps' : ℕ} → reached.sides ≡ left.sides → at reached (raster_point reached.sides i) ≡ true
          → IsLookedAt left ds (raster_point left.sides i) now new → steps' ≤ steps + 1
          → IsWalk (WaitsFrom left reached ds p n old new) n mask (others_of rest) before steps'
      round_looked {new} {steps'} s o looked few = walk_more (WaitsFrom left reached ds p n old now) n mask before passes rest steps w small more round_there.0
          (WaitsFrom left reached ds p n old new) steps' (λ passed q. round_more_at left.sides left reached ds passed p n (least_of rest)
          (raster_point left.sides i) now new here s (come passed q) (subst (λ z. at reached (raster_point z i) ≡ true) s o) looked) few

      -- and else passed
      pub round_passed : reached.sides ≡ left.sides → at reached (raster_point reached.sides i) ≡ false
          → IsWalk (WaitsFrom left reached ds p n old now) n mask (others_of rest) before steps
      round_passed s none = walk_more (WaitsFrom left reached ds p n old now) n mask before passes rest steps w small more round_there.0
          (WaitsFrom left reached ds p n old now) steps
          (λ passed q. round_pass left.sides left reached ds passed p n (least_of rest) now (come passed q) closed) (omega arith)
        where
          closed : Object reached (near_point p (least_of rest)) → ⊥
          closed o = let t : true ≡ false = sym (ap (at reached) (ap (λ z. raster_point z i) s ∙ here) ∙ o) ∙ none in cc
