-- Following the cracks from one of them until it comes again, and keeping the pixels that are left.
-- The walk is told by its number of steps; how a program walks it belongs elsewhere.
use Rattle.std.proofs.Common.{◌≡◌, ℕ, zero, suc, ◌+◌, ◌*◌, ◌<◌, ◌≤◌, false, cond, refl, ap, sym, ◌∙◌, subst, arith, List, [], ◌∷◌, ◌++◌, length}
use Rattle.std.specs.Prelude.{if◌then◌else◌, ◌==◌}
use Rattle.std.proofs.lemmas.Bool.Decides.{nat_tests}
use native.Mathlib.Decide.{dec_lt}
use Rattle.shape_terms.specs.Points.{Point, box_count}
use Rattle.shape_terms.specs.Pictures.{Picture}
use Rattle.shape_terms.specs.Contours.{Crack, IsCrack, successor, IsCycle, stays, left_pixels, contour_points, first_of_cycle}
use Rattle.shape_terms.proofs.Turning.{iterate}
use Rattle.shape_terms.proofs.Orbits.{orbit, walk_bound}
use Rattle.shape_terms.proofs.Walks.{walk, walk-push, walk_cycle, turns, left_pixels-push}

-- c is so many cracks after the start, which has not come again before it
pub record Reached (X : Picture) (start c : Crack) (steps : ℕ) : Type 0 where
  pub here : c ≡ iterate (successor X) steps start
  pub some : 1 ≤ steps
  pub new : (j : ℕ) → 1 ≤ j → j < steps → iterate (successor X) j start ≡ start → ⊥

-- and these are the pixels that were left
pub record Tracing (X : Picture) (start c : Crack) (steps : ℕ) (points : List Point) : Type 0 where
  pub reached : Reached X start c steps
  pub points_are : points ≡ left_pixels X (walk X start steps)

pub reached_first : (X : Picture) (start : Crack) → Reached X start (successor X start) 1
reached_first X start = record { here = refl; some = omega arith; new = λ j a b e. absurd (omega arith) }

module _ (X : Picture) (axes : length X.sides ≡ 2) (start c : Crack) (steps : ℕ) (k : IsCrack X start) (r : Reached X start c steps) where
  pub reached_crack : IsCrack X c
  reached_crack = subst (IsCrack X) (sym r.here) (orbit (turns X axes) steps start k)

  still : (c ≡ start → ⊥) → (j : ℕ) → 1 ≤ j → j < suc steps → iterate (successor X) j start ≡ start → ⊥
  still away j a b e = elim (dec_lt j steps) [
    | yes l ↦ r.new j a l e
    | no l ↦ (let q : j ≡ steps = omega arith in away (r.here ∙ subst (λ n. iterate (successor X) n start ≡ start) q e))
  ]

  pub reached_few : (c ≡ start → ⊥) → steps < box_count X.sides * 4
  reached_few away = walk_bound (turns X axes) (suc steps) start k (still away)

  -- also where the start has come again
  pub reached_most : steps ≤ box_count X.sides * 4
  reached_most = walk_bound (turns X axes) steps start k r.new

  pub reached_more : (c ≡ start → ⊥) → Reached X start (successor X c) (steps + 1)
  reached_more away = record {
    here = ap (successor X) r.here ∙ sym (ap (λ n. iterate (successor X) n start) (let q : steps + 1 ≡ suc steps = omega arith in q));
    some = omega arith;
    new = λ j a b e. still away j a (omega arith) e;
  }

  pub reached_cycle : c ≡ start → IsCycle X (walk X start steps)
  reached_cycle e = walk_cycle X axes start k steps (r.some, sym r.here ∙ e, r.new)

pub walk-more : (X : Picture) (start c : Crack) (steps : ℕ) → c ≡ iterate (successor X) steps start → walk X start (steps + 1) ≡ walk X start steps ++ c ∷ []
walk-more X start c steps e =
    ap (walk X start) (let q : steps + 1 ≡ suc steps = omega arith in q) ∙ (walk-push X steps start ∙ ap (λ (d : Crack). walk X start steps ++ d ∷ []) (sym e))

pub first-walk : (X : Picture) (start : Crack) (steps : ℕ) → 1 ≤ steps → first_of_cycle (walk X start steps) ≡ start
first-walk X start zero l = absurd (omega arith)
first-walk X start (suc n) l = refl

pub traced_more : (X : Picture) → length X.sides ≡ 2 → (start c : Crack) (steps : ℕ) (points : List Point) → IsCrack X start → Tracing X start c steps points
    → (c ≡ start → ⊥)
    → Tracing X start (successor X c) (steps + 1) (points ++ cond (stays X c) [] (c.pixel ∷ []))
traced_more X axes start c steps points k t away = record {
  reached = reached_more X axes start c steps k t.reached away;
  points_are = ap (λ (l : List Point). l ++ cond (stays X c) [] (c.pixel ∷ [])) t.points_are
      ∙ (sym (left_pixels-push X (walk X start steps) c) ∙ ap (left_pixels X) (sym (walk-more X start c steps t.reached.here)));
}

pub not_zero : (n : ℕ) → (suc n == 0) ≡ false
not_zero n = grind (arith, nat_tests)

-- the points of the contour, where those left are some, and where there are none
pub traced_some : (X : Picture) (start : Crack) (steps : ℕ) (points : List Point) → points ≡ left_pixels X (walk X start steps) → 1 ≤ length points
    → points ≡ contour_points X (walk X start steps)
traced_some X start steps points e l = e ∙ go (left_pixels X (walk X start steps)) (ap length e)
  where
    go : (l : List Point) → length points ≡ length l → l ≡ (if (length l == 0) then ((first_of_cycle (walk X start steps)).pixel ∷ []) else l)
    go [] e = absurd (omega arith)
    go (p ∷ l) e = rw (not_zero (length l))

pub traced_none : (X : Picture) (start : Crack) (steps : ℕ) (points : List Point) → points ≡ left_pixels X (walk X start steps) → length points ≡ 0 → 1 ≤ steps
    → start.pixel ∷ [] ≡ contour_points X (walk X start steps)
traced_none X start steps points e l s = ap (λ (c : Crack). c.pixel ∷ []) (sym (first-walk X start steps s))
    ∙ go (left_pixels X (walk X start steps)) (sym (ap length e) ∙ l)
  where
    go : (l : List Point) → length l ≡ 0
        → (first_of_cycle (walk X start steps)).pixel ∷ [] ≡ (if (length l == 0) then ((first_of_cycle (walk X start steps)).pixel ∷ []) else l)
    go [] e = refl
    go (p ∷ l) e = absurd (omega arith)
