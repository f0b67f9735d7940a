-- A walk along the cracks that came back to its start: its corners are a corner path.
-- Stated of the corners that were put down on the way; how they are kept belongs elsewhere.
use Rattle.std.proofs.Common.{◌≡◌, ◌≤◌, ℕ, zero, suc, ◌+◌, ap, sym, ◌∙◌, subst, arith, List, [], ◌∷◌, ◌++◌, length}
use Rattle.std.specs.Prelude.{pos, map}
use Rattle.std.proofs.lemmas.List.{map-append}
use Rattle.shape_terms.specs.Limits.{most_flat, most_pixels}
use Rattle.shape_terms.specs.Points.{Point, AreSides, box_count}
use Rattle.shape_terms.specs.Pictures.{Picture}
use Rattle.shape_terms.specs.Contours.{Crack, IsCrack, successor}
use Rattle.shape_terms.proofs.Walks.{walk, length-walk, walk_follow}
use Rattle.shape_terms.proofs.Tracing.{Reached, reached_first, reached_more, reached_most, reached_cycle, first-walk, walk-more}
use Rattle.edge_terms.specs.Corners.{corner, corner_path, IsCornerPath, IsCornerPathFrom}
use Rattle.edge_terms.proofs.CornerPaths.{cycle_path}

-- the crack c is so many steps after the start, and these are the corners of those before it
pub record Cornering (X : Picture) (start c : Crack) (steps : ℕ) (corners : List Point) : Type 0 where
  pub reached : Reached X start c steps
  pub corners_are : corners ≡ corner_path (walk X start steps)

pub cornered_first : (X : Picture) (start : Crack) → Cornering X start (successor X start) 1 (corner start ∷ [])
cornered_first X start = record { reached = reached_first X start; corners_are = λ i. corner start ∷ [] }

pub cornered_more : (X : Picture) → length X.sides ≡ 2 → (start c : Crack) (steps : ℕ) (corners : List Point) → IsCrack X start
    → Cornering X start c steps corners → (c ≡ start → ⊥)
    → Cornering X start (successor X c) (steps + 1) (corners ++ corner c ∷ [])
cornered_more X axes start c steps corners k t away = record {
  reached = reached_more X axes start c steps k t.reached away;
  corners_are = ap (λ (l : List Point). l ++ corner c ∷ []) t.corners_are
      ∙ (sym (map-append corner (walk X start steps) (c ∷ [])) ∙ ap corner_path (sym (walk-more X start c steps t.reached.here)));
}

module _ (X : Picture) (axes : length X.sides ≡ 2) (range : AreSides (pos most_flat) (map pos X.sides)) (few : box_count X.sides ≤ most_pixels)
    (start c : Crack) (k : IsCrack X start) (same : c ≡ start) where
  pub corners_path : (steps : ℕ) (corners : List Point) → Cornering X start c steps corners → IsCornerPath corners
  corners_path zero corners t = absurd (omega (arith, t.reached.some))
  corners_path (suc n) corners t = subst IsCornerPath (sym t.corners_are)
      (cycle_path X axes range start (walk X (successor X start) n) k (walk_follow X start n start (sym t.reached.here ∙ same))
      (let m = reached_most X axes start c (suc n) k t.reached in let l = length-walk X (suc n) start in omega arith))

  pub corners_from : (steps : ℕ) (corners : List Point) → Cornering X start c steps corners → IsCornerPathFrom X start corners
  corners_from steps corners t = record {
    cracks = walk X start steps;
    cycle = reached_cycle X axes start c steps k t.reached same;
    first = first-walk X start steps t.reached.some;
    corners = t.corners_are;
  }
