-- Each closed path of pixels has a cover: a walk round it, from each straight run to the next, with a least line for each and evidence for each gap.
-- Each run is decided for both axes as in `RunsDecided`; that the walk finds all stands in the terms.
use Rattle.std.proofs.Common.{◌≡◌, ◌⊎◌, inl, inr, ℕ, zero, suc, ◌+◌, ◌-◌, ◌<◌, ◌≤◌, refl, sym, subst, arith, List, [], ◌∷◌, ◌++◌, length, map}
use native.Mathlib.Decide.{dec_lt}
use Rattle.shape_terms.specs.Limits.{most_flat}
use Rattle.shape_terms.specs.Points.{Point}
use Rattle.shape_terms.specs.Pictures.{Picture, IsPicture}
use Rattle.shape_terms.specs.Contours.{contour_points}
use Rattle.shape_terms.specs.Naive.{Naive}
use Rattle.shape_terms.specs.Straight.{IsStraight}
use Rattle.shape_terms.specs.Covers.{Stretch, Evidence, arc}
use Rattle.shape_terms.specs.Traces.{IsClosedPath}
use Rattle.shape_terms.specs.RunWalks.{IsStart, IsLongest, IsFollowedBy, IsWalk}
use Rattle.shape_terms.proofs.ArcRuns.{length-arc}
use Rattle.shape_terms.proofs.ClosedPaths.{closed_path}
use Rattle.shape_terms.proofs.Evidences.{evidence_shows}
use Rattle.shape_terms.proofs.LeastLines.{shows_least}
use Rattle.shape_terms.proofs.Senses.{sense_no_turn, straight_for}
use Rattle.shape_terms.proofs.WalkStarts.{starts_here, starts_next}
use Rattle.shape_terms.proofs.WalkSteps.{walk_begins, walk_goes_on}
use Rattle.shape_terms.proofs.Walks.{walk}
use Rattle.shape_line.specs.Arcs.{IsHeld, IsBent}
use Rattle.shape_line.specs.Found.{Found, IsCoverOf}
use Rattle.shape_line.specs.Walking.{contour_walk}
use Rattle.shape_line.proofs.ContourWalks.{contour_walks, walk_is_cover}
use Rattle.shape_line.proofs.Searching.{shown_refused}
use Rattle.reports_exist.proofs.RunsDecided.{IsLineFor, one_decided}
use Rattle.reports_exist.proofs.ContoursExist.{contours_exist}
use Rattle.reports_exist.specs.Met.{HasCovers, HasSidesTo}
use Rattle.reports_exist.proofs.Fields.{flat_sides}
use Rattle.reports_exist.proofs.PiecesExist.{arc_near, arc_decided}

-- a line of one of the two axes holds the run
record HasLine (run : List Point) : Type 0 where
  axis : ℕ
  low : axis < 2
  line : Naive
  is : IsLineFor axis run line

-- or evidence refuses it for both
record HasReasons (run : List Point) : Type 0 where
  x : Evidence
  y : Evidence
  bent : IsBent run x y

held_of : (run : List Point) (h : HasLine run) → IsHeld h.axis run h.line
held_of run h = record {
  axis = h.low;
  no_turn = sense_no_turn h.axis run h.is.sense;
  naive = h.is.naive;
  short = h.is.short;
  least = shows_least h.axis run h.line h.is.pairs h.is.naive h.is.shows;
}

straight_of : (run : List Point) → 0 < length run → HasLine run → IsStraight run
straight_of run some h = straight_for h.axis run h.low (record { some = some; no_turn = sense_no_turn h.axis run h.is.sense; line = (h.line, h.is.naive) })

not_straight : (run : List Point) (h : HasReasons run) → IsStraight run → ⊥
not_straight run h (inl s) = evidence_shows 0 run h.x h.bent.x.shows s
not_straight run h (inr s) = evidence_shows 1 run h.y h.bent.y.shows s

module _ (side : ℕ) (low : side ≤ most_flat) (points : List Point) (path : IsClosedPath side points) where
  decided_of : (b e : ℕ) → b ≤ e → e ≤ b + length points → HasLine (arc points b e) ⊎ HasReasons (arc points b e)
  decided_of b e l h = elim (arc_decided side low points path 0 b e (omega arith) l) [
    | inl (line, f) ↦ inl (record { axis = 0; low = omega arith; line = line; is = f })
    | inr (x, sx) ↦ elim (arc_decided side low points path 1 b e (omega arith) l) [
      | inl (line, f) ↦ inl (record { axis = 1; low = omega arith; line = line; is = f })
      | inr (y, sy) ↦ (
          let few = path.few in
          let n = length-arc points b e in
          inr (record {
            x = x;
            y = y;
            bent = record
                { x = shown_refused 0 (arc points b e) x (omega arith) sx; y = shown_refused 1 (arc points b e) y (omega arith) sy };
          }))
    ]
  ]

  arc_some : (b e : ℕ) → b ≤ e → 0 < length (arc points b e)
  arc_some b e l = omega (arith, length-arc points b e)

  short_of : (b e : ℕ) → b ≤ e → HasLine (arc points b e) → e < b + length points
  short_of b e l h = contour_walks.short points path.some b e (straight_of (arc points b e) (arc_some b e l) h)

  -- one point alone has a line
  one_line : (b : ℕ) → HasLine (arc points b b)
  one_line b =
      let (line, f) = one_decided 0 (omega arith) (arc points b b) (omega (arith, length-arc points b b)) (arc_near side low points path b b) in
      record { axis = 0; low = omega arith; line = line; is = f }

  -- ---- as far as a run is straight

  record IsReach (s : Stretch) : Type 0 where
    rises : s.first ≤ s.last
    held : HasLine (arc points s.first s.last)
    longest : IsStraight (arc points s.first (s.last + 1)) → ⊥

  abbrev stretch : ℕ → ℕ → Stretch
  stretch b e = record { first = b; last = e }

  -- from the place b on, at least to the place e
  abbrev Reached : ℕ → ℕ → Type 0
  Reached b e = (last : ℕ) × (e ≤ last) × IsReach (stretch b last)

  reach_on : (room b e : ℕ) → b ≤ e → b + length points ≤ e + room → HasLine (arc points b e) → Reached b e
  reach_on zero b e l fits h = absurd (let s = short_of b e l h in omega arith)
  reach_on (suc room) b e l fits h =
      let s = short_of b e l h in
      elim (decided_of b (e + 1) (omega arith) (omega arith)) [
        | inr bad ↦ (e, omega arith, record { rises = l; held = h; longest = not_straight (arc points b (e + 1)) bad })
        | inl k ↦ (let (last, far, r) = reach_on room b (e + 1) (omega arith) (omega arith) k in (last, omega arith, r))
      ]

  reach_from : (b : ℕ) → Reached b b
  reach_from b = reach_on (length points) b b (omega arith) (omega arith) (one_line b)

  reach_longest : (s : Stretch) → IsReach s → IsLongest IsStraight points s
  reach_longest s r = record { straight = straight_of (arc points s.first s.last) (arc_some s.first s.last r.rises) r.held; longest = r.longest }

  -- ---- where the next run begins

  -- the least place, past the first, from which the run to the place e is straight, and why it is not from the place before
  record IsNext (first e : ℕ) : Type 0 where
    begins : ℕ
    later : first < begins
    near : begins ≤ e
    reasons : HasReasons (arc points (begins - 1) e)
    held : HasLine (arc points begins e)

  next_from : (room first c e : ℕ) → first < c → c ≤ e → e ≤ first + length points → e ≤ c + room → HasReasons (arc points (c - 1) e) → IsNext first e
  next_from zero first c e l m far fits h =
      record { begins = c; later = l; near = m; reasons = h; held = subst (λ k. HasLine (arc points c k)) (let q : c ≡ e = omega arith in q) (one_line c) }
  next_from (suc room) first c e l m far fits h = elim (decided_of c e m (omega arith)) [
    | inl k ↦ record { begins = c; later = l; near = m; reasons = h; held = k }
    | inr bad ↦ elim (dec_lt c e) [
      | no o ↦ record {
        begins = c;
        later = l;
        near = m;
        reasons = h;
        held = subst (λ k. HasLine (arc points c k)) (let q : c ≡ e = omega arith in q)
            (one_line c);
      }
      | yes y ↦ next_from room first (c + 1) e (omega arith) (omega arith) far (omega arith)
          (subst (λ k. HasReasons (arc points k e)) (let q : c ≡ c + 1 - 1 = omega arith in q) bad)
    ]
  ]

  -- what a walk finds of a stretch with this line, and with these reasons for the gap after it
  abbrev found_of : (s : Stretch) → HasLine (arc points s.first s.last) → Evidence → Evidence → Found
  found_of s h x y = record { stretch = s; axis = h.axis; line = h.line; grown = arc points s.first s.last; x = x; y = y }

  record IsPassed (s : Stretch) (r : IsReach s) : Type 0 where
    x : Evidence
    y : Evidence
    next : Stretch
    followed : IsFollowedBy contour_walk points (found_of s r.held x y) next
    reach : IsReach next

  passed : (s : Stretch) (r : IsReach s) → IsPassed s r
  passed s r =
      let short = short_of s.first s.last r.rises r.held in
      let rises = r.rises in
      elim (decided_of s.first (s.last + 1) (omega arith) (omega arith)) [
        | inl h ↦ absurd (r.longest (straight_of (arc points s.first (s.last + 1)) (arc_some s.first (s.last + 1) (omega arith)) h))
        | inr bad ↦
            on (next_from (s.last + 1) s.first (s.first + 1) (s.last + 1) (omega arith) (omega arith) (omega arith) (omega arith)
            (subst (λ k. HasReasons (arc points k (s.last + 1))) (let q : s.first ≡ s.first + 1 - 1 = omega arith in q) bad))
      ]
    where
      on : IsNext s.first (s.last + 1) → IsPassed s r
      on n =
          let (last, far, reach) = reach_on (n.begins + length points) n.begins (s.last + 1) n.near (omega arith) n.held in
          let later = n.later in
          let near = n.near in
          record {
            x = n.reasons.x;
            y = n.reasons.y;
            next = stretch n.begins last;
            followed = record { first = later; last = omega arith; near = near; gap = n.reasons.bent };
            reach = reach;
          }

  -- ---- round the path

  abbrev told : Found → Found
  told f = f

  -- the walk is a cover
  pub record IsCovered : Type 0 where
    pub found : List Found
    pub cover : IsCoverOf points found

  go_round : (room : ℕ) (found : List Found) (now : Stretch) (round : ℕ) → round ≤ now.first + room → IsReach now
      → IsWalk contour_walk points (map told found) now round → IsCovered
  go_round zero found now round fits r w = record { found = map told found; cover = walk_is_cover points (map told found) now round w (omega arith) path.some }
  go_round (suc room) found now round fits r w = elim (dec_lt now.first round) [
    | no o ↦ record { found = map told found; cover = walk_is_cover points (map told found) now round w (omega arith) path.some }
    | yes m ↦
        (let p = passed now r in
        let later = p.followed.first in
        let f = found_of now r.held p.x p.y in
        go_round room (found ++ f ∷ []) p.next round (omega arith) p.reach
        (walk_goes_on contour_walk told points found f now p.next round w refl m (short_of now.first now.last r.rises r.held)
        (record { held = held_of (arc points now.first now.last) r.held; grown = refl }) p.followed (reach_longest p.next p.reach)))
  ]

  begin : (s : Stretch) → IsReach s → IsStart IsStraight points s → IsCovered
  begin s r start = go_round (length points) [] s (s.first + length points) (omega arith) r (walk_begins contour_walk points s start (reach_longest s r))

  -- the path has a cover
  pub covers_exist : IsCovered
  covers_exist =
      let (g_last, g_far, g) = reach_from 0 in
      let (o_last, o_far, o) = reach_from (length points - 1) in
      let gs = stretch 0 g_last in
      let os = stretch (length points - 1) o_last in
      let gl = reach_longest gs g in
      let ol = reach_longest os o in
      elim (dec_lt o_last (g_last + length points)) [
        | yes l ↦ begin gs g (starts_here contour_walk contour_walks points path.some gs os gl ol refl refl l)
        | no m ↦
            (let p = passed gs g in
            let f = found_of gs g.held p.x p.y in
            begin p.next p.reach (starts_next contour_walk contour_walks points path.some gs os gl ol refl refl (omega arith) f refl p.next p.followed))
      ]

-- ---- of each contour of a picture

pub covers_had : (X : Picture) → IsPicture 2 X → HasSidesTo most_flat X → HasCovers X
covers_had X is given =
    let sides = flat_sides most_flat X.sides is.axes given in
    let (contours, are, covers) = contours_exist X is.axes (λ c. (found : List Found) × IsCoverOf c.points found) (λ start end steps k r e.
    let path = closed_path X sides.width sides.height most_flat (sym sides.are) sides.width_low sides.height_low (omega arith) start end steps k r e in
    let c = covers_exist most_flat (omega arith) (contour_points X (walk X start steps)) path in
    (c.found, c.cover)) in
    record { contours = contours; are = are; covers = covers }
