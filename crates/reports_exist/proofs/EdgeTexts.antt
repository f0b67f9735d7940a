-- Each flat picture within the sides of the command has a text that holds as its report of edges.
-- The cover of a corner path stands in `EdgesExist`; one line more at a time, as the maker grows its text.
use Rattle.std.proofs.Common.{◌≡◌, ℕ, zero, suc, ◌+◌, ◌*◌, ◌<◌, ◌≤◌, List, [], length, refl, sym, subst, arith, Some}
use Rattle.std.specs.Prelude.{slice_get, slice_index_or, All}
use Rattle.std.proofs.lemmas.Nat.{mul-le}
use Rattle.std.proofs.lemmas.Option.{slice_get-get_or}
use Rattle.shape_terms.specs.Limits.{most_flat, most_round}
use Rattle.shape_terms.specs.Points.{Point, box_count}
use Rattle.shape_terms.specs.Pictures.{Picture, IsPicture}
use Rattle.shape_terms.specs.Contours.{Crack, IsCrack, successor}
use Rattle.shape_terms.specs.Covers.{gap_run}
use Rattle.shape_terms.specs.Traces.{Contour, AreContours}
use Rattle.shape_terms.proofs.Walks.{walk, length-walk}
use Rattle.shape_terms.proofs.Tracing.{Reached, reached_cycle, reached_most, first-walk}
use Rattle.edge_terms.specs.Corners.{IsCornerPath, corner_path}
use Rattle.edge_terms.specs.EdgeCovers.{arc_in, stretches_of, EdgeFound, IsEdgeCoverFrom}
use Rattle.edge_terms.specs.Lines.{Line, spelled}
use Rattle.edge_terms.specs.EdgeReports.{State, edge_report}
use Rattle.edge_terms.proofs.CornerPaths.{cycle_path}
use Rattle.edge_terms.proofs.EdgeCycles.{no_contour}
use Rattle.shape_edges.specs.Growing.{Tells, HasTold, IsFoundAt, with_arcs, with_gaps}
use Rattle.shape_edges.proofs.Growing.{arc_fits, gap_fits, sides_told, cycle_told, arc_told, gap_told, arcs_all, gaps_all, found_at, all_told}
use Rattle.reports_exist.proofs.ContoursExist.{contours_exist}
use Rattle.reports_exist.specs.Met.{IsMet, HasSidesTo}
use Rattle.reports_exist.proofs.Fields.{AreFlatSides, flat_sides, pixel_fits}
use Rattle.reports_exist.proofs.EdgesExist.{edges_exist}

-- ---- the lines of a cycle

module _ (X : Picture) (k : ℕ) (start : Crack) (f : EdgeFound) (at : IsFoundAt X k start f) (few : f.steps ≤ most_round) where
  put_arc : (j : ℕ) → j < length f.arcs → (text : List ℕ) → Tells X (State.Open (with_arcs k f j)) text
      → (new : List ℕ) × Tells X (State.Open (with_arcs k f (j + 1))) new
  put_arc j l text h =
      let a = arc_in f.arcs j in
      let c = at.cover.claims.arc j l in
      let begins = c.begins in
      let short = c.short in
      let steps = at.steps in
      (_, arc_told X k start f at text _ j l h (arc_fits at.path f.arcs j a.stretch.first a.stretch.last at.cover l (omega arith) (omega arith)) refl)

  put_arcs : (j : ℕ) → j ≤ length f.arcs → (text : List ℕ) → Tells X (State.Open (with_arcs k f 0)) text
      → (new : List ℕ) × Tells X (State.Open (with_arcs k f j)) new
  put_arcs zero l text h = (text, h)
  put_arcs (suc j) l text h =
      let (t, g) = put_arcs j (omega arith) text h in
      let (u, e) = put_arc j (omega arith) t g in
      (u, subst (λ i. Tells X (State.Open (with_arcs k f i)) u) (let q : j + 1 ≡ suc j = omega arith in q) e)

  put_gap : (j : ℕ) → j < length f.arcs → (text : List ℕ) → Tells X (State.Open (with_gaps k f j)) text
      → (new : List ℕ) × Tells X (State.Open (with_gaps k f (j + 1))) new
  put_gap j l text h =
      let a = arc_in f.arcs j in
      (_, gap_told X k start f at text _ j l h (gap_fits (gap_run at.path (stretches_of f.arcs) j) a.gap (at.cover.claims.gap j l) (at.cover.gaps j l)) refl)

  put_gaps : (j : ℕ) → j ≤ length f.arcs → (text : List ℕ) → Tells X (State.Open (with_gaps k f 0)) text
      → (new : List ℕ) × Tells X (State.Open (with_gaps k f j)) new
  put_gaps zero l text h = (text, h)
  put_gaps (suc j) l text h =
      let (t, g) = put_gaps j (omega arith) text h in
      let (u, e) = put_gap j (omega arith) t g in
      (u, subst (λ i. Tells X (State.Open (with_gaps k f i)) u) (let q : j + 1 ≡ suc j = omega arith in q) e)

  put_cycle : (text : List ℕ) → spelled.IsLine (Line.Cycle start f.steps (length f.arcs)) → HasTold X k text → (new : List ℕ) × HasTold X (k + 1) new
  put_cycle text fields h =
      let begun = cycle_told X k start f at text _ f.steps (length f.arcs) refl refl h fields refl in
      let (t, g) = put_arcs (length f.arcs) (omega arith) _ begun in
      let (u, e) = put_gaps (length f.arcs) (omega arith) t (arcs_all X k f (length f.arcs) t (omega arith) g) in
      (u, gaps_all X k f (length f.arcs) u refl e)

-- ---- all cycles

-- what is known of the cycle of each contour
record IsKnown (X : Picture) (c : Contour) : Type 0 where
  crack : IsCrack X c.start
  found : EdgeFound
  from : IsEdgeCoverFrom X c.start found
  few : found.steps ≤ most_round

module _ (X : Picture) (axes : length X.sides ≡ 2) (range : HasSidesTo most_flat X) where
  sides : AreFlatSides most_flat X.sides
  sides = flat_sides most_flat X.sides axes range

  few_places : box_count X.sides ≤ most_flat * most_flat
  few_places = subst (λ (s : List ℕ). box_count s ≤ most_flat * most_flat) sides.are
      (let h = sides.height_low in mul-le sides.width (sides.height * 1) most_flat most_flat sides.width_low (omega arith))

  known : (start end : Crack) (steps : ℕ) → IsCrack X start → Reached X start end steps → end ≡ start → (points : List Point)
      → IsKnown X (record { start = start; points = points })
  known start end zero k r e points = absurd (let s = r.some in omega arith)
  known start end (suc steps) k r e points =
      let cycle = reached_cycle X axes start end (suc steps) k r e in
      let most = reached_most X axes start end (suc steps) k r in
      let places = few_places in
      let n = length-walk X (suc steps) start in
      let path : IsCornerPath (corner_path (walk X start (suc steps))) = cycle_path X axes range start (walk X (successor X start) steps) k cycle.1
      (omega arith) in
      let (arcs, cover) = edges_exist (corner_path (walk X start (suc steps))) path in
      record {
        crack = k;
        found = record { steps = suc steps; arcs = arcs };
        from = record { cracks = walk X start (suc steps); cycle = cycle; first = first-walk X start (suc steps) r.some; steps = sym n; cover = cover };
        few = omega arith;
      }

  put_next : (contours : List Contour) → AreContours X contours → All (IsKnown X) contours → (k : ℕ) → k < length contours → (text : List ℕ)
      → HasTold X k text → (new : List ℕ) × HasTold X (k + 1) new
  put_next contours are each k l text h =
      let c = slice_index_or contours k no_contour in
      let there : slice_get contours k ≡ Some c = slice_get-get_or contours k no_contour l in
      let is : IsKnown X c = each k no_contour l in
      let at = found_at X contours are k c c.start is.found there refl is.from in
      let few = is.few in
      let arcs = at.cover.claims.few in
      let steps = at.steps in
      let fields : spelled.IsLine (Line.Cycle c.start is.found.steps (length is.found.arcs)) =
      (pixel_fits X most_flat (omega arith) sides c.start is.crack, (is.crack.side, (omega arith, omega arith))) in
      put_cycle X k c.start is.found at few text fields h

  put_all : (contours : List Contour) → AreContours X contours → All (IsKnown X) contours → (k : ℕ) → k ≤ length contours → (text : List ℕ)
      → HasTold X 0 text → (new : List ℕ) × HasTold X k new
  put_all contours are each zero l text h = (text, h)
  put_all contours are each (suc k) l text h =
      let (t, g) = put_all contours are each k (omega arith) text h in
      let (u, e) = put_next contours are each k (omega arith) t g in
      (u, subst (λ i. HasTold X i u) (let q : k + 1 ≡ suc k = omega arith in q) e)

  met_by : (contours : List Contour) → AreContours X contours → All (IsKnown X) contours → IsMet (edge_report X)
  met_by contours are each =
      let w = sides.width_low in
      let h = sides.height_low in
      let begun = sides_told X sides.width sides.height [] _ (sym sides.are) refl (omega arith, omega arith) refl in
      let (t, g) = put_all contours are each (length contours) (omega arith) _ begun in
      (_, all_told X contours are t _ g refl)

  met : IsMet (edge_report X)
  met =
      let (contours, are, each) = contours_exist X axes (IsKnown X) (λ start end steps k r e. known start end steps k r e _) in
      met_by contours are each

-- each flat picture with sides to `most_flat` has such a text
pub edges_met : (X : Picture) → IsPicture 2 X → HasSidesTo most_flat X → IsMet (edge_report X)
edges_met X is range = met X is.axes range
