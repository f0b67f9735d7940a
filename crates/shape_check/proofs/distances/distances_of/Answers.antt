use Rattle.std.proofs.Common.{◌≡◌, ◌+◌, ◌<◌, ◌≤◌, ◌∙◌, ℕ, false, List, length, get_or, ap, sym, subst, arith, ◌∷◌, []}
use Rattle.shape_terms.specs.Points.{box_count, raster_point}
use Rattle.shape_terms.specs.Pictures.{Picture, objects_from}
use Rattle.shape_terms.specs.Thinning.{HasDistance}
use Rattle.shape_cells.specs.Held.{Held, HasCell}
use Rattle.shape_adj.specs.Rows.{placed, IsRow}
use Rattle.shape_cells.proofs.ObjectCells.{cell_put, cell_there}
use Rattle.shape_terms.proofs.NextObjects.{IsNext, next_object}
use Rattle.shape_terms.proofs.DistanceLists.{none_yet, distances_more, distances_all}
use Rattle.shape_check.proofs.distances.distances_of.Goals as goal

-- what the grid finds is the next object point of the picture that was scanned
found : (X Y : Picture) (next i : ℕ) → Y ≡ X → next ≤ box_count X.sides → i < box_count Y.sides
    → objects_from Y next ≡ raster_point Y.sides i ∷ objects_from Y (i + 1) → (i < box_count X.sides) × IsNext X next i
found X Y next i e low =
    subst (λ Z. i < box_count Z.sides → objects_from Z next ≡ raster_point Z.sides i ∷ objects_from Z (i + 1) → (i < box_count X.sides) × IsNext X next i)
    (sym e) (λ l h. (l, next_object X next i low l h))

-- its sides are those of that picture
same_sides : (X Y : Picture) (sides : List ℕ) → sides ≡ Y.sides → Y ≡ X → sides ≡ X.sides
same_sides X Y sides e f = subst (λ Z. sides ≡ Z.sides) f e

pub loop-i-init : goal.loop-i-init
loop-i-init g c =
    let X = c.args.scans.now in
    let copied = c.in_ok-copy.ensures ∙ c.values.ensures ∙ ap (λ (Y : Picture). Y.values) c.grid-grid.ensures in
    let filled = subst (λ (Y : Picture). length Y.values ≡ box_count Y.sides) c.grid-grid.ensures c.is_picture.ensures.picture.filled in
    record {
      so_far = none_yet X c.in_ok-distances.distances.values (c.in_ok-distances.ensures.long ∙ ap length copied ∙ filled);
      cells = λ i t. c.in_ok-distances.ensures.object i (ap (λ v. get_or v i false) copied ∙ t);
      low = omega arith;
      row = record { each = λ j l h. absurd (omega arith) };
      behind = omega arith;
    }

pub row_of-row-requires-clause-point : goal.row_of-row-requires-clause-point
row_of-row-requires-clause-point g c = subst (λ s. c.in-Some.i < box_count s) (sym c.sides-sides.ensures.value) c.in-Some.ensures.below

pub row_of-row-requires-clause-from : goal.row_of-row-requires-clause-from
row_of-row-requires-clause-from g c =
    let n = found c.args.scans.now c.grid-grid.result.now c.loop-i.next c.in-Some.i c.grid-grid.ensures c.loop-i.invariant.low c.in-Some.ensures.below
    c.in-Some.ensures.next in
    omega (arith, n.1.low, c.loop-i.invariant.behind)

pub row_of-row-requires-clause-row : goal.row_of-row-requires-clause-row
row_of-row-requires-clause-row g c =
    let X = c.args.scans.now in
    let row = c.loop-i.row in
    subst (λ s. IsRow s row.first row.end row.place) (sym (same_sides X _ _ c.sides-sides.ensures.value c.grid-grid.ensures)) c.loop-i.invariant.row

pub number_in-requires-clause-point : goal.number_in-requires-clause-point
number_in-requires-clause-point g c = subst (λ s. c.in-Some.i < box_count s) (sym c.sides-sides.ensures.value) c.in-Some.ensures.below

pub number_in-requires-clause-few : goal.number_in-requires-clause-few
number_in-requires-clause-few g c = omega (arith, c.framed_count.ensures.value, c.framed_count.ensures.few)

pub least_at-requires : goal.least_at-requires
least_at-requires g c =
    let X = c.args.scans.now in
    let i = c.in-Some.i in
    let n = found X c.grid-grid.result.now c.loop-i.next i c.grid-grid.ensures c.loop-i.invariant.low c.in-Some.ensures.below c.in-Some.ensures.next in
    let sides = same_sides X _ _ c.sides-sides.ensures.value c.grid-grid.ensures in
    (raster_point X.sides i, n.1.object, c.number_in.ensures ∙ ap (λ s. placed s i) sides)

pub set-requires : goal.set-requires
set-requires g c =
    let n = found c.args.scans.now c.grid-grid.result.now c.loop-i.next c.in-Some.i c.grid-grid.ensures c.loop-i.invariant.low c.in-Some.ensures.below
    c.in-Some.ensures.next in
    omega (arith, n.0, c.loop-i.invariant.so_far.filled)

pub loop-i-smaller : goal.loop-i-smaller
loop-i-smaller g c =
    let n = found c.args.scans.now c.grid-grid.result.now c.loop-i.next c.in-Some.i c.grid-grid.ensures c.loop-i.invariant.low c.in-Some.ensures.below
    c.in-Some.ensures.next in
    omega (arith, n.0, n.1.low)

pub loop-i-preserved : goal.loop-i-preserved
loop-i-preserved g c =
    let X = c.args.scans.now in
    let i = c.in-Some.i in
    let s = c.least_at.result in
    let n = found X c.grid-grid.result.now c.loop-i.next i c.grid-grid.ensures c.loop-i.invariant.low c.in-Some.ensures.below c.in-Some.ensures.next in
    let sides = same_sides X _ _ c.sides-sides.ensures.value c.grid-grid.ensures in
    let square = c.least_at.ensures (raster_point X.sides i) n.1.object (c.number_in.ensures ∙ ap (λ s. placed s i) sides) in
    let nearest : HasDistance X (raster_point X.sides i) s = (square.q, square.least) in
    let row = c.row_of-row.result in
    let cell : HasCell c.loop-i.distances i = cell_there X c.loop-i.distances.kept i c.loop-i.invariant.cells n.0 n.1.object in
    let put = ap (λ (h : Held ℕ). h.values) c.set.ensures ∙ cell_put c.loop-i.distances i s cell in
    record {
      so_far = rw put (distances_more X c.loop-i.next i s c.loop-i.distances.values n.0 n.1 nearest c.loop-i.invariant.so_far);
      cells = λ k t. ap (λ (h : Held ℕ). get_or h.kept k false) c.set.ensures ∙ c.loop-i.invariant.cells k t;
      low = omega (arith, n.0);
      row = subst (λ s. IsRow s row.first row.end row.place) sides c.row_of-row.ensures.row;
      behind = omega (arith, c.row_of-row.ensures.from);
    }

pub returns : goal.returns
returns g c =
    let X = c.args.scans.now in
    let next = c.loop-i.next in
    let none : objects_from X next ≡ [] = subst (λ Y. objects_from Y next ≡ []) c.grid-grid.ensures c.in_default.ensures.next in
    distances_all X next c.loop-i.distances.values c.loop-i.invariant.low none c.loop-i.invariant.so_far
