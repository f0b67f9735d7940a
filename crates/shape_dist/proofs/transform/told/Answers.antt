use Rattle.std.proofs.Common.{◌∙◌, ◌∷◌, [], ℕ, false, length, get_or, ap, arith}
use Rattle.std.proofs.lemmas.List.{map-append}
use Rattle.shape_terms.specs.FramedBox.{framed_point}
use Rattle.shape_terms.proofs.NextObjects.{next_object}
use Rattle.shape_terms.proofs.DistanceLists.{none_yet, distances_more, distances_all}
use Rattle.shape_cells.specs.Held.{Held, HasCell}
use Rattle.shape_cells.proofs.ObjectCells.{cell_put, cell_there}
use Rattle.shape_dist.proofs.FeatureLists.{no_features, one_more_feature, all_features}
use Rattle.shape_dist.proofs.transform.told.Goals as goal

pub loop-i-init : goal.loop-i-init
loop-i-init g c =
    let copied = c.in_ok-copy.ensures ∙ c.values.ensures in
    record {
      features = rw c.in_ok-numbers.ensures.items (no_features c.args.grid.now);
      distances = none_yet c.args.grid.now c.in_ok-distances.distances.values
          (c.in_ok-distances.ensures.long ∙ ap length copied ∙ c.is_picture.ensures.picture.filled);
      cells = λ i t. c.in_ok-distances.ensures.object i (ap (λ v. get_or v i false) copied ∙ t);
      low = omega arith;
    }

pub set-requires : goal.set-requires
set-requires g c = omega (arith, c.in-Some.ensures.below, c.loop-i.invariant.distances.filled)

pub loop-i-smaller : goal.loop-i-smaller
loop-i-smaller g c =
    let n = next_object c.args.grid.now c.loop-i.next c.in-Some.i c.loop-i.invariant.low c.in-Some.ensures.below c.in-Some.ensures.next in
    omega (arith, n.low, c.in-Some.ensures.below)

pub loop-i-preserved : goal.loop-i-preserved
loop-i-preserved g c =
    let X = c.args.grid.now in
    let i = c.in-Some.i in
    let f = c.found_at-found.result in
    let l = c.loop-i.invariant in
    let n = next_object X c.loop-i.next i l.low c.in-Some.ensures.below c.in-Some.ensures.next in
    let cell : HasCell c.loop-i.distances i = cell_there X c.loop-i.distances.kept i l.cells c.in-Some.ensures.below n.object in
    let put = ap (λ (h : Held ℕ). h.values) c.set.ensures ∙ cell_put c.loop-i.distances i f.s cell in
    record {
      features = rw (c.in_ok-push.ensures.items, map-append (framed_point X.sides) c.loop-i.numbers.items (f.q ∷ []))
          (one_more_feature X c.loop-i.next i f.s _ (framed_point X.sides f.q) c.in-Some.ensures.next c.found_at-found.ensures l.features);
      distances = rw put (distances_more X c.loop-i.next i f.s c.loop-i.distances.values c.in-Some.ensures.below n
          (framed_point X.sides f.q, c.found_at-found.ensures) l.distances);
      cells = λ k t. ap (λ (h : Held ℕ). get_or h.kept k false) c.set.ensures ∙ l.cells k t;
      low = omega (arith, c.in-Some.ensures.below);
    }

pub returns-clause-features : goal.returns-clause-features
returns-clause-features g c =
    rw c.sides-sides.ensures.value (all_features c.args.grid.now c.loop-i.next _ c.in_default.ensures.next c.loop-i.invariant.features)

pub returns-clause-distances : goal.returns-clause-distances
returns-clause-distances g c =
    distances_all c.args.grid.now c.loop-i.next c.loop-i.distances.values c.loop-i.invariant.low c.in_default.ensures.next c.loop-i.invariant.distances
