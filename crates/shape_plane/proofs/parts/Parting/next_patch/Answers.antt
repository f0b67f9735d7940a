use Rattle.std.proofs.Common.{◌≡◌, ◌<◌, ◌∙◌, ap, sym, subst, refl, List, ℕ}
use Rattle.std.specs.Prelude.{IsTrue}
use Rattle.shape_terms.specs.Points.{in_box, box_count, raster_number, raster_point}
use Rattle.shape_terms.specs.Pictures.{at}
use Rattle.shape_plane.specs.Parting.{Rest, IsEmpty, IsNextPatch}
use Rattle.shape_plane.proofs.Passing.{past_next, past_end, none_before, ready_next}
use Rattle.shape_plane.proofs.parts.Parting.next_patch.Goals as goal

pub returns-in_default-clause-next : goal.returns-in_default-clause-next
returns-in_default-clause-next g c =
    let ready = c.self.invariant c.if-self.false in
    let left : c.self.inside.left ≡ c.args.self.now.left = ap (λ (r : Rest). r.left) c.self.view_is in
    (subst IsEmpty left (past_end c.self.inside.left c.self.inside.next ready.within c.in_default.ensures.next ready.past), refl)

pub patch_from-requires-clause-left : goal.patch_from-requires-clause-left
patch_from-requires-clause-left g c =
    let ready = c.self.invariant c.if-self.false in
    let to = past_next c.self.inside.left c.self.inside.next c.in-Some.i ready.within c.in-Some.ensures.below c.in-Some.ensures.next ready.past in
    ap (at c.self.inside.left) (c.unraster-p.ensures.value ∙ ap (λ (s : List ℕ). raster_point s c.in-Some.i) c.sides.ensures.value) ∙ to.there

pub patch_from-requires-clause-least : goal.patch_from-requires-clause-least
patch_from-requires-clause-least g c =
    let ready = c.self.invariant c.if-self.false in
    let to = past_next c.self.inside.left c.self.inside.next c.in-Some.i ready.within c.in-Some.ensures.below c.in-Some.ensures.next ready.past in
    none_before c.self.inside.left c.in-Some.i (g.P.Point.coords c.unraster-p.result) to.past
    (subst (λ (s : List ℕ). IsTrue (in_box s (g.P.Point.coords c.unraster-p.result))) c.sides.ensures.value c.unraster-p.ensures.inside)
    (subst (λ (s : List ℕ). raster_number s (g.P.Point.coords c.unraster-p.result) ≡ c.in-Some.i) c.sides.ensures.value c.unraster-p.ensures.back)

pub invariant_of-self-2 : goal.invariant_of-self-2
invariant_of-self-2 g c =
    let ready = c.self.invariant c.if-self.false in
    let to = past_next c.self.inside.left c.self.inside.next c.in-Some.i ready.within c.in-Some.ensures.below c.in-Some.ensures.next ready.past in
    let h = c.in_ok-patch.ensures in
    λ _.
    ready_next g.P.Point.DIM c.self.inside.axis c.self.inside.left c.self.inside.tried c.patch_from.new.left c.patch_from.new.tried _ c.self.inside.next
    c.in-Some.i (g.P.Point.coords c.unraster-p.result) c.in_ok-patch.patch.found ready to.past c.in-Some.ensures.below
    (subst (λ (s : List ℕ). IsTrue (in_box s (g.P.Point.coords c.unraster-p.result))) c.sides.ensures.value c.unraster-p.ensures.inside)
    (subst (λ (s : List ℕ). raster_number s (g.P.Point.coords c.unraster-p.result) ≡ c.in-Some.i) c.sides.ensures.value c.unraster-p.ensures.back)
    h.next h.sides h.none h.cleared

pub unraster-p-requires : goal.unraster-p-requires
unraster-p-requires g c = subst (λ (s : List ℕ). c.in-Some.i < box_count s) (sym c.sides.ensures.value) c.in-Some.ensures.below

pub patch_from-requires-clause-axis : goal.patch_from-requires-clause-axis
patch_from-requires-clause-axis g c = (c.self.invariant c.if-self.false).axis

pub patch_from-requires-clause-near : goal.patch_from-requires-clause-near
patch_from-requires-clause-near g c = (c.self.invariant c.if-self.false).near_sides

pub patch_from-requires-clause-sides : goal.patch_from-requires-clause-sides
patch_from-requires-clause-sides g c = (c.self.invariant c.if-self.false).tried_sides

pub patch_from-requires-clause-none : goal.patch_from-requires-clause-none
patch_from-requires-clause-none g c = (c.self.invariant c.if-self.false).none

pub returns-clause-next : goal.returns-clause-next
returns-clause-next g c = subst (λ (r : Rest). IsNextPatch g.P.Point.DIM r.axis r.left c.patch_from.new.left c.in_ok-patch.patch.found) c.self.view_is
    c.in_ok-patch.ensures.next
