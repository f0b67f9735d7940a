use Rattle.std.proofs.Common.{◌≡◌, ◌<◌, ◌≤◌, length, drop, subst, ap, sym, ◌∙◌, arith}
use Rattle.std.specs.Prelude.{slice_index}
use Rattle.std.proofs.lemmas.List.{get_or_default}
use Rattle.std.proofs.lemmas.List.Elements.{Contains-get_or}
use Rattle.shape_terms.specs.Points.{box_count, raster_point}
use Rattle.judge_outline.specs.Terms.{point_of}
use Rattle.judge_outline.specs.PlaneState.{PlaneState, Counts}
use Rattle.judge_outline.proofs.PlaneSteps.{touching, next_test, next_none, none_passed, equal_test}
use Rattle.judge_outline.proofs.plane_judge.PlaneJudge.is_next_touching.Goals as goal

pub overflow_cast-len : goal.overflow_cast-len
overflow_cast-len c = let f = c.self.invariant.step.few in omega (arith, f, c.is_picture.ensures.few, c.len.ensures)

pub unraster-requires : goal.unraster-requires
unraster-requires c =
    let i = c.self.inside in
    let n : Counts = record { begun = i.begun; exposed = i.exposed; start = i.start; declared = i.declared; cursor = i.cursor; refused = i.refused } in
    let all : length (drop i.start i.taken.points) ≡ i.declared = subst (λ (s : PlaneState). length s.standing.patch.points ≡ s.standing.patch.declared)
    (sym c.self.view_is) c.requires in
    let l : i.refused < length i.touching.items = omega (arith, c.if-self-len.true, c.len.ensures) in
    let t = touching i.grid n i.plane i.taken.points i.touching.items c.self.invariant.step all in
    let below = t.below (slice_index i.touching.items i.refused) (Contains-get_or i.touching.items i.refused 0 l) in
    let same = c.index.ensures ∙ get_or_default i.touching.items i.refused c.index.result.now 0 l in
    omega (arith, below, same, ap box_count c.sides.ensures.value)

pub returns-then-self-len : goal.returns-then-self-len
returns-then-self-len c =
    let i = c.self.inside in
    let n : Counts = record { begun = i.begun; exposed = i.exposed; start = i.start; declared = i.declared; cursor = i.cursor; refused = i.refused } in
    let all : length (drop i.start i.taken.points) ≡ i.declared = subst (λ (s : PlaneState). length s.standing.patch.points ≡ s.standing.patch.declared)
    (sym c.self.view_is) c.requires in
    let l : i.refused < length i.touching.items = omega (arith, c.if-self-len.true, c.len.ensures) in
    let same = c.index.ensures ∙ get_or_default i.touching.items i.refused c.index.result.now 0 l in
    let is = c.unraster.ensures.value ∙ ap (λ s. raster_point s c.index.result.now) c.sides.ensures.value in
    rw (← c.self.view_is)
    (next_test i.grid n i.plane i.taken.points i.touching.items c.self.invariant.step c.index.result.now (point_of c.args.p) (point_of c.unraster.result)
    c.eq.result all l same is (equal_test c.unraster.result c.args.p c.eq.result c.eq.ensures))

pub returns-else-self-len : goal.returns-else-self-len
returns-else-self-len c =
    let i = c.self.inside in
    let n : Counts = record { begun = i.begun; exposed = i.exposed; start = i.start; declared = i.declared; cursor = i.cursor; refused = i.refused } in
    let all : length (drop i.start i.taken.points) ≡ i.declared = subst (λ (s : PlaneState). length s.standing.patch.points ≡ s.standing.patch.declared)
    (sym c.self.view_is) c.requires in
    let l : length i.touching.items ≤ i.refused = omega (arith, c.if-self-len.false, c.len.ensures) in
    rw (← c.self.view_is)
    (none_passed i.refused c.len.result (omega (arith, c.if-self-len.false))
    (next_none i.grid n i.plane i.taken.points i.touching.items c.self.invariant.step (point_of c.args.p) all l))
