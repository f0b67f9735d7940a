use Rattle.std.proofs.Common.{◌≡◌, ◌+◌, ◌-◌, length, drop, subst, ap, sym, arith}
use Rattle.std.specs.Prelude.{vec_capacity}
use Rattle.report_terms.specs.FaceLines.{IsNextTouching, open_exposed}
use Rattle.shape_terms.specs.Points.{sides_of}
use Rattle.judge_outline.specs.Terms.{point_of}
use Rattle.judge_outline.specs.Listings.{Listing}
use Rattle.judge_outline.specs.Exposure.{exposed_at}
use Rattle.judge_outline.specs.PlaneState.{PlaneState, Counts, IsKept, given_plane}
use Rattle.judge_outline.proofs.Exposing.{exposed_in}
use Rattle.judge_outline.proofs.Touching.{next_only}
use Rattle.judge_outline.proofs.PlaneSteps.{touching, declared_few, step_off, first_more, length-first}
use Rattle.judge_outline.proofs.plane_judge.PlaneJudge.take_off.Goals as goal

pub overflow_add-self : goal.overflow_add-self
overflow_add-self c = let f = c.self.invariant.step.few in let r = c.self.invariant.step.refused in omega (arith, f, r, c.is_picture.ensures.few)

pub are_refuted-requires-clause-room : goal.are_refuted-requires-clause-room
are_refuted-requires-clause-room c =
    let i = c.self.inside in
    let n : Counts = record { begun = i.begun; exposed = i.exposed; start = i.start; declared = i.declared; cursor = i.cursor; refused = i.refused } in
    let k = c.self.invariant in
    let given = k.step.given in
    let fits = k.taken_fits in
    omega (arith, given, fits, declared_few i.grid n i.taken.points i.touching.items k.step)

pub invariant_of-self-2 : goal.invariant_of-self-2
invariant_of-self-2 c =
    let i = c.self.inside in
    let n : Counts = record { begun = i.begun; exposed = i.exposed; start = i.start; declared = i.declared; cursor = i.cursor; refused = i.refused } in
    let k = c.self.invariant in
    let all : length (drop i.start i.taken.points) ≡ i.declared = subst (λ (s : PlaneState). length s.standing.patch.points ≡ s.standing.patch.declared)
    (sym c.self.view_is) (c.has_points.ensures.0 c.if-not-has_points.false) in
    let next = subst (λ (s : PlaneState). IsNextTouching (open_exposed s.picture s.standing) s.standing.taken s.standing.patch.points s.standing.patch.refused
    (point_of c.args.p)) (sym c.self.view_is) (c.is_next_touching.ensures.0 c.if-not-is_next_touching.false) in
    let place = next_only i.grid.sides (exposed_at i.grid (i.begun - 1)) i.taken.points (drop i.start i.taken.points) i.touching.items
    (touching i.grid n i.plane i.taken.points i.touching.items k.step all) (exposed_in i.grid (i.begun - 1)) i.refused (point_of c.args.p) k.step.refused
    next in
    subst (λ t. IsKept i.grid (record n { refused = i.refused + 1 }) i.plane (sides_of (point_of i.near.sides.lengths)) i.left i.recent t i.marks
    i.touching.items (vec_capacity i.touching)) (sym c.are_refuted.ensures.same) (record {
      solid = k.solid;
      near_box = k.near_box;
      left_box = k.left_box;
      are_left = k.are_left;
      recent_box = k.recent_box;
      are_recent = k.are_recent;
      taken_box = k.taken_box;
      marks_box = k.marks_box;
      unmarked = k.unmarked;
      taken_fits = k.taken_fits;
      fits = k.fits;
      axis = k.axis;
      step = step_off i.grid n i.plane i.taken.points i.touching.items k.step all place.0;
    })

pub returns-clause-next : goal.returns-clause-next
returns-clause-next c =
    let i = c.self.inside in
    let n : Counts = record { begun = i.begun; exposed = i.exposed; start = i.start; declared = i.declared; cursor = i.cursor; refused = i.refused } in
    let k = c.self.invariant in
    let all : length (drop i.start i.taken.points) ≡ i.declared = subst (λ (s : PlaneState). length s.standing.patch.points ≡ s.standing.patch.declared)
    (sym c.self.view_is) (c.has_points.ensures.0 c.if-not-has_points.false) in
    let next = subst (λ (s : PlaneState). IsNextTouching (open_exposed s.picture s.standing) s.standing.taken s.standing.patch.points s.standing.patch.refused
    (point_of c.args.p)) (sym c.self.view_is) (c.is_next_touching.ensures.0 c.if-not-is_next_touching.false) in
    let place = next_only i.grid.sides (exposed_at i.grid (i.begun - 1)) i.taken.points (drop i.start i.taken.points) i.touching.items
    (touching i.grid n i.plane i.taken.points i.touching.items k.step all) (exposed_in i.grid (i.begun - 1)) i.refused (point_of c.args.p) k.step.refused
    next in
    let same = ap (λ (l : Listing). l.points) c.are_refuted.ensures.same in
    let more = first_more i.grid.sides i.refused i.touching.items (point_of c.args.p) place.0 place.1 in
    rw (← c.self.view_is)
    (λ j. record {
      begun = i.begun;
      taken = same j;
      patch =
          record { declared = i.declared; plane = given_plane i.declared i.plane; points = drop i.start (same j); refused = more j };
    })

pub returns-clause-left : goal.returns-clause-left
returns-clause-left c =
    let i = c.self.inside in
    let n : Counts = record { begun = i.begun; exposed = i.exposed; start = i.start; declared = i.declared; cursor = i.cursor; refused = i.refused } in
    let k = c.self.invariant in
    let all : length (drop i.start i.taken.points) ≡ i.declared = subst (λ (s : PlaneState). length s.standing.patch.points ≡ s.standing.patch.declared)
    (sym c.self.view_is) (c.has_points.ensures.0 c.if-not-has_points.false) in
    let next = subst (λ (s : PlaneState). IsNextTouching (open_exposed s.picture s.standing) s.standing.taken s.standing.patch.points s.standing.patch.refused
    (point_of c.args.p)) (sym c.self.view_is) (c.is_next_touching.ensures.0 c.if-not-is_next_touching.false) in
    let place = next_only i.grid.sides (exposed_at i.grid (i.begun - 1)) i.taken.points (drop i.start i.taken.points) i.touching.items
    (touching i.grid n i.plane i.taken.points i.touching.items k.step all) (exposed_in i.grid (i.begun - 1)) i.refused (point_of c.args.p) k.step.refused
    next in
    let few = k.step.few in
    let l = place.0 in
    rw (← c.self.view_is) (omega (arith, few, l, length-first i.grid.sides i.refused i.touching.items k.step.refused))
