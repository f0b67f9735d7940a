use Rattle.std.proofs.Common.{◌≡◌, ◌<◌, ◌-◌, [], ◌∷◌, ◌++◌, length, drop, subst, ap, sym, ◌∙◌, arith}
use Rattle.std.proofs.lemmas.Bool.{false≢true}
use Rattle.std.proofs.lemmas.List.{length-drop}
use Rattle.std.specs.Prelude.{IsTrue, vec_capacity}
use Rattle.shape_terms.specs.Points.{sides_of, in_box, box_count}
use Rattle.shape_terms.specs.Pictures.{Picture}
use Rattle.report_terms.specs.FaceLines.{IsNextOn, open_exposed}
use Rattle.judge_outline.specs.Terms.{point_of}
use Rattle.judge_outline.specs.Listings.{Listing}
use Rattle.judge_outline.specs.Exposure.{exposed_at, AreLeft, AreRound}
use Rattle.judge_outline.specs.PlaneState.{PlaneState, Counts, IsKept, state_of, with_on}
use Rattle.judge_outline.proofs.Exposing.{exposed_in}
use Rattle.judge_outline.proofs.LeftPoints.{left_less, round_touches}
use Rattle.judge_outline.proofs.Marking.{marked_taken}
use Rattle.judge_outline.proofs.PlaneSteps.{left_of_next, more_points, begun_of, exposed_few, declared_few, some_left, next_on, step_on}
use Rattle.judge_outline.proofs.plane_judge.PlaneJudge.take_on.Goals as goal

pub push-requires-clause-room : goal.push-requires-clause-room
push-requires-clause-room c =
    let j = c.self-2.inside in
    let n : Counts = record { begun = j.begun; exposed = j.exposed; start = j.start; declared = j.declared; cursor = j.cursor; refused = j.refused } in
    let k = c.self-2.invariant in
    let same = c.self-2.view_is ∙ c.is_next.ensures.same in
    let more = more_points j.grid n j.taken.points j.touching.items k.step (λ e. (
    let t = c.has_points.ensures.1 (subst (λ (s : PlaneState). length s.standing.patch.points ≡ s.standing.patch.declared) same e) in
    false≢true (sym c.if-has_points.false ∙ t))) in
    let fits = k.taken_fits in
    let start = k.step.start in
    omega (arith, more, start, fits, length-drop j.start j.taken.points, declared_few j.grid n j.taken.points j.touching.items k.step)

pub push-requires-clause-inside : goal.push-requires-clause-inside
push-requires-clause-inside c =
    let j = c.self-2.inside in
    let n : Counts = record { begun = j.begun; exposed = j.exposed; start = j.start; declared = j.declared; cursor = j.cursor; refused = j.refused } in
    let k = c.self-2.invariant in
    let p = point_of c.args.p in
    let same = c.self-2.view_is ∙ c.is_next.ensures.same in
    let next = subst (λ (s : PlaneState). IsNextOn (open_exposed s.picture s.standing) s.standing.taken s.standing.patch.points p) (sym same)
    (c.is_next.ensures.answer.0 c.if-not-is_next.false) in
    let left = left_of_next (exposed_at j.grid (j.begun - 1)) j.taken.points (drop j.start j.taken.points) p next in
    rw k.taken_box (exposed_in j.grid (j.begun - 1) p left.there)

pub push-requires-clause-new : goal.push-requires-clause-new
push-requires-clause-new c =
    let j = c.self-2.inside in
    let n : Counts = record { begun = j.begun; exposed = j.exposed; start = j.start; declared = j.declared; cursor = j.cursor; refused = j.refused } in
    let k = c.self-2.invariant in
    let p = point_of c.args.p in
    let same = c.self-2.view_is ∙ c.is_next.ensures.same in
    let next = subst (λ (s : PlaneState). IsNextOn (open_exposed s.picture s.standing) s.standing.taken s.standing.patch.points p) (sym same)
    (c.is_next.ensures.answer.0 c.if-not-is_next.false) in
    let left = left_of_next (exposed_at j.grid (j.begun - 1)) j.taken.points (drop j.start j.taken.points) p next in
    left.left

pub mark-requires : goal.mark-requires
mark-requires c =
    let j = c.self-2.inside in
    let k = c.self-2.invariant in
    let p = point_of c.args.p in
    let same = c.self-2.view_is ∙ c.is_next.ensures.same in
    let next = subst (λ (s : PlaneState). IsNextOn (open_exposed s.picture s.standing) s.standing.taken s.standing.patch.points p) (sym same)
    (c.is_next.ensures.answer.0 c.if-not-is_next.false) in
    let left = left_of_next (exposed_at j.grid (j.begun - 1)) j.taken.points (drop j.start j.taken.points) p next in
    subst (λ s. IsTrue (in_box s p)) (sym k.recent_box) (exposed_in j.grid (j.begun - 1) p left.there)

pub clear-requires : goal.clear-requires
clear-requires c =
    let j = c.self-2.inside in
    let k = c.self-2.invariant in
    let p = point_of c.args.p in
    let same = c.self-2.view_is ∙ c.is_next.ensures.same in
    let next = subst (λ (s : PlaneState). IsNextOn (open_exposed s.picture s.standing) s.standing.taken s.standing.patch.points p) (sym same)
    (c.is_next.ensures.answer.0 c.if-not-is_next.false) in
    let left = left_of_next (exposed_at j.grid (j.begun - 1)) j.taken.points (drop j.start j.taken.points) p next in
    subst (λ s. IsTrue (in_box s p)) (sym k.left_box) (exposed_in j.grid (j.begun - 1) p left.there)

pub invariant_of-self : goal.invariant_of-self
invariant_of-self c =
    let j = c.self-2.inside in
    let n : Counts = record { begun = j.begun; exposed = j.exposed; start = j.start; declared = j.declared; cursor = j.cursor; refused = j.refused } in
    let k = c.self-2.invariant in
    let p = point_of c.args.p in
    let exposed = exposed_at j.grid (j.begun - 1) in
    let same = c.self-2.view_is ∙ c.is_next.ensures.same in
    let next = subst (λ (s : PlaneState). IsNextOn (open_exposed s.picture s.standing) s.standing.taken s.standing.patch.points p) (sym same)
    (c.is_next.ensures.answer.0 c.if-not-is_next.false) in
    let left = left_of_next exposed j.taken.points (drop j.start j.taken.points) p next in
    let more = more_points j.grid n j.taken.points j.touching.items k.step (λ e. (
    let t = c.has_points.ensures.1 (subst (λ (s : PlaneState). length s.standing.patch.points ≡ s.standing.patch.declared) same e) in
    false≢true (sym c.if-has_points.false ∙ t))) in
    let begun = begun_of j.grid n j.taken.points j.touching.items k.step (omega (arith, more)) in
    let inside = subst (λ s. IsTrue (in_box s p)) (sym k.left_box) (exposed_in j.grid (j.begun - 1) p left.there) in
    let rest = subst (AreLeft exposed (j.taken.points ++ p ∷ [])) (sym c.clear.ensures) (left_less exposed j.taken.points j.left p (k.are_left begun) inside) in
    let rest_box = ap (λ (Y : Picture). Y.sides) c.clear.ensures ∙ k.left_box in
    let points = ap (λ (l : Listing). l.points) c.push.ensures in
    let round = subst (λ ps. AreRound c.clear.new.self (drop j.start ps) c.find_round.new.numbers.items) points c.find_round.ensures.round in
    let touching = round_touches j.grid exposed (j.taken.points ++ p ∷ []) (drop j.start (j.taken.points ++ p ∷ [])) c.clear.new.self
    c.find_round.new.numbers.items rest rest_box (exposed_in j.grid (j.begun - 1)) round in
    subst (λ t. IsKept j.grid n j.plane (sides_of (point_of j.near.sides.lengths)) c.clear.new.self c.mark.new.recent t c.find_round.new.marks
    c.find_round.new.numbers.items (vec_capacity c.find_round.new.numbers)) (sym c.push.ensures) (record {
      solid = k.solid;
      near_box = k.near_box;
      left_box = rest_box;
      are_left = λ b. rest;
      recent_box = c.mark.ensures.box_ ∙ k.recent_box;
      are_recent = marked_taken c.mark.new.recent j.taken.points j.start p k.step.start (c.mark.ensures.marked (drop j.start j.taken.points) k.are_recent);
      taken_box = k.taken_box;
      marks_box = c.find_round.ensures.box_ ∙ rest_box;
      unmarked = c.find_round.ensures.none;
      taken_fits = k.taken_fits;
      fits = (let r = k.fits in omega (arith, r, c.find_round.ensures.capacity));
      axis = k.axis;
      step = step_on j.grid n j.plane j.taken.points j.touching.items k.step p c.find_round.new.numbers.items more left (λ e. touching)
          (let f = c.find_round.ensures.few in omega (arith, f, ap box_count rest_box));
    })

pub invariant_of-self-else-len-self : goal.invariant_of-self-else-len-self
invariant_of-self-else-len-self c =
    let j = c.self-2.inside in
    let n : Counts = record { begun = j.begun; exposed = j.exposed; start = j.start; declared = j.declared; cursor = j.cursor; refused = j.refused } in
    let k = c.self-2.invariant in
    let p = point_of c.args.p in
    let exposed = exposed_at j.grid (j.begun - 1) in
    let same = c.self-2.view_is ∙ c.is_next.ensures.same in
    let next = subst (λ (s : PlaneState). IsNextOn (open_exposed s.picture s.standing) s.standing.taken s.standing.patch.points p) (sym same)
    (c.is_next.ensures.answer.0 c.if-not-is_next.false) in
    let left = left_of_next exposed j.taken.points (drop j.start j.taken.points) p next in
    let more = more_points j.grid n j.taken.points j.touching.items k.step (λ e. (
    let t = c.has_points.ensures.1 (subst (λ (s : PlaneState). length s.standing.patch.points ≡ s.standing.patch.declared) same e) in
    false≢true (sym c.if-has_points.false ∙ t))) in
    let begun = begun_of j.grid n j.taken.points j.touching.items k.step (omega (arith, more)) in
    let inside = subst (λ s. IsTrue (in_box s p)) (sym k.left_box) (exposed_in j.grid (j.begun - 1) p left.there) in
    let rest = subst (AreLeft exposed (j.taken.points ++ p ∷ [])) (sym c.clear.ensures) (left_less exposed j.taken.points j.left p (k.are_left begun) inside) in
    let points = ap (λ (l : Listing). length l.points) c.push.ensures in
    subst (λ t. IsKept j.grid n j.plane (sides_of (point_of j.near.sides.lengths)) c.clear.new.self c.mark.new.recent t j.marks j.touching.items
    (vec_capacity j.touching)) (sym c.push.ensures) (record {
      solid = k.solid;
      near_box = k.near_box;
      left_box = ap (λ (Y : Picture). Y.sides) c.clear.ensures ∙ k.left_box;
      are_left = λ b. rest;
      recent_box = c.mark.ensures.box_ ∙ k.recent_box;
      are_recent = marked_taken c.mark.new.recent j.taken.points j.start p k.step.start (c.mark.ensures.marked (drop j.start j.taken.points) k.are_recent);
      taken_box = k.taken_box;
      marks_box = k.marks_box;
      unmarked = k.unmarked;
      taken_fits = k.taken_fits;
      fits = k.fits;
      axis = k.axis;
      step = step_on j.grid n j.plane j.taken.points j.touching.items k.step p j.touching.items more left
          (λ e. absurd (c.if-len-self.false (c.len.ensures.value ∙ points ∙ e))) k.step.few;
    })

pub overflow_add-self-inside : goal.overflow_add-self-inside
overflow_add-self-inside c = omega (arith, c.self-2.invariant.step.declared)

pub find_round-requires-clause-near_box : goal.find_round-requires-clause-near_box
find_round-requires-clause-near_box c = let k = c.self-2.invariant in k.near_box ∙ sym (ap (λ (Y : Picture). Y.sides) c.clear.ensures ∙ k.left_box)

pub find_round-requires-clause-taken_box : goal.find_round-requires-clause-taken_box
find_round-requires-clause-taken_box c = let k = c.self-2.invariant in ap (λ (l : Listing). l.sides) c.push.ensures ∙ k.taken_box
    ∙ sym (ap (λ (Y : Picture). Y.sides) c.clear.ensures ∙ k.left_box)

pub find_round-requires-clause-box_ : goal.find_round-requires-clause-box_
find_round-requires-clause-box_ c = let k = c.self-2.invariant in k.marks_box ∙ sym (ap (λ (Y : Picture). Y.sides) c.clear.ensures ∙ k.left_box)

pub find_round-requires-clause-none : goal.find_round-requires-clause-none
find_round-requires-clause-none c = c.self-2.invariant.unmarked

pub find_round-requires-clause-room : goal.find_round-requires-clause-room
find_round-requires-clause-room c =
    let j = c.self-2.inside in
    let n : Counts = record { begun = j.begun; exposed = j.exposed; start = j.start; declared = j.declared; cursor = j.cursor; refused = j.refused } in
    let k = c.self-2.invariant in
    let p = point_of c.args.p in
    let exposed = exposed_at j.grid (j.begun - 1) in
    let same = c.self-2.view_is ∙ c.is_next.ensures.same in
    let next = subst (λ (s : PlaneState). IsNextOn (open_exposed s.picture s.standing) s.standing.taken s.standing.patch.points p) (sym same)
    (c.is_next.ensures.answer.0 c.if-not-is_next.false) in
    let left = left_of_next exposed j.taken.points (drop j.start j.taken.points) p next in
    let more = more_points j.grid n j.taken.points j.touching.items k.step (λ e. (
    let t = c.has_points.ensures.1 (subst (λ (s : PlaneState). length s.standing.patch.points ≡ s.standing.patch.declared) same e) in
    false≢true (sym c.if-has_points.false ∙ t))) in
    let begun = begun_of j.grid n j.taken.points j.touching.items k.step (omega (arith, more)) in
    let inside = subst (λ s. IsTrue (in_box s p)) (sym k.left_box) (exposed_in j.grid (j.begun - 1) p left.there) in
    let rest = subst (AreLeft exposed (j.taken.points ++ p ∷ [])) (sym c.clear.ensures) (left_less exposed j.taken.points j.left p (k.are_left begun) inside) in
    let fits = k.fits in
    record { among = exposed; each = λ q a. ((rest.each q).0 a).there; fits = omega (arith, exposed_few j.grid (j.begun - 1), fits) }

pub returns-then-len-self-clause-picture : goal.returns-then-len-self-clause-picture
returns-then-len-self-clause-picture c = ap (λ (s : PlaneState). s.picture) (c.self-2.view_is ∙ c.is_next.ensures.same)

pub returns-else-len-self-clause-picture : goal.returns-else-len-self-clause-picture
returns-else-len-self-clause-picture c = ap (λ (s : PlaneState). s.picture) (c.self-2.view_is ∙ c.is_next.ensures.same)

pub returns-then-len-self-clause-left : goal.returns-then-len-self-clause-left
returns-then-len-self-clause-left c =
    let j = c.self-2.inside in
    let n : Counts = record { begun = j.begun; exposed = j.exposed; start = j.start; declared = j.declared; cursor = j.cursor; refused = j.refused } in
    let k = c.self-2.invariant in
    let same = c.self-2.view_is ∙ c.is_next.ensures.same in
    let more = more_points j.grid n j.taken.points j.touching.items k.step (λ e. (
    let t = c.has_points.ensures.1 (subst (λ (s : PlaneState). length s.standing.patch.points ≡ s.standing.patch.declared) same e) in
    false≢true (sym c.if-has_points.false ∙ t))) in
    subst (λ (s : PlaneState). length s.standing.taken < length (open_exposed s.picture s.standing)) same
    (some_left j.grid n j.taken.points j.touching.items k.step more)

pub returns-then-len-self-clause-next : goal.returns-then-len-self-clause-next
returns-then-len-self-clause-next c =
    let j = c.self-2.inside in
    let n : Counts = record { begun = j.begun; exposed = j.exposed; start = j.start; declared = j.declared; cursor = j.cursor; refused = j.refused } in
    let k = c.self-2.invariant in
    let same = c.self-2.view_is ∙ c.is_next.ensures.same in
    let more = more_points j.grid n j.taken.points j.touching.items k.step (λ e. (
    let t = c.has_points.ensures.1 (subst (λ (s : PlaneState). length s.standing.patch.points ≡ s.standing.patch.declared) same e) in
    false≢true (sym c.if-has_points.false ∙ t))) in
    ap (λ (l : Listing). (state_of j.grid n j.plane l.points c.find_round.new.numbers.items).standing) c.push.ensures
    ∙ next_on j.grid n j.taken.points j.touching.items k.step j.plane (point_of c.args.p) c.find_round.new.numbers.items more
    ∙ ap (λ (s : PlaneState). with_on s.standing (point_of c.args.p)) same

pub returns-else-len-self-clause-left : goal.returns-else-len-self-clause-left
returns-else-len-self-clause-left c =
    let j = c.self-2.inside in
    let n : Counts = record { begun = j.begun; exposed = j.exposed; start = j.start; declared = j.declared; cursor = j.cursor; refused = j.refused } in
    let k = c.self-2.invariant in
    let same = c.self-2.view_is ∙ c.is_next.ensures.same in
    let more = more_points j.grid n j.taken.points j.touching.items k.step (λ e. (
    let t = c.has_points.ensures.1 (subst (λ (s : PlaneState). length s.standing.patch.points ≡ s.standing.patch.declared) same e) in
    false≢true (sym c.if-has_points.false ∙ t))) in
    subst (λ (s : PlaneState). length s.standing.taken < length (open_exposed s.picture s.standing)) same
    (some_left j.grid n j.taken.points j.touching.items k.step more)

pub returns-else-len-self-clause-next : goal.returns-else-len-self-clause-next
returns-else-len-self-clause-next c =
    let j = c.self-2.inside in
    let n : Counts = record { begun = j.begun; exposed = j.exposed; start = j.start; declared = j.declared; cursor = j.cursor; refused = j.refused } in
    let k = c.self-2.invariant in
    let same = c.self-2.view_is ∙ c.is_next.ensures.same in
    let more = more_points j.grid n j.taken.points j.touching.items k.step (λ e. (
    let t = c.has_points.ensures.1 (subst (λ (s : PlaneState). length s.standing.patch.points ≡ s.standing.patch.declared) same e) in
    false≢true (sym c.if-has_points.false ∙ t))) in
    ap (λ (l : Listing). (state_of j.grid n j.plane l.points j.touching.items).standing) c.push.ensures
    ∙ next_on j.grid n j.taken.points j.touching.items k.step j.plane (point_of c.args.p) j.touching.items more
    ∙ ap (λ (s : PlaneState). with_on s.standing (point_of c.args.p)) same
