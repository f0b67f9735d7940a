use Rattle.std.proofs.Common.{arith, ◌≡◌, ◌+◌, length, subst, []}
use Rattle.shape_terms.specs.RunWalks.{IsWalk}
use Rattle.shape_terms.proofs.WalkSteps.{walk_begins}
use Rattle.shape_line.specs.Entries.{stretch_of}
use Rattle.shape_line.specs.Walking.{contour_walk}
use Rattle.shape_line.proofs.Searching.{reach_longest}
use Rattle.shape_line.proofs.Passing.{goes_on, comes_round, few_entries}
use Rattle.shape_line.proofs.walk.go_round.Goals as goal

pub loop-reach-init : goal.loop-reach-init
loop-reach-init c =
    let points = c.args.contour.now.points in
    let g = c.args.first in
    let n = c.len.ensures.value in
    let round : g.stretch.first + length points ≡ g.stretch.first + c.len.result = omega arith in
    rw c.new-entries.ensures.items (record {
      walk = subst (IsWalk contour_walk points [] (stretch_of g.stretch)) round
          (walk_begins contour_walk points (stretch_of g.stretch) c.requires.start (reach_longest points g c.requires.reach));
      reach = c.requires.reach;
    })

pub loop-reach-preserved : goal.loop-reach-preserved
loop-reach-preserved c =
    let more = c.in_ok-reach.ensures in
    rw more.items (goes_on c.args.contour.now.points c.loop-reach.entries.items c.loop-reach.reach (c.args.first.stretch.first + c.len.result)
    c.loop-reach.invariant c.loop-reach-test.true more.entry c.in_ok-reach.reach more.passed)

pub returns-clause-cover : goal.returns-clause-cover
returns-clause-cover c = comes_round c.args.contour.now.points c.loop-reach.entries.items c.loop-reach.reach (c.args.first.stretch.first + c.len.result)
    c.loop-reach.invariant _ c.len.ensures.path c.loop-reach-test.false

pub returns-clause-few : goal.returns-clause-few
returns-clause-few c = few_entries c.args.contour.now.points c.loop-reach.entries.items c.loop-reach.reach (c.args.first.stretch.first + c.len.result)
    c.loop-reach.invariant _ c.len.ensures.path c.loop-reach-test.false
