use Rattle.std.proofs.Common.{arith, ◌≡◌, ◌+◌, length, subst, []}
use Rattle.shape_terms.specs.RunWalks.{IsWalk}
use Rattle.shape_terms.proofs.WalkSteps.{walk_begins}
use Rattle.edge_terms.specs.EdgeWalks.{edge_walk}
use Rattle.judge_edges.specs.Arcs.{stretch_of}
use Rattle.shape_edges.proofs.Searching.{reach_longest}
use Rattle.shape_edges.proofs.Passing.{goes_on, comes_round, few_entries}
use Rattle.shape_edges.proofs.walk.go_round.Goals as goal

pub loop-reach-init : goal.loop-reach-init
loop-reach-init c =
    let path = c.args.path.now in
    let g = c.args.first in
    let n = c.len.ensures.value in
    let round : g.first + length path ≡ g.first + c.len.result = omega arith in
    rw c.new-entries.ensures.items (record {
      walk = subst (IsWalk edge_walk path [] (stretch_of g)) round
          (walk_begins edge_walk path (stretch_of g) c.requires.start (reach_longest path g c.requires.reach));
      reach = c.requires.reach;
    })

pub loop-reach-preserved : goal.loop-reach-preserved
loop-reach-preserved c =
    let more = c.in_ok-reach.ensures in
    rw more.items (goes_on c.args.path.now c.loop-reach.entries.items c.loop-reach.reach (c.args.first.first + c.len.result) c.loop-reach.invariant
    c.loop-reach-test.true (record { entry = more.entry; next = c.in_ok-reach.reach }) more.passed)

pub returns-clause-cover : goal.returns-clause-cover
returns-clause-cover c = comes_round c.args.path.now c.loop-reach.entries.items c.loop-reach.reach (c.args.first.first + c.len.result) c.loop-reach.invariant
    c.len.ensures.path c.loop-reach-test.false

pub returns-clause-few : goal.returns-clause-few
returns-clause-few c = few_entries c.args.path.now c.loop-reach.entries.items c.loop-reach.reach (c.args.first.first + c.len.result) c.loop-reach.invariant
    c.len.ensures.path c.loop-reach-test.false
