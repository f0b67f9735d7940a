use Rattle.std.proofs.Common.{arith}
use Rattle.shape_adj.proofs.Labelling.{searched_start, searched_at, searched_end}
use Rattle.shape_adj.proofs.flood.flood.Goals as goal

pub loop-s-init : goal.loop-s-init
loop-s-init g c =
    rw c.new.ensures.items
    (searched_start _ _ _ _ c.in_ok-todo.todo c.in_ok-todo.ensures.filled c.in_ok-todo.ensures.exactly
    (rw c.places.ensures at c.in_ok-labels.ensures))

pub fill-requires-clause-searched : goal.fill-requires-clause-searched
fill-requires-clause-searched g c = (c.loop-s.count, omega arith, searched_at _ _ _ _ _ _ _ _ _ c.loop-s.invariant c.in-Some.ensures)

pub returns : goal.returns
returns g c = searched_end _ _ _ _ _ _ _ _ c.loop-s.invariant c.in_default.ensures
