use Rattle.std.proofs.Common.{arith, length}
use Rattle.shape_topo.proofs.Growing.{grow_start, place_below, step_keeps, step_grows, step_place}
use Rattle.shape_topo.proofs.count.component.Goals as goal

pub overflow_shl-todo : goal.overflow_shl-todo
overflow_shl-todo c = let a = place_below c.args.set (length c.args.links.now) c.args.place c.requires.within c.requires.seed in let b = c.requires.few in
    omega arith

pub loop-todo-init : goal.loop-todo-init
loop-todo-init c = grow_start c.args.links.now c.args.set c.args.place (let a = place_below c.args.set (length c.args.links.now) c.args.place c.requires.within
    c.requires.seed in let b = c.requires.few in omega arith) c.requires.seed

pub bounds-links-k : goal.bounds-links-k
bounds-links-k c = step_place c.args.links.now c.args.set c.args.place c.loop-todo.part c.loop-todo.todo (omega arith) (omega arith) (omega arith) (omega arith)
    c.loop-todo.invariant _ c.requires.within

pub loop-todo-smaller : goal.loop-todo-smaller
loop-todo-smaller c = let a = step_grows c.args.links.now c.args.set c.args.place c.loop-todo.part c.loop-todo.todo (omega arith) (omega arith) (omega arith)
    (omega arith) c.loop-todo.invariant in omega arith

pub loop-todo-preserved : goal.loop-todo-preserved
loop-todo-preserved c = step_keeps c.args.links.now c.args.set c.args.place c.loop-todo.part c.loop-todo.todo (omega arith) (omega arith) (omega arith)
    (omega arith) c.loop-todo.invariant
