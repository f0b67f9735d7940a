use Rattle.shape_crack.specs.Terms.{crack_of}
use Rattle.judge_edges.proofs.Taken.{cycle_followed}
use Rattle.judge_edges.proofs.judge.EdgeJudge.follow.Goals as goal

pub returns-in-Cycle : goal.returns-in-Cycle
returns-in-Cycle c =
    let l = c.in-Cycle in
    rw l.is (cycle_followed c.args.self.now c.begin.new.self (crack_of l.start) l.steps l.arcs c.begin.result c.begin.ensures.answer c.begin.ensures.cycles
    c.begin.ensures.next)
