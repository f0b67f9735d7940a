use Rattle.std.proofs.Common.{◌+◌, ap, sym, ◌∙◌, subst, arith}
use Rattle.std.specs.Prelude.{IsTrue}
use Rattle.shape_terms.specs.Points.{in_box}
use Rattle.shape_terms.specs.Pictures.{Picture}
use Rattle.judge_outline.specs.Terms.{point_of}
use Rattle.judge_outline.proofs.Marking.{AreMarkedFrom, marked_next, marked_end}
use Rattle.judge_outline.proofs.recent.unmark.Goals as goal

pub loop-i-init : goal.loop-i-init
loop-i-init c = record { sides = c.requires.box_; marked = λ q. (c.requires.marked.each q).0 }

pub clear-requires : goal.clear-requires
clear-requires c = subst (λ s. IsTrue (in_box s (point_of c.point.result))) (sym c.loop-i.invariant.sides) c.point.ensures.inside

pub loop-i-preserved : goal.loop-i-preserved
loop-i-preserved c =
    let R = c.loop-i.recent in
    let p = point_of c.point.result in
    let inside = subst (λ s. IsTrue (in_box s p)) (sym c.loop-i.invariant.sides) c.point.ensures.inside in
    record {
      sides = ap (λ (Y : Picture). Y.sides) c.clear.ensures ∙ c.loop-i.invariant.sides;
      marked = subst (AreMarkedFrom c.args.taken.now.points (c.loop-i.i + 1)) (sym c.clear.ensures)
          (marked_next R c.args.taken.now.points c.loop-i.i p c.point.ensures.value inside c.loop-i.invariant.marked);
    }

pub returns-clause-none : goal.returns-clause-none
returns-clause-none c = marked_end c.loop-i.recent c.args.taken.now.points c.loop-i.i (omega (arith, c.len-i-end.ensures.value, c.loop-i-test.false))
    c.loop-i.invariant.marked
