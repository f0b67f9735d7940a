use Rattle.std.proofs.Common.{◌≡◌, ℕ, ◌+◌, rules, refl, sym, ap, ◌∙◌, arith}
use Rattle.std.proofs.lemmas.Result.{err_from_is_err_and}
use Rattle.shape_terms.specs.Points.{box_count}
use Rattle.shape_desk.specs.declared.desk.Place.TheVariants.{Picture}
use Rattle.shape_desk.proofs.Writes.{OnlyReadsAt-more}
use Rattle.shape_picture.specs.Answers.{raw}
use Rattle.shape_picture.proofs.ByteSteps.{stops_earlier}
use Rattle.shape_picture.proofs.VolumeSteps.{same_taken, volume_start, volume_next, volume_short, volume_failed}
use Rattle.shape_picture.proofs.volume.read_points.Goals as goal

pub loop-i-init : goal.loop-i-init
loop-i-init g c = (
  volume_start c.args.grid.sides c.args.grid ((g.D.Desk.state c.args.desk.now).left Picture) c.args.bytes.now c.requires.blank
      c.requires.none_ahead,
  omega arith,
  search rules,
)

pub returns-in-None-clause-answer : goal.returns-in-None-clause-answer
returns-in-None-clause-answer g c =
    let i = c.loop-i.invariant.0 in
    let n : c.from-longest.result ≡ box_count c.args.grid.sides = c.from-longest.ensures ∙ c.count-total.ensures.value ∙ ap box_count c.sides.ensures.value in
    let e = rw c.in-None.is at c.in_ok-c.ensures.taken in
    let t = e ((g.D.Desk.state c.args.desk.now).left Picture) i.front (same_taken _ _ _ _ _ _ _ _ (sym n) (sym c.from-at.ensures) i.taken) in
    volume_short c.args.grid.sides c.from-at.result ((g.D.Desk.state c.args.desk.now).left Picture) ((g.D.Desk.state c.take.new.desk).left Picture)
    c.take.new.self i.front (g.D.Desk.state c.args.desk.now).read_faults (g.D.Desk.state c.take.new.desk).read_faults
    (same_taken _ _ _ _ _ _ _ _ n refl t.0) t.1 (omega (arith, n, c.loop-i-test.true, c.from-at.ensures, c.from-longest.ensures))

pub returns-in_err-c-clause-answer : goal.returns-in_err-c-clause-answer
returns-in_err-c-clause-answer g c =
    let i = c.loop-i.invariant.0 in
    let n : c.from-longest.result ≡ box_count c.args.grid.sides = c.from-longest.ensures ∙ c.count-total.ensures.value ∙ ap box_count c.sides.ensures.value in
    let t = c.in_err-c.ensures.taken ((g.D.Desk.state c.args.desk.now).left Picture) i.front
    (same_taken _ _ _ _ _ _ _ _ (sym n) (sym c.from-at.ensures) i.taken) in
    let p = err_from_is_err_and c.from_residual.result c.from_residual.ensures.1 in
    rw (p.1, p.2) (stops_earlier (raw c.args.grid.sides) ((g.D.Desk.state c.args.desk.now).left Picture) ((g.D.Desk.state c.take.new.desk).left Picture)
    (g.D.Desk.state c.args.desk.now).read_faults (g.D.Desk.state c.loop-i.desk).read_faults (g.D.Desk.state c.take.new.desk).read_faults _
    c.loop-i.invariant.2.only.later
    (volume_failed c.args.grid.sides c.from-at.result ((g.D.Desk.state c.args.desk.now).left Picture) ((g.D.Desk.state c.take.new.desk).left Picture)
    c.take.new.self i.front (g.D.Desk.state c.loop-i.desk).read_faults (g.D.Desk.state c.take.new.desk).read_faults (same_taken _ _ _ _ _ _ _ _ n refl t.0)
    t.1))

pub loop-i-preserved : goal.loop-i-preserved
loop-i-preserved g c =
    let i = c.loop-i.invariant.0 in
    let n : c.from-longest.result ≡ box_count c.args.grid.sides = c.from-longest.ensures ∙ c.count-total.ensures.value ∙ ap box_count c.sides.ensures.value in
    let e = rw c.in-Some.is at c.in_ok-c.ensures.taken in
    let t = e ((g.D.Desk.state c.args.desk.now).left Picture) i.front (same_taken _ _ _ _ _ _ _ _ (sym n) (sym c.from-at.ensures) i.taken) in (
      volume_next c.args.grid.sides c.loop-i.i c.in-Some.c c.loop-i.grid c.put.new.grid ((g.D.Desk.state c.args.desk.now).left Picture)
          ((g.D.Desk.state c.loop-i.desk).left Picture) ((g.D.Desk.state c.take.new.desk).left Picture) c.loop-i.bytes c.take.new.self i
          (omega (arith, n, c.loop-i-test.true, c.from-longest.ensures)) (same_taken _ _ _ _ _ _ _ _ n (ap (λ (i : ℕ). i + 1) c.from-at.ensures) t)
          c.put.ensures.sides c.put.ensures.values,
      omega (arith, c.loop-i-test.true),
      OnlyReadsAt-more c.loop-i.invariant.2 c.take.ensures.reads,
    )
