use Rattle.std.proofs.Common.{◌≡◌, ℕ, ◌+◌, ap, ◌∙◌, sym}
use Rattle.std.proofs.lemmas.Result.{err_from_is_err_and}
use Rattle.shape_terms.specs.Points.{box_count}
use Rattle.shape_desk.specs.declared.desk.Place.TheVariants.{Picture}
use Rattle.shape_picture.proofs.VolumeSteps.{same_taken, volume_done, volume_trailing, volume_failed}
use Rattle.shape_picture.proofs.volume.if_ended.Goals as goal

pub returns-in-None-clause-answer : goal.returns-in-None-clause-answer
returns-in-None-clause-answer g c = λ all h.
    let n : c.from-at.result ≡ box_count c.args.grid.sides = c.from-at.ensures ∙ c.count.ensures.value ∙ ap box_count c.sides.ensures.value in
    let e = rw c.in-None.is at c.in_ok-take.ensures.taken in
    let t = e all h.front (same_taken _ _ _ _ _ _ _ _ (sym n) (sym n) h.taken) in
    volume_done c.args.grid.sides c.args.grid all ((g.D.Desk.state c.args.desk.now).left Picture) ((g.D.Desk.state c.take.new.desk).left Picture)
    c.args.bytes.now c.take.new.self h (same_taken _ _ _ _ _ _ _ _ n n t.0) t.1

pub returns-in-Some-clause-answer : goal.returns-in-Some-clause-answer
returns-in-Some-clause-answer g c = λ all h.
    let n : c.from-at.result ≡ box_count c.args.grid.sides = c.from-at.ensures ∙ c.count.ensures.value ∙ ap box_count c.sides.ensures.value in
    let e = rw c.in-Some.is at c.in_ok-take.ensures.taken in
    let t = e all h.front (same_taken _ _ _ _ _ _ _ _ (sym n) (sym n) h.taken) in
    volume_trailing c.args.grid.sides _ all ((g.D.Desk.state c.take.new.desk).left Picture) c.take.new.self h.front (g.D.Desk.state c.args.desk.now).read_faults
    (g.D.Desk.state c.take.new.desk).read_faults h.taken.many (same_taken _ _ _ _ _ _ _ _ n (ap (λ (i : ℕ). i + 1) n) t)

pub returns-in_err-take-clause-answer : goal.returns-in_err-take-clause-answer
returns-in_err-take-clause-answer g c = λ all h.
    let n : c.from-at.result ≡ box_count c.args.grid.sides = c.from-at.ensures ∙ c.count.ensures.value ∙ ap box_count c.sides.ensures.value in
    let t = c.in_err-take.ensures.taken all h.front (same_taken _ _ _ _ _ _ _ _ (sym n) (sym n) h.taken) in
    let p = err_from_is_err_and c.from_residual.result c.from_residual.ensures.1 in
    rw (p.1, p.2) (volume_failed c.args.grid.sides (box_count c.args.grid.sides) all ((g.D.Desk.state c.take.new.desk).left Picture) c.take.new.self h.front
    (g.D.Desk.state c.args.desk.now).read_faults (g.D.Desk.state c.take.new.desk).read_faults (same_taken _ _ _ _ _ _ _ _ n n t.0) t.1)
