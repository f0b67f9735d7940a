use Rattle.std.proofs.Common.{◌≡◌, ◌+◌, ◌*◌, ◌<◌, [], ◌∷◌, ◌++◌, length, sym, subst, ap, ◌∙◌, arith}
use Rattle.std.proofs.lemmas.Result.{err_from_is_err_and}
use Rattle.std.proofs.lemmas.List.{length_push}
use Rattle.shape_terms.specs.Points.{box_count}
use Rattle.shape_desk.specs.declared.desk.Place.TheVariants.{Picture}
use Rattle.shape_terms.specs.Limits.{most_flat, most_bytes}
use Rattle.shape_picture.specs.Answers.{pbm}
use Rattle.shape_picture.specs.Pbm.{number_value}
use Rattle.shape_picture.specs.Raster.{PieceAnswer}
use Rattle.shape_desk.proofs.Writes.{OnlyReadsAt-more}
use Rattle.shape_picture.proofs.RasterSteps.{piece_answer, gap_next, pixel_next, pixel_spelled, raster_unfinished}
use Rattle.shape_picture.proofs.ValueSteps.{total_is}
use Rattle.shape_picture.proofs.ByteSteps.{stops_long, stops_bad, stops_earlier, picture_last}
use Rattle.shape_picture.proofs.pbm.read_raster.Goals as goal

pub returns-in_err-c-clause-answer : goal.returns-in_err-c-clause-answer
returns-in_err-c-clause-answer g c = λ all h.
    let r = c.loop-at.invariant.0 all h in
    let p = err_from_is_err_and c.from_residual.result c.from_residual.ensures.1 in
    rw (p.1, p.2) (stops_earlier (pbm most_flat most_bytes) all _ _ _ _ _ c.loop-at.invariant.4.only.later
    (c.in_err-c.ensures.answer all r.front r.taken (raster_unfinished most_flat r.known)))

pub returns-in-Err-clause-answer : goal.returns-in-Err-clause-answer
returns-in-Err-clause-answer g c = λ all h.
    let r = c.loop-at.invariant.0 all h in
    let p = r.known in
    let t = c.in_ok-c.ensures.answer all r.front r.taken (raster_unfinished most_flat p) in
    stops_bad most_flat most_bytes c.loop-at.at all _ _ r.front c.in_ok-c.c _ _ c.in-Err.fault t (omega (arith, r.taken.many, c.loop-at-test.true))
    (subst (λ x. PieceAnswer most_flat r.front c.in_ok-c.c p.width p.height p.raster x) (sym c.in-Err.ensures)
    (piece_answer most_flat p c.loop-at.at c.in_ok-c.c (sym r.taken.many)))

pub loop-at-preserved-in-Ok-Gap : goal.loop-at-preserved-in-Ok-Gap
loop-at-preserved-in-Ok-Gap g c = (
  λ all h.
      let r = c.loop-at.invariant.0 all h in
      let p = r.known in
      let t = c.in_ok-c.ensures.answer all r.front r.taken (raster_unfinished most_flat p) in
      let e = rw c.in-Ok-Gap.field-0-is at c.in-Ok-Gap.ensures in
      let k = subst (λ x. PieceAnswer most_flat r.front c.in_ok-c.c p.width p.height p.raster x) (sym e)
      (piece_answer most_flat p c.loop-at.at c.in_ok-c.c (sym r.taken.many)) in
      record {
        front = _;
        known =
            rw c.in-Ok-Gap.within-is (gap_next most_flat c.loop-at.grid c.loop-at.comment c.in-Ok-Gap.within c.loop-at.count r.front p c.in_ok-c.c k);
        taken =
            t;
      },
  c.loop-at.invariant.1,
  c.loop-at.invariant.2,
  c.loop-at.invariant.3,
  OnlyReadsAt-more c.loop-at.invariant.4 c.in_ok-c.ensures.reads,
)

pub returns-then-count-total-clause-answer : goal.returns-then-count-total-clause-answer
returns-then-count-total-clause-answer g c = λ all h.
    let r = c.loop-at.invariant.0 all h in
    let p = r.known in
    let t = c.in_ok-c.ensures.answer all r.front r.taken (raster_unfinished most_flat p) in
    let e = rw c.in-Ok-Pixel.field-0-is at c.in-Ok-Pixel.ensures in
    let k = subst (λ x. PieceAnswer most_flat r.front c.in_ok-c.c p.width p.height p.raster x) (sym e)
    (piece_answer most_flat p c.loop-at.at c.in_ok-c.c (sym r.taken.many)) in
    let n : c.loop-at.count + 1 ≡ number_value p.width * number_value p.height = c.if-count-total.true ∙ c.loop-at.invariant.2
    ∙ sym (ap box_count c.loop-at.invariant.1) ∙ total_is c.loop-at.grid p.first in
    let few : length r.front < most_bytes = omega (arith, r.taken.many, c.loop-at-test.true) in
    picture_last most_flat most_bytes (c.loop-at.at + 1) all ((g.D.Desk.state c.next_byte.new.desk).left Picture) c.next_byte.new.bytes
    (r.front ++ c.in_ok-c.c ∷ []) c.put.new.grid
    (λ rest. rw (length_push r.front c.in_ok-c.c)
    (pixel_spelled most_flat c.loop-at.grid c.put.new.grid c.loop-at.comment c.loop-at.count r.front c.in-Ok-Pixel.object p c.in_ok-c.c k
    c.put.ensures.sides (rw c.in-Ok-Pixel.object-is at c.put.ensures.values) most_bytes rest n few)) t

pub loop-at-preserved : goal.loop-at-preserved
loop-at-preserved g c = (
  λ all h.
      let r = c.loop-at.invariant.0 all h in
      let p = r.known in
      let t = c.in_ok-c.ensures.answer all r.front r.taken (raster_unfinished most_flat p) in
      let e = rw c.in-Ok-Pixel.field-0-is at c.in-Ok-Pixel.ensures in
      let k = subst (λ x. PieceAnswer most_flat r.front c.in_ok-c.c p.width p.height p.raster x) (sym e)
      (piece_answer most_flat p c.loop-at.at c.in_ok-c.c (sym r.taken.many)) in
      let n : number_value p.width * number_value p.height ≡ c.count-total.result =
      sym (c.loop-at.invariant.2 ∙ sym (ap box_count c.loop-at.invariant.1) ∙ total_is c.loop-at.grid p.first) in
      let m : c.loop-at.count + 1 < number_value p.width * number_value p.height = omega (arith, n, c.loop-at.invariant.3, c.if-count-total.false) in
      record {
        front = _;
        known = pixel_next most_flat c.loop-at.grid c.put.new.grid c.loop-at.comment c.loop-at.count r.front c.in-Ok-Pixel.object p
            c.in_ok-c.c k c.put.ensures.sides (rw c.in-Ok-Pixel.object-is at c.put.ensures.values) m;
        taken = t;
      },
  c.put.ensures.sides ∙ c.loop-at.invariant.1,
  c.loop-at.invariant.2,
  omega (arith, c.loop-at.invariant.3, c.if-count-total.false),
  OnlyReadsAt-more c.loop-at.invariant.4 c.in_ok-c.ensures.reads,
)

pub returns-clause-answer : goal.returns-clause-answer
returns-clause-answer g c = λ all h.
    let r = c.loop-at.invariant.0 all h in
    let p = r.known in
    stops_long most_flat most_bytes c.loop-at.at all ((g.D.Desk.state c.loop-at.desk).left Picture) c.loop-at.bytes r.front
    (g.D.Desk.state c.args.desk.now).read_faults (g.D.Desk.state c.loop-at.desk).read_faults r.taken c.loop-at-test.false (raster_unfinished most_flat p)
