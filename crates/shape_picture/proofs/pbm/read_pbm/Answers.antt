use Rattle.std.proofs.Common.{subst}
use Rattle.std.proofs.lemmas.Result.{err_from_is_err_and}
use Rattle.shape_desk.specs.declared.desk.Place.TheVariants.{Picture}
use Rattle.shape_terms.specs.Limits.{most_flat, most_bytes}
use Rattle.shape_picture.specs.Answers.{pbm}
use Rattle.shape_picture.specs.declared.header.Coming.TheVariants as coming
use Rattle.shape_picture.specs.Header.{IsInGap}
use Rattle.shape_picture.proofs.RasterSteps.{pixels_start}
use Rattle.shape_picture.proofs.RowSteps.{rows_start}
use Rattle.shape_picture.proofs.ByteSteps.{answer_earlier, taken_within}
use Rattle.shape_picture.proofs.pbm.read_pbm.Goals as goal

pub returns-in-Plain-clause-answer : goal.returns-in-Plain-clause-answer
returns-in-Plain-clause-answer g c =
    let h = c.in_ok-heading.ensures.answer in
    let s = c.in_ok-heading.heading in
    let all = (g.D.Desk.state c.args.desk.now).left Picture in
    let in_gap = subst (λ form. IsInGap form most_flat (coming.Raster s.width s.height) h.front) c.in-Plain.is h.known in
    answer_earlier (pbm most_flat most_bytes) all ((g.D.Desk.state c.read_raster.new.desk).left Picture) (g.D.Desk.state c.args.desk.now).read_faults
    (g.D.Desk.state c.read_header.new.desk).read_faults (g.D.Desk.state c.read_raster.new.desk).read_faults c.read_raster.result
    c.in_ok-heading.ensures.reads.only.later
    (c.read_raster.ensures.answer all
    (record {
      front = h.front;
      known = pixels_start most_flat s.width s.height c.in_ok-grid.grid _ h.front in_gap c.in_ok-grid.ensures c.box_of.ensures;
      taken = h.taken;
    }))

pub returns-clause-answer : goal.returns-clause-answer
returns-clause-answer g c =
    let h = c.in_ok-heading.ensures.answer in
    let s = c.in_ok-heading.heading in
    let all = (g.D.Desk.state c.args.desk.now).left Picture in
    let in_gap = subst (λ form. IsInGap form most_flat (coming.Raster s.width s.height) h.front) c.in-Packed.is h.known in
    answer_earlier (pbm most_flat most_bytes) all ((g.D.Desk.state c.read_rows.new.desk).left Picture) (g.D.Desk.state c.args.desk.now).read_faults
    (g.D.Desk.state c.read_header.new.desk).read_faults (g.D.Desk.state c.read_rows.new.desk).read_faults c.read_rows.result
    c.in_ok-heading.ensures.reads.only.later
    (c.read_rows.ensures.answer all
    (record {
      front = h.front;
      known = rows_start most_flat s.width s.height c.in_ok-grid.grid _ h.front in_gap c.in_ok-grid.ensures c.box_of.ensures;
      taken = h.taken;
    }))

pub returns-in_err-grid-clause-answer : goal.returns-in_err-grid-clause-answer
returns-in_err-grid-clause-answer g c =
    let h = c.in_ok-heading.ensures.answer in
    let p = err_from_is_err_and c.from_residual-in_err-grid.result c.from_residual-in_err-grid.ensures.1 in
    rw (p.1, p.2) (record {
      comes = tt;
      within = taken_within most_bytes c.in_ok-heading.heading.at ((g.D.Desk.state c.args.desk.now).left Picture)
          ((g.D.Desk.state c.read_header.new.desk).left Picture) c.read_header.new.bytes h.front h.taken;
    })
