use Rattle.std.proofs.Common.{ap, sym, ◌∙◌, subst, arith, map, pos}
use Rattle.std.proofs.lemmas.Result.{err_from_is_err_and}
use Rattle.shape_desk.specs.declared.desk.Place.TheVariants.{Report}
use Rattle.shape_desk.specs.Line.{IfTold, ahead_of}
use Rattle.shape_terms.specs.Shelves.{names_of}
use Rattle.shape_grid.proofs.SideLists.{sides_back}
use Rattle.shape_rules.proofs.Ruled.{rules_same}
use Rattle.shape_check.specs.Heading.{TakesHeading, LacksHeading}
use Rattle.report_text.proofs.Told.{takes_none, none_ahead}
use Rattle.shape_check.proofs.FirstLine.{heading_taken, heading_missed, few_ahead, checks_later}
use Rattle.shape_check.proofs.check.check.Goals as goal

pub returns-in_err-reader-clause-checked : goal.returns-in_err-reader-clause-checked
returns-in_err-reader-clause-checked g c =
    let p = err_from_is_err_and c.from_residual.result c.from_residual.ensures.1 in
    rw (p.1, p.2) (record { answer = tt; taken = takes_none _ _ })

pub returns-in_err-given-clause-checked : goal.returns-in_err-given-clause-checked
returns-in_err-given-clause-checked g c =
    let p = err_from_is_err_and c.from_residual-in_err-given.result c.from_residual-in_err-given.ensures.1 in
    let text = (g.D.Desk.state c.args.desk.now).left Report in
    rw (p.1, p.2) (record {
      answer = c.in_err-given.ensures.answer;
      taken = few_ahead _ c.in_ok-reader.reader.ahead text _ c.in_ok-reader.ensures.ahead c.find_heading.ensures.taken;
    })

pub returns-in_default-clause-checked : goal.returns-in_default-clause-checked
returns-in_default-clause-checked g c =
    let text = (g.D.Desk.state c.args.desk.now).left Report in
    let ahead = c.in_ok-reader.ensures.ahead in
    let sides = g.P.Point.coords c.sides.result.lengths in
    let given = sym (sides_back g.P.Point.MAX_SIDE sides c.sides.result.in_range) ∙ ap (map pos) c.sides.ensures.value in
    let lacks = subst (λ l. IfTold l (LacksHeading g.P.Point.DIM sides (names_of c.args.shelf.now))) (none_ahead c.in_ok-reader.reader.ahead text ahead)
    (rw c.in_default.is at c.in_ok-given.ensures.answer) in
    record {
      answer = (
        record { some = omega arith; few = omega arith },
        heading_missed _ c.args.grid.now c.args.shelf.now g.P.Point.DIM
            c.is_picture.ensures.picture.axes sides given text lacks,
      );
      taken = few_ahead _ c.in_ok-reader.reader.ahead text _ ahead c.find_heading.ensures.taken;
    }

pub returns-in_err-row-clause-checked : goal.returns-in_err-row-clause-checked
returns-in_err-row-clause-checked g c =
    let p = err_from_is_err_and c.from_residual-in_err-row.result c.from_residual-in_err-row.ensures.1 in
    let text = (g.D.Desk.state c.args.desk.now).left Report in
    rw (p.1, p.2) (record { answer = tt; taken = few_ahead _ c.in_ok-reader.reader.ahead text _ c.in_ok-reader.ensures.ahead c.find_heading.ensures.taken })

pub returns-clause-checked : goal.returns-clause-checked
returns-clause-checked g c =
    let text = (g.D.Desk.state c.args.desk.now).left Report in
    let axes = c.is_picture.ensures.picture.axes in
    let sides = g.P.Point.coords c.sides.result.lengths in
    let given = sym (sides_back g.P.Point.MAX_SIDE sides c.sides.result.in_range) ∙ ap (map pos) c.sides.ensures.value in
    let left = ahead_of c.find_heading.new.reader.ahead ((g.D.Desk.state c.find_heading.new.desk).left Report) in
    let takes = subst (λ l. IfTold l (λ bytes. TakesHeading g.P.Point.DIM sides (names_of c.args.shelf.now) bytes left c.in-Some.given))
    (none_ahead c.in_ok-reader.reader.ahead text c.in_ok-reader.ensures.ahead) (rw c.in-Some.is at c.in_ok-given.ensures.answer) in
    let behind = heading_taken _ c.args.grid.now c.args.shelf.now g.P.Point.DIM axes sides given c.has_names.ensures c.in-Some.given c.rule.result.now
    c.rule.ensures.value g.R.Judges.section g.met.R.Row.first text left takes in
    let checked = c.check_behind.ensures.checked _ c.in-Some.given.number text axes c.in_ok-row.ensures.waits behind in
    record {
      answer = checks_later _ text _ _ _ c.check_behind.result c.find_heading.ensures.reads.only.later checked.answer;
      taken = checked.taken;
    }

pub returns-clause-shelf : goal.returns-clause-shelf
returns-clause-shelf g c = rules_same _ c.args.shelf.now c.in-Some.given.entry c.rule.result.now _ c.rule.ensures.value c.check_behind.ensures.same_rule
