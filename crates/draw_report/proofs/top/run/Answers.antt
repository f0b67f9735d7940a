use Rattle.std.proofs.Common.{subst, sym, ◌∙◌, arith}
use Rattle.report_lines.specs.Runs.{Ran, RanUpTo, RanFlat}
use Rattle.drawing.specs.Svg.{most_drawing}
use Rattle.draw_report.specs.Drawings.{IsDrawing, IsNumberedDrawing, IsContourDrawing}
use Rattle.draw_report.specs.MeasureDrawings.{IsMeasuredDrawing}
use Rattle.shape_desk.specs.Files.{texts}
use Rattle.draw_report.specs.Overs.{RanOver}
use Rattle.draw_report.proofs.Words.{one_word, two_words, same_word, same_words, not_both}
use Rattle.draw_report.proofs.top.run.Goals as goal

pub returns-in-len1-clause-usage : goal.returns-in-len1-clause-usage
returns-in-len1-clause-usage g c =
    let s = g.D.Desk.state in
    let one = one_word c.args.words.now c.name-item.result c.in-len1.len_at_least (omega (arith, c.in-len1.len_below)) c.name-item.is in (
      λ e. absurd (subst (RanUpTo most_drawing IsDrawing c.as_slice.result.now (s c.args.desk.now) (s c.run_up_to.new.desk)) e c.run_up_to.ensures.ran),
      λ none. absurd (none.0 c.name-item.result.items one),
    )

pub returns-in-len2-clause-usage : goal.returns-in-len2-clause-usage
returns-in-len2-clause-usage g c =
    let two = two_words c.args.words.now c.word-item.result c.name-item-then-words-lt3.result c.in-len2.len_at_least (omega (arith, c.in-len2.len_below))
    c.word-item.is c.name-item-then-words-lt3.is in (
      λ e. absurd (c.run_two.ensures.usage e),
      λ none. absurd (none.1 c.word-item.result.items c.name-item-then-words-lt3.result.items two),
    )

pub returns-in-len1-clause-untouched : goal.returns-in-len1-clause-untouched
returns-in-len1-clause-untouched g c =
    let s = g.D.Desk.state in
    λ e. absurd (subst (RanUpTo most_drawing IsDrawing c.as_slice.result.now (s c.args.desk.now) (s c.run_up_to.new.desk)) e c.run_up_to.ensures.ran)

pub returns-in-len1-clause-drawn : goal.returns-in-len1-clause-drawn
returns-in-len1-clause-drawn g c =
    let s = g.D.Desk.state in
    let one = one_word c.args.words.now c.name-item.result c.in-len1.len_at_least (omega (arith, c.in-len1.len_below)) c.name-item.is in
    λ name e. subst (λ n. RanUpTo most_drawing IsDrawing n (s c.args.desk.now) (s c.run_up_to.new.desk) c.run_up_to.result)
    (c.as_slice.ensures.value ∙ same_word (texts c.args.words.now) c.name-item.result.items name one e) c.run_up_to.ensures.ran

pub returns-in-len1-clause-numbered : goal.returns-in-len1-clause-numbered
returns-in-len1-clause-numbered g c =
    let one = one_word c.args.words.now c.name-item.result c.in-len1.len_at_least (omega (arith, c.in-len1.len_below)) c.name-item.is in
    λ name e. absurd (not_both (texts c.args.words.now) c.name-item.result.items _ name one e)

pub returns-in-len1-clause-over : goal.returns-in-len1-clause-over
returns-in-len1-clause-over g c =
    let one = one_word c.args.words.now c.name-item.result c.in-len1.len_at_least (omega (arith, c.in-len1.len_below)) c.name-item.is in
    λ analysis further e other no_contours no_measures. absurd (not_both (texts c.args.words.now) c.name-item.result.items analysis further one e)

pub returns-in-len1-clause-contours : goal.returns-in-len1-clause-contours
returns-in-len1-clause-contours g c =
    let one = one_word c.args.words.now c.name-item.result c.in-len1.len_at_least (omega (arith, c.in-len1.len_below)) c.name-item.is in
    λ name e. absurd (not_both (texts c.args.words.now) c.name-item.result.items _ name one e)

pub returns-in-len1-clause-measured : goal.returns-in-len1-clause-measured
returns-in-len1-clause-measured g c =
    let one = one_word c.args.words.now c.name-item.result c.in-len1.len_at_least (omega (arith, c.in-len1.len_below)) c.name-item.is in
    λ name e. absurd (not_both (texts c.args.words.now) c.name-item.result.items _ name one e)

pub returns-in-len1-clause-kept : goal.returns-in-len1-clause-kept
returns-in-len1-clause-kept g c = c.run_up_to.ensures.kept

pub returns-in-len2-clause-untouched : goal.returns-in-len2-clause-untouched
returns-in-len2-clause-untouched g c = λ e. absurd (c.run_two.ensures.usage e)

pub returns-in-len2-clause-drawn : goal.returns-in-len2-clause-drawn
returns-in-len2-clause-drawn g c =
    let two = two_words c.args.words.now c.word-item.result c.name-item-then-words-lt3.result c.in-len2.len_at_least (omega (arith, c.in-len2.len_below))
    c.word-item.is c.name-item-then-words-lt3.is in
    λ name e. absurd (not_both (texts c.args.words.now) name c.word-item.result.items c.name-item-then-words-lt3.result.items e two)

pub returns-in-len2-clause-numbered : goal.returns-in-len2-clause-numbered
returns-in-len2-clause-numbered g c =
    let s = g.D.Desk.state in
    let two = two_words c.args.words.now c.word-item.result c.name-item-then-words-lt3.result c.in-len2.len_at_least (omega (arith, c.in-len2.len_below))
    c.word-item.is c.name-item-then-words-lt3.is in
    λ name e.
    let same = same_words (texts c.args.words.now) c.word-item.result.items c.name-item-then-words-lt3.result.items _ name two e in
    subst (λ n. RanUpTo most_drawing IsNumberedDrawing n (s c.args.desk.now) (s c.run_two.new.desk) c.run_two.result)
    (c.as_slice-in-len2-2.ensures.value ∙ same.1) (c.run_two.ensures.numbered (c.as_slice-in-len2.ensures.value ∙ same.0))

pub returns-in-len2-clause-contours : goal.returns-in-len2-clause-contours
returns-in-len2-clause-contours g c =
    let s = g.D.Desk.state in
    let two = two_words c.args.words.now c.word-item.result c.name-item-then-words-lt3.result c.in-len2.len_at_least (omega (arith, c.in-len2.len_below))
    c.word-item.is c.name-item-then-words-lt3.is in
    λ name e.
    let same = same_words (texts c.args.words.now) c.word-item.result.items c.name-item-then-words-lt3.result.items _ name two e in
    subst (λ n. Ran IsContourDrawing n (s c.args.desk.now) (s c.run_two.new.desk) c.run_two.result) (c.as_slice-in-len2-2.ensures.value ∙ same.1)
    (c.run_two.ensures.contours (c.as_slice-in-len2.ensures.value ∙ same.0))

pub returns-in-len2-clause-measured : goal.returns-in-len2-clause-measured
returns-in-len2-clause-measured g c =
    let s = g.D.Desk.state in
    let two = two_words c.args.words.now c.word-item.result c.name-item-then-words-lt3.result c.in-len2.len_at_least (omega (arith, c.in-len2.len_below))
    c.word-item.is c.name-item-then-words-lt3.is in
    λ name e.
    let same = same_words (texts c.args.words.now) c.word-item.result.items c.name-item-then-words-lt3.result.items _ name two e in
    subst (λ n. RanFlat most_drawing IsMeasuredDrawing n (s c.args.desk.now) (s c.run_two.new.desk) c.run_two.result)
    (c.as_slice-in-len2-2.ensures.value ∙ same.1) (c.run_two.ensures.measured (c.as_slice-in-len2.ensures.value ∙ same.0))

pub returns-in-len2-clause-over : goal.returns-in-len2-clause-over
returns-in-len2-clause-over g c =
    let s = g.D.Desk.state in
    let two = two_words c.args.words.now c.word-item.result c.name-item-then-words-lt3.result c.in-len2.len_at_least (omega (arith, c.in-len2.len_below))
    c.word-item.is c.name-item-then-words-lt3.is in
    λ analysis further e other no_contours no_measures.
    let same = same_words (texts c.args.words.now) c.word-item.result.items c.name-item-then-words-lt3.result.items analysis further two e in
    let first = c.as_slice-in-len2.ensures.value ∙ same.0 in
    subst (λ a. RanOver a further (s c.args.desk.now) (s c.run_two.new.desk) c.run_two.result) first
    (subst (λ f. RanOver c.as_slice-in-len2.result.now f (s c.args.desk.now) (s c.run_two.new.desk) c.run_two.result)
    (c.as_slice-in-len2-2.ensures.value ∙ same.1)
    (c.run_two.ensures.over (λ l. other (sym first ∙ l)) (λ l. no_contours (sym first ∙ l)) (λ l. no_measures (sym first ∙ l))))

pub returns-in-len2-clause-kept : goal.returns-in-len2-clause-kept
returns-in-len2-clause-kept g c = c.run_two.ensures.kept
