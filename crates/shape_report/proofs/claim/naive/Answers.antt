use Rattle.std.proofs.Common.{take}
use Rattle.std.specs.Int.{w64}
use Rattle.std.proofs.Math.Facts.{to_z-of_z}
use Rattle.text_terms.proofs.Words.{long_form}
use Rattle.text_terms.specs.Forms.{signed, letter, ◌⨾◌}
use Rattle.text_terms.specs.Fields.{row}
use Rattle.shape_report.proofs.Pairs.{first_none, second_none, both_read}
use Rattle.shape_report.proofs.claim.naive.Goals as goal

pub returns-in_err-axis-clause-form : goal.returns-in_err-axis-clause-form
returns-in_err-axis-clause-form c = rw c.from_residual.ensures (first_none (letter 2) (row 2 ⨾ signed w64 63) c.args.words.now c.in_err-axis.ensures)

pub returns-in_err-a-clause-form : goal.returns-in_err-a-clause-form
returns-in_err-a-clause-form c =
    let second = first_none (row 2) (signed w64 63) c.flat_axis.new.words c.in_err-a.ensures.form in
    rw c.from_residual-in_err-a.ensures
    (second_none (letter 2) (row 2 ⨾ signed w64 63) c.args.words.now c.in_ok-axis.axis c.flat_axis.new.words c.in_ok-axis.ensures second)

pub returns-in_err-mu-clause-form : goal.returns-in_err-mu-clause-form
returns-in_err-mu-clause-form c =
    let second = second_none (row 2) (signed w64 63) c.flat_axis.new.words (take 2 c.in_ok-a.a) c.flat_coefficients.new.words c.in_ok-a.ensures.form
    c.in_err-mu.ensures in
    rw c.from_residual-in_err-mu.ensures
    (second_none (letter 2) (row 2 ⨾ signed w64 63) c.args.words.now c.in_ok-axis.axis c.flat_axis.new.words c.in_ok-axis.ensures second)

pub returns-clause-form : goal.returns-clause-form
returns-clause-form c =
    let second = both_read (row 2) (signed w64 63) c.flat_axis.new.words (take 2 c.in_ok-a.a) c.flat_coefficients.new.words c.in_ok-mu.mu c.signed.new.words
    c.in_ok-a.ensures.form c.in_ok-mu.ensures in
    let fits = (long_form.only c.flat_coefficients.new.words c.in_ok-mu.mu c.signed.new.words c.in_ok-mu.ensures).0 in
    rw (to_z-of_z fits) (both_read (letter 2) (row 2 ⨾ signed w64 63) c.args.words.now c.in_ok-axis.axis c.flat_axis.new.words
    (take 2 c.in_ok-a.a, c.in_ok-mu.mu) c.signed.new.words c.in_ok-axis.ensures second)
