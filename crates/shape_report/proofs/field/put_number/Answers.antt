use Rattle.std.proofs.Common.{List, ℕ, [], ◌∷◌, ◌++◌, ap, ◌∙◌}
use Rattle.std.specs.Fmt.{decimal}
use Rattle.report_text.specs.Spelling.{behind_blanks}
use Rattle.shape_report.proofs.Digits.{number_in_decimal}
use Rattle.shape_report.proofs.field.put_number.Goals as goal

pub returns-clause-text : goal.returns-clause-text
returns-clause-text g c =
    let word = number_in_decimal g.P.Point.DIM c.args.n c.requires.number in
    c.count.ensures.text ∙ ap (λ (ds : List ℕ). c.args.text.now ++ behind_blanks (ds ∷ [])) (ap decimal c.from.ensures ∙ word)
