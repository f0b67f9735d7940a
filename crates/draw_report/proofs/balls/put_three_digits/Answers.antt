use Rattle.std.proofs.Common.{◌≡◌, ℕ, List, ◌∷◌, ◌++◌, ◌-◌, length, take, drop, ◌∙◌, ap, arith}
use Rattle.std.proofs.lemmas.Result.{on_ok_weaker}
use Rattle.measure_terms.specs.Texts.{three_digits}
use Rattle.measure_terms.proofs.ThreeDigits.{decimal_past_thousand}
use Rattle.draw_report.proofs.balls.put_three_digits.Goals as goal

pub returns-in-empty : goal.returns-in-empty
returns-in-empty c =
    let n = c.args.n in
    let text : c.as_bytes.result.now ≡ 49 ∷ three_digits n = c.as_bytes.ensures.value ∙ c.format.ensures.text ∙ decimal_past_thousand n c.requires in
    absurd (omega (arith, ap length text, c.in-empty.len_below))

pub returns-in-len1-up : goal.returns-in-len1-up
returns-in-len1-up c =
    let n = c.args.n in
    let text : c.as_bytes.result.now ≡ 49 ∷ three_digits n = c.as_bytes.ensures.value ∙ c.format.ensures.text ∙ decimal_past_thousand n c.requires in
    on_ok_weaker c.put.result (λ q. q ∙ ap (λ (xs : List ℕ). c.args.svg.now ++ take (length xs - 1) (drop 1 xs)) text) c.put.ensures
