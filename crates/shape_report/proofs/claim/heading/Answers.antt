use Rattle.std.proofs.Common.{◌≡◌, ◌∙◌, Some, None, subst}
use Rattle.text_terms.specs.Forms.{name, behind, ◌⨾◌}
use Rattle.text_terms.specs.Fields.{point}
use Rattle.shape_rules.specs.Names.{word_of}
use Rattle.shape_report.proofs.Pairs.{first_none, second_none, both_read, behind_none, behind_read}
use Rattle.shape_report.proofs.claim.heading.Goals as goal

pub returns-in_err-skip : goal.returns-in_err-skip
returns-in_err-skip g c =
    let f = point g.P.Point.DIM ⨾ name in
    rw c.from_residual.ensures
    (subst (λ w. (behind w f).read c.args.words.now ≡ None) c.kind.ensures (behind_none c.kind.result.now f c.args.words.now c.in_err-skip.ensures))

pub returns-in_err-sides : goal.returns-in_err-sides
returns-in_err-sides g c =
    let f = point g.P.Point.DIM ⨾ name in
    let left = first_none (point g.P.Point.DIM) name c.skip.new.self c.in_err-sides.ensures in
    rw c.from_residual-in_err-sides.ensures
    (subst (λ w. (behind w f).read c.args.words.now ≡ None) c.kind.ensures
    (behind_read c.kind.result.now f c.args.words.now c.skip.new.self c.in_ok-skip.ensures ∙ left))

pub returns-in_err-rule : goal.returns-in_err-rule
returns-in_err-rule g c =
    let f = point g.P.Point.DIM ⨾ name in
    let left = second_none (point g.P.Point.DIM) name c.skip.new.self (g.P.Point.coords c.in_ok-sides.sides) c.point.new.words c.in_ok-sides.ensures
    c.in_err-rule.ensures in
    rw c.from_residual-in_err-rule.ensures
    (subst (λ w. (behind w f).read c.args.words.now ≡ None) c.kind.ensures
    (behind_read c.kind.result.now f c.args.words.now c.skip.new.self c.in_ok-skip.ensures ∙ left))

pub returns : goal.returns
returns g c =
    let f = point g.P.Point.DIM ⨾ name in
    let p = g.P.Point.coords c.in_ok-sides.sides in
    let n = word_of c.in_ok-rule.rule in
    let left = both_read (point g.P.Point.DIM) name c.skip.new.self p c.point.new.words n c.name.new.words c.in_ok-sides.ensures c.in_ok-rule.ensures in
    subst (λ w. (behind w f).read c.args.words.now ≡ Some ((p, n), c.name.new.words)) c.kind.ensures
    (behind_read c.kind.result.now f c.args.words.now c.skip.new.self c.in_ok-skip.ensures ∙ left)
