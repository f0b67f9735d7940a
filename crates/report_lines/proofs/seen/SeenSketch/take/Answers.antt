use Rattle.std.proofs.Common.{◌≡◌, ◌<◌, ℕ, inl, inr, [], ◌∷◌, ◌++◌, length, ap, sym, ◌∙◌, arith}
use Rattle.std.specs.Prelude.{◌⊎◌}
use Rattle.shape_report.specs.LineOf.{line_of}
use Rattle.report_lines.specs.Said.{given_sides, said_in}
use Rattle.report_lines.specs.Kept.{with_near, with_deleted}
use Rattle.report_lines.proofs.Saying.{says_near, says_del, says_nothing, some_lines, said_more}
use Rattle.report_lines.proofs.Quiet.{is_quiet}
use Rattle.report_lines.proofs.seen.SeenSketch.take.Goals as goal

some_axes : (d : ℕ) → (d ≡ 2) ⊎ (d ≡ 3) → 0 < d
some_axes d (inl e) = omega (arith, e)
some_axes d (inr e) = omega (arith, e)

pub returns-in_ok-near-in-Near : goal.returns-in_ok-near-in-Near
returns-in_ok-near-in-Near g c = λ lines e.
    let d = g.P.Point.DIM in
    let coords = g.P.Point.coords in
    let some = some_lines d lines (some_axes d g.met.P.Point.two_or_three)
    (ap (λ s. length s.object.sides) (sym (c.self.view_is ∙ e)) ∙ c.is_picture.ensures.picture.axes) in
    c.in_ok-near-in-Near.ensures ∙ ap (λ s. with_near s (coords c.in-Near.p) c.in-Near.s) e
    ∙ sym (said_more lines (line_of coords c.args.line.now) some ∙ ap (λ x. said_in (given_sides lines) (lines ++ line_of coords x ∷ [])) c.in-Near.is
    ∙ says_near (given_sides lines) lines (coords c.in-Near.p) (coords c.in-Near.q) c.in-Near.s)

pub returns-in-Del : goal.returns-in-Del
returns-in-Del g c = λ lines e.
    let d = g.P.Point.DIM in
    let coords = g.P.Point.coords in
    let some = some_lines d lines (some_axes d g.met.P.Point.two_or_three)
    (ap (λ s. length s.object.sides) (sym (c.self.view_is ∙ e)) ∙ c.is_picture.ensures.picture.axes) in
    c.delete.ensures ∙ ap (λ s. with_deleted s (coords c.in-Del.p)) e
    ∙ sym (said_more lines (line_of coords c.args.line.now) some ∙ ap (λ x. said_in (given_sides lines) (lines ++ line_of coords x ∷ [])) c.in-Del.is
    ∙ says_del (given_sides lines) lines (coords c.in-Del.p))

pub returns-in_default : goal.returns-in_default
returns-in_default g c = λ lines e.
    let d = g.P.Point.DIM in
    let coords = g.P.Point.coords in
    let some = some_lines d lines (some_axes d g.met.P.Point.two_or_three)
    (ap (λ s. length s.object.sides) (sym (c.self.view_is ∙ e)) ∙ c.is_picture.ensures.picture.axes) in
    e ∙ sym (said_more lines (line_of coords c.args.line.now) some
    ∙ says_nothing (given_sides lines) lines (line_of coords c.args.line.now)
    (is_quiet coords c.args.line.now (λ p q s. c.in_default.not-Near p q s) (λ p. c.in_default.not-Del p)))
