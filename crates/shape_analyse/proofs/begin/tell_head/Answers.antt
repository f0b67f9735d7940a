use Rattle.std.proofs.Common.{◌≡◌, ◌≤◌, [], ◌∷◌, ◌++◌, ap, length, inl, inr, arith, rules, refl, subst, sym, ◌∙◌}
use Rattle.report_terms.specs.Forms.{last_number}
use Rattle.report_terms.specs.Lines.{Line, line_text, IsLineOf}
use Rattle.shape_terms.specs.Parts.{Counts}
use Rattle.report_text.specs.Telling.{TellsMore}
use Rattle.report_text.proofs.Telling.{tells_as}
use Rattle.shape_rules.specs.Names.{word_of}
use Rattle.shape_analyse.specs.Growing.{aim_of, heading_of, IsGrowing}
use Rattle.shape_analyse.proofs.Growth.{tells_line, heading_fits, growing_none}
use Rattle.shape_analyse.proofs.begin.tell_head.Goals as goal

pub returns-clause-told : goal.returns-clause-told
returns-clause-told g c =
    let X = c.args.grid.now in
    let s = c.sides-sides.result in
    let w = c.sides-sides.ensures.picture in
    let sides = g.P.Point.coords s.lengths in
    let rule = c.args.rule in
    let n = c.count.result in
    let parts = c.args.counted in
    let axes : length sides ≡ length X.sides = g.met.P.Point.axes s.lengths ∙ sym w.axes in
    let three : length X.sides ≤ 3 = elim g.met.P.Point.two_or_three [ inl d ↦ omega (arith, w.axes, d) | inr d ↦ omega (arith, w.axes, d) ] in
    let first = heading_fits g.P.Point.MAX_SIDE (length X.sides) sides (word_of rule) s.in_range g.met.P.Point.flat_side axes rule.is_name in
    let second : IsLineOf (length X.sides) (Line.Parts n parts.object parts.background) = search rules in
    let counts : Counts X n parts.object parts.background = rw c.count.ensures c.requires in
    let same : c.last_number.result ≡ last_number (length X.sides) = c.last_number.ensures.value ∙ ap last_number (sym w.axes) in
    let state = g.D.Desk.state in
    let told = subst (λ n. TellsMore (line_text (Line.Shape (record { number = n; sides = sides; rule = word_of rule }))) c.args.page.now c.line.new.self
    (state c.args.desk.now) (state c.line.new.desk)) same c.line.ensures in
    λ shelf by begun on start.
    let aim = aim_of X shelf (word_of rule) by in
    let head = Line.Shape (heading_of aim sides) in
    let second_line = Line.Parts n parts.object parts.background in
    let growing = growing_none g.P.Point.MAX_SIDE aim sides n parts.object parts.background s.in_range c.sides-sides.ensures.value three first on second counts
    in
    let none = tells_as (λ text e. record { lines = []; is = e; so = refl }) start in
    let one = tells_line {Was = λ lines. lines ≡ []} {IsSo = λ lines. lines ≡ head ∷ []} head told (λ lines e. ap (λ ls. ls ++ head ∷ []) e) none in
    tells_line second_line c.line-2.ensures (λ lines e. subst (λ ls. IsGrowing aim 0 (ls ++ second_line ∷ [])) (sym e) growing) one
