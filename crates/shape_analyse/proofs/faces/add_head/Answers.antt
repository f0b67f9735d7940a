use Rattle.std.proofs.Common.{◌≡◌, ◌++◌, length, take, rules, subst, to_z, of_z, w64}
use Rattle.std.specs.Prelude.{FitsSigned}
use Rattle.std.proofs.lemmas.Int.{to_z-of_z}
use Rattle.report_terms.specs.Lines.{Line, line_text, IsLineOf}
use Rattle.shape_analyse.proofs.Growth.{text_more, text_behind}
use Rattle.shape_analyse.proofs.FaceGrowth.{patch_begun}
use Rattle.shape_analyse.proofs.faces.add_head.Goals as goal

pub returns : goal.returns
returns c =
    let n = c.naive-plane.result in
    let x = c.args.patch.now.found in
    let a = take 3 n.a in
    let own : IsLineOf 3 (Line.Patch c.len.result a n.mu) = search rules in
    let fields = subst (λ m. IsLineOf 3 (Line.Patch m a n.mu)) c.len.ensures own in
    let fits : FitsSigned w64 n.mu = search rules in
    let copied : to_z w64 (of_z w64 n.mu) ≡ n.mu = to_z-of_z w64 n.mu fits in
    let text = subst (λ z. c.add.new.self ≡ c.args.report.now ++ line_text (Line.Patch (length x.patch.points) a z)) copied
    (subst (λ m. c.add.new.self ≡ c.args.report.now ++ line_text (Line.Patch m a (to_z w64 (of_z w64 n.mu)))) c.len.ensures c.in_ok-add.ensures.ok) in
    λ X f found left before are h.
    text_more _ _ _ h.lines (Line.Patch (length x.patch.points) a n.mu) h.is (text_behind before _ _ text)
    (patch_begun X f found left x are h.lines a n.mu h.so c.naive-plane.ensures.plane fields)
