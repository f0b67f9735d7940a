use Rattle.std.proofs.Common.{◌≡◌, ◌<◌, ◌^◌, ℕ, List, length, map, get_or, ap, sym, subst, ◌∙◌, arith}
use Rattle.std.proofs.lemmas.List.{length-map}
use Rattle.std.proofs.lemmas.Result.{IfOk-weaker}
use Rattle.shape_thickness.specs.Greatest.{AreGreatest, greatest_squares}
use Rattle.shape_thickness.proofs.GreatestSquares.{greatest_squares_are}
use Rattle.masking.specs.Pictures.{told_square}
use Rattle.masking.proofs.ThicknessLaws.{told_same}
use Rattle.masking.proofs.thickness.greatest_balls.Goals as goal

pub returns-in-Some : goal.returns-in-Some
returns-in-Some g c =
    let X = c.args.object.now in
    let squares = c.args.squares.now in
    let short = c.in-Some.short.now in
    let same : short ≡ squares = c.in-Some.ensures.same in
    let told : map told_square squares ≡ squares = told_same squares (λ k _. subst (λ (xs : List ℕ). get_or xs k 0 < 2 ^ 32) same (c.in-Some.ensures.few k)) in
    IfOk-weaker c.greatest.result (λ v. AreGreatest X short v.items) (λ v. v.items ≡ greatest_squares X (map told_square squares))
    (λ v h. greatest_squares_are X short v.items h ∙ ap (greatest_squares X) (same ∙ sym told)) c.greatest.ensures

pub returns : goal.returns
returns g c =
    let X = c.args.object.now in
    let told = c.as_slice.result.now in
    IfOk-weaker c.greatest-2.result (λ v. AreGreatest X told v.items) (λ v. v.items ≡ greatest_squares X (map told_square c.args.squares.now))
    (λ v h. greatest_squares_are X told v.items h ∙ ap (greatest_squares X) (c.as_slice.ensures.value ∙ c.in_ok-told.ensures)) c.greatest-2.ensures
