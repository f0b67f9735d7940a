use Rattle.std.proofs.Common.{◌≡◌, ◌<◌, ◌≤◌, ◌++◌, ◌∷◌, ap, ◌∙◌, arith, length, get_or, pos, to_z, of_z}
use Rattle.std.specs.Int.{w32, w64}
use Rattle.std.specs.Fmt.{signed_decimal}
use Rattle.std.proofs.Math.Facts.{to_z-of_z}
use Rattle.std.proofs.lemmas.List.{take_all}
use Rattle.report_text.specs.Spelling.{behind_blanks}
use Rattle.report_text.proofs.Behind.{one_behind, number_words}
use Rattle.report_text.proofs.text.Text.point.Goals as goal

pub number-requires : goal.number-requires
number-requires g c = grind (arith, c.DIM-k-end.ensures, g.met.P.Point.two_or_three)

pub loop-k-preserved : goal.loop-k-preserved
loop-k-preserved g c =
    let l = c.loop-k in
    let p = g.P.Point.coords c.args.p in
    let e : to_z w64 (of_z w64 c.from.result) ≡ get_or p l.k (pos 0) =
    to_z-of_z {w = w64} (record { sfits = c.from.type_inv }) ∙ c.from.ensures ∙ to_z-of_z {w = w32} (record { sfits = c.coord.type_inv }) ∙ c.coord.ensures in
    let h : l.k < length p = omega (arith, c.DIM-k-end.ensures, g.met.P.Point.axes c.args.p) in
    record {
      text = one_behind c.args.self.now l.self c.number.new.self p l.k h l.invariant.text (c.number.ensures.text ∙ ap (λ z. l.self ++ 32 ∷ signed_decimal z) e);
      room = omega (arith, c.number.ensures.room);
    }

pub returns-clause-text : goal.returns-clause-text
returns-clause-text g c =
    let p = g.P.Point.coords c.args.p in
    let h : length p ≤ c.loop-k.k = omega (arith, c.DIM-k-end.ensures, g.met.P.Point.axes c.args.p) in
    c.loop-k.invariant.text ∙ ap (λ q. c.args.self.now ++ behind_blanks (number_words q)) (take_all c.loop-k.k p h)

pub returns-clause-room : goal.returns-clause-room
returns-clause-room g c = omega (arith, c.DIM-k-end.ensures, g.met.P.Point.two_or_three)
