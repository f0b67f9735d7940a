use Rattle.std.proofs.Common.{◌≡◌, ℕ, ap, sym, ◌∙◌, arith, length, rules, FitsSigned, w32, get_or}
use Rattle.std.specs.Prelude.{nat_abs, ◌||◌}
use Rattle.std.specs.List.{list_any, range_with_len}
use Rattle.std.proofs.lemmas.Int.{to_z-of_z}
use Rattle.std.proofs.lemmas.List.{length-map}
use Rattle.shape_terms.specs.Points.{sides_of, coordinate}
use Rattle.measure_terms.specs.Facts.{at_end}
use Rattle.measuring.proofs.PointFacts.{axis_more, side_is}
use Rattle.measuring.proofs.fact.at_rim.Goals as goal
use Rattle.measuring.proofs.fact.at_rim.Goals.{then-rim, else-rim}

pub loop-k-preserved : goal.loop-k-preserved
loop-k-preserved g c =
    let ns = g.P.Point.coords c.args.sides.lengths in
    let p = g.P.Point.coords c.args.p in
    let k = c.loop-k.k in
    let f = λ (k : ℕ). at_end (get_or (sides_of ns) k 0) (nat_abs (coordinate p k)) in
    let t : FitsSigned w32 c.side.result = search rules in
    let side = ap nat_abs (to_z-of_z w32 c.side.result t ∙ c.side.ensures.value) ∙ sym (side_is ns k) in
    let end : c.at_end-end.result ≡ f k = c.at_end-end.ensures ∙ (λ i. at_end (side i) (c.place.ensures.value i)) in
    elim c.if-rim.branch [
      | then-rim w ↦ w.rim-is ∙ w.if-rim.true ∙ sym (axis_more f k ∙ ap (λ b. b || f k) (sym c.loop-k.invariant ∙ w.if-rim.true))
      | else-rim w ↦ w.rim-is ∙ end ∙ sym (axis_more f k ∙ ap (λ b. b || f k) (sym c.loop-k.invariant ∙ w.if-rim.false))
    ]

pub returns : goal.returns
returns g c =
    let ns = g.P.Point.coords c.args.sides.lengths in
    let p = g.P.Point.coords c.args.p in
    let axes = g.met.P.Point.axes c.args.sides.lengths in
    let l = length-map ns nat_abs in
    let e : c.loop-k.k ≡ length (sides_of ns) = omega arith in
    c.loop-k.invariant ∙ ap (λ n. list_any (λ k. at_end (get_or (sides_of ns) k 0) (nat_abs (coordinate p k))) (range_with_len 0 n)) e
