use Rattle.std.proofs.Common.{◌≡◌, [], ◌∷◌, ap, sym, ◌∙◌, refl, ℕ, ◌<◌, length, arith, inl, inr, replicate}
use Rattle.std.specs.Prelude.{◌⊎◌, nat_abs}
use Rattle.std.proofs.lemmas.List.{length-map}
use Rattle.shape_terms.specs.Points.{sides_of}
use Rattle.shape_report.specs.LineOf.{line_of}
use Rattle.report_lines.specs.Said.{given_sides, is_near, is_deleted, is_left, square_of}
use Rattle.report_lines.proofs.BoxValues.{values_equal, picture_blank}
use Rattle.report_lines.proofs.Saying.{said_first, heading_quiet}
use Rattle.report_lines.proofs.seen.Seen.new.Goals as goal

some_axes : (d : ℕ) → (d ≡ 2) ⊎ (d ≡ 3) → 0 < d
some_axes d (inl e) = omega (arith, e)
some_axes d (inr e) = omega (arith, e)

pub returns : goal.returns
returns g c =
    let coords = g.P.Point.coords in
    let h = c.args.heading.now in
    let sides = sides_of (coords h.sides.lengths) in
    let o = c.in_ok-object.ensures ∙ picture_blank sides (is_near []) (λ p. refl) in
    let s = c.in_ok-squares.ensures ∙ ap (λ n. replicate n 0) c.count-count.ensures.value ∙ values_equal sides (square_of []) 0 (λ p. refl) in
    let d = c.in_ok-deleted.ensures ∙ picture_blank sides (is_deleted []) (λ p. refl) in
    let l = c.in_ok-left.ensures ∙ picture_blank sides (is_left []) (λ p. refl) in
    let n = length-map (coords h.sides.lengths) nat_abs ∙ g.met.P.Point.axes h.sides.lengths in
    let some : 0 < length (given_sides (line_of coords h.line ∷ [])) = omega (arith, n, some_axes g.P.Point.DIM g.met.P.Point.two_or_three, ap length h.given)
    in
    (λ i. record { object = o i; squares = s i; deleted = d i; left = l i })
    ∙ sym (said_first sides (line_of coords h.line) (heading_quiet (line_of coords h.line) some) h.given)
