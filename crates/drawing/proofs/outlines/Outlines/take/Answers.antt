use Rattle.std.proofs.Common.{◌≡◌, ℕ, true, List, [], ◌∷◌, ◌++◌, take, refl, sym, subst, ◌∙◌}
use Rattle.shape_space.specs.declared.point.P2.{P2}
use Rattle.shape_refute.specs.declared.naive.Naive.{Naive}
use Rattle.shape_terms.specs.Points.{sides_of}
use Rattle.report_terms.specs.Lines as Terms
use Rattle.shape_report.specs.declared.line.Line.{Line}
use Rattle.shape_report.specs.declared.line.Line.TheVariants.{Shape, Parts, Near, Contour, At, Seg, Least, Gap, Face, Patch, On, Off, Del, Tip, Kept, End}
use Rattle.report_lines.specs.Seen.{flat_line}
use Rattle.drawing.specs.Seen.{flat, flats, all_strokes, all_stretches}
use Rattle.drawing.specs.Outlines as Outlines
use Rattle.drawing.specs.Standing.{HasOutlines}
use Rattle.drawing.proofs.Contours.{begins_contour, adds_point, adds_stretch, adds_nothing}
use Rattle.drawing.proofs.outlines.Outlines.take.Goals as goal

other_line : (sides : List ℕ) (lines : List Terms.Line) (l : Line P2) (kept : Outlines.Kept)
    → ((p : P2) (side n m : ℕ) → l ≡ Contour p side n m → ⊥) → ((p : P2) → l ≡ At p → ⊥) → ((b e : ℕ) (line : Naive) → l ≡ Seg b e line → ⊥)
    → HasOutlines sides lines kept → HasOutlines sides (lines ++ flat_line l ∷ []) kept
other_line box lines (Shape number sides rule) kept _ _ _ h = adds_nothing box lines (flat_line (Shape number sides rule)) kept refl refl refl h
other_line box lines (Parts n o b) kept _ _ _ h = adds_nothing box lines (flat_line (Parts n o b)) kept refl refl refl h
other_line box lines (Near p q s) kept _ _ _ h = adds_nothing box lines (flat_line (Near p q s)) kept refl refl refl h
other_line box lines (Contour p side n m) kept c a s h = absurd (c p side n m refl)
other_line box lines (At p) kept c a s h = absurd (a p refl)
other_line box lines (Seg b e line) kept c a s h = absurd (s b e line refl)
other_line box lines (Least bounds) kept _ _ _ h = adds_nothing box lines (flat_line (Least bounds)) kept refl refl refl h
other_line box lines (Gap t refusal) kept _ _ _ h = adds_nothing box lines (flat_line (Gap t refusal)) kept refl refl refl h
other_line box lines (Face t sense n) kept _ _ _ h = adds_nothing box lines (flat_line (Face t sense n)) kept refl refl refl h
other_line box lines (Patch k a mu) kept _ _ _ h = adds_nothing box lines (flat_line (Patch k a mu)) kept refl refl refl h
other_line box lines (On p) kept _ _ _ h = adds_nothing box lines (flat_line (On p)) kept refl refl refl h
other_line box lines (Off p why) kept _ _ _ h = adds_nothing box lines (flat_line (Off p why)) kept refl refl refl h
other_line box lines (Del p) kept _ _ _ h = adds_nothing box lines (flat_line (Del p)) kept refl refl refl h
other_line box lines (Tip p) kept _ _ _ h = adds_nothing box lines (flat_line (Tip p)) kept refl refl refl h
other_line box lines (Kept n o b) kept _ _ _ h = adds_nothing box lines (flat_line (Kept n o b)) kept refl refl refl h
other_line box lines End kept _ _ _ h = adds_nothing box lines (flat_line End) kept refl refl refl h

pub returns-in_ok-close-in-Contour : goal.returns-in_ok-close-in-Contour
returns-in_ok-close-in-Contour c = λ lines h.
    let sides = sides_of (flat c.args.sides.lengths) in
    let e = c.self.view_is ∙ c.in_ok-close-in-Contour.ensures in
    let l = flat_line (Contour c.in-Contour.p c.in-Contour.side c.in-Contour.points c.in-Contour.segments) in
    let begun = begins_contour sides lines l c.args.self.now refl refl refl h in
    let kept = subst (λ (k : Outlines.Kept). HasOutlines sides (lines ++ l ∷ []) (record k { begun = true })) (sym e) begun in
    let seen : Outlines.Kept =
    record {
      strokes = all_strokes c.self.inside.strokes.items;
      begun = true;
      points = flats c.self.inside.points.items;
      stretches =
          all_stretches c.self.inside.stretches.items;
    } in
    subst (λ (x : Line P2). HasOutlines sides (lines ++ flat_line x ∷ []) seen) (sym c.in-Contour.is) kept

pub returns-in_default : goal.returns-in_default
returns-in_default c = λ lines h. other_line _ lines c.args.line.now c.args.self.now c.in_default.not-Contour c.in_default.not-At c.in_default.not-Seg h

pub returns-in_ok-add_point-in-At : goal.returns-in_ok-add_point-in-At
returns-in_ok-add_point-in-At c = λ lines h.
    let sides = sides_of (flat c.args.sides.lengths) in
    let p = c.in-At.p in
    let k = c.add_point.new.self in
    subst (λ (x : Line P2). HasOutlines sides (lines ++ flat_line x ∷ []) k) (sym c.in-At.is)
    (subst (HasOutlines sides (lines ++ Terms.Line.At (flat p) ∷ [])) (sym c.in_ok-add_point-in-At.ensures) (adds_point sides lines (flat p) c.args.self.now h))

pub returns-in_ok-add_stretch-in-Seg : goal.returns-in_ok-add_stretch-in-Seg
returns-in_ok-add_stretch-in-Seg c = λ lines h.
    let sides = sides_of (flat c.args.sides.lengths) in
    let n = c.in-Seg.line in
    let k = c.add_stretch.new.self in
    let l = flat_line (Seg c.in-Seg.first c.in-Seg.last n) in
    subst (λ (x : Line P2). HasOutlines sides (lines ++ flat_line x ∷ []) k) (sym c.in-Seg.is)
    (subst (HasOutlines sides (lines ++ l ∷ [])) (sym c.in_ok-add_stretch-in-Seg.ensures)
    (adds_stretch sides lines c.in-Seg.first c.in-Seg.last n.axis (take 2 n.a) n.mu c.args.self.now h))
