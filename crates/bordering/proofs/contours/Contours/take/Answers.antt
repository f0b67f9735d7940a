use Rattle.std.proofs.Common.{◌≡◌, ℕ, List, [], ◌∷◌, ◌++◌, take, refl, sym, subst, ap, ◌∙◌}
use Rattle.shape_space.specs.declared.point.P2.{P2}
use Rattle.shape_refute.specs.declared.naive.Naive.{Naive}
use Rattle.report_terms.specs.Lines as Terms
use Rattle.shape_report.specs.declared.line.Line.{Line}
use Rattle.shape_report.specs.declared.line.Line.TheVariants.{Shape, Parts, Near, Contour, At, Seg, Least, Gap, Face, Patch, On, Off, Del, Tip, Kept, End}
use Rattle.bordering.specs.Told.{flat, flat_line}
use Rattle.bordering.specs.Kept as Keep
use Rattle.bordering.specs.Kept.{HasBorders}
use Rattle.bordering.proofs.Keeping.{begins_contour, adds_point, adds_segment, adds_nothing}
use Rattle.bordering.proofs.contours.Contours.take.Goals as goal

other_line : (lines : List Terms.Line) (l : Line P2) (kept : Keep.Kept)
    → ((p : P2) (side n m : ℕ) → l ≡ Contour p side n m → ⊥) → ((p : P2) → l ≡ At p → ⊥) → ((b e : ℕ) (line : Naive) → l ≡ Seg b e line → ⊥)
    → HasBorders lines kept → HasBorders (lines ++ flat_line l ∷ []) kept
other_line lines (Shape number sides rule) kept _ _ _ h = adds_nothing lines (flat_line (Shape number sides rule)) kept refl refl refl h
other_line lines (Parts n o b) kept _ _ _ h = adds_nothing lines (flat_line (Parts n o b)) kept refl refl refl h
other_line lines (Near p q s) kept _ _ _ h = adds_nothing lines (flat_line (Near p q s)) kept refl refl refl h
other_line lines (Contour p side n m) kept c a s h = absurd (c p side n m refl)
other_line lines (At p) kept c a s h = absurd (a p refl)
other_line lines (Seg b e line) kept c a s h = absurd (s b e line refl)
other_line lines (Least bounds) kept _ _ _ h = adds_nothing lines (flat_line (Least bounds)) kept refl refl refl h
other_line lines (Gap t refusal) kept _ _ _ h = adds_nothing lines (flat_line (Gap t refusal)) kept refl refl refl h
other_line lines (Face t sense n) kept _ _ _ h = adds_nothing lines (flat_line (Face t sense n)) kept refl refl refl h
other_line lines (Patch k a mu) kept _ _ _ h = adds_nothing lines (flat_line (Patch k a mu)) kept refl refl refl h
other_line lines (On p) kept _ _ _ h = adds_nothing lines (flat_line (On p)) kept refl refl refl h
other_line lines (Off p why) kept _ _ _ h = adds_nothing lines (flat_line (Off p why)) kept refl refl refl h
other_line lines (Del p) kept _ _ _ h = adds_nothing lines (flat_line (Del p)) kept refl refl refl h
other_line lines (Tip p) kept _ _ _ h = adds_nothing lines (flat_line (Tip p)) kept refl refl refl h
other_line lines (Kept n o b) kept _ _ _ h = adds_nothing lines (flat_line (Kept n o b)) kept refl refl refl h
other_line lines End kept _ _ _ h = adds_nothing lines (flat_line End) kept refl refl refl h

pub returns-in_ok-begin-in-Contour : goal.returns-in_ok-begin-in-Contour
returns-in_ok-begin-in-Contour c = λ lines h.
    let l = flat_line (Contour c.in-Contour.p c.in-Contour.side c.in-Contour.points c.in-Contour.segments) in
    let k = c.begin.new.self in
    subst (λ (x : Line P2). HasBorders (lines ++ flat_line x ∷ []) k) (sym c.in-Contour.is)
    (subst (HasBorders (lines ++ l ∷ [])) (sym c.in_ok-begin-in-Contour.ensures)
    (begins_contour lines (flat c.in-Contour.p) c.in-Contour.side c.in-Contour.points c.in-Contour.segments c.args.self.now h))

pub returns-in_default : goal.returns-in_default
returns-in_default c = λ lines h. other_line lines c.args.line.now c.args.self.now c.in_default.not-Contour c.in_default.not-At c.in_default.not-Seg h

pub returns-in_ok-add_point-in-At : goal.returns-in_ok-add_point-in-At
returns-in_ok-add_point-in-At c = λ lines h.
    let p = c.in-At.p in
    let k = c.add_point.new.self in
    subst (λ (x : Line P2). HasBorders (lines ++ flat_line x ∷ []) k) (sym c.in-At.is)
    (subst (HasBorders (lines ++ Terms.Line.At (flat p) ∷ [])) (sym c.in_ok-add_point-in-At.ensures) (adds_point lines (flat p) c.args.self.now h))

pub returns-in_ok-add_segment-in-Seg : goal.returns-in_ok-add_segment-in-Seg
returns-in_ok-add_segment-in-Seg c = λ lines h.
    let n = c.in-Seg.line in
    let k = c.add_segment.new.self in
    let l = flat_line (Seg c.in-Seg.first c.in-Seg.last n) in
    let put = c.in_ok-add_segment-in-Seg.ensures ∙ ap (Keep.with_segment c.args.self.now) c.run_along.ensures in
    subst (λ (x : Line P2). HasBorders (lines ++ flat_line x ∷ []) k) (sym c.in-Seg.is)
    (subst (HasBorders (lines ++ l ∷ [])) (sym put) (adds_segment lines c.in-Seg.first c.in-Seg.last n.axis (take 2 n.a) n.mu c.args.self.now h))
