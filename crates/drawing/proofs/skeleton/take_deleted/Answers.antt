use Rattle.std.proofs.Common.{◌≡◌, true, [], ◌∷◌, ◌++◌, refl, ap, sym, subst, ◌∙◌}
use Rattle.std.specs.Prelude.{filter_map}
use Rattle.shape_space.specs.declared.point.P2.{P2}
use Rattle.shape_terms.specs.Points.{in_box}
use Rattle.report_terms.specs.Lines as Terms
use Rattle.shape_report.specs.declared.line.Line.{Line}
use Rattle.shape_report.specs.declared.line.Line.TheVariants.{Shape, Parts, Near, Contour, At, Seg, Least, Gap, Face, Patch, On, Off, Del, Tip, Kept, End}
use Rattle.report_lines.specs.Seen.{flat_line}
use Rattle.drawing.specs.Seen.{flat}
use Rattle.report_lines.specs.Said.{deleted_point}
use Rattle.drawing.specs.Standing.{HasDeleted}
use Rattle.drawing.proofs.Deleting.{deletes, deletes_outside, keeps_deleted}
use Rattle.drawing.proofs.skeleton.take_deleted.Goals as goal

deletes_none : (l : Line P2) → ((p : P2) → l ≡ Del p → ⊥) → filter_map deleted_point (flat_line l ∷ []) ≡ []
deletes_none (Shape number sides rule) h = refl
deletes_none (Parts n o b) h = refl
deletes_none (Near p q s) h = refl
deletes_none (Contour p side n m) h = refl
deletes_none (At p) h = refl
deletes_none (Seg b e line) h = refl
deletes_none (Least bounds) h = refl
deletes_none (Gap t refusal) h = refl
deletes_none (Face t sense n) h = refl
deletes_none (Patch k a mu) h = refl
deletes_none (On p) h = refl
deletes_none (Off p why) h = refl
deletes_none (Del p) h = absurd (h p refl)
deletes_none (Tip p) h = refl
deletes_none (Kept n o b) h = refl
deletes_none End h = refl

pub returns-then-inside : goal.returns-then-inside
returns-then-inside c = λ sides lines h.
    let X = c.args.deleted.now in
    let p = flat c.in-Del.p in
    let inside : in_box X.sides p ≡ true = ap (λ s. in_box s p) (sym c.sides.ensures.value) ∙ sym c.inside.ensures ∙ c.if-inside.true in
    subst (λ (x : Line P2). HasDeleted sides (lines ++ flat_line x ∷ []) c.set.new.self) (sym c.in-Del.is)
    (subst (HasDeleted sides (lines ++ Terms.Line.Del p ∷ [])) (sym c.set.ensures) (deletes sides lines p X inside h))

pub returns-else-inside : goal.returns-else-inside
returns-else-inside c = λ sides lines h.
    let X = c.args.deleted.now in
    let p = flat c.in-Del.p in
    let outside = ap (λ s. in_box s p) (sym c.sides.ensures.value) ∙ sym c.inside.ensures ∙ c.if-inside.false in
    subst (λ (x : Line P2). HasDeleted sides (lines ++ flat_line x ∷ []) X) (sym c.in-Del.is) (deletes_outside sides lines p X outside h)

pub returns-in_default : goal.returns-in_default
returns-in_default c = λ sides lines h. keeps_deleted sides lines (flat_line c.args.line.now) c.args.deleted.now
    (deletes_none c.args.line.now c.in_default.not-Del) h
