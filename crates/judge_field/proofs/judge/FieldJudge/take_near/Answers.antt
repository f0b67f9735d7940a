use Rattle.std.proofs.Common.{◌≡◌, ◌+◌, ℕ, List, length, Some, true, false, refl, sym, ap, subst, ◌∙◌}
use Rattle.std.proofs.lemmas.Bool.{false≢true}
use Rattle.std.specs.Prelude.{slice_get}
use Rattle.shape_terms.specs.Points.{Point, raster_point}
use Rattle.shape_terms.specs.Pictures.{Picture, object_points, Least}
use Rattle.report_terms.specs.Lines as Terms
use Rattle.report_terms.specs.Sections.{NearClaim}
use Rattle.judge_field.specs.FieldState.{FieldState}
use Rattle.judge_field.proofs.NextPoint.{some_same, next_is, none_is, next_left, next_is_object, stands_push}
use Rattle.judge_field.proofs.judge.FieldJudge.take_near.Goals as goal

-- a point of the picture that was scanned, by the sides of its grid
of_sides : (X Y : Picture) (sides : List ℕ) (i : ℕ) → sides ≡ Y.sides → Y ≡ X → raster_point sides i ≡ raster_point X.sides i
of_sides X Y sides i e f = ap (λ s. raster_point s i) (e ∙ ap (λ (Z : Picture). Z.sides) f)

pub returns-in_default-clause-answer : goal.returns-in_default-clause-answer
returns-in_default-clause-answer g c =
    let i = c.self.inside in
    λ lines s. (
      λ f. absurd (false≢true f),
      λ claim. absurd (none_is c.args.self.now i.scans i.objects i.next i.taken c.self.view_is c.self.invariant
          (rw c.grid-grid.ensures at c.in_default.ensures.next) lines s (g.P.Point.coords c.args.p) claim.0),
    )

pub returns-then-not-has_number-clause-answer : goal.returns-then-not-has_number-clause-answer
returns-then-not-has_number-clause-answer g c =
    let i = c.self.inside in
    let next = next_is c.args.self.now i.scans i.objects i.next i.taken c.in-Some.i c.self.view_is c.self.invariant
    (rw c.grid-grid.ensures at c.in-Some.ensures.next) in
    λ lines s. (
      λ f. absurd (false≢true f),
      λ claim.
          let is : g.P.Point.coords c.args.p ≡ raster_point i.scans.sides c.in-Some.i = some_same _ _ (sym claim.0 ∙ next lines s) in
          let same = of_sides i.scans _ _ c.in-Some.i c.sides.ensures.value c.grid-grid.ensures in
          absurd (false≢true (sym c.if-not-has_number.true ∙ c.has_number.ensures.1 (is ∙ sym same))),
    )

pub is_least-requires : goal.is_least-requires
is_least-requires g c =
    let i = c.self.inside in
    let is : g.P.Point.coords c.args.p ≡ raster_point i.scans.sides c.in-Some.i = c.has_number.ensures.0 c.if-not-has_number.false
    ∙ of_sides i.scans _ _ c.in-Some.i c.sides.ensures.value c.grid-grid.ensures in
    rw is (next_is_object i.scans i.next (raster_point i.scans.sides c.in-Some.i) _ (rw c.grid-grid.ensures at c.in-Some.ensures.next))

pub invariant_of-self : goal.invariant_of-self
invariant_of-self g c =
    let i = c.self.inside in
    (next_left i.scans i.objects i.next i.taken c.in-Some.i c.self.invariant (rw c.grid-grid.ensures at c.in-Some.ensures.next)).1

-- the line's claim, from what the tests found
claim : (old : FieldState) (X : Picture) (lines : List Terms.Line) (p q r : Point) (s : ℕ) → old.picture ≡ X → p ≡ r
    → slice_get (object_points old.picture) (length lines) ≡ Some r → Least X p q s → NearClaim old.picture lines (Terms.Line.Near p q s)
claim old X lines p q r s same e at least = (at ∙ ap Some (sym e), rw same least)

pub returns-clause-answer : goal.returns-clause-answer
returns-clause-answer g c =
    let i = c.self.inside in
    let next = next_is c.args.self.now i.scans i.objects i.next i.taken c.in-Some.i c.self.view_is c.self.invariant
    (rw c.grid-grid.ensures at c.in-Some.ensures.next) in
    let is : g.P.Point.coords c.args.p ≡ raster_point i.scans.sides c.in-Some.i = c.has_number.ensures.0 c.if-not-has_number.false
    ∙ of_sides i.scans _ _ c.in-Some.i c.sides.ensures.value c.grid-grid.ensures in
    let picture = ap (λ (t : FieldState). t.picture) (sym c.self.view_is) in
    let least = c.is_least.ensures.0 c.if-not-is_least.false in
    λ lines s. (
      λ t. claim c.args.self.now i.scans lines (g.P.Point.coords c.args.p) (g.P.Point.coords c.args.q) (raster_point i.scans.sides c.in-Some.i) c.args.s
          picture is (next lines s) least,
      λ h. refl,
    )

pub returns-clause-stands : goal.returns-clause-stands
returns-clause-stands g c =
    let i = c.self.inside in
    let l = Terms.Line.Near (g.P.Point.coords c.args.p) (g.P.Point.coords c.args.q) c.args.s in
    λ lines s. stands_push c.args.self.now (record { picture = i.scans; taken = i.taken + 1 }) lines l (ap (λ (t : FieldState). t.picture) c.self.view_is)
    (ap (λ (t : FieldState). t.taken + 1) c.self.view_is) s ((returns-clause-answer g c lines s).0 refl)
