use Rattle.std.proofs.Common.{◌≡◌, inl, inr, ap, sym, ◌∙◌, subst, arith}
use Rattle.std.specs.Prelude.{IsTrue, vec_capacity}
use Rattle.std.proofs.lemmas.Bool.{false≢true}
use Rattle.shape_terms.specs.Points.{box_count, raster_point}
use Rattle.shape_terms.specs.Pictures.{at}
use Rattle.shape_terms.specs.Adjacency.{Near}
use Rattle.judge_outline.specs.Terms.{point_of}
use Rattle.judge_outline.proofs.Numbering.{room_more, numbered_with}
use Rattle.judge_outline.proofs.beside.put_near.Goals as goal
use Rattle.judge_outline.proofs.beside.put_near.Goals.{then-not-has_number-via-then-not-has_number, then-not-has_number-via-else-not-has_number+then-not-are_near}

pub put-requires-clause-room : goal.put-requires-clause-room
put-requires-clause-room c =
    let left = c.args.left.now in
    let marks = c.args.marks.now in
    let object : IsTrue (at left (raster_point marks.sides c.args.i)) =
    ap (λ s. at left (raster_point s c.args.i)) c.requires.box_ ∙ sym c.has_number.ensures ∙ c.if-not-has_number.false in
    room_more left marks c.args.numbers.now.items (vec_capacity c.args.numbers.now) c.requires.numbered c.args.i
    (omega (arith, c.requires.place, ap box_count c.requires.box_)) object

pub returns-then-not-has_number-clause-points : goal.returns-then-not-has_number-clause-points
returns-then-not-has_number-clause-points c = λ r. (
  λ a. inl a,
  λ b. elim b [
    | inl a ↦ a
    | inr s ↦ absurd (elim c.then-not-has_number.branch [
      | then-not-has_number-via-then-not-has_number w ↦
          false≢true (sym w.if-not-has_number.true ∙ c.has_number.ensures ∙ ap (at c.args.left.now) (c.requires.number ∙ s.0) ∙ s.1)
      | then-not-has_number-via-else-not-has_number+then-not-are_near w ↦
          false≢true (sym w.if-not-are_near.true ∙ w.are_near.ensures.1 (subst (λ z. Near z (point_of c.args.p)) (sym s.0) s.2))
    ])
  ],
)

pub returns-clause-numbered : goal.returns-clause-numbered
returns-clause-numbered c =
    let left = c.args.left.now in
    let marks = c.args.marks.now in
    let object : IsTrue (at left (raster_point marks.sides c.args.i)) =
    ap (λ s. at left (raster_point s c.args.i)) c.requires.box_ ∙ sym c.has_number.ensures ∙ c.if-not-has_number.false in
    numbered_with left marks c.args.numbers.now.items (vec_capacity c.args.numbers.now) c.requires.numbered c.args.i c.put.new.marks c.put.new.numbers.items
    (vec_capacity c.put.new.numbers) object c.put.ensures.numbered c.put.ensures.points c.put.ensures.capacity

pub returns-clause-points : goal.returns-clause-points
returns-clause-points c =
    let left = c.args.left.now in
    let marks = c.args.marks.now in
    let p = point_of c.args.p in
    let here : raster_point marks.sides c.args.i ≡ point_of c.args.q = ap (λ s. raster_point s c.args.i) c.requires.box_ ∙ c.requires.number in
    let object : IsTrue (at left (point_of c.args.q)) = ap (at left) (sym c.requires.number) ∙ sym c.has_number.ensures ∙ c.if-not-has_number.false in
    let near = c.are_near.ensures.0 c.if-not-are_near.false in
    λ r. (
      λ a. elim ((c.put.ensures.points r).0 a) [
        | inl o ↦ inl o
        | inr s ↦ (
            let e = sym here ∙ s in
            inr (e, subst (λ z. IsTrue (at left z)) e object, subst (λ z. Near z p) e near))
      ],
      λ b. elim b [ inl o ↦ (c.put.ensures.points r).1 (inl o) | inr s ↦ (c.put.ensures.points r).1 (inr (here ∙ s.0)) ],
    )
