use Rattle.std.proofs.Common.{ap, refl, sym, ◌∙◌, length, arith}
use Rattle.shape_terms.specs.Points.{box_count}
use Rattle.shape_terms.specs.Pictures.{Picture, object_points}
use Rattle.shape_queue.specs.Keys.{has}
use Rattle.shape_queue.specs.Ranks.{key_at}
use Rattle.shape_thin.proofs.ThinnerSteps.{fits_filled, fits_sides, fits_passed, fits_begun, fits_reached, front_reached, front_gone}
use Rattle.shape_thin.proofs.front.Front.pass.Goals as goal

pub ranked-key-requires : goal.ranked-key-requires
ranked-key-requires g c = record { inside = fits_passed c.requires.fits c.requires.some; some = fits_begun c.requires.fits }

pub overflow_add-self : goal.overflow_add-self
overflow_add-self g c =
    let p = fits_passed c.requires.fits c.requires.some in
    omega (arith, p, fits_filled c.requires.fits, ap box_count (fits_sides c.requires.fits), c.is_picture.ensures.few)

pub has-requires : goal.has-requires
has-requires g c = omega (arith, c.ranked-key.ensures.inside, fits_filled c.requires.fits)

pub set_number-requires : goal.set_number-requires
set_number-requires g c = omega (arith, c.ranked-key.ensures.inside, fits_filled c.requires.fits, ap box_count (fits_sides c.requires.fits))

pub is_simple-simple-requires-clause-below : goal.is_simple-simple-requires-clause-below
is_simple-simple-requires-clause-below g c = omega (arith, c.ranked-key.ensures.inside, fits_filled c.requires.fits)

pub settle_ranked-requires : goal.settle_ranked-requires
settle_ranked-requires g c = record { inside = fits_passed c.requires.fits c.requires.some; some = fits_begun c.requires.fits }

pub returns-then-has-clause-front : goal.returns-then-has-clause-front
returns-then-has-clause-front g c = λ X marked state h.
    front_reached c.ranked-key.result.place c.ranked-key.ensures.inside c.ranked-key.ensures.ranked (sym c.has.ensures ∙ c.if-has.true)
    (has c.settle_ranked.new.self) c.is_simple-simple.result c.is_simple-simple.ensures.simple
    (c.settle_ranked.ensures.put (key_at c.args.self.now.keys.distances c.ranked-key.result.place)
    (record { inside = c.ranked-key.ensures.inside; same = refl; ranked = c.ranked-key.ensures.ranked }))
    _ c.set_number.ensures _ c.settle_ranked.ensures.distances _ (omega (arith, c.requires.some)) X marked state h

pub returns-then-has-clause-room : goal.returns-then-has-clause-room
returns-then-has-clause-room g c =
    let e = ap (λ (Y : Picture). length (object_points Y)) c.set_number.ensures in
    let r = fits_reached c.requires.fits c.ranked-key.result.place c.ranked-key.ensures.inside c.ranked-key.ensures.ranked (sym c.has.ensures ∙ c.if-has.true)
    in
    omega (arith, e, r, c.requires.some)

pub returns-else-has-clause-front : goal.returns-else-has-clause-front
returns-else-has-clause-front g c = λ X marked state h.
    front_gone c.ranked-key.result.place c.ranked-key.ensures.inside c.ranked-key.ensures.ranked (sym c.has.ensures ∙ c.if-has.false) X marked state h
