use Rattle.std.proofs.Common.{ap, sym, ◌∙◌, length, arith}
use Rattle.shape_terms.specs.Adjacency.{near_steps}
use Rattle.shape_thin.proofs.ThinnerSteps.{some_fits, all_fits, fits_on, one_less, marked_fits, marked_goes, deleted_filled, deleted_sides, deleted_some}
use Rattle.shape_thin.proofs.ThinnerSteps.{deleted_far, deleted_masked, deleted_fits, deleted_goes}
use Rattle.shape_thin.proofs.thinner.Thinner.settle.Goals as goal

pub advance-requires : goal.advance-requires
advance-requires g c = marked_fits c.requires c.take.ensures (some_fits c.args.self.now.fits)

pub invariant_of-self : goal.invariant_of-self
invariant_of-self g c = record {
  fits = all_fits (fits_on c.advance.ensures.front (marked_fits c.requires c.take.ensures (some_fits c.args.self.now.fits))) c.advance.ensures.done;
}

pub returns-then-tips-clause-stands : goal.returns-then-tips-clause-stands
returns-then-tips-clause-stands g c = rw c.if-tips.true (marked_goes c.requires c.take.ensures c.advance.ensures.front)

pub returns-then-tips-clause-room : goal.returns-then-tips-clause-room
returns-then-tips-clause-room g c =
    let l = one_less c.requires c.take.ensures (some_fits c.args.self.now.fits) in
    omega (arith, l, c.advance.ensures.room, c.take.ensures.ahead)

pub look_round-requires-clause-sides : goal.look_round-requires-clause-sides
look_round-requires-clause-sides g c = deleted_sides c.requires c.take.ensures c.clear.ensures (some_fits c.args.self.now.fits)

pub look_round-requires-clause-some : goal.look_round-requires-clause-some
look_round-requires-clause-some g c = deleted_some c.requires c.take.ensures c.clear.ensures (some_fits c.args.self.now.fits)

pub look_round-requires-clause-filled : goal.look_round-requires-clause-filled
look_round-requires-clause-filled g c = deleted_filled c.requires c.take.ensures c.clear.ensures (some_fits c.args.self.now.fits)

pub look_round-requires-clause-far : goal.look_round-requires-clause-far
look_round-requires-clause-far g c = deleted_far c.requires c.take.ensures c.clear.ensures (some_fits c.args.self.now.fits)

pub look_round-requires-clause-masked : goal.look_round-requires-clause-masked
look_round-requires-clause-masked g c = λ j l o.
    let axes = g.met.P.Pairing.near_total ∙ ap (λ d. length (near_steps d)) (sym (g.met.P.Point.axes c.args.next.now.point)) in
    deleted_masked c.requires c.take.ensures c.clear.ensures (some_fits c.args.self.now.fits) j (omega (arith, l, axes)) o

pub advance-requires-2 : goal.advance-requires-2
advance-requires-2 g c =
    deleted_fits c.requires c.take.ensures c.clear.ensures c.look_round.ensures.distances c.look_round.ensures.waits (some_fits c.args.self.now.fits)

pub invariant_of-self-2 : goal.invariant_of-self-2
invariant_of-self-2 g c =
    let fits = deleted_fits c.requires c.take.ensures c.clear.ensures c.look_round.ensures.distances c.look_round.ensures.waits (some_fits c.args.self.now.fits)
    in
    record { fits = all_fits (fits_on c.advance-2.ensures.front fits) c.advance-2.ensures.done }

pub returns-clause-stands : goal.returns-clause-stands
returns-clause-stands g c = rw c.if-tips.false
    (deleted_goes c.requires c.take.ensures c.clear.ensures c.look_round.ensures.distances c.look_round.ensures.waits c.advance-2.ensures.front)

pub returns-clause-room : goal.returns-clause-room
returns-clause-room g c =
    let l = one_less c.requires c.take.ensures (some_fits c.args.self.now.fits) in
    omega (arith, l, c.advance-2.ensures.room, c.take.ensures.ahead)
