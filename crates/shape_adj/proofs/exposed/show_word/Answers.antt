use Rattle.std.proofs.Common.{◌≡◌, ◌+◌, ◌<◌, ◌^◌, ℕ, length, ap, arith}
use Rattle.std.specs.Int.Count.{count_trailing_zeros}
use Rattle.shape_terms.specs.Points.{box_count}
use Rattle.shape_adj.proofs.LowestBits.{less_bit, lowest_in, less_falls}
use Rattle.shape_adj.proofs.Gaining.{Done, gains_one, gains_more, done_more, part_less}
use Rattle.shape_adj.proofs.exposed.show_word.Goals as goal

pub overflow_add-first : goal.overflow_add-first
overflow_add-first g c =
    let rest = c.loop-rest.rest in
    let k = count_trailing_zeros 64 rest in
    let b : c.args.first + k < box_count c.args.exposed.now.sides = c.requires k (c.loop-rest.invariant.part k (lowest_in rest (omega arith) (omega arith))) in
    let few = c.is_picture.ensures.few in
    omega (arith, b, few)

pub overflow_cast-first : goal.overflow_cast-first
overflow_cast-first g c =
    let rest = c.loop-rest.rest in
    let k = count_trailing_zeros 64 rest in
    let b : c.args.first + k < box_count c.args.exposed.now.sides = c.requires k (c.loop-rest.invariant.part k (lowest_in rest (omega arith) (omega arith))) in
    let few = c.is_picture.ensures.few in
    omega (arith, b, few)

pub set_number-requires : goal.set_number-requires
set_number-requires g c =
    let rest = c.loop-rest.rest in
    let k = count_trailing_zeros 64 rest in
    let b : c.args.first + k < box_count c.args.exposed.now.sides = c.requires k (c.loop-rest.invariant.part k (lowest_in rest (omega arith) (omega arith))) in
    let e = ap box_count c.loop-rest.invariant.gains.sides in
    omega (arith, b, e)

pub loop-rest-smaller : goal.loop-rest-smaller
loop-rest-smaller g c = less_falls c.loop-rest.rest (omega arith) (omega arith)

pub loop-rest-preserved : goal.loop-rest-preserved
loop-rest-preserved g c =
    let rest = c.loop-rest.rest in
    let k = count_trailing_zeros 64 rest in
    let small : rest < 2 ^ 64 = omega arith in
    let more : 0 < rest = omega arith in
    let word = c.args.word in
    let first = c.args.first in
    let old = c.args.exposed.now in
    let i = c.loop-rest.invariant in
    let b : first + k < box_count old.sides = c.requires k (i.part k (lowest_in rest small more)) in
    let filled = c.is_picture.ensures.picture.filled in
    let within : first + k < length c.loop-rest.exposed.values = (let f = i.gains.filled in omega (arith, b, filled, f)) in
    record {
      part = part_less word first rest small more i.part;
      gains = gains_more old c.loop-rest.exposed c.set_number.new.self (Done word first rest) (λ (n : ℕ). n ≡ first + k) (Done word first (less_bit rest k))
          i.gains (gains_one c.loop-rest.exposed c.set_number.new.self (first + k) within c.set_number.ensures) (done_more word first rest small more i.part);
    }
