use Rattle.std.proofs.Common.{◌-◌, ◌*◌, ◌^◌, ◌%◌, ◌<◌, ℕ, arith}
use Rattle.std.specs.Int.Bits.{bit_and}
use Rattle.std.specs.Int.Count.{count_trailing_zeros}
use Rattle.std.proofs.lemmas.Nat.{and_le_l}
use Rattle.shape_adj.specs.NearMasks.{In}
use Rattle.shape_topo.proofs.Growing.{place_below}
use Rattle.shape_adj.proofs.MaskBits.{both_sets}
use Rattle.shape_topo.proofs.Whole.{lowest}
use Rattle.shape_topo.proofs.joined.second_place.Goals as goal

-- the lowest place of what three sets share is one of the first
shared : (a b d : ℕ) → a < 2 ^ 26 → 0 < bit_and (bit_and a b) d → In a (count_trailing_zeros 32 (bit_and (bit_and a b) d))
shared a b d h l =
    let x = and_le_l (bit_and a b) d in
    let y = and_le_l a b in
    let t = lowest (bit_and (bit_and a b) d) l (omega arith) in
    let k = count_trailing_zeros 32 (bit_and (bit_and a b) d) in
    ((both_sets a b k).0 ((both_sets (bit_and a b) d k).0 t.1).0).0

pub returns-else-more-eq0-clause-place : goal.returns-else-more-eq0-clause-place
returns-else-more-eq0-clause-place c = shared c.args.part c.side_neighbours.result (2 ^ 32 - 1 - 1 * 2 ^ c.args.k % 2 ^ 32) c.requires.few
    (omega (arith, c.if-more-eq0.false))

pub returns-else-more-eq0-clause-few : goal.returns-else-more-eq0-clause-few
returns-else-more-eq0-clause-few c = place_below c.args.part 26 _ c.requires.few
    (shared c.args.part c.side_neighbours.result (2 ^ 32 - 1 - 1 * 2 ^ c.args.k % 2 ^ 32) c.requires.few (omega (arith, c.if-more-eq0.false)))
