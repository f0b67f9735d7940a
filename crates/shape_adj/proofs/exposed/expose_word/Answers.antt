use Rattle.std.proofs.Common.{◌≡◌, ◌+◌, ◌<◌, ◌^◌, ℕ, Bool, List, ap, subst, arith, w64}
use Rattle.std.specs.Int.{bit_at, bit_not}
use Rattle.std.specs.Int.Bits.{bit_and}
use Rattle.shape_terms.specs.Points.{box_count}
use Rattle.shape_adj.specs.FacePoints.{AreFrom, IsOpenBelow}
use Rattle.shape_adj.proofs.WordsFrom.{open_bits, open_word, true_within}
use Rattle.shape_adj.proofs.Gaining.{gains_same}
use Rattle.shape_adj.proofs.exposed.expose_word.Goals as goal

pub show_word-requires : goal.show_word-requires
show_word-requires g c = λ k t.
    let values = c.values-values.result.now in
    let xs = c.args.grid.now.values in
    let first = c.args.first in
    let small : c.word_from-2.result < 2 ^ 64 = omega arith in
    let o = (open_bits values first c.args.other c.word_from.result c.word_from-2.result small c.word_from.ensures c.word_from-2.ensures k).0 t in
    let l = true_within xs (first + k) (rw (← c.values-values.ensures) o.1) in
    let f = c.is_picture.ensures.picture.filled in
    let e = ap box_count c.requires in
    omega (arith, l, f, e)

pub returns : goal.returns
returns g c =
    let values = c.values-values.result.now in
    let xs = c.args.grid.now.values in
    let first = c.args.first in
    let other = c.args.other in
    let small : c.word_from-2.result < 2 ^ 64 = omega arith in
    let a : AreFrom xs first c.word_from.result = subst (λ (v : List Bool). AreFrom v first c.word_from.result) c.values-values.ensures c.word_from.ensures in
    let b : AreFrom xs other c.word_from-2.result = subst (λ (v : List Bool). AreFrom v other c.word_from-2.result) c.values-values.ensures
    c.word_from-2.ensures in
    gains_same c.args.exposed.now c.show_word.new.exposed
    (λ (i : ℕ). (k : ℕ) × (i ≡ first + k) × (bit_at (bit_and c.word_from.result (bit_not w64 c.word_from-2.result)) k ≡ 1))
    (IsOpenBelow xs first other 64) c.show_word.ensures
    (open_word xs first other c.word_from.result c.word_from-2.result small a b)
