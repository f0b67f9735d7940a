use Rattle.std.proofs.Common.{◌≡◌, ◌^◌, ◌<◌, length, slice_index, sym, ap, subst, ◌∙◌, arith}
use Rattle.shape_grid.specs.Truths.{AreOfWord}
use Rattle.shape_grid.proofs.TruthSteps.{length-truths, word_true}
use Rattle.shape_grid.proofs.bits.Bits.word.Goals as goal

pub word_at-requires : goal.word_at-requires
word_at-requires c =
    let n : c.self.inside.len ≡ length c.args.self.now = sym (length-truths c.self.inside.words.items c.self.inside.len) ∙ ap length c.self.view_is in
    let r = c.self.invariant.room in
    omega (arith, ap length c.as_slice.ensures.value)

pub returns : goal.returns
returns c =
    let words = c.self.inside.words.items in
    let e : c.word_at.result ≡ slice_index words c.args.w = c.word_at.ensures ∙ ap (λ x. slice_index x c.args.w) c.as_slice.ensures.value in
    let small : slice_index words c.args.w < 2 ^ 64 = omega arith in
    subst (AreOfWord c.args.self.now c.args.w) (sym e) (word_true words c.self.inside.len c.args.self.now c.args.w c.self.invariant c.self.view_is small)
