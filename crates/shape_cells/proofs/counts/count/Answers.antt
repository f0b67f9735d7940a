use Rattle.std.proofs.Common.{◌≡◌, ◌+◌, ◌*◌, ◌∙◌, arith}
use Rattle.shape_cells.proofs.BitCounts.{of_whole_word, few_true, all_true}
use Rattle.shape_cells.proofs.counts.count.Goals as goal

pub overflow_add-n : goal.overflow_add-n
overflow_add-n c =
    let w = c.loop-w.w in
    let s = of_whole_word c.args.values.now w c.word.result c.word.ensures (omega arith) in
    let f = few_true c.args.values.now (64 * w + 64) in
    let i = c.loop-w.invariant in
    omega (arith, s, f, i)

pub loop-w-preserved : goal.loop-w-preserved
loop-w-preserved c =
    let w = c.loop-w.w in
    let s = of_whole_word c.args.values.now w c.word.result c.word.ensures (omega arith) in
    let e : 64 * (w + 1) ≡ 64 * w + 64 = omega arith in
    let i = c.loop-w.invariant in
    rw e (omega (arith, s, i))

pub returns : goal.returns
returns c = c.loop-w.invariant ∙ all_true c.args.values.now (64 * c.loop-w.w) (omega arith)
