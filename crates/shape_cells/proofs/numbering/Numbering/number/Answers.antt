use Rattle.std.proofs.Common.{◌≤◌, length, ap, ◌∙◌, arith}
use Rattle.shape_cells.specs.Counting.{trues_before}
use Rattle.shape_cells.proofs.BitCounts.{number_is, few_true}
use Rattle.shape_cells.proofs.numbering.Numbering.number.Goals as goal

-- what is added up, for the bits that the numbering has inside
sum_is : goal.returns
sum_is c =
    let bits = c.self.inside.bits in
    let within : c.args.place ≤ length bits = omega (arith, c.requires, ap length c.self.view_is) in
    number_is bits c.self.inside.counts.items c.args.place c.index.result.now c.word.result c.ones_below.result c.self.invariant within
    c.index.ensures c.word.ensures c.ones_below.ensures ∙ ap (λ values. trues_before values c.args.place) c.self.view_is

pub overflow_add-result : goal.overflow_add-result
overflow_add-result c =
    let f = few_true c.args.self.now c.args.place in
    let l = c.self.invariant.few in
    let e = sum_is c in
    omega (arith, f, l, e, ap length c.self.view_is)

pub returns : goal.returns
returns c = sum_is c
