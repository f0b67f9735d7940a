use Rattle.std.proofs.Common.{drop, ap, arith}
use Rattle.std.proofs.lemmas.List.Sorted.{length_permutation}
use Rattle.shape_terms.specs.Points.{box_count}
use Rattle.judge_outline.proofs.Numbering.{few_numbered}
use Rattle.judge_outline.proofs.Rising.{sorted_round}
use Rattle.judge_outline.proofs.patch_round.find_round.Goals as goal

pub returns-clause-round : goal.returns-clause-round
returns-clause-round c = sorted_round c.args.left.now c.gather.new.marks (drop c.args.start c.args.taken.now.points) c.gather.new.numbers.items
    c.sort_unstable.new.self.items c.gather.ensures.box_ c.gather.ensures.numbered.numbered c.gather.ensures.points c.sort_unstable.ensures.permutation
    c.sort_unstable.ensures.sorted

pub returns-clause-few : goal.returns-clause-few
returns-clause-few c =
    let f = few_numbered c.gather.new.marks c.gather.new.numbers.items c.gather.ensures.numbered.numbered in
    let n = length_permutation c.gather.new.numbers.items c.sort_unstable.new.self.items c.sort_unstable.ensures.permutation in
    omega (arith, f, n, ap box_count c.gather.ensures.box_)
