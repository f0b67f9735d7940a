use Rattle.std.proofs.Common.{subst}
use Rattle.shape_grid.specs.Sets.{IsLeastFrom}
use Rattle.shape_grid.specs.Levels.{IsLeastOfWord}
use Rattle.shape_grid.proofs.LevelSteps.{least_below, least_top}
use Rattle.shape_grid.proofs.levels.Levels.least.Goals as goal

pub returns : goal.returns
returns c =
    let s = c.self.inside in
    let l = c.self.invariant in
    let top = least_top s.top.items c.in_ok-second.second (subst (λ x. IsLeastFrom x 0 c.in_ok-second.second) c.as_slice.ensures.value c.in_ok-second.ensures)
    in
    let second = least_below s.top.items s.second.items c.in_ok-second.second c.least_of_word-first.result l.top_sums top
    (subst (λ x. IsLeastOfWord x c.in_ok-second.second c.least_of_word-first.result) c.as_slice-2.ensures.value c.least_of_word-first.ensures) in
    let first = least_below s.second.items s.first.items c.least_of_word-first.result c.least_of_word-base.result l.second_sums second
    (subst (λ x. IsLeastOfWord x c.least_of_word-first.result c.least_of_word-base.result) c.as_slice-3.ensures.value c.least_of_word-base.ensures) in
    rw (← c.self.view_is)
    (least_below s.first.items s.base.items c.least_of_word-base.result c.least_of_word.result l.first_sums first
    (subst (λ x. IsLeastOfWord x c.least_of_word-base.result c.least_of_word.result) c.as_slice-4.ensures.value c.least_of_word.ensures))
