use Rattle.std.proofs.Common.{◌≡◌, length, sym, subst, ◌+◌, arith}
use Rattle.measuring.specs.Spaced.{spacing_told}
use Rattle.measuring.specs.Farthest.{IsAcross, AreBetween}
use Rattle.measuring.proofs.BestPairs.{across_most}
use Rattle.measuring.proofs.farthest.across.Goals as goal

pub returns-clause-most : goal.returns-clause-most
returns-clause-most c =
    let s = spacing_told c.args.spacing in
    let sites = c.args.sites.now in
    let l = c.loop-site in
    let e : l.site-index ≡ length sites = omega arith in
    let all = subst (λ n. AreBetween sites n l.left l.right l.top l.bottom) e l.invariant in
    let x = c.squared_length.ensures.value in
    let y = c.squared_length-2.ensures.value in
    subst (IsAcross s sites) (λ i. sym x i + sym y i) (across_most s sites l.left l.right l.top l.bottom all)
