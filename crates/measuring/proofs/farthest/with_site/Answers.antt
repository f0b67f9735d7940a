use Rattle.std.proofs.Common.{◌≡◌, ◌+◌, ◌-◌, length, subst, arith}
use Rattle.measuring.specs.Spaced.{spacing_told}
use Rattle.measuring.specs.Farthest.{IsBestWith}
use Rattle.measuring.proofs.BestPairs.{none_tried, one_tried, rest_tried}
use Rattle.measuring.proofs.farthest.with_site.Goals as goal

pub loop-k-init : goal.loop-k-init
loop-k-init c =
    let sites = c.args.sites.now in
    let e : length sites ≡ length sites - 0 = omega arith in
    subst (λ n. IsBestWith (spacing_told c.args.spacing) sites c.args.at n c.args.best c.args.best) e
    (none_tried (spacing_told c.args.spacing) sites c.args.at c.args.best c.requires.pair)

pub returns-then-squared_length-across : goal.returns-then-squared_length-across
returns-then-squared_length-across c =
    let s = spacing_told c.args.spacing in
    let sites = c.args.sites.now in
    let within = c.requires.within in
    let k = length sites - 1 - c.loop-k.k in
    let e : length sites - c.loop-k.k ≡ k + 1 = omega arith in
    let tried = subst (λ n. IsBestWith s sites c.args.at n c.args.best c.loop-k.best) e c.loop-k.invariant in
    let deep = c.squared_length.ensures.value in
    rest_tried s sites c.args.at k c.args.across c.args.best c.loop-k.best c.requires.layered c.requires.across (omega arith) (omega arith) tried
    (omega (arith, deep))

pub loop-k-preserved : goal.loop-k-preserved
loop-k-preserved c =
    let s = spacing_told c.args.spacing in
    let sites = c.args.sites.now in
    let k = length sites - 1 - c.loop-k.k in
    let e : length sites - c.loop-k.k ≡ k + 1 = omega arith in
    let f : k ≡ length sites - (c.loop-k.k + 1) = omega arith in
    let tried = subst (λ n. IsBestWith s sites c.args.at n c.args.best c.loop-k.best) e c.loop-k.invariant in
    subst (λ n. IsBestWith s sites c.args.at n c.args.best c.with_pair-best.result) f
    (one_tried s sites c.args.at k c.args.best c.loop-k.best c.with_pair-best.result c.requires.within (omega arith) tried c.with_pair-best.ensures)

pub returns : goal.returns
returns c =
    let sites = c.args.sites.now in
    let within = c.requires.within in
    let e : length sites - c.loop-k.k ≡ c.args.at = omega arith in
    subst (λ n. IsBestWith (spacing_told c.args.spacing) sites c.args.at n c.args.best c.loop-k.best) e c.loop-k.invariant
