use Rattle.std.proofs.Common.{rules, arith, get_or, pos, FitsSigned, w64, sym, ◌∙◌, refl, ◌≤◌, length}
use Rattle.std.proofs.lemmas.Int.{to_z-of_z}
use Rattle.shape_refute.proofs.Rows.{coordinate_within, all_within, few_axes}
use Rattle.shape_refute.proofs.naive.are_within.Goals as goal

pub returns-then-not-is_within : goal.returns-then-not-is_within
returns-then-not-is_within g c =
    let f : FitsSigned w64 (get_or c.args.a.now c.loop-k.k (pos 0)) = search rules in
    let h = c.ranges.bound in
    let e = simp to_z-of_z at c.is_within.ensures in
    (λ x. absurd (cc), λ w. sym c.if-not-is_within.true ∙ e.1 (rw (coordinate_within c.args.a.now g.P.Point.DIM c.loop-k.k (omega arith)) at (w c.loop-k.k)))

pub returns : goal.returns
returns g c =
    let few : g.P.Point.DIM ≤ length c.args.a.now = rw c.told-a (few_axes g.P.Point.DIM g.met.P.Point.two_or_three) in (
      λ x. all_within c.args.a.now g.P.Point.DIM c.args.bound few c.requires
          (λ u l. rw (to_z-of_z w64 c.args.bound c.ranges.bound) at (c.loop-k.invariant u (omega arith))),
      λ w. refl,
    )
