use Rattle.std.proofs.Common.{ℕ, map, sym, subst, [], ◌∷◌}
use Rattle.std.specs.Prelude.{IsTrue}
use Rattle.std.proofs.lemmas.List.{get_or-map}
use borrow.Author.Count.{below_more}
use Rattle.shape_terms.specs.Limits.{most_flat}
use Rattle.shape_terms.specs.Points.{Point, in_box}
use Rattle.shape_terms.specs.Refutations.{point_at}
use Rattle.shape_refute.specs.Terms.{flat_point}
use Rattle.run_cases.proofs.verdicts.are_inside.Goals as goal

pub loop-i-preserved : goal.loop-i-preserved
loop-i-preserved c =
    let points = c.args.points.now in
    below_more (λ (k : ℕ). IsTrue (in_box (most_flat ∷ most_flat ∷ []) (point_at (map flat_point points) k))) c.loop-i.i c.loop-i.invariant
    (subst (λ (q : Point). IsTrue (in_box (most_flat ∷ most_flat ∷ []) q)) (sym (get_or-map flat_point points c.loop-i.i _ [] c.loop-i-test.true))
    (c.is_inside.ensures c.if-not-is_inside.false))
