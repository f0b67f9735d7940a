use Rattle.std.proofs.Common.{rules, FitsSigned, sym, subst, ◌≤◌}
use Rattle.std.specs.Prelude.{unsigned_abs}
use Rattle.std.specs.Int.{w64}
use Rattle.std.proofs.lemmas.Int.{to_z-of_z}
use Rattle.std.proofs.lemmas.List.Elements.{All-get_or}
use Rattle.shape_terms.specs.Limits.{plane_gap}
use Rattle.shape_plane.specs.declared.row.Row.{Row}
use Rattle.shape_plane.specs.Rows.{IsSmall}
use Rattle.shape_plane.proofs.Together.{second_small}
use Rattle.shape_plane.proofs.range.second.Goals as goal

pub returns-clause-small : goal.returns-clause-small
returns-clause-small c =
    let f : FitsSigned w64 c.read-r.result.y = search rules in
    simp to_z-of_z (subst (λ (r : Row). unsigned_abs r.y ≤ plane_gap) (sym c.read-r.ensures)
    (second_small _ (All-get_or IsSmall c.args.rows.now c.args.j _ c.requires.place c.requires.small)))
