use Rattle.std.proofs.Common.{refl, sym, subst, ◌∙◌}
use Rattle.shape_terms.specs.Covers.{arc}
use Rattle.edge_terms.specs.Corners.{IsCorner}
use Rattle.shape_terms.proofs.BackArcs.{arc_first}
use Rattle.edge_terms.proofs.CornerPlaces.{is_corner}
use Rattle.shape_edges.proofs.Searching.{reaches}
use Rattle.shape_edges.proofs.reach.longest_from.Goals as goal

pub line-requires : goal.line-requires
line-requires c =
    let path = c.args.path.now in
    let g = c.forward-grown.ensures in (
      arc path c.args.first c.forward-grown.result.place,
      g.taken,
      subst IsCorner (sym (g.taken.first ∙ arc_first path c.args.first c.forward-grown.result.place g.rises))
          (is_corner path c.is_corner_path.ensures c.args.first),
    )

pub returns-clause-reach : goal.returns-clause-reach
returns-clause-reach c =
    let path = c.args.path.now in
    let g = c.forward-grown.ensures in
    reaches path c.is_corner_path.ensures c.args.first c.forward-grown.result _ g refl refl
    (c.line.ensures.line (arc path c.args.first c.forward-grown.result.place) g.taken)
