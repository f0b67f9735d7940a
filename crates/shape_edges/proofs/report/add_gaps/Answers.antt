use Rattle.std.proofs.Common.{◌≡◌, ◌<◌, ◌++◌, length, arith, subst, sym}
use Rattle.shape_terms.specs.Covers.{gap_run}
use Rattle.text_terms.specs.Spellings.{line_text}
use Rattle.edge_terms.specs.EdgeCovers.{arc_in, stretches_of}
use Rattle.edge_terms.specs.Lines.{Line, spelled}
use Rattle.shape_edges.proofs.Growing.{gap_fits, gap_told, gaps_all}
use Rattle.shape_edges.proofs.report.add_gaps.Goals as goal

pub add-requires : goal.add-requires
add-requires c =
    let f = c.args.cover.now in
    let j = c.loop-j.j in
    let l : j < length f.arcs = omega (arith, c.loop-j.auto.j-end, c.len-j-end.ensures, c.loop-j-test.true) in
    let cover = c.requires.1 in
    subst (λ e. spelled.IsLine (Line.Gap e)) (sym c.gap.ensures)
    (gap_fits (gap_run c.requires.0 (stretches_of f.arcs) j) (arc_in f.arcs j).gap (cover.claims.gap j l) (cover.gaps j l))

pub loop-j-preserved : goal.loop-j-preserved
loop-j-preserved c =
    let f = c.args.cover.now in
    let j = c.loop-j.j in
    let l : j < length f.arcs = omega (arith, c.loop-j.auto.j-end, c.len-j-end.ensures, c.loop-j-test.true) in
    let cover = c.requires.1 in
    let fields = gap_fits (gap_run c.requires.0 (stretches_of f.arcs) j) (arc_in f.arcs j).gap (cover.claims.gap j l) (cover.gaps j l) in
    let put = subst (λ e. c.add.new.self ≡ c.loop-j.report ++ line_text spelled (Line.Gap e)) c.gap.ensures c.in_ok-add.ensures.ok in
    λ X k start at t. gap_told X k start f at c.loop-j.report c.add.new.self j l (c.loop-j.invariant X k start at t) fields put

pub returns : goal.returns
returns c =
    let f = c.args.cover.now in
    let all : c.loop-j.j ≡ length f.arcs = omega (arith, c.loop-j.auto.j-end, c.len-j-end.ensures, c.loop-j-test.false) in
    λ X k start at t. gaps_all X k f c.loop-j.j c.loop-j.report all (c.loop-j.invariant X k start at t)
