use Rattle.std.proofs.Common.{◌≡◌, ◌<◌, ◌≤◌, ◌++◌, length, arith, subst, sym}
use Rattle.text_terms.specs.Spellings.{line_text}
use Rattle.judge_edges.specs.Arcs.{stretch_of}
use Rattle.judge_edges.specs.Lines.{standard_of}
use Rattle.edge_terms.specs.EdgeCovers.{arc_in}
use Rattle.edge_terms.specs.EdgeFacts.{arc_line}
use Rattle.edge_terms.specs.Lines.{Line, spelled}
use Rattle.shape_edges.proofs.Growing.{arc_fits, arc_told, arcs_all}
use Rattle.shape_edges.proofs.report.add_arcs.Goals as goal

pub add-requires : goal.add-requires
add-requires c =
    let f = c.args.cover.now in
    let j = c.loop-j.j in
    let a = c.arc.result in
    let l : j < length f.arcs = omega (arith, c.loop-j.auto.j-end, c.len-j-end.ensures, c.loop-j-test.true) in
    subst (λ line. spelled.IsLine (Line.Arc (stretch_of a) line)) (sym c.arc.ensures.line)
    (arc_fits c.requires.0 f.arcs j a.first a.last c.requires.1 l (omega arith) (omega arith))

pub loop-j-preserved : goal.loop-j-preserved
loop-j-preserved c =
    let f = c.args.cover.now in
    let j = c.loop-j.j in
    let a = c.arc.result in
    let l : j < length f.arcs = omega (arith, c.loop-j.auto.j-end, c.len-j-end.ensures, c.loop-j-test.true) in
    let is = c.arc.ensures in
    let same : Line.Arc (stretch_of a) (standard_of a.line) ≡ arc_line (arc_in f.arcs j) = λ i. Line.Arc (is.places i) (is.line i) in
    let fields = subst spelled.IsLine same
    (subst (λ line. spelled.IsLine (Line.Arc (stretch_of a) line)) (sym is.line)
    (arc_fits c.requires.0 f.arcs j a.first a.last c.requires.1 l (omega arith) (omega arith))) in
    let put = subst (λ m. c.add.new.self ≡ c.loop-j.report ++ line_text spelled m) same c.in_ok-add.ensures.ok in
    λ X k start at t. arc_told X k start f at c.loop-j.report c.add.new.self j l (c.loop-j.invariant X k start at t) fields put

pub returns : goal.returns
returns c =
    let f = c.args.cover.now in
    let all : length f.arcs ≤ c.loop-j.j = omega (arith, c.loop-j.auto.j-end, c.len-j-end.ensures, c.loop-j-test.false) in
    λ X k start at t. arcs_all X k f c.loop-j.j c.loop-j.report all (c.loop-j.invariant X k start at t)
