use Rattle.std.proofs.Common.{subst, sym}
use Rattle.std.specs.Prelude.{pos, negsuc}
use Rattle.shape_terms.specs.Limits.{most_coordinate}
use Rattle.shape_terms.specs.FramedBox.{IsWithin}
use Rattle.shape_terms.specs.Thinning.{Event as Term}
use Rattle.report_terms.specs.Lines.{line_text, IsLineOf}
use Rattle.report_text.specs.Telling.{TellsMore}
use Rattle.shape_thin.specs.Runs.{event_of, event_point}
use Rattle.shape_analyse.specs.Growing.{event_line}
use Rattle.shape_analyse.proofs.ThinningGrowth.{event_fits}
use Rattle.shape_analyse.proofs.thinning.tell_event.Goals as goal

pub line-requires : goal.line-requires
line-requires g c =
    let p = c.in-Del.p in
    event_fits g.P.Point.DIM (Term.Del (g.P.Point.coords p)) (g.met.P.Point.axes p)
    (subst (λ e. IsWithin (negsuc 0) (pos most_coordinate) (event_point (event_of g.P.Point.coords e))) c.in-Del.is c.requires)

pub line-requires-in-Tip : goal.line-requires-in-Tip
line-requires-in-Tip g c =
    let p = c.in-Tip.p in
    event_fits g.P.Point.DIM (Term.Tip (g.P.Point.coords p)) (g.met.P.Point.axes p)
    (subst (λ e. IsWithin (negsuc 0) (pos most_coordinate) (event_point (event_of g.P.Point.coords e))) c.in-Tip.is c.requires)

pub returns-in-Del-clause-fields : goal.returns-in-Del-clause-fields
returns-in-Del-clause-fields g c =
    let p = c.in-Del.p in
    subst (λ e. IsLineOf g.P.Point.DIM (event_line (event_of g.P.Point.coords e))) (sym c.in-Del.is)
    (event_fits g.P.Point.DIM (Term.Del (g.P.Point.coords p)) (g.met.P.Point.axes p)
    (subst (λ e. IsWithin (negsuc 0) (pos most_coordinate) (event_point (event_of g.P.Point.coords e))) c.in-Del.is c.requires))

pub returns-in-Tip-clause-fields : goal.returns-in-Tip-clause-fields
returns-in-Tip-clause-fields g c =
    let p = c.in-Tip.p in
    subst (λ e. IsLineOf g.P.Point.DIM (event_line (event_of g.P.Point.coords e))) (sym c.in-Tip.is)
    (event_fits g.P.Point.DIM (Term.Tip (g.P.Point.coords p)) (g.met.P.Point.axes p)
    (subst (λ e. IsWithin (negsuc 0) (pos most_coordinate) (event_point (event_of g.P.Point.coords e))) c.in-Tip.is c.requires))

pub returns-in-Del-clause-told : goal.returns-in-Del-clause-told
returns-in-Del-clause-told g c =
    let s = g.D.Desk.state in
    subst (λ e. TellsMore (line_text (event_line (event_of g.P.Point.coords e))) c.args.page.now c.line.new.self (s c.args.desk.now) (s c.line.new.desk))
    (sym c.in-Del.is) c.line.ensures

pub returns-in-Tip-clause-told : goal.returns-in-Tip-clause-told
returns-in-Tip-clause-told g c =
    let s = g.D.Desk.state in
    subst (λ e. TellsMore (line_text (event_line (event_of g.P.Point.coords e))) c.args.page.now c.line-in-Tip.new.self (s c.args.desk.now)
    (s c.line-in-Tip.new.desk)) (sym c.in-Tip.is) c.line-in-Tip.ensures
