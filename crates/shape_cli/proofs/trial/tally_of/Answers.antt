use Rattle.std.proofs.Common.{subst, sym}
use Rattle.report_terms.specs.Holds.{Holds}
use Rattle.report_terms.specs.Subjects.{subject_of}
use Rattle.shape_analyse.specs.Tallies.{IsTallyOf}
use Rattle.shape_cli.specs.Parts.{picture_of}
use Rattle.shape_cli.proofs.TriedReports.{last_name, last_rule}
use Rattle.shape_cli.proofs.trial.tally_of.Goals as goal

pub confirm-requires : goal.confirm-requires
confirm-requires g c =
    let name = last_name c.args.shelf.now c.len-last.result c.len-last.ensures.len c.has_names.ensures.some in
    let h = c.in_ok-report.ensures _ _ _ _ _ c.in_ok-analysis.ensures.found name in
    subst (λ rules. Holds (subject_of (picture_of c.in_ok-image.image) rules) c.in_ok-report.report.items) (sym c.in_ok-analysis.ensures.kept) h.by.holds

pub returns : goal.returns
returns g c =
    let r = last_rule _ c.args.shelf.now c.len-last.result c.len-last.ensures.len c.has_names.ensures.some in
    let tally = c.tally-tally.ensures _ _ _ _ r.0 c.in_ok-analysis.ensures.found r.1 in
    let right = subst (λ X. IsTallyOf X r.0 c.tally-tally.result) c.in_ok-image.ensures tally in
    record { rule = r.0; last = r.2; right = right }
