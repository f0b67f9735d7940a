use Rattle.report_terms.proofs.LeastShown.{least_of_both}
use Rattle.shape_check.proofs.law.least_lines_are_least_of_both_axes.Goals as goal

pub returns : goal.returns
returns c = least_of_both
