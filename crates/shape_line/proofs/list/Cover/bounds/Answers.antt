use Rattle.std.proofs.Common.{sym, subst}
use Rattle.shape_terms.specs.Points.{coordinate}
use Rattle.shape_terms.specs.Least.{ShowsLeast}
use Rattle.shape_refute.specs.PairTerms.{pairs_of}
use Rattle.shape_line.specs.Found.{Found}
use Rattle.shape_line.proofs.list.Cover.bounds.Goals as goal

pub returns : goal.returns
returns c = subst (λ (f : Found). ShowsLeast f.axis f.grown (coordinate f.line.a f.axis) (pairs_of c.shown_by.result)) (sym c.entry.ensures) c.shown_by.ensures
