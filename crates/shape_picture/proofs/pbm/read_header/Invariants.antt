use Rattle.std.proofs.Common.{◌-◌}
use Rattle.shape_desk.specs.declared.desk.Place.TheVariants.{Picture}
use Rattle.shape_desk.specs.Desk.{OnlyReadsAt}
use Rattle.shape_terms.specs.Limits.{most_flat, most_bytes}
use Rattle.shape_picture.specs.Header.{HeaderReached}
use Rattle.shape_picture.specs.Parts.{FrontTaken}
use Rattle.shape_picture.proofs.pbm.read_header.Given as goal

abbrev pub invariant-loop-at : goal.invariant-loop-at
invariant-loop-at g l =
    FrontTaken (HeaderReached most_flat l.header) most_bytes l.at ((g.D.Desk.state l.initial.desk).left Picture) ((g.D.Desk.state l.desk).left Picture) l.bytes
    × OnlyReadsAt Picture (g.D.Desk.state l.initial.desk) (g.D.Desk.state l.desk)

abbrev pub decreases-loop-at : goal.decreases-loop-at
decreases-loop-at g l = most_bytes - l.at
