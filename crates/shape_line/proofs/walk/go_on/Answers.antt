use Rattle.std.proofs.Common.{refl}
use Rattle.shape_refute.specs.Terms.{naive_of}
use Rattle.shape_line.specs.SegmentTerms.{points_of}
use Rattle.shape_line.proofs.Passing.{follows}
use Rattle.shape_line.proofs.walk.go_on.Goals as goal

pub returns : goal.returns
returns c =
    let g = c.args.reach in
    record {
      entry = _;
      items = c.in_ok-put_last.ensures;
      passed = record {
        same = refl;
        grown = refl;
        followed = follows c.args.contour.now.points g c.longest_from.result c.next_start-start.result g.stretch.line.axis (naive_of 2 g.stretch.line)
            (points_of g.grown) c.next_start-start.ensures c.longest_from.ensures.reach c.longest_from.ensures.first;
        reach = c.longest_from.ensures.reach;
      };
    }
