use Rattle.std.proofs.Common.{ap}
use Rattle.shape_cli.specs.Further.{read_further}
use Rattle.shape_cli.specs.Kinds.{read_wanted}
use Rattle.shape_cli.specs.Parts.{picture_of}
use Rattle.shape_cli.proofs.KindRead.{made_as}
use Rattle.shape_cli.proofs.making.make.Goals as goal

pub returns-in-Further : goal.returns-in-Further
returns-in-Further g c =
    let s = g.D.Desk.state in
    made_as c.args.wanted (read_further c.in-Further.kind) _ (picture_of c.args.image.now) (s c.args.desk.now) (s c.write_further.new.desk)
    c.write_further.result (ap read_wanted c.in-Further.is) c.write_further.ensures
