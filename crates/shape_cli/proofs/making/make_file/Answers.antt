use Rattle.std.proofs.Common.{Err, ap, subst, sym, ◌∙◌}
use Rattle.shape_cli.specs.Sources.{read_source}
use Rattle.shape_cli.specs.Kinds.{kind_of, about_of, read_wanted}
use Rattle.shape_cli.specs.Abouts.{IsAbout}
use Rattle.shape_cli.specs.Parts.{picture_of}
use Rattle.shape_cli.specs.Making.{Wrote}
use Rattle.shape_cli.proofs.Wrote.{made_whole, made_front}
use Rattle.shape_cli.proofs.making.make_file.Goals as goal

pub make-requires-clause-suits : goal.make-requires-clause-suits
make-requires-clause-suits g c = subst (IsAbout (about_of (kind_of (read_wanted c.args.wanted)))) (sym c.in-Ok.ensures.kind) c.requires.takes

pub returns-in-Ok-make-clause-ran : goal.returns-in-Ok-make-clause-ran
returns-in-Ok-make-clause-ran g c =
    let s = g.D.Desk.state in
    made_whole _ (read_source c.args.source) (read_wanted c.args.wanted) (s c.args.desk.now) (s c.open_picture.new.desk) (s c.make.new.desk)
    (picture_of c.in-Ok.image) c.in-Ok.ensures.only c.in-Ok.ensures.opened c.in-Ok-make.ensures

pub returns-clause-ran : goal.returns-clause-ran
returns-clause-ran g c =
    let s = g.D.Desk.state in
    made_front _ (read_source c.args.source) (read_wanted c.args.wanted) (s c.args.desk.now) (s c.open_picture.new.desk) (s c.make.new.desk)
    (picture_of c.in-Ok.image) c.in-Ok.ensures.only c.in-Ok.ensures.opened
    (subst (Wrote _ (s c.open_picture.new.desk) (s c.make.new.desk)) (c.in-Err-WriteFault.is ∙ ap (λ f. Err f) c.in-Err-WriteFault.field-0-is) c.make.ensures)
