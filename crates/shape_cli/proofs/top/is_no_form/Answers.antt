use Rattle.shape_terms.specs.Shelves.{names_of}
use Rattle.shape_desk.specs.Files.{texts}
use Rattle.shape_cli.specs.Rules.{program_rules}
use Rattle.shape_cli.proofs.Reading.{judged}
use Rattle.shape_cli.proofs.top.is_no_form.Goals as goal

pub returns : goal.returns
returns c = judged (names_of program_rules) (texts c.args.words.now) c.read_words.result c.is_none.result c.is_none.ensures c.read_words.ensures
