use Rattle.std.proofs.Common.{rules}
use Rattle.shape_rules.specs.Names.{word_of}
use Rattle.text_terms.specs.Forms.{name}
use Rattle.text_terms.proofs.Words.{name_form}
use Rattle.report_text.proofs.FormReads.{as_form}
use Rattle.shape_report.proofs.field.name.Goals as goal

pub returns : goal.returns
returns c = as_form word_of name name_form c.args.words.now c.next_word.new.self c.new.result (search rules)
