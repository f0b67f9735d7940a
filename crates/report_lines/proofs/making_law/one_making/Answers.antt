use Rattle.report_lines.proofs.OneMaking.{one_space_made, one_list_made, made_or_bad, one_first_bad}
use Rattle.report_lines.proofs.making_law.one_making.Goals as goal

pub returns-clause-space : goal.returns-clause-space
returns-clause-space g c = λ make other. one_space_made (g.M.Making.makes make) (g.N.Making.makes other)

pub returns-clause-lines : goal.returns-clause-lines
returns-clause-lines g c = λ make other. one_list_made (g.M.Making.makes make) (g.N.Making.makes other)

pub returns-clause-made : goal.returns-clause-made
returns-clause-made g c = made_or_bad

pub returns-clause-bad : goal.returns-clause-bad
returns-clause-bad g c = one_first_bad
