use Rattle.report_lines.proofs.Complete as Complete
use Rattle.report_lines.proofs.making_law.products_are_complete.Goals as goal

pub returns-clause-made : goal.returns-clause-made
returns-clause-made g c = λ make. Complete.made (g.M.Making.makes make)

pub returns-clause-refuses : goal.returns-clause-refuses
returns-clause-refuses g c = λ make. Complete.refuses (g.M.Making.makes make)

pub returns-clause-tells : goal.returns-clause-tells
returns-clause-tells g c = λ make. Complete.tells (g.M.Making.makes make)

pub returns-clause-lacks : goal.returns-clause-lacks
returns-clause-lacks g c = λ make. Complete.lacks (g.M.Making.makes make)
