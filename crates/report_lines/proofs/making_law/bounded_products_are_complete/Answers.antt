use Rattle.report_lines.proofs.Weaker as Weaker
use Rattle.report_lines.proofs.making_law.bounded_products_are_complete.Goals as goal

pub returns-clause-other : goal.returns-clause-other
returns-clause-other g c = λ make most. Weaker.without_bound most (g.M.Making.makes make)

pub returns-clause-made : goal.returns-clause-made
returns-clause-made g c = λ make most. Weaker.made most (g.M.Making.makes make)

pub returns-clause-refuses : goal.returns-clause-refuses
returns-clause-refuses g c = λ make most. Weaker.refuses most (g.M.Making.makes make)

pub returns-clause-tells : goal.returns-clause-tells
returns-clause-tells g c = λ make most. Weaker.tells most (g.M.Making.makes make)

pub returns-clause-lacks : goal.returns-clause-lacks
returns-clause-lacks g c = λ make most. Weaker.lacks most (g.M.Making.makes make)
