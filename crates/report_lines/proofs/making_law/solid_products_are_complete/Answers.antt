use Rattle.report_lines.proofs.Weaker as Weaker
use Rattle.report_lines.proofs.making_law.solid_products_are_complete.Goals as goal

pub returns-clause-other : goal.returns-clause-other
returns-clause-other g c = λ make. Weaker.for_both (g.M.Making.makes make)

pub returns-clause-made : goal.returns-clause-made
returns-clause-made g c = λ make. Weaker.solid_made (g.M.Making.makes make)

pub returns-clause-refuses : goal.returns-clause-refuses
returns-clause-refuses g c = λ make. Weaker.solid_refuses (g.M.Making.makes make)

pub returns-clause-tells : goal.returns-clause-tells
returns-clause-tells g c = λ make. Weaker.solid_tells (g.M.Making.makes make)

pub returns-clause-lacks : goal.returns-clause-lacks
returns-clause-lacks g c = λ make. Weaker.solid_lacks (g.M.Making.makes make)
