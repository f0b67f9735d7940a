use Rattle.report_lines.proofs.FlatAlone as FlatAlone
use Rattle.report_lines.proofs.making_law.flat_products_are_complete.Goals as goal

pub returns-clause-other : goal.returns-clause-other
returns-clause-other g c = λ make most. FlatAlone.with_volumes most (g.M.Making.makes make)

pub returns-clause-made : goal.returns-clause-made
returns-clause-made g c = λ make most name text lines old new o r report file h. FlatAlone.made most
    (g.M.Making.makes make) name old new o text lines r report file h

pub returns-clause-refuses : goal.returns-clause-refuses
returns-clause-refuses g c = λ make most. FlatAlone.refuses most (g.M.Making.makes make)
