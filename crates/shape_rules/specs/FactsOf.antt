-- The program's facts as those of the definitions.
-- A further fact is one more field of both.
use Rattle.shape_terms.specs.Thinning.{Facts as Told}
use Rattle.shape_rules.specs.declared.rule.Facts.{Facts}

abbrev pub facts_of : Facts → Told
facts_of f = record { neighbours = f.neighbours; distance = f.distance }
