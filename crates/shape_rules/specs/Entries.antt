-- What an entry of the program is seen as.
-- A name is its letters; the rule is seen as it is.
use Rattle.shape_rules.specs.Names.{word_of}
use Rattle.shape_terms.specs.Shelves.{Named}
use Rattle.shape_rules.specs.declared.shelf.Entry.{Entry}

-- the entry as a rule and its name
abbrev pub named : {R : Type 0} → Entry R → Named R
named e = record { name = word_of e.name; rule = e.rule }
