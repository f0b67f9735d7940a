-- The sense of a face, as the term of digital geometry.
use Rattle.shape_terms.specs.Patches.{Sense as Term}
use Rattle.shape_refute.specs.declared.sense.Sense.{Sense}
use Rattle.shape_refute.specs.declared.sense.Sense.TheVariants.{Minus, Plus}

abbrev pub sense_of : Sense → Term
sense_of Minus = Term.Down
sense_of Plus = Term.Upward
