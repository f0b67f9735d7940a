-- Bytes that were read ahead.
-- Facts of lists and of the desk's words; nothing here knows of pictures.
use Rattle.std.proofs.Common.{ℕ, List, ◌++◌, Option, None, Some, sym, ap, ◌∙◌}
use Rattle.std.proofs.lemmas.List.{append_assoc}
use Rattle.shape_desk.specs.Desk.{Takes}
use Rattle.shape_desk.specs.Line.{ahead_of}

-- the bytes taken and those ahead were all taken from the desk
pub taken_ahead : (all left : Option (List ℕ)) (front ahead : List ℕ) → Takes all (ahead_of ahead left) front → Takes all left (front ++ ahead)
taken_ahead all None front ahead e = e
taken_ahead all (Some xs) front ahead e = e ∙ ap Some (sym (append_assoc front ahead xs))
