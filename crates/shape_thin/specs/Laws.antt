-- What thinnings keep, and that there is one: statements over the definitions alone.
-- A law of the program is a function whose contract is one of these.
use Rattle.std.specs.Prelude.{◌≡◌, ℕ, List, length}
use Rattle.shape_terms.specs.Points.{Point}
use Rattle.shape_terms.specs.Pictures.{Picture, object_points}
use Rattle.shape_terms.specs.Parts.{Object, Counts}
use Rattle.shape_terms.specs.Simple.{IsSimple}
use Rattle.shape_terms.specs.Thinning.{Rule, Event, Stage, IsThinning, without}

-- Y has as many components of the object, and of the background in the framed box, as X
abbrev pub KeepsParts : Picture → Picture → Type 0
KeepsParts X Y = (n o b : ℕ) → Counts X n o b → Counts Y (length (object_points Y)) o b

-- deleting a simple point keeps both numbers of components
abbrev pub DeletionKeeps : Type 0
DeletionKeeps = (Y : Picture) (p : Point) → Object Y p → IsSimple Y p → KeepsParts Y (without Y p)

-- a picture has one thinning by a rule: the events and the last stage are determined
abbrev pub OneThinning : Type 0
OneThinning = (rule : Rule) (X : Picture) (ds es : List Event) (u v : Stage) → IsThinning rule X ds u → IsThinning rule X es v → (ds ≡ es) × (u ≡ v)
