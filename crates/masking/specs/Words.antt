-- The words of the command line: a mask and the name of a report's file.
-- A further mask is one more word.
use Rattle.std.specs.Prelude.{ℕ, List, codes}
use Rattle.masking.specs.declared.mask.Mask.{Mask}
use Rattle.masking.specs.declared.mask.Mask.TheVariants.{Skeleton, Object, Distances, Squares, Thickness}

-- the word of a mask
abbrev pub mask_word : Mask → List ℕ
mask_word Skeleton = codes "skeleton"
mask_word Object = codes "object"
mask_word Distances = codes "distances"
mask_word Squares = codes "squares"
mask_word Thickness = codes "thickness"
