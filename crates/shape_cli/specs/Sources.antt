-- The sources of pictures: their words, their files, and what these files spell.
-- A further source is a constructor, and a line of each definition.
use Rattle.std.specs.Prelude.{◌≡◌, ◌++◌, ℕ, List, [], ◌∷◌, codes, ⊤, pos, nat_abs}
use Rattle.std.specs.Fmt.{decimal}
use Rattle.shape_terms.specs.Points.{AreSides}
use Rattle.shape_terms.specs.Limits.{most_flat, most_solid, most_bytes, most_flat_trial, most_solid_trial}
use Rattle.shape_picture.specs.Answers.{Format, pbm, raw}
use Rattle.shape_cli.specs.declared.source.Kind.{Kind as ProgramKind}
use Rattle.shape_cli.specs.declared.source.Kind.TheVariants as kind
use Rattle.shape_cli.specs.declared.source.Source.{Source as ProgramSource}
use Rattle.shape_cli.specs.declared.source.Source.TheVariants as source

-- a kind of picture: flat, or a volume
pub data Kind : Type 0 where
  Flat Solid : Kind

-- a flat picture
abbrev pub IsFlat : Kind → Type 0
IsFlat Kind.Flat = ⊤
IsFlat Kind.Solid = ⊥

-- where a picture is read: a PBM in a file, or a raw volume of these sides in one
pub data Source : Type 0 where
  Pbm : (file : List ℕ) → Source
  Raw : (x y z : ℕ) → (file : List ℕ) → Source

-- the kind of picture at a source
abbrev pub kind_at : Source → Kind
kind_at (Source.Pbm file) = Kind.Flat
kind_at (Source.Raw x y z file) = Kind.Solid

-- the file of a source
abbrev pub file_of : Source → List ℕ
file_of (Source.Pbm file) = file
file_of (Source.Raw x y z file) = file

-- the format of a source's file
abbrev pub format_of : Source → Format
format_of (Source.Pbm file) = pbm most_flat most_bytes
format_of (Source.Raw x y z file) = raw (x ∷ y ∷ z ∷ [])

-- ---- sides

-- the greatest side of a picture of a kind that a seed gives
abbrev pub most_trial_side : Kind → ℕ
most_trial_side Kind.Flat = most_flat_trial
most_trial_side Kind.Solid = most_solid_trial

-- the sides that the words of a source give are those of a volume
abbrev pub HasSides : Source → Type 0
HasSides (Source.Pbm file) = ⊤
HasSides (Source.Raw x y z file) = AreSides (pos most_solid) (pos x ∷ pos y ∷ pos z ∷ [])

-- ---- words

-- the word of a kind
abbrev pub kind_word : Kind → List ℕ
kind_word Kind.Flat = codes "pbm"
kind_word Kind.Solid = codes "raw"

-- the words of the sides of a volume
abbrev pub side_words : (x y z : ℕ) → List (List ℕ)
side_words x y z = decimal x ∷ decimal y ∷ decimal z ∷ []

-- the words of a source
abbrev pub source_words : Source → List (List ℕ)
source_words (Source.Pbm file) = codes "pbm" ∷ file ∷ []
source_words (Source.Raw x y z file) = codes "raw" ∷ (side_words x y z ++ file ∷ [])

-- the words are those of no sides of a volume
abbrev pub IsNoSides : List (List ℕ) → Type 0
IsNoSides words = (x y z : ℕ) → AreSides (pos most_solid) (pos x ∷ pos y ∷ pos z ∷ []) → words ≡ side_words x y z → ⊥

-- the words are those of no source
abbrev pub IsNoSource : List (List ℕ) → Type 0
IsNoSource words = (s : Source) → HasSides s → words ≡ source_words s → ⊥

-- ---- the program's own

-- the kind that the program reads
abbrev pub read_kind : ProgramKind → Kind
read_kind kind.Flat = Kind.Flat
read_kind kind.Solid = Kind.Solid

-- the source that the program reads
abbrev pub read_source : ProgramSource → Source
read_source (source.Pbm file) = Source.Pbm file.now
read_source (source.Raw sides file) = Source.Raw (nat_abs sides.lengths.x) (nat_abs sides.lengths.y) (nat_abs sides.lengths.z) file.now
