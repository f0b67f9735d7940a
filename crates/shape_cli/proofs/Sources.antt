-- A source that is a picture has no fault and is no other picture, one with a fault has no other fault, and one that is there is not missing.
-- Facts of files and sources, over what the desk tells.
use Rattle.std.proofs.Common.{◌≡◌, ℕ, List, subst}
use Rattle.std.specs.Prelude.{Option, None, Some, MatchOption, ⊤}
use Rattle.shape_terms.specs.Pictures.{Picture}
use Rattle.shape_desk.specs.Desk.{Files, IsMissing}
use Rattle.shape_picture.specs.declared.fault.PictureFault.{PictureFault}
use Rattle.shape_cli.specs.Sources.{Source, file_of}
use Rattle.shape_desk.specs.Files.{OfFile}
use Rattle.shape_cli.specs.Runs.{Spells, HasFault, IsPictureOf, IsFaultOf}
use Rattle.shape_cli.specs.Complete.{FileIs, FindsPicture, FindsSome, FindsFault}
use Rattle.shape_cli.proofs.Formats.{format_is}

-- ---- files

meet_bytes : (o : Option (List ℕ)) (P Q : List ℕ → Type 0) → MatchOption o ⊥ P → MatchOption o ⊥ Q → (bytes : List ℕ) × P bytes × Q bytes
meet_bytes None P Q p q = absurd p
meet_bytes (Some bytes) P Q p q = (bytes, p, q)

-- two facts of the bytes of one file
pub meet : (files : Option Files) (name : List ℕ) (P Q : List ℕ → Type 0) → FileIs files name P → OfFile files name Q → (bytes : List ℕ) × P bytes × Q bytes
meet None name P Q p q = absurd p
meet (Some files) name P Q p q = meet_bytes (files name) P Q p q

-- a desk that lacks a file tells its files
pub told : (files : Option Files) (missing name : List ℕ) (P : List ℕ → Type 0) → IsMissing files missing → OfFile files name P → FileIs files name P
told None missing name P m p = m
told (Some files) missing name P m p = p

pub not_missing : (files : Option Files) (name : List ℕ) (P : List ℕ → Type 0) → OfFile files name P → IsMissing files name → ⊥
not_missing None name P p m = m
not_missing (Some files) name P p m = subst (λ (o : Option (List ℕ)). MatchOption o ⊥ P) m p

pub is_told : (files : Option Files) (name : List ℕ) (P : List ℕ → Type 0) → FileIs files name P → OfFile files name P
is_told None name P p = tt
is_told (Some files) name P p = p

-- ---- sources

pub not_faulty : (files : Option Files) (source : Source) (f : PictureFault) → FindsSome files source → IsFaultOf files source f → ⊥
not_faulty files source f p q =
    let m = meet files (file_of source) (λ bytes. (X : Picture) × Spells source X bytes) (HasFault source f) p q in
    (format_is source).not_both m.1.0 f m.0 m.1.1 m.2

pub not_picture : (files : Option Files) (source : Source) (f : PictureFault) (X : Picture) → FindsFault files source f → IsPictureOf files source X → ⊥
not_picture files source f X p q =
    let m = meet files (file_of source) (HasFault source f) (Spells source X) p q in
    (format_is source).not_both X f m.0 m.2 m.1

pub its_fault : (files : Option Files) (source : Source) (f g : PictureFault) → FindsFault files source f → IsFaultOf files source g → g ≡ f
its_fault files source f g p q =
    let m = meet files (file_of source) (HasFault source f) (HasFault source g) p q in
    (format_is source).one_fault f g m.0 m.1 m.2

pub its_picture : (files : Option Files) (source : Source) (X Y : Picture) → FindsPicture files source X → IsPictureOf files source Y → X ≡ Y
its_picture files source X Y p q =
    let m = meet files (file_of source) (Spells source X) (Spells source Y) p q in
    (format_is source).one_picture X Y m.0 m.1 m.2

some_bytes : (source : Source) (X : Picture) (o : Option (List ℕ)) → MatchOption o ⊥ (Spells source X)
    → MatchOption o ⊥ (λ bytes. (Y : Picture) × Spells source Y bytes)
some_bytes source X None p = p
some_bytes source X (Some bytes) p = (X, p)

pub finds_some : (files : Option Files) (source : Source) (X : Picture) → FindsPicture files source X → FindsSome files source
finds_some None source X p = p
finds_some (Some files) source X p = some_bytes source X (files (file_of source)) p

there : (P : List ℕ → Type 0) (o : Option (List ℕ)) → MatchOption o ⊥ P → MatchOption o ⊥ (λ _. ⊤)
there P None p = p
there P (Some bytes) p = tt

pub is_there : (files : Option Files) (name : List ℕ) (P : List ℕ → Type 0) → FileIs files name P → FileIs files name (λ _. ⊤)
is_there None name P p = p
is_there (Some files) name P p = there P (files name) p
