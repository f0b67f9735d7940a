-- What is made of flat pictures alone: a run that does so is one up to a bound, unless the report is one of a volume.
-- Laws of makers and files; what is made does not matter here.
use Rattle.std.proofs.Common.{◌≡◌, ◌⊎◌, inl, inr, ℕ, List, Option, None, Some, refl, sym, ap, ◌∙◌, subst, arith}
use Rattle.shape_desk.specs.Desk.{Files, DeskState}
use Rattle.shape_desk.specs.Files.{OfFile}
use Rattle.report_terms.specs.Lines.{Line}
use Rattle.report_lines.specs.Reports.{Space, flat, solid, IsReport}
use Rattle.report_lines.specs.Made.{Maker, about, flat_alone, up_to, beyond, IsMadeOf, IsSolidReport}
use Rattle.report_lines.specs.Runs.{RanUpTo, RanFlat}
use Rattle.report_lines.specs.Complete.{IsSomeReport, FileIs, HasNoFault}
use Rattle.report_lines.specs.declared.outcome.Outcome.{Outcome}
use Rattle.report_lines.specs.declared.outcome.Outcome.TheVariants as outcome
use Rattle.report_lines.proofs.OneMaking.{same_space}
use Rattle.report_lines.proofs.Complete.{meet}
use Rattle.report_lines.proofs.Weaker as Weaker

-- ---- what is made

solid_of : (make : Maker) (axes : ℕ) (text bytes : List ℕ) → (axes ≡ 2 → ⊥) → IsMadeOf (about axes make) text bytes → IsSolidReport text
solid_of make axes text bytes other m = elim m.known [
  | inl e ↦ absurd (other (sym m.made.1 ∙ ap (λ (s : Space). s.axes) e))
  | inr e ↦ record { lines = m.lines; report = subst (λ (s : Space). IsReport s text m.lines) e m.report }
]

-- bytes that are not made of a flat picture are made of a volume
pub file_solid : (make : Maker) (axes : ℕ) (files : Option Files) (name bytes : List ℕ) → (axes ≡ 2 → ⊥)
    → OfFile files name (λ text. IsMadeOf (about axes make) text bytes) → OfFile files name IsSolidReport
file_solid make axes files name bytes other h = Weaker.of_file_as files name (λ text. IsMadeOf (about axes make) text bytes) IsSolidReport
    (λ text m. solid_of make axes text bytes other m) h

-- of a volume nothing is made where all that is made is made of flat pictures
not_of_both : (make : Maker) (text bytes : List ℕ) → ((d : ℕ) (lines : List Line) → make d lines bytes → d ≡ 2) → IsSolidReport text
    → IsMadeOf make text bytes → ⊥
not_of_both make text bytes two r m =
    let s = same_space text m.space solid m.lines r.lines m.known (inr refl) m.report r.report in
    let axes : m.space.axes ≡ 3 = ap (λ (t : Space). t.axes) s in
    omega (arith, axes, two m.space.axes m.lines m.made)

file_not_of_both : (make : Maker) (files : Option Files) (name bytes : List ℕ) → ((d : ℕ) (lines : List Line) → make d lines bytes → d ≡ 2)
    → FileIs files name IsSolidReport → OfFile files name (λ text. IsMadeOf make text bytes) → ⊥
file_not_of_both make files name bytes two f h =
    let m = meet files name IsSolidReport (λ text. IsMadeOf make text bytes) f h in
    not_of_both make m.0 bytes two m.1 m.2

-- where a volume's report is there, some report is
some_there : (files : Option Files) (name : List ℕ) → FileIs files name IsSolidReport → FileIs files name IsSomeReport
some_there None name f = f
some_there (Some files) name f =
    Weaker.bytes_as (files name) IsSolidReport IsSomeReport (λ text s. record { space = solid; known = inr refl; lines = s.lines; report = s.report }) f

-- the report of a flat picture is none of a volume
flat_not_solid : (text other : List ℕ) (lines : List Line) → IsReport flat text lines → other ≡ text → IsSolidReport other → ⊥
flat_not_solid text other lines report e r =
    let s = same_space text flat solid lines r.lines (inl refl) (inr refl) report (subst (λ t. IsReport solid t r.lines) e r.report) in
    let axes : 2 ≡ 3 = ap (λ (t : Space). t.axes) s in
    omega (arith, axes)

-- ---- runs

module _ (most : ℕ) (make : Maker) (name : List ℕ) (old new : DeskState) where
  pub with_volumes : (o : Outcome) → RanFlat most make name old new o → (o ≡ outcome.NotFlat → ⊥) → RanUpTo most (flat_alone make) name old new o
  with_volumes outcome.NotFlat r n = absurd (n refl)
  with_volumes o r n = r

  pub made : (o : Outcome) (text : List ℕ) (lines : List Line) → RanFlat most make name old new o → IsReport flat text lines
      → FileIs old.files name (λ bytes. bytes ≡ text) → HasNoFault old new
      → (o ≡ outcome.Done) ⊎ ((o ≡ outcome.TooLarge) ⊎ (o ≡ outcome.NoMemory))
  made outcome.NotFlat text lines r report file h =
      let m = meet old.files name (λ bytes. bytes ≡ text) IsSolidReport file r.0 in
      absurd (flat_not_solid text m.0 lines report m.1 m.2)
  made o text lines r report file h =
      Weaker.made most (flat_alone make) name old new o (with_volumes o r (λ e. cc))
      (Weaker.report_there old.files name text flat lines (inl refl) report file) h

  pub refuses : (o : Outcome) → RanFlat most make name old new o → FileIs old.files name IsSolidReport → HasNoFault old new
      → (o ≡ outcome.NotFlat) ⊎ (o ≡ outcome.NoMemory)
  refuses outcome.NotFlat r f h = inl refl
  refuses outcome.NoMemory r f h = inr refl
  refuses outcome.Done r f h = absurd (file_not_of_both (up_to most (flat_alone make)) old.files name r.bytes (λ d lines m. m.0.1) f r.made)
  refuses outcome.TooLarge r f h = absurd (file_not_of_both (beyond most (flat_alone make)) old.files name r.0.bytes (λ d lines m. m.1) f r.0.made)
  refuses o r f h = elim (Weaker.made most (flat_alone make) name old new o (with_volumes o r (λ e. cc)) (some_there old.files name f) h) [
    | inl e ↦ absurd cc
    | inr e ↦ elim e [ inl g ↦ absurd cc | inr g ↦ absurd cc ]
  ]
