-- What is made is made as well in any way that says less of it; so a run up to a bound is one without, unless too much is made, and a run for volumes is one
-- for both, but for flat pictures.
-- Laws of makers and files; what is made does not matter here.
use Rattle.std.proofs.Common.{◌≡◌, ◌⊎◌, inl, inr, ℕ, List, Option, None, Some, refl, sym, subst}
use Rattle.std.specs.Prelude.{MatchOption}
use Rattle.shape_desk.specs.Desk.{Files, DeskState, Rose, IsMissing}
use Rattle.shape_desk.specs.Files.{OfFile, IsSilent}
use Rattle.report_terms.specs.Lines.{Line}
use Rattle.report_lines.specs.declared.fault.ReportFault.{ReportFault}
use Rattle.report_lines.specs.declared.fault.ReportFault.TheVariants.{NotReport, ReadFault, NoMemory}
use Rattle.report_lines.specs.Reports.{Space, IsReport}
use Rattle.report_lines.specs.Made.{Maker, about, up_to, of_volume, beyond, IsSpace, IsMadeOf, IsNoReport}
use Rattle.report_lines.specs.Runs.{FileRefused, Ran, RanUpTo, RanSolid}
use Rattle.report_lines.specs.Outcomes.{refusal_of}
use Rattle.report_lines.specs.Complete.{IsSomeReport, FileIs, HasNoFault}
use Rattle.report_lines.specs.declared.outcome.Outcome.{Outcome}
use Rattle.report_lines.specs.declared.outcome.Outcome.TheVariants as outcome
use Rattle.report_lines.proofs.Complete as Complete

-- ---- what is made

made_as : (make other : Maker) (text bytes : List ℕ) → ((d : ℕ) (lines : List Line) → make d lines bytes → other d lines bytes) → IsMadeOf make text bytes
    → IsMadeOf other text bytes
made_as make other text bytes f m = record { space = m.space; known = m.known; lines = m.lines; report = m.report; made = f m.space.axes m.lines m.made }

pub bytes_as : (o : Option (List ℕ)) (P Q : List ℕ → Type 0) → ((text : List ℕ) → P text → Q text) → MatchOption o ⊥ P → MatchOption o ⊥ Q
bytes_as None P Q f h = h
bytes_as (Some text) P Q f h = f text h

pub of_file_as : (files : Option Files) (name : List ℕ) (P Q : List ℕ → Type 0) → ((text : List ℕ) → P text → Q text) → OfFile files name P
    → OfFile files name Q
of_file_as None name P Q f h = tt
of_file_as (Some files) name P Q f h = bytes_as (files name) P Q f h

pub file_made_as : (make other : Maker) (files : Option Files) (name bytes : List ℕ) → ((d : ℕ) (lines : List Line) → make d lines bytes → other d lines bytes)
    → OfFile files name (λ text. IsMadeOf make text bytes) → OfFile files name (λ text. IsMadeOf other text bytes)
file_made_as make other files name bytes f h = of_file_as files name (λ text. IsMadeOf make text bytes) (λ text. IsMadeOf other text bytes)
    (λ text m. made_as make other text bytes f m) h

-- where the text of a report is there, some report is
pub report_there : (files : Option Files) (name text : List ℕ) (s : Space) (lines : List Line) → IsSpace s → IsReport s text lines
    → FileIs files name (λ bytes. bytes ≡ text) → FileIs files name IsSomeReport
report_there None name text s lines known report f = f
report_there (Some files) name text s lines known report f =
    bytes_as (files name) (λ bytes. bytes ≡ text) IsSomeReport
    (λ bytes e. subst IsSomeReport (sym e) (record { space = s; known = known; lines = lines; report = report })) f

-- ---- runs up to a bound

module _ (most : ℕ) (make : Maker) (name : List ℕ) (old new : DeskState) where
  -- a run that makes nothing
  pub refused_up_to : (fault : ReportFault) → FileRefused name old new fault → IsSilent old new → RanUpTo most make name old new (refusal_of fault)
  refused_up_to (NotReport k) h s = (h, s)
  refused_up_to ReadFault h s = (h, s)
  refused_up_to NoMemory h s = s

  less : (bytes : List ℕ) → OfFile old.files name (λ text. IsMadeOf (up_to most make) text bytes) → OfFile old.files name (λ text. IsMadeOf make text bytes)
  less bytes h = file_made_as (up_to most make) make old.files name bytes (λ d lines m. m.0) h

  -- but for one of which too much would be made, it is a run without a bound
  pub without_bound : (o : Outcome) → RanUpTo most make name old new o → (o ≡ outcome.TooLarge → ⊥) → Ran make name old new o
  without_bound outcome.Done r n = record { bytes = r.bytes; made = less r.bytes r.made; puts = r.puts }
  without_bound outcome.Usage r n = r
  without_bound (outcome.NotReport k) r n = r
  without_bound (outcome.NotOver k) r n = r
  without_bound outcome.TooLarge r n = absurd (n refl)
  without_bound outcome.NotSolid r n = r
  without_bound outcome.NotFlat r n = absurd r
  without_bound outcome.ReadFault r n = r
  without_bound outcome.WriteFault r n = record { bytes = r.bytes; made = less r.bytes r.made; puts = r.puts; cause = r.cause }
  without_bound outcome.NoMemory r n = r

  pub made : (o : Outcome) → RanUpTo most make name old new o → FileIs old.files name IsSomeReport → HasNoFault old new
      → (o ≡ outcome.Done) ⊎ ((o ≡ outcome.TooLarge) ⊎ (o ≡ outcome.NoMemory))
  made outcome.TooLarge r f h = inr (inl refl)
  made o r f h = elim (Complete.made make name old new o (without_bound o r (λ e. cc)) f h) [ inl e ↦ inl e | inr e ↦ inr (inr e) ]

  pub refuses : (o : Outcome) → RanUpTo most make name old new o → FileIs old.files name (λ text. IsSomeReport text → ⊥)
      → (Rose old.read_faults new.read_faults → ⊥)
      → ((k : ℕ) × (o ≡ outcome.NotReport k) × FileIs old.files name (λ text. IsNoReport text k)) ⊎ (o ≡ outcome.NoMemory)
  refuses outcome.TooLarge r f n = absurd (Complete.not_made (beyond most make) name old new r.0.bytes f r.0.made)
  refuses o r f n = Complete.refuses make name old new o (without_bound o r (λ e. cc)) f n

  pub tells : (o : Outcome) (k : ℕ) → RanUpTo most make name old new o → FileIs old.files name (λ text. IsNoReport text k)
      → (Rose old.read_faults new.read_faults → ⊥) → (o ≡ outcome.NotReport k) ⊎ (o ≡ outcome.NoMemory)
  tells outcome.TooLarge k r f n = absurd (Complete.bad_not_made (beyond most make) name old new k r.0.bytes f r.0.made)
  tells o k r f n = Complete.tells make name old new o k (without_bound o r (λ e. cc)) f n

  pub lacks : (o : Outcome) → RanUpTo most make name old new o → IsMissing old.files name → (o ≡ outcome.ReadFault) ⊎ (o ≡ outcome.NoMemory)
  lacks outcome.TooLarge r m = absurd (Complete.none_of_missing old.files name (λ text. IsMadeOf (beyond most make) text r.0.bytes) m r.0.made)
  lacks o r m = Complete.lacks make name old new o (without_bound o r (λ e. cc)) m

-- ---- runs for volumes

module _ (make : Maker) (name : List ℕ) (old new : DeskState) where
  -- a run that makes nothing
  pub refused_solid : (fault : ReportFault) → FileRefused name old new fault → IsSilent old new → RanSolid make name old new (refusal_of fault)
  refused_solid (NotReport k) h s = (h, s)
  refused_solid ReadFault h s = (h, s)
  refused_solid NoMemory h s = s

  less_solid : (bytes : List ℕ) → OfFile old.files name (λ text. IsMadeOf (of_volume make) text bytes)
      → OfFile old.files name (λ text. IsMadeOf make text bytes)
  less_solid bytes h = file_made_as (of_volume make) make old.files name bytes (λ d lines m. m.0) h

  -- but for one of a flat picture, it is a run for both
  pub for_both : (o : Outcome) → RanSolid make name old new o → (o ≡ outcome.NotSolid → ⊥) → Ran make name old new o
  for_both outcome.Done r n = record { bytes = r.bytes; made = less_solid r.bytes r.made; puts = r.puts }
  for_both outcome.Usage r n = r
  for_both (outcome.NotReport k) r n = r
  for_both (outcome.NotOver k) r n = r
  for_both outcome.NotSolid r n = absurd (n refl)
  for_both outcome.TooLarge r n = r
  for_both outcome.NotFlat r n = r
  for_both outcome.ReadFault r n = r
  for_both outcome.WriteFault r n = record { bytes = r.bytes; made = less_solid r.bytes r.made; puts = r.puts; cause = r.cause }
  for_both outcome.NoMemory r n = r

  pub solid_made : (o : Outcome) → RanSolid make name old new o → FileIs old.files name IsSomeReport → HasNoFault old new
      → (o ≡ outcome.Done) ⊎ ((o ≡ outcome.NotSolid) ⊎ (o ≡ outcome.NoMemory))
  solid_made outcome.NotSolid r f h = inr (inl refl)
  solid_made o r f h = elim (Complete.made make name old new o (for_both o r (λ e. cc)) f h) [ inl e ↦ inl e | inr e ↦ inr (inr e) ]

  pub solid_refuses : (o : Outcome) → RanSolid make name old new o → FileIs old.files name (λ text. IsSomeReport text → ⊥)
      → (Rose old.read_faults new.read_faults → ⊥)
      → ((k : ℕ) × (o ≡ outcome.NotReport k) × FileIs old.files name (λ text. IsNoReport text k)) ⊎ (o ≡ outcome.NoMemory)
  solid_refuses outcome.NotSolid r f n = absurd (Complete.not_made (about 2 make) name old new r.0.bytes f r.0.made)
  solid_refuses o r f n = Complete.refuses make name old new o (for_both o r (λ e. cc)) f n

  pub solid_tells : (o : Outcome) (k : ℕ) → RanSolid make name old new o → FileIs old.files name (λ text. IsNoReport text k)
      → (Rose old.read_faults new.read_faults → ⊥) → (o ≡ outcome.NotReport k) ⊎ (o ≡ outcome.NoMemory)
  solid_tells outcome.NotSolid k r f n = absurd (Complete.bad_not_made (about 2 make) name old new k r.0.bytes f r.0.made)
  solid_tells o k r f n = Complete.tells make name old new o k (for_both o r (λ e. cc)) f n

  pub solid_lacks : (o : Outcome) → RanSolid make name old new o → IsMissing old.files name → (o ≡ outcome.ReadFault) ⊎ (o ≡ outcome.NoMemory)
  solid_lacks outcome.NotSolid r m = absurd (Complete.none_of_missing old.files name (λ text. IsMadeOf (about 2 make) text r.0.bytes) m r.0.made)
  solid_lacks o r m = Complete.lacks make name old new o (for_both o r (λ e. cc)) m
