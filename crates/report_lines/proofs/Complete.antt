-- Which outcome comes where nothing failed, over the relation of a run that makes something of a report.
-- Each law goes through the outcomes once.
use Rattle.std.proofs.Common.{◌≡◌, ◌⊎◌, inl, inr, ℕ, List, Option, None, Some, refl, ap, subst}
use Rattle.std.specs.Prelude.{MatchOption}
use Rattle.shape_desk.specs.Desk.{Files, DeskState, Rose, IsMissing}
use Rattle.shape_desk.specs.Files.{OfFile}
use Rattle.report_lines.specs.Made.{Maker, IsMadeOf, IsNoReport}
use Rattle.report_lines.specs.Runs.{Ran}
use Rattle.report_lines.specs.Complete.{IsSomeReport, FileIs, HasNoFault}
use Rattle.report_lines.specs.declared.outcome.Outcome.{Outcome}
use Rattle.report_lines.specs.declared.outcome.Outcome.TheVariants as outcome
use Rattle.report_lines.proofs.OneMaking.{made_or_bad, one_first_bad, is_report}

-- ---- files

meet_bytes : (o : Option (List ℕ)) (P Q : List ℕ → Type 0) → MatchOption o ⊥ P → MatchOption o ⊥ Q → (bytes : List ℕ) × P bytes × Q bytes
meet_bytes None P Q p q = absurd p
meet_bytes (Some bytes) P Q p q = (bytes, p, q)

-- a file that is there is so in two ways at once
pub meet : (files : Option Files) (name : List ℕ) (P Q : List ℕ → Type 0) → FileIs files name P → OfFile files name Q → (bytes : List ℕ) × P bytes × Q bytes
meet None name P Q p q = absurd p
meet (Some files) name P Q p q = meet_bytes (files name) P Q p q

-- where a file is there, what is told of it is so
pub told : (files : Option Files) (name : List ℕ) (P Q : List ℕ → Type 0) → FileIs files name P → OfFile files name Q → FileIs files name Q
told None name P Q p q = absurd p
told (Some files) name P Q p q = q

not_missing : (files : Option Files) (name : List ℕ) (P : List ℕ → Type 0) → FileIs files name P → IsMissing files name → ⊥
not_missing None name P p m = p
not_missing (Some files) name P p m = subst (λ (o : Option (List ℕ)). MatchOption o ⊥ P) m p

pub none_of_missing : (files : Option Files) (name : List ℕ) (P : List ℕ → Type 0) → IsMissing files name → OfFile files name P → ⊥
none_of_missing None name P m p = m
none_of_missing (Some files) name P m p = subst (λ (o : Option (List ℕ)). MatchOption o ⊥ P) m p

-- ---- runs

module _ (make : Maker) (name : List ℕ) (old new : DeskState) where
  -- a report has no first bad line
  not_refused : (k : ℕ) → FileIs old.files name IsSomeReport → OfFile old.files name (λ text. IsNoReport text k) → ⊥
  not_refused k f h = let m = meet old.files name IsSomeReport (λ text. IsNoReport text k) f h in made_or_bad m.0 k m.1 m.2

  pub made : (o : Outcome) → Ran make name old new o → FileIs old.files name IsSomeReport → HasNoFault old new → (o ≡ outcome.Done) ⊎ (o ≡ outcome.NoMemory)
  made outcome.Done r f h = inl refl
  made outcome.NoMemory r f h = inr refl
  made outcome.Usage r f h = absurd r
  made (outcome.NotOver k) r f h = absurd r
  made outcome.TooLarge r f h = absurd r
  made outcome.NotSolid r f h = absurd r
  made outcome.NotFlat r f h = absurd r
  made (outcome.NotReport k) r f h = absurd (not_refused k f r.0)
  made outcome.ReadFault (inl rose, w) f h = absurd (h.read rose)
  made outcome.ReadFault (inr missing, w) f h = absurd (not_missing old.files name IsSomeReport f missing)
  made outcome.WriteFault r f h = absurd (h.write r.cause)

  -- of a file of which nothing can be made nothing is
  pub not_made : (bytes : List ℕ) → FileIs old.files name (λ text. IsSomeReport text → ⊥) → OfFile old.files name (λ text. IsMadeOf make text bytes) → ⊥
  not_made bytes f h =
      let m = meet old.files name (λ text. IsSomeReport text → ⊥) (λ text. IsMadeOf make text bytes) f h in
      m.1 (is_report make m.0 bytes m.2)

  pub refuses : (o : Outcome) → Ran make name old new o → FileIs old.files name (λ text. IsSomeReport text → ⊥) → (Rose old.read_faults new.read_faults → ⊥)
      → ((k : ℕ) × (o ≡ outcome.NotReport k) × FileIs old.files name (λ text. IsNoReport text k)) ⊎ (o ≡ outcome.NoMemory)
  refuses outcome.NoMemory r f n = inr refl
  refuses (outcome.NotReport k) r f n = inl (k, refl, told old.files name (λ text. IsSomeReport text → ⊥) (λ text. IsNoReport text k) f r.0)
  refuses outcome.Done r f n = absurd (not_made r.bytes f r.made)
  refuses outcome.Usage r f n = absurd r
  refuses (outcome.NotOver k) r f n = absurd r
  refuses outcome.TooLarge r f n = absurd r
  refuses outcome.NotSolid r f n = absurd r
  refuses outcome.NotFlat r f n = absurd r
  refuses outcome.ReadFault (inl rose, w) f n = absurd (n rose)
  refuses outcome.ReadFault (inr missing, w) f n = absurd (not_missing old.files name (λ text. IsSomeReport text → ⊥) f missing)
  refuses outcome.WriteFault r f n = absurd (not_made r.bytes f r.made)

  the_line : (k m : ℕ) → FileIs old.files name (λ text. IsNoReport text k) → OfFile old.files name (λ text. IsNoReport text m) → m ≡ k
  the_line k m f h = let b = meet old.files name (λ text. IsNoReport text k) (λ text. IsNoReport text m) f h in one_first_bad b.0 m k b.2 b.1

  pub bad_not_made : (k : ℕ) (bytes : List ℕ) → FileIs old.files name (λ text. IsNoReport text k) → OfFile old.files name (λ text. IsMadeOf make text bytes) → ⊥
  bad_not_made k bytes f h =
      let m = meet old.files name (λ text. IsNoReport text k) (λ text. IsMadeOf make text bytes) f h in
      made_or_bad m.0 k (is_report make m.0 bytes m.2) m.1

  pub tells : (o : Outcome) (k : ℕ) → Ran make name old new o → FileIs old.files name (λ text. IsNoReport text k) → (Rose old.read_faults new.read_faults → ⊥)
      → (o ≡ outcome.NotReport k) ⊎ (o ≡ outcome.NoMemory)
  tells outcome.NoMemory k r f n = inr refl
  tells (outcome.NotReport m) k r f n = inl (ap (λ x. outcome.NotReport x) (the_line k m f r.0))
  tells outcome.Done k r f n = absurd (bad_not_made k r.bytes f r.made)
  tells outcome.Usage k r f n = absurd r
  tells (outcome.NotOver m) k r f n = absurd r
  tells outcome.TooLarge k r f n = absurd r
  tells outcome.NotSolid k r f n = absurd r
  tells outcome.NotFlat k r f n = absurd r
  tells outcome.ReadFault k (inl rose, w) f n = absurd (n rose)
  tells outcome.ReadFault k (inr missing, w) f n = absurd (not_missing old.files name (λ text. IsNoReport text k) f missing)
  tells outcome.WriteFault k r f n = absurd (bad_not_made k r.bytes f r.made)

  pub lacks : (o : Outcome) → Ran make name old new o → IsMissing old.files name → (o ≡ outcome.ReadFault) ⊎ (o ≡ outcome.NoMemory)
  lacks outcome.NoMemory r m = inr refl
  lacks outcome.ReadFault r m = inl refl
  lacks (outcome.NotReport k) r m = absurd (none_of_missing old.files name (λ text. IsNoReport text k) m r.0)
  lacks outcome.Done r m = absurd (none_of_missing old.files name (λ text. IsMadeOf make text r.bytes) m r.made)
  lacks outcome.Usage r m = absurd r
  lacks (outcome.NotOver k) r m = absurd r
  lacks outcome.TooLarge r m = absurd r
  lacks outcome.NotSolid r m = absurd r
  lacks outcome.NotFlat r m = absurd r
  lacks outcome.WriteFault r m = absurd (none_of_missing old.files name (λ text. IsMadeOf make text r.bytes) m r.made)
