-- Which outcome comes where nothing failed, over the relation of a run.
-- Each law goes through the outcomes once.
use Rattle.std.proofs.Common.{◌≡◌, ◌⊎◌, inl, inr, ℕ, List, refl, ap, subst, sym}
use Rattle.std.specs.Prelude.{Option}
use Rattle.shape_terms.specs.Pictures.{Picture}
use Rattle.shape_terms.specs.Thinning.{Rule}
use Rattle.shape_terms.specs.Shelves.{Named}
use Rattle.text_terms.specs.Reports.{Holds, FirstBad}
use Rattle.shape_desk.specs.Desk.{Files, DeskState, Rose}
use Rattle.shape_picture.specs.declared.fault.PictureFault.{PictureFault}
use Rattle.shape_cli.specs.Sources.{Source, file_of}
use Rattle.shape_cli.specs.Kinds.{ReportKind, report_of}
use Rattle.shape_cli.specs.Commands.{Asked, OfSource, IfSource}
use Rattle.shape_cli.specs.Runs.{IsFaultOf, IsRightReport, Answers, Lacks, Ran}
use Rattle.shape_cli.specs.Complete.{FileIs, FindsPicture, FindsSome, FindsFault, FindsRest, HasNoFault, IsAnswer}
use Rattle.shape_cli.specs.declared.outcome.Outcome.{Outcome}
use Rattle.shape_cli.specs.declared.outcome.Outcome.TheVariants as outcome
use Rattle.shape_cli.proofs.Sources.{meet, told, not_missing, is_told, not_faulty, not_picture, its_fault, its_picture, finds_some, is_there}

module _ (shelf : List (Named Rule)) where
  -- a command that finds all lacks nothing
  not_lacking : (c : Asked) (files : Option Files) → IfSource c (FindsSome files) → FindsRest c files → Lacks c files → ⊥
  not_lacking (Asked.Make source wanted) files s r m = not_missing files (file_of source) _ (is_told files (file_of source) _ s) m
  not_lacking (Asked.Check source kind report) files s r (inl m) = not_missing files (file_of source) _ (is_told files (file_of source) _ s) m
  not_lacking (Asked.Check source kind report) files s r (inr m) = not_missing files report _ (is_told files report _ r) m.0
  not_lacking (Asked.Trial kind seed side) files s r m = m

  -- a source that is there and accepted has no fault
  has_none : (c : Asked) (files : Option Files) (f : PictureFault) → IfSource c (FindsSome files) → OfSource c (λ source. IsFaultOf files source f) → ⊥
  has_none (Asked.Make source wanted) files f s h = not_faulty files source f s h
  has_none (Asked.Check source kind report) files f s h = not_faulty files source f s h
  has_none (Asked.Trial kind seed side) files f s h = h

  pub answers : (c : Asked) (old new : DeskState) (o : Outcome) → Ran shelf c old new o → IfSource c (FindsSome old.files) → FindsRest c old.files
      → HasNoFault old new → IsAnswer c o ⊎ (o ≡ outcome.NoMemory)
  answers c old new outcome.NoMemory r s t h = inr refl
  answers c old new outcome.Usage r s t h = absurd r
  answers c old new outcome.WriteFault r s t h = absurd (h.write r.cause)
  answers c old new (outcome.Picture f) r s t h = absurd (has_none c old.files f s r.0)
  answers c old new outcome.ReadFault (reads, inl rose, w) s t h = absurd (h.read rose)
  answers c old new outcome.ReadFault (reads, inr l, w) s t h = absurd (not_lacking c old.files s t l)
  answers (Asked.Make source wanted) old new outcome.Done r s t h = inl tt
  answers (Asked.Make source wanted) old new outcome.Yes r s t h = absurd r.right
  answers (Asked.Make source wanted) old new (outcome.No k) r s t h = absurd r.right
  answers (Asked.Check source kind report) old new outcome.Done r s t h = absurd r.right
  answers (Asked.Check source kind report) old new outcome.Yes r s t h = inl tt
  answers (Asked.Check source kind report) old new (outcome.No k) r s t h = inl tt
  answers (Asked.Trial kind seed side) old new outcome.Done r s t h = inl tt
  answers (Asked.Trial kind seed side) old new outcome.Yes r s t h = absurd r.right
  answers (Asked.Trial kind seed side) old new (outcome.No k) r s t h = absurd r.right

  -- ---- a source with a fault is there, and is no picture

  not_without : (c : Asked) (files : Option Files) (f : PictureFault) → OfSource c (λ source. FindsFault files source f) → Lacks c files → ⊥
  not_without (Asked.Make source wanted) files f h m = not_missing files (file_of source) _ (is_told files (file_of source) _ h) m
  not_without (Asked.Check source kind report) files f h (inl m) = not_missing files (file_of source) _ (is_told files (file_of source) _ h) m
  not_without (Asked.Check source kind report) files f h (inr m) = not_picture files source f m.1.0 h m.1.1
  not_without (Asked.Trial kind seed side) files f h m = m

  not_told : (c : Asked) (files : Option Files) (f : PictureFault) (o : Outcome) (text : List ℕ) → OfSource c (λ source. FindsFault files source f)
      → Answers shelf c files o text → ⊥
  not_told (Asked.Make source wanted) files f outcome.Done text h a = not_picture files source f a.0 h a.1
  not_told (Asked.Check source kind report) files f outcome.Yes text h a = not_picture files source f a.1.0 h a.1.1
  not_told (Asked.Check source kind report) files f (outcome.No k) text h a = not_picture files source f a.1.0 h a.1.1
  not_told (Asked.Make source wanted) files f _ text h a = absurd a
  not_told (Asked.Check source kind report) files f _ text h a = absurd a
  not_told (Asked.Trial kind seed side) files f o text h a = absurd h

  the_fault : (c : Asked) (files : Option Files) (f g : PictureFault) → OfSource c (λ source. FindsFault files source f)
      → OfSource c (λ source. IsFaultOf files source g) → g ≡ f
  the_fault (Asked.Make source wanted) files f g h k = its_fault files source f g h k
  the_fault (Asked.Check source kind report) files f g h k = its_fault files source f g h k
  the_fault (Asked.Trial kind seed side) files f g h k = absurd h

  pub refuses : (c : Asked) (old new : DeskState) (o : Outcome) (f : PictureFault) → Ran shelf c old new o
      → OfSource c (λ source. FindsFault old.files source f) → (Rose old.read_faults new.read_faults → ⊥) → (o ≡ outcome.Picture f) ⊎ (o ≡ outcome.NoMemory)
  refuses c old new outcome.NoMemory f r h n = inr refl
  refuses c old new outcome.Usage f r h n = absurd r
  refuses c old new (outcome.Picture g) f r h n = inl (ap (λ x. outcome.Picture x) (the_fault c old.files f g h r.0))
  refuses c old new outcome.ReadFault f (reads, inl rose, w) h n = absurd (n rose)
  refuses c old new outcome.ReadFault f (reads, inr l, w) h n = absurd (not_without c old.files f h l)
  refuses c old new outcome.Done f r h n = absurd (not_told c old.files f outcome.Done r.text h r.right)
  refuses c old new outcome.Yes f r h n = absurd (not_told c old.files f outcome.Yes r.text h r.right)
  refuses c old new (outcome.No k) f r h n = absurd (not_told c old.files f (outcome.No k) r.text h r.right)
  refuses c old new outcome.WriteFault f r h n = absurd (not_told c old.files f r.outcome r.text h r.right)

  -- ---- a command that lacks a file has no answer, and its source no fault

  no_answer : (c : Asked) (files : Option Files) (o : Outcome) (text : List ℕ) → Lacks c files → Answers shelf c files o text → ⊥
  no_answer (Asked.Make source wanted) files outcome.Done text m a = not_missing files (file_of source) _ a.1 m
  no_answer (Asked.Check source kind report) files outcome.Yes text (inl m) a = not_missing files (file_of source) _ a.1.1 m
  no_answer (Asked.Check source kind report) files outcome.Yes text (inr m) a = not_missing files report _ a.1.2 m.0
  no_answer (Asked.Check source kind report) files (outcome.No k) text (inl m) a = not_missing files (file_of source) _ a.1.1 m
  no_answer (Asked.Check source kind report) files (outcome.No k) text (inr m) a = not_missing files report _ a.1.2 m.0
  no_answer (Asked.Make source wanted) files _ text m a = absurd a
  no_answer (Asked.Check source kind report) files _ text m a = absurd a
  no_answer (Asked.Trial kind seed side) files o text m a = m

  no_fault : (c : Asked) (files : Option Files) (f : PictureFault) → Lacks c files → OfSource c (λ source. IsFaultOf files source f) → ⊥
  no_fault (Asked.Make source wanted) files f m h = not_missing files (file_of source) _ h m
  no_fault (Asked.Check source kind report) files f (inl m) h = not_missing files (file_of source) _ h m
  no_fault (Asked.Check source kind report) files f (inr m) h = not_picture files source f m.1.0 (told files report (file_of source) _ m.0 h) m.1.1
  no_fault (Asked.Trial kind seed side) files f m h = m

  pub lacks : (c : Asked) (old new : DeskState) (o : Outcome) → Ran shelf c old new o → Lacks c old.files → (o ≡ outcome.ReadFault) ⊎ (o ≡ outcome.NoMemory)
  lacks c old new outcome.NoMemory r m = inr refl
  lacks c old new outcome.ReadFault r m = inl refl
  lacks c old new outcome.Usage r m = absurd r
  lacks c old new (outcome.Picture f) r m = absurd (no_fault c old.files f m r.0)
  lacks c old new outcome.Done r m = absurd (no_answer c old.files outcome.Done r.text m r.right)
  lacks c old new outcome.Yes r m = absurd (no_answer c old.files outcome.Yes r.text m r.right)
  lacks c old new (outcome.No k) r m = absurd (no_answer c old.files (outcome.No k) r.text m r.right)
  lacks c old new outcome.WriteFault r m = absurd (no_answer c old.files r.outcome r.text m r.right)

  -- ---- verdicts

  module _ (source : Source) (kind : ReportKind) (report : List ℕ) (X : Picture) (old new : DeskState) where
    -- the answer of a check whose report is there
    judged : (P : List ℕ → Type 0) (o : Outcome) → Ran shelf (Asked.Check source kind report) old new o → FindsPicture old.files source X
        → FileIs old.files report P → HasNoFault old new → IsAnswer (Asked.Check source kind report) o ⊎ (o ≡ outcome.NoMemory)
    judged P o r p h n = answers (Asked.Check source kind report) old new o r (finds_some old.files source X p) (is_there old.files report P h) n

    holds_no : (k : ℕ) (text : List ℕ) → Answers shelf (Asked.Check source kind report) old.files (outcome.No k) text → FindsPicture old.files source X
        → FileIs old.files report (Holds (report_of shelf kind X)) → ⊥
    holds_no k text a p h =
        let e = its_picture old.files source X a.1.0 p a.1.1 in
        let m = meet old.files report (Holds (report_of shelf kind X)) (λ bytes. FirstBad (report_of shelf kind a.1.0) bytes k) h a.1.2 in
        m.2.fails (subst (λ Y. Holds (report_of shelf kind Y) m.0) e m.1)

    pub yes : (o : Outcome) → Ran shelf (Asked.Check source kind report) old new o → FindsPicture old.files source X
        → FileIs old.files report (Holds (report_of shelf kind X)) → HasNoFault old new → (o ≡ outcome.Yes) ⊎ (o ≡ outcome.NoMemory)
    yes o r p h n = by_answer o r (judged (Holds (report_of shelf kind X)) o r p h n)
      where
        by_answer : (o : Outcome) → Ran shelf (Asked.Check source kind report) old new o → IsAnswer (Asked.Check source kind report) o ⊎ (o ≡ outcome.NoMemory)
            → (o ≡ outcome.Yes) ⊎ (o ≡ outcome.NoMemory)
        by_answer o r (inr e) = inr e
        by_answer outcome.Yes r (inl a) = inl refl
        by_answer (outcome.No k) r (inl a) = absurd (holds_no k r.text r.right p h)
        by_answer _ r (inl a) = absurd a

    fails_yes : (text : List ℕ) → Answers shelf (Asked.Check source kind report) old.files outcome.Yes text → FindsPicture old.files source X
        → FileIs old.files report (λ bytes. Holds (report_of shelf kind X) bytes → ⊥) → ⊥
    fails_yes text a p h =
        let e = its_picture old.files source X a.1.0 p a.1.1 in
        let m = meet old.files report (λ bytes. Holds (report_of shelf kind X) bytes → ⊥) (IsRightReport shelf kind a.1.0) h a.1.2 in
        m.1 (subst (λ Y. Holds (report_of shelf kind Y) m.0) (sym e) m.2.0)

    pub no : (o : Outcome) → Ran shelf (Asked.Check source kind report) old new o → FindsPicture old.files source X
        → FileIs old.files report (λ bytes. Holds (report_of shelf kind X) bytes → ⊥) → HasNoFault old new
        → ((k : ℕ) × (o ≡ outcome.No k)) ⊎ (o ≡ outcome.NoMemory)
    no o r p h n = by_answer o r (judged (λ bytes. Holds (report_of shelf kind X) bytes → ⊥) o r p h n)
      where
        by_answer : (o : Outcome) → Ran shelf (Asked.Check source kind report) old new o → IsAnswer (Asked.Check source kind report) o ⊎ (o ≡ outcome.NoMemory)
            → ((k : ℕ) × (o ≡ outcome.No k)) ⊎ (o ≡ outcome.NoMemory)
        by_answer o r (inr e) = inr e
        by_answer outcome.Yes r (inl a) = absurd (fails_yes r.text r.right p h)
        by_answer (outcome.No k) r (inl a) = inl (k, refl)
        by_answer _ r (inl a) = absurd a
