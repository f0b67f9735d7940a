-- How a run ends that a failed write cut short, and the answer that a verdict is.
-- `mid` is the desk before the first write; up to there it was only read.
use Rattle.std.proofs.Common.{◌≡◌, ℕ, List, refl, sym, subst}
use Rattle.std.specs.Prelude.{Option}
use Rattle.shape_terms.specs.Pictures.{Picture}
use Rattle.shape_terms.specs.Thinning.{Rule}
use Rattle.shape_terms.specs.Shelves.{Named}
use Rattle.shape_desk.specs.Desk.{Files, DeskState, Rose, Puts, PutsFront, OnlyReads}
use Rattle.shape_desk.specs.declared.desk.Place.TheVariants.{Report}
use Rattle.text_terms.specs.Going.{TakesFew}
use Rattle.report_text.specs.declared.answer.Judgement.{Judgement}
use Rattle.report_text.specs.declared.answer.Judgement.TheVariants as judgement
use Rattle.shape_cli.specs.Sources.{Source}
use Rattle.shape_cli.specs.Kinds.{ReportKind, Wanted, report_of, Makes}
use Rattle.shape_cli.specs.Commands.{Asked}
use Rattle.shape_cli.specs.Outcomes.{outcome_of}
use Rattle.shape_cli.specs.Parts.{IsRight, verdict_text}
use Rattle.shape_desk.specs.Files.{OfFile}
use Rattle.shape_cli.specs.Runs.{IsPictureOf, Answers, Answered, CutShort, TookFew, Ran}
use Rattle.shape_cli.specs.declared.outcome.Outcome.{Outcome}
use Rattle.shape_cli.specs.declared.outcome.Outcome.TheVariants as outcome

pub cut_short : (shelf : List (Named Rule)) (c : Asked) (old mid new : DeskState) (o : Outcome) (text : List ℕ) → OnlyReads old mid
    → Answers shelf c old.files o text → PutsFront mid.written new.written text → Rose mid.write_faults new.write_faults → TookFew shelf c old new
    → CutShort shelf c old new
cut_short shelf c old mid new o text h r p f t = record {
  outcome = o;
  text = text;
  right = r;
  puts = subst (λ w. PutsFront w new.written text) h.same_written p;
  cause = subst (λ n. Rose n new.write_faults) h.same_faults f;
  taken = t;
}

pub verdict_answers : (shelf : List (Named Rule)) (source : Source) (kind : ReportKind) (report : List ℕ) (files : Option Files) (X : Picture) (v : Judgement)
    → IsPictureOf files source X → OfFile files report (IsRight shelf kind X v)
    → Answers shelf (Asked.Check source kind report) files (outcome_of v) (verdict_text v)
verdict_answers shelf source kind report files X judgement.Yes p r = (refl, (X, p, r))
verdict_answers shelf source kind report files X (judgement.No k) p r = (refl, (X, p, r))

-- a verdict that was written is the answer of its check
pub answered : (shelf : List (Named Rule)) (c : Asked) (old mid new : DeskState) (v : Judgement) (o : Outcome) → o ≡ outcome_of v → OnlyReads old mid
    → Answers shelf c old.files (outcome_of v) (verdict_text v) → Puts mid.written new.written (verdict_text v) → TookFew shelf c old new
    → Ran shelf c old new o
answered shelf c old mid new judgement.Yes o e h r p t =
    subst (Ran shelf c old new) (sym e)
    (record { text = verdict_text judgement.Yes; right = r; puts = subst (λ w. Puts w new.written (verdict_text judgement.Yes)) h.same_written p; taken = t })
answered shelf c old mid new (judgement.No k) o e h r p t =
    subst (Ran shelf c old new) (sym e)
    (record {
      text = verdict_text (judgement.No k);
      right = r;
      puts = subst (λ w. Puts w new.written (verdict_text (judgement.No k))) h.same_written p;
      taken =
          t;
    })

-- a verdict is right of the same files
pub kept_right : (shelf : List (Named Rule)) (kind : ReportKind) (X : Picture) (report : List ℕ) (v : Judgement) (f g : Option Files) → f ≡ g
    → OfFile f report (IsRight shelf kind X v) → OfFile g report (IsRight shelf kind X v)
kept_right shelf kind X report v f g e h = subst (λ files. OfFile files report (IsRight shelf kind X v)) e h

-- what a checker took of the report is taken at the end of the run
pub took : (shelf : List (Named Rule)) (source : Source) (kind : ReportKind) (report : List ℕ) (old mid judged new : DeskState) (X : Picture)
    → mid.files ≡ old.files → new.left Report ≡ judged.left Report → IsPictureOf old.files source X
    → OfFile mid.files report (λ bytes. TakesFew (report_of shelf kind X) bytes (judged.left Report)) → TookFew shelf (Asked.Check source kind report) old new
took shelf source kind report old mid judged new X f l p t = (
  X,
  p,
  subst (λ n. OfFile old.files report (λ bytes. TakesFew (report_of shelf kind X) bytes n)) (sym l)
      (subst (λ s. OfFile s report (λ bytes. TakesFew (report_of shelf kind X) bytes (judged.left Report))) f t),
)

-- a whole report that was written is the answer of its making
pub made : (shelf : List (Named Rule)) (source : Source) (wanted : Wanted) (old mid new : DeskState) (X : Picture) (text : List ℕ) → OnlyReads old mid
    → IsPictureOf old.files source X → Makes shelf wanted X text → Puts mid.written new.written text
    → Answered shelf (Asked.Make source wanted) old new outcome.Done
made shelf source wanted old mid new X text r p h w =
    record { text = text; right = (X, p, h); puts = subst (λ b. Puts b new.written text) r.same_written w; taken = tt }
