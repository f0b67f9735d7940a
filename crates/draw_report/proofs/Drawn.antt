-- What a run wrote that draws a report that holds of a flat picture, with numbers.
-- The deepest points stand in `Deepest`; what a run writes, in `report_lines`.
use Rattle.std.proofs.Common.{◌≡◌, ◌⊎◌, inl, inr, ℕ, ◌<◌, ◌≤◌, List, length, refl, subst}
use Rattle.shape_desk.specs.Desk.{DeskState}
use Rattle.report_terms.specs.Subjects.{Subject}
use Rattle.report_terms.specs.Holds.{Holds}
use Rattle.report_terms.specs.Lines.{Line}
use Rattle.report_lines.specs.Reports.{flat, IsReport}
use Rattle.report_lines.specs.Tells.{StandsIn}
use Rattle.report_lines.proofs.OneReading.{one_reading}
use Rattle.report_lines.proofs.Telling.{holding_tells}
use Rattle.report_lines.specs.Made.{up_to, beyond, IsMadeOf}
use Rattle.report_lines.specs.Runs.{IsTooLarge, RanUpTo}
use Rattle.report_lines.specs.Complete.{FileIs, HasNoFault}
use Rattle.report_lines.specs.declared.outcome.Outcome.{Outcome}
use Rattle.report_lines.specs.declared.outcome.Outcome.TheVariants as outcome
use Rattle.report_lines.specs.declared.outcome.Outcome.TheVariants.{Done}
use Rattle.report_lines.proofs.Complete.{meet}
use Rattle.report_lines.proofs.Weaker as Weaker
use Rattle.report_lines.proofs.Written.{made_of, writes_of}
use Rattle.drawing.specs.Svg.{drawing, most_drawing}
use Rattle.draw_report.specs.Drawings.{IsDrawing, IsNumberedText, IsNumberedDrawing}
use Rattle.draw_report.specs.Holding.{WritesNumbered}
use Rattle.draw_report.proofs.Deepest.{numbers_tell}

pub numbers_drawn : (X : Subject) (name text : List ℕ) (old new : DeskState) → Holds X text → StandsIn flat X.picture
    → FileIs old.files name (λ bytes. bytes ≡ text) → RanUpTo most_drawing IsNumberedDrawing name old new Done → WritesNumbered X text old new
numbers_drawn X name text old new holds stands file ran =
    let tells = holding_tells flat X text holds stands in
    let w = writes_of IsNumberedDrawing flat name text tells.lines old new (inl refl) tells.report file
    (Weaker.without_bound most_drawing IsNumberedDrawing name old new Done ran (λ e. cc)) in
    let t = numbers_tell X text w.bytes holds stands in
    let same : tells.lines ≡ t.lines = one_reading flat text tells.lines t.lines tells.report t.report in
    record { lines = t.lines; report = t.report; bytes = w.bytes; numbered = t.told (subst (λ ls. IsNumberedText ls w.bytes) same w.made); puts = w.puts }

-- ---- large drawings

module _ (name text : List ℕ) (lines : List Line) (old new : DeskState) (report : IsReport flat text lines)
    (file : FileIs old.files name (λ bytes. bytes ≡ text)) where
  too_large : IsTooLarge most_drawing IsDrawing name old → most_drawing < length (drawing lines)
  too_large t =
      let large = beyond most_drawing IsDrawing in
      let m = meet old.files name (λ bytes. bytes ≡ text) (λ b. IsMadeOf large b t.bytes) file t.made in
      let d = made_of large text t.bytes flat lines (inl refl) report (subst (λ b. IsMadeOf large b t.bytes) m.1 m.2) in
      subst (λ b. most_drawing < length b) d.0 d.2

  small : RanUpTo most_drawing IsDrawing name old new Done → length (drawing lines) ≤ most_drawing
  small ran =
      let w = writes_of (up_to most_drawing IsDrawing) flat name text lines old new (inl refl) report file ran in
      subst (λ b. length b ≤ most_drawing) w.made.0 (w.made.1 refl)

  pub large_or_drawn : (o : Outcome) → HasNoFault old new → RanUpTo most_drawing IsDrawing name old new o
      → ((o ≡ outcome.TooLarge) × (most_drawing < length (drawing lines)))
      ⊎ (((o ≡ outcome.Done) × (length (drawing lines) ≤ most_drawing)) ⊎ (o ≡ outcome.NoMemory))
  large_or_drawn outcome.TooLarge none ran = inl (refl, too_large ran.0)
  large_or_drawn outcome.Done none ran = inr (inl (refl, small ran))
  large_or_drawn outcome.NoMemory none ran = inr (inr refl)
  large_or_drawn o none ran =
      elim (Weaker.made most_drawing IsDrawing name old new o ran (Weaker.report_there old.files name text flat lines (inl refl) report file) none) [
        | inl e ↦ absurd cc
        | inr e ↦ elim e [ inl f ↦ absurd cc | inr f ↦ absurd cc ]
      ]
