-- What a run wrote that makes the table of a report that holds of a picture, and that two such runs write the same.
-- Put together from the laws of runs, of what a table tells, and of one table.
use Rattle.std.proofs.Common.{◌≡◌, inl, inr, ℕ, List, sym, subst}
use Rattle.shape_terms.specs.Shelves.{AreNames, names_of}
use Rattle.shape_desk.specs.Desk.{DeskState, Puts}
use Rattle.report_terms.specs.Subjects.{Subject}
use Rattle.report_terms.specs.Holds.{Holds}
use Rattle.report_lines.specs.Reports.{Space}
use Rattle.report_lines.specs.Tells.{StandsIn}
use Rattle.report_lines.proofs.Telling.{holding_tells}
use Rattle.report_lines.specs.Made.{IsSpace}
use Rattle.report_lines.specs.Runs.{Ran}
use Rattle.report_lines.specs.Complete.{FileIs, WritesOf}
use Rattle.report_lines.specs.declared.outcome.Outcome.TheVariants.{Done}
use Rattle.report_lines.proofs.Written.{writes_of}
use Rattle.measure_report.specs.TableTexts.{IsTableText}
use Rattle.measure_report.specs.Tabled.{HasTable}
use Rattle.measure_report.specs.Whole.{WritesMeasures, RanWhole, WriteAlike}
use Rattle.measure_report.specs.declared.groups.Groups.{Groups}
use Rattle.measure_report.proofs.Telling.{spelled_so}
use Rattle.measure_report.proofs.OneTable.{flat_once, solid_once}

module _ (g : Groups) (s : Space) (X : Subject) (name text : List ℕ) (old new : DeskState) (known : IsSpace s) (stands : StandsIn s X.picture)
    (holds : Holds X text) where
  pub measures_written : FileIs old.files name (λ bytes. bytes ≡ text) → Ran (IsTableText g) name old new Done → WritesMeasures g s X text old new
  measures_written file ran =
      let t = holding_tells s X text holds stands in
      let w = writes_of (IsTableText g) s name text t.lines old new known t.report file ran in
      record { lines = t.lines; report = t.report; bytes = w.bytes; spells = spelled_so g s known X text w.bytes t holds stands w.made; puts = w.puts }

-- ---- two runs

module _ (g : Groups) (X : Subject) (number : ℕ) (rule : List ℕ) where
  -- texts of a space that have tables have one
  TableOnce : Space → Type 0
  TableOnce s = (text other bytes more : List ℕ) → StandsIn s X.picture → HasTable g s X number rule text bytes → HasTable g s X number rule other more
      → bytes ≡ more

  -- so it is in the plane and in space
  one_table : AreNames (names_of X.shelf) → (s : Space) → IsSpace s → TableOnce s
  unfolding TableOnce
  one_table names s (inl e) = subst TableOnce (sym e) (λ text other bytes more. flat_once g X number rule text other bytes more names)
  one_table names s (inr e) = subst TableOnce (sym e) (λ text other bytes more. solid_once g X number rule text other bytes more names)

  module _ (s : Space) (known : IsSpace s) where
    -- what a run wrote
    written : (old new : DeskState) (r : RanWhole g s X number rule old new) → WritesOf (IsTableText g) s r.lines old new
    written old new r = writes_of (IsTableText g) s r.name r.text r.lines old new known r.report r.file r.ran

    -- it is the table of the report
    has_table : (old new : DeskState) (r : RanWhole g s X number rule old new) (w : WritesOf (IsTableText g) s r.lines old new)
        → HasTable g s X number rule r.text w.bytes
    has_table old new r w = record { holds = r.holds; lines = r.lines; report = r.report; opens = r.opens; table = w.made }

    alike : (old new before after : DeskState) → AreNames (names_of X.shelf) → StandsIn s X.picture
        → RanWhole g s X number rule old new → RanWhole g s X number rule before after → WriteAlike old new before after
    unfolding TableOnce
    alike old new before after names stands r q =
        let w = written old new r in
        let v = written before after q in
        let same = one_table names s known r.text q.text w.bytes v.bytes stands (has_table old new r w) (has_table before after q v) in
        record { bytes = w.bytes; one = w.puts; other = subst (Puts before.written after.written) (sym same) v.puts }

pub written_alike : (g : Groups) (s : Space) (X : Subject) (number : ℕ) (rule : List ℕ) (old new before after : DeskState)
    → IsSpace s → AreNames (names_of X.shelf) → StandsIn s X.picture
    → RanWhole g s X number rule old new → RanWhole g s X number rule before after → WriteAlike old new before after
written_alike g s X number rule old new before after known = alike g X number rule s known old new before after
