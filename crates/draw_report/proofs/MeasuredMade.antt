-- The measures that are drawn are those of the labels of what lines say.
-- Pictures and lists alone; nothing is read here.
use Rattle.std.proofs.Common.{◌≡◌, ℕ, List, subst}
use Rattle.shape_terms.specs.Parts.{LabelsObject}
use Rattle.report_lines.specs.Said.{Said}
use Rattle.measure_terms.specs.Measures.{greatest}
use Rattle.draw_report.specs.Measured.{Measured, AreMeasured}

pub labels_made : (kept s : Said) (labels : List ℕ) → kept ≡ s → LabelsObject kept.object labels → LabelsObject s.object labels
labels_made kept s labels e h = subst (λ (z : Said). LabelsObject z.object labels) e h

pub measured_made : (kept s : Said) (labels : List ℕ) (count : ℕ) (m : Measured) → kept ≡ s → count ≡ greatest labels
    → AreMeasured kept.object.sides labels count m → AreMeasured s.object.sides labels (greatest labels) m
measured_made kept s labels count m e f h =
    subst (λ (z : Said). AreMeasured z.object.sides labels (greatest labels) m) e (subst (λ n. AreMeasured kept.object.sides labels n m) f h)
