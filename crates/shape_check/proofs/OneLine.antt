-- When the line of a section of one line is good: the heading and the counts.
-- Laws over pictures and lines.
use Rattle.std.proofs.Common.{◌≡◌, ℕ, sym, ◌∙◌, List, []}
use Rattle.std.specs.Prelude.{Bool, IsTrue, ◌↔◌}
use Rattle.shape_terms.specs.Pictures.{Picture}
use Rattle.shape_terms.specs.Adjacency.{Near, Side}
use Rattle.shape_terms.specs.Parts.{Counts, Object, FramedBackground}
use Rattle.report_terms.specs.Lines.{Line}
use Rattle.report_terms.specs.Sections.{CountsClaim}
use Rattle.shape_terms.proofs.PartCount.{one_count}

-- counts are those of the picture where they are the ones that it has
pub same_counts : (X : Picture) (n o c m k d : ℕ) (b : Bool) → Counts X n o c → (IsTrue b ↔ ((m ≡ n) × (k ≡ o) × (d ≡ c))) → (IsTrue b ↔ Counts X m k d)
same_counts X n o c m k d b counts r = (
  λ t.
      let e = r.0 t in
      rw (e.0, e.1, e.2) counts,
  λ other.
      r.1 (
        other.points ∙ sym counts.points,
        one_count Near (Object X) k o other.object counts.object,
        one_count Side (FramedBackground X) d c other.background counts.background,
      ),
)

-- the line of the counts is good where it gives those of the picture, which are what they are
pub counts_given : (X : Picture) (n o c m k d : ℕ) (lines : List Line) (b : Bool) → Counts X n o c → lines ≡ [] → (IsTrue b ↔ ((m ≡ n) × (k ≡ o) × (d ≡ c)))
    → (IsTrue b ↔ ((lines ≡ []) × CountsClaim X (Line.Parts m k d)))
counts_given X n o c m k d lines b counts none r = let h = same_counts X n o c m k d b counts r in (λ t. (none, h.0 t), λ claim. h.1 claim.1)
