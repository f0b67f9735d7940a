-- The table whose numbers are drawn is that of the lines, and the drawing is put together of its parts.
-- Lists alone; nothing is read here.
use Rattle.std.proofs.Common.{◌≡◌, ℕ, List, ap, ◌∙◌, subst, map}
use Rattle.shape_terms.specs.Pictures.{Picture}
use Rattle.report_lines.specs.Said.{Said}
use Rattle.measure_terms.specs.Facts.{facts}
use Rattle.measure_terms.specs.Tables.{rows, IsTable}
use Rattle.measuring.specs.Told.{measures_told}
use Rattle.measuring.specs.TellsTable.{TellsTable}
use Rattle.measuring.specs.declared.table.Table.{Table}

-- a table of pictures and numbers that are what is said
pub tells_said : (s : Said) (object : Picture) (squares : List ℕ) (left : Picture) (t : Table) → object ≡ s.object → squares ≡ s.squares → left ≡ s.left
    → TellsTable object squares left t → TellsTable s.object s.squares s.left t
tells_said s object squares left t o q l h =
    subst (λ (X : Picture). TellsTable X s.squares s.left t) o
    (subst (λ (n : List ℕ). TellsTable object n s.left t) q
    (subst (λ (Y : Picture). TellsTable object squares Y t) l h))

-- a table that the program keeps of what is said is its table
table_kept : (s : Said) (t : Table) → TellsTable s.object s.squares s.left t
    → IsTable s.object s.squares s.left (map (measures_told s.object.sides) t.rows.items)
table_kept s t h = record {
  labels = t.labels;
  named = h.labels;
  rows = h.rows ∙ ap (λ n. rows n (facts s.object s.squares s.left t.labels)) h.count;
}

-- the same of what lines say, which is what was kept
pub table_made : (kept s : Said) (t : Table) → kept ≡ s → TellsTable kept.object kept.squares kept.left t
    → IsTable s.object s.squares s.left (map (measures_told s.object.sides) t.rows.items)
table_made kept s t e h = table_kept s t (subst (λ (z : Said). TellsTable z.object z.squares z.left t) e h)
