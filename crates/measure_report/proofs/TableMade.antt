-- The table that is made is that of the lines whose sketch was kept.
-- Lists alone; nothing is read here.
use Rattle.std.proofs.Common.{◌≡◌, ℕ, Bool, true, List, [], ◌∷◌, map, refl, ap, ◌∙◌, subst}
use Rattle.shape_terms.specs.Pictures.{Picture}
use Rattle.shape_terms.specs.Parts.{LabelsObject}
use Rattle.report_terms.specs.Lines.{Line}
use Rattle.report_terms.specs.Sections.{number_of}
use Rattle.report_lines.specs.Said.{Said, said}
use Rattle.measure_terms.specs.Facts.{facts}
use Rattle.measure_terms.specs.Measures.{Measures, greatest}
use Rattle.measure_terms.specs.Tables.{rows, IsTable}
use Rattle.measuring.specs.Told.{measures_told}
use Rattle.measuring.specs.declared.row.Measures as Program
use Rattle.measure_terms.specs.Texts.{table_text}
use Rattle.measure_terms.specs.Borders.{Border, borders}
use Rattle.measure_terms.specs.Objects.{Bounds, object_bounds}
use Rattle.measure_report.specs.BorderColumns.{tells_lengths}
use Rattle.measure_report.specs.Further.{Further, AreFurther}
use Rattle.measure_report.specs.FurtherColumns.{flat_columns, solid_columns, tells_distances}
use Rattle.measure_report.specs.TableTexts.{IsTableText}
use Rattle.measure_report.specs.declared.groups.Groups.{Groups}

-- the rows of a table whose labels are given
pub record HasRows (object : Picture) (squares : List ℕ) (left : Picture) (labels : List ℕ) (count : ℕ) (ms : List Measures) : Type 0 where
  pub named : LabelsObject object labels
  pub count_is : count ≡ greatest labels
  pub rows_are : ms ≡ rows count (facts object squares left labels)

-- pictures and numbers are what the lines say
pub record AreSaid (lines : List Line) (object : Picture) (squares : List ℕ) (left : Picture) : Type 0 where
  pub object_is : object ≡ (said lines).object
  pub squares_are : squares ≡ (said lines).squares
  pub left_is : left ≡ (said lines).left

pub are_said : (lines : List Line) (s : Said) (object : Picture) (squares : List ℕ) (left : Picture) → s ≡ said lines → object ≡ s.object → squares ≡ s.squares
    → left ≡ s.left → AreSaid lines object squares left
are_said lines s object squares left e o q l = record {
  object_is = o ∙ ap (λ (z : Said). z.object) e;
  squares_are = q ∙ ap (λ (z : Said). z.squares) e;
  left_is = l ∙ ap (λ (z : Said). z.left) e;
}

table_of : (lines : List Line) (object : Picture) (squares : List ℕ) (left : Picture) (labels : List ℕ) (count : ℕ) (ms : List Measures)
    → AreSaid lines object squares left → HasRows object squares left labels count ms → IsTable (said lines).object (said lines).squares (said lines).left ms
table_of lines object squares left labels count ms e h =
    let many = h.count_is in
    let o = e.object_is in
    let q = e.squares_are in
    let l = e.left_is in
    record {
      labels = labels;
      named = subst (λ (z : Picture). LabelsObject z labels) o h.named;
      rows = h.rows_are ∙ (λ i. rows (many i) (facts (o i) (q i) (l i) labels));
    }

-- what further columns tell of the objects, where these are those that the lines tell
are_further : (g : Groups) (d : ℕ) (lines : List Line) (object : Picture) (squares : List ℕ) (left : Picture) (labels : List ℕ) (count : ℕ) (f : Further)
    → AreSaid lines object squares left → count ≡ greatest labels → AreFurther g d object squares labels count f
    → AreFurther g d (said lines).object (said lines).squares labels (greatest labels) f
are_further g d lines object squares left labels count f e many a =
    subst (λ n. AreFurther g d (said lines).object (said lines).squares labels n f) many
    (subst (λ (qs : List ℕ). AreFurther g d (said lines).object qs labels count f) e.squares_are
    (subst (λ (Y : Picture). AreFurther g d Y squares labels count f) e.object_is a))

-- the areas of a table
abbrev pub areas_of : List Measures → List ℕ
areas_of ms = map (λ (m : Measures). m.area) ms

pub solid_made : (g : Groups) (lines : List Line) (object : Picture) (squares : List ℕ) (left : Picture) (labels : List ℕ) (count : ℕ) (ms : List Measures)
    (f : Further) (bytes : List ℕ)
    → AreSaid lines object squares left → HasRows object squares left labels count ms → AreFurther g 3 object squares labels count f
    → bytes ≡ table_text (tells_distances g 3) 3 (solid_columns g (areas_of ms) f) ms → IsTableText g 3 lines bytes
unfolding table_of
solid_made g lines object squares left labels count ms f bytes e h a t = record {
  rows = ms;
  table = table_of lines object squares left labels count ms e h;
  further = f;
  are = are_further g 3 lines object squares left labels count f e h.count_is a;
  text = t;
}

pub flat_made : (g : Groups) (lines : List Line) (object : Picture) (squares : List ℕ) (left : Picture) (labels : List ℕ) (count : ℕ) (ms : List Measures)
    (told : Bool) (bs : List Border)
    (areas : List ℕ) (all : List Bounds) (f : Further) (bytes : List ℕ)
    → AreSaid lines object squares left → HasRows object squares left labels count ms → told ≡ tells_lengths (number_of lines) → bs ≡ borders lines
    → areas ≡ areas_of ms
    → all ≡ object_bounds object.sides labels count bs → AreFurther g 2 object squares labels count f
    → bytes ≡ table_text true 2 (flat_columns g told areas all f) ms → IsTableText g 2 lines bytes
unfolding table_of
flat_made g lines object squares left labels count ms told bs areas all f bytes e h tells border area bound a t =
    let whole = ap (λ (z : Picture). z.sides) e.object_is in
    let many = h.count_is in
    let bounds : all ≡ object_bounds (said lines).object.sides labels (greatest labels) (borders lines) = bound
    ∙ (λ i. object_bounds (whole i) labels (many i) (border i)) in
    record {
      rows = ms;
      table = table_of lines object squares left labels count ms e h;
      further = f;
      are = are_further g 2 lines object squares left labels count f e many a;
      text = t ∙ (λ i. table_text true 2 (flat_columns g (tells i) (area i) (bounds i) f) ms);
    }

-- the areas of the program's rows are those of the measures that they tell
pub areas_told : (sides : List ℕ) (rows : List Program.Measures) → map (λ (m : Program.Measures). m.area) rows ≡ areas_of (map (measures_told sides) rows)
areas_told sides [] = refl
areas_told sides (m ∷ rows) = ap (λ ns. m.area ∷ ns) (areas_told sides rows)
