-- Two reports of one picture that hold, with one number and one rule, have one table.
-- Put together from the laws of what their lines tell, of labels, borders and Feret diameters.
use Rattle.std.proofs.Common.{◌≡◌, inl, inr, ℕ, ◌<◌, true, refl, ap, sym, ◌∙◌, subst, arith, List, [], ◌∷◌, ◌++◌, length, get_or}
use Rattle.std.specs.Prelude.{codes, false}
use Rattle.std.proofs.lemmas.Bool.{cases_Bool, eqb-true}
use Rattle.std.proofs.lemmas.List.{append-nil}
use Rattle.std.proofs.lemmas.List.Elements.{recursion_from_All}
use Rattle.std.proofs.lemmas.Option.{slice_get-get_or}
use Rattle.shape_terms.specs.Points.{raster_point}
use Rattle.shape_terms.specs.Pictures.{Picture, at}
use Rattle.shape_terms.specs.Parts.{LabelsObject}
use Rattle.shape_terms.specs.Shelves.{AreNames, names_of}
use Rattle.shape_terms.specs.Thinning.{Rule, Stage, IsThinning}
use Rattle.shape_terms.proofs.ThinningOnce.{one_distance, one_thinning}
use Rattle.report_terms.specs.Subjects.{Subject, IsOnShelf}
use Rattle.report_terms.specs.Lines.{Line, Heading, IsLineOf, text_of}
use Rattle.report_terms.specs.ThinningLines.{events_of}
use Rattle.report_terms.specs.Sections.{Section, lines_of, number_of, NamesRule}
use Rattle.report_terms.proofs.NamedRules.{one_on_shelf}
use Rattle.report_lines.specs.Reports.{Space, IsReport, flat, solid}
use Rattle.report_lines.specs.Said.{said}
use Rattle.report_lines.specs.Tells.{StandsIn, AreSquares}
use Rattle.report_lines.specs.Made.{IsSpace}
use Rattle.report_lines.proofs.Telling as Lines
use Rattle.report_lines.proofs.TextLines.{one_list}
use Rattle.measure_terms.specs.Facts.{facts}
use Rattle.measure_terms.specs.Measures.{Measures, greatest}
use Rattle.measure_terms.specs.Tables.{rows, IsTable}
use Rattle.measure_terms.specs.Texts.{Columns, table_text}
use Rattle.measure_terms.specs.Borders.{Border, borders}
use Rattle.measure_terms.specs.Objects.{object_bounds}
use Rattle.measure_terms.specs.Shown.{IsFlat, BordersShow}
use Rattle.measure_terms.proofs.BordersOnce.{borders_once, starts_once}
use Rattle.bordering.specs.OneMore.{no_bounds}
use Rattle.measure_report.specs.BorderColumns.{tells_lengths, border_cells}
use Rattle.measure_report.specs.FeretColumns.{feret_cells}
use Rattle.measure_report.specs.MinkowskiColumns.{minkowski_cells}
use Rattle.measure_report.specs.HullColumns.{hull_cells}
use Rattle.measure_report.specs.RatioColumns.{ratio_cells, ratio_names, sizes_at}
use Rattle.measure_report.specs.Further.{Further, FurtherComponents}
use Rattle.measure_report.specs.FurtherColumns.{further_columns, tells_distances}
use Rattle.measure_report.specs.Tabled.{Opens, HasTable}
use Rattle.measure_report.proofs.Telling.{borders_so}
use Rattle.measure_report.proofs.LabelsOnce.{labels_once, same_list}
use Rattle.measure_report.specs.declared.groups.Groups.{Groups}
use Rattle.measure_report.proofs.FurtherOnce.{SameEntries, further_measure, further_once}
use Rattle.measure_report.proofs.SameFurther.{same_solid, solid_names, flat_groups, flat_names, same_ratios}
use Rattle.measure_report.proofs.TableMade.{areas_of}
use Rattle.measure_report.proofs.Squares.{AreBalls, balls_of}
use Rattle.measure_report.proofs.SameTables.{same_table}
use Rattle.measure_report.proofs.SameHoles.{same_cells}

-- ---- what lines tell

-- the lines tell the picture, its least squared distances, what the thinning by the rule with this name leaves, and its borders
record TellAll (s : Space) (X : Subject) (name : List ℕ) (lines : List Line) : Type 0 where
  object : (said lines).object ≡ X.picture
  squares : AreSquares X.picture (said lines).squares
  rule : Rule
  on_shelf : IsOnShelf X.shelf name rule
  stage : Stage
  thinning : IsThinning rule X.picture (events_of lines) stage
  left : (said lines).left ≡ stage.left
  borders : s.axes ≡ 2 → BordersShow (number_of lines) X.picture (borders lines)

-- the heading names the rule
named : (X : Subject) (number : ℕ) (name : List ℕ) (lines : List Line) (rule : Rule) → Opens number name lines
    → NamesRule X.shelf (lines_of Section.Heading lines) rule → IsOnShelf X.shelf name rule
named X number name lines rule o n =
    let first : Line.Shape o.heading ∷ lines_of Section.Heading o.rest ≡ Line.Shape n.heading ∷ [] = ap (lines_of Section.Heading) (sym o.first) ∙ n.first_is in
    let same : n.heading ≡ o.heading = heading_of first in
    subst (λ m. IsOnShelf X.shelf m rule) (ap (λ (h : Heading). h.rule) same ∙ o.rule_is) n.on_shelf
  where
    heading_of : {h k : Heading} {ls ms : List Line} → Line.Shape h ∷ ls ≡ Line.Shape k ∷ ms → k ≡ h
    heading_of e = cc

-- a text has one list of lines in order
one_report : (s : Space) (text : List ℕ) (ls ms : List Line) → IsReport s text ls → IsReport s text ms → ls ≡ ms
one_report s text ls ms a b =
    one_list s.axes ls ms (recursion_from_All (IsLineOf s.axes) ls a.whole.fields) (recursion_from_All (IsLineOf s.axes) ms b.whole.fields)
    (sym (append-nil (text_of ls)) ∙ sym a.whole.split ∙ b.whole.split ∙ append-nil (text_of ms))

tell_all : (g : Groups) (s : Space) (X : Subject) (number : ℕ) (name text bytes : List ℕ) → StandsIn s X.picture → (h : HasTable g s X number name text bytes)
    → TellAll s X name h.lines
tell_all g s X number name text bytes i h =
    let t = Lines.holding_tells s X text h.holds i in
    let same = one_report s text t.lines h.lines t.report h.report in
    let all : (o : Opens number name t.lines) → TellAll s X name t.lines = λ o. record {
      object = t.object;
      squares = t.squares;
      rule = t.rule;
      on_shelf = named X number name t.lines t.rule o t.names;
      stage = t.stage;
      thinning = t.thinning;
      left = t.left;
      borders = borders_so s X text t h.holds i;
    } in
    subst (TellAll s X name) same (all (subst (Opens number name) (sym same) h.opens))

-- ---- two lists of lines that tell one picture

-- the squared distances of a picture are determined
squares_once : (X : Picture) (xs ys : List ℕ) → AreSquares X xs → AreSquares X ys → xs ≡ ys
squares_once X xs ys a b = same_list 0 xs ys (a.all ∙ sym b.all) (λ i l.
    let x = slice_get-get_or xs i 0 l in
    let y = slice_get-get_or ys i 0 (let p = a.all in let q = b.all in omega arith) in
    elim (cases_Bool (at X (raster_point X.sides i))) [
      | inl t ↦ one_distance X (raster_point X.sides i) (get_or xs i 0) (get_or ys i 0) (a.object i (get_or xs i 0) x t) (b.object i (get_or ys i 0) y t)
      | inr f ↦ a.background i (get_or xs i 0) x f ∙ sym (b.background i (get_or ys i 0) y f)
    ])

-- the lines say the same of the points of their box
record Agree (ls ms : List Line) : Type 0 where
  object : (said ls).object ≡ (said ms).object
  squares : (said ls).squares ≡ (said ms).squares
  left : (said ls).left ≡ (said ms).left

agree : (s : Space) (X : Subject) (name : List ℕ) (ls ms : List Line) → AreNames (names_of X.shelf) → TellAll s X name ls → TellAll s X name ms → Agree ls ms
agree s X name ls ms names a b =
    let rule = one_on_shelf X.shelf names name a.rule b.rule a.on_shelf b.on_shelf in
    let thinning = subst (λ r. IsThinning r X.picture (events_of ls) a.stage) rule a.thinning in
    let stage = (one_thinning b.rule X.picture (events_of ls) (events_of ms) a.stage b.stage thinning b.thinning).1 in
    record {
      object = a.object ∙ sym b.object;
      squares = squares_once X.picture (said ls).squares (said ms).squares a.squares b.squares;
      left = a.left ∙ ap (λ (u : Stage). u.left) stage ∙ sym b.left;
    }

-- so their labels and rows are the same
record SameRows (ls ms : List Line) (some other : List Measures) (labels others : List ℕ) : Type 0 where
  labels_are : labels ≡ others
  rows_are : some ≡ other

same_rows : (ls ms : List Line) (some other : List Measures) → Agree ls ms → (h : IsTable (said ls).object (said ls).squares (said ls).left some)
    → (k : IsTable (said ms).object (said ms).squares (said ms).left other) → SameRows ls ms some other h.labels k.labels
same_rows ls ms some other a h k =
    let labels = labels_once (said ms).object h.labels k.labels (subst (λ (Y : Picture). LabelsObject Y h.labels) a.object h.named) k.named in
    let o = a.object in
    let q = a.squares in
    let l = a.left in
    record { labels_are = labels; rows_are = h.rows ∙ (λ i. rows (greatest (labels i)) (facts (o i) (q i) (l i) (labels i))) ∙ sym k.rows }

-- ---- borders

same_borders : (n m number : ℕ) (X : Picture) (bs cs : List Border) → n ≡ number → m ≡ number → IsFlat X → BordersShow n X bs → BordersShow m X cs
    → tells_lengths number ≡ true → bs ≡ cs
same_borders n m number X bs cs e f flat a b told =
    let two : number ≡ 2 = eqb-true number 2 told in
    borders_once X bs cs flat.axes (a.lengths (e ∙ two) flat) (b.lengths (f ∙ two) flat)

-- ---- the tables

module _ (g : Groups) (s : Space) (X : Subject) (number : ℕ) (name text other bytes more : List ℕ) (names : AreNames (names_of X.shelf)) (known : IsSpace s)
    (i : StandsIn s X.picture)
    (h : HasTable g s X number name text bytes) (k : HasTable g s X number name other more) where
  a : TellAll s X name h.lines
  a = tell_all g s X number name text bytes i h

  b : TellAll s X name k.lines
  b = tell_all g s X number name other more i k

  same : Agree h.lines k.lines
  same = agree s X name h.lines k.lines names a b

  same_row : SameRows h.lines k.lines h.table.rows k.table.rows h.table.table.labels k.table.table.labels
  same_row = same_rows h.lines k.lines h.table.rows k.table.rows same h.table.table k.table.table

  -- the number of a text
  number_is : (lines : List Line) → Opens number name lines → number_of lines ≡ number
  number_is lines o = ap number_of o.first ∙ o.number_is

  abbrev sides : List ℕ
  sides = (said k.lines).object.sides

  abbrev labels : List ℕ
  labels = k.table.table.labels

  abbrev table : List Measures
  table = k.table.rows

  -- the balls that a table's lines tell
  balls : (lines : List Line) → TellAll s X name lines → AreBalls (said lines).object (said lines).squares
  balls lines t = balls_of s known X.picture (said lines).object i t.object (said lines).squares t.squares

  -- what the further columns of the one table and of the other tell of the components
  mine : FurtherComponents g s.axes (said k.lines).object labels (length table) h.table.further
  mine =
      let first = further_measure g s.axes (said h.lines).object (said h.lines).left (said h.lines).squares h.table.rows h.table.further (balls h.lines a)
      h.table.table h.table.are in
      subst (λ (Y : Picture). FurtherComponents g s.axes Y labels (length table) h.table.further) same.object
      (subst (λ (ls : List ℕ). FurtherComponents g s.axes (said h.lines).object ls (length table) h.table.further) same_row.labels_are
      (subst (λ (ms : List Measures). FurtherComponents g s.axes (said h.lines).object h.table.table.labels (length ms) h.table.further) same_row.rows_are
      first))

  theirs : FurtherComponents g s.axes (said k.lines).object labels (length table) k.table.further
  theirs = further_measure g s.axes (said k.lines).object (said k.lines).left (said k.lines).squares k.table.rows k.table.further (balls k.lines b)
      k.table.table k.table.are

  entries : (j : ℕ) → j < length table → SameEntries g s.axes h.table.further k.table.further j
  entries j l = further_once g s.axes (said k.lines).object labels (length table) h.table.further k.table.further mine theirs j l

  -- the cells of borders
  same_border : s.axes ≡ 2 → IsFlat X.picture → (j : ℕ)
      → border_cells (tells_lengths number) (get_or (object_bounds sides labels (greatest labels) (borders h.lines)) j no_bounds)
      ≡ border_cells (tells_lengths number) (get_or (object_bounds sides labels (greatest labels) (borders k.lines)) j no_bounds)
  same_border two is_flat j =
      let p = a.borders two in
      let q = b.borders two in
      same_cells (tells_lengths number) sides labels (greatest labels) (borders h.lines) (borders k.lines) j
      (starts_once X.picture (borders h.lines) (borders k.lines) p.begin q.begin)
      (same_borders (number_of h.lines) (number_of k.lines) number X.picture (borders h.lines) (borders k.lines) (number_is h.lines h.opens)
      (number_is k.lines k.opens) is_flat p q)

  -- the cells of ratios
  same_ratio : s.axes ≡ 2 → IsFlat X.picture → (j : ℕ) → j < length table
      → ratio_cells (tells_lengths number) (sizes_at (areas_of table) h.table.further.hulls (object_bounds sides labels (greatest labels) (borders h.lines)) j)
      ≡ ratio_cells (tells_lengths number) (sizes_at (areas_of table) k.table.further.hulls (object_bounds sides labels (greatest labels) (borders k.lines)) j)
  same_ratio two is_flat j l =
      let e = entries j l in
      same_ratios (tells_lengths number) (areas_of table) h.table.further.hulls k.table.further.hulls sides labels (greatest labels) (borders h.lines)
      (borders k.lines) j (e.hulls two)
      (same_borders (number_of h.lines) (number_of k.lines) number X.picture (borders h.lines) (borders k.lines) (number_is h.lines h.opens)
      (number_is k.lines k.opens) is_flat (a.borders two) (b.borders two))

  -- the further columns of a table of the labels, rows and number of the other
  columns : List Border → Further → Columns
  columns bs f = further_columns g s.axes number sides labels bs (areas_of table) f

  -- the text of the first table by these
  moved : bytes ≡ table_text (tells_distances g s.axes) s.axes (columns (borders h.lines) h.table.further) table
  unfolding columns
  moved =
      let nh = number_is h.lines h.opens in
      let o = same.object in
      let ls = same_row.labels_are in
      let rs = same_row.rows_are in
      h.table.text ∙ (λ z. table_text (tells_distances g s.axes) s.axes
      (further_columns g s.axes (nh z) (o z).sides (ls z) (borders h.lines) (areas_of (rs z)) h.table.further) (rs z))

  -- where names and cells are the same the tables are
  one : (columns (borders h.lines) h.table.further).names ≡ (columns (borders k.lines) k.table.further).names
      → ((j : ℕ) → j < length table → (columns (borders h.lines) h.table.further).cells j ≡ (columns (borders k.lines) k.table.further).cells j)
      → bytes ≡ more
  unfolding columns
  one names cells =
      let nk = number_is k.lines k.opens in
      moved
      ∙ same_table (tells_distances g s.axes) s.axes (columns (borders h.lines) h.table.further) (columns (borders k.lines) k.table.further) table names cells
      ∙ (λ z. table_text (tells_distances g s.axes) s.axes (further_columns g s.axes (sym nk z) sides labels (borders k.lines) (areas_of table) k.table.further)
      table)
      ∙ sym k.table.text

pub solid_once : (g : Groups) (X : Subject) (number : ℕ) (name text other bytes more : List ℕ) → AreNames (names_of X.shelf) → StandsIn solid X.picture
    → HasTable g solid X number name text bytes → HasTable g solid X number name other more → bytes ≡ more
unfolding columns
solid_once g X number name text other bytes more names i h k =
    let f = h.table.further in
    let u = k.table.further in
    one g solid X number name text other bytes more names (inr refl) i h k (solid_names g (areas_of k.table.rows) f u)
    (λ j l. same_solid g (areas_of k.table.rows) f u j (entries g solid X number name text other bytes more names (inr refl) i h k j l))

-- a row of flat objects whose parts are the same
flat_row : {a b c d e f a2 b2 c2 d2 e2 f2 : List ℕ} → a ≡ a2 → b ≡ b2 → c ≡ c2 → d ≡ d2 → e ≡ e2 → f ≡ f2
    → a ++ (b ++ (c ++ (d ++ (e ++ f)))) ≡ a2 ++ (b2 ++ (c2 ++ (d2 ++ (e2 ++ f2))))
flat_row a b c d e f = λ z. a z ++ (b z ++ (c z ++ (d z ++ (e z ++ f z))))

pub flat_once : (g : Groups) (X : Subject) (number : ℕ) (name text other bytes more : List ℕ) → AreNames (names_of X.shelf) → StandsIn flat X.picture
    → HasTable g flat X number name text bytes → HasTable g flat X number name other more → bytes ≡ more
unfolding columns
flat_once g X number name text other bytes more names i h k =
    let is_flat : IsFlat X.picture = record { axes = i.picture.axes; box = i.box } in
    let f = h.table.further in
    let u = k.table.further in
    let heads = flat_names g f u in
    one g flat X number name text other bytes more names (inl refl) i h k
    (λ z. codes ",holes,border,hole_border" ++ (codes ",feret,from_x,from_y,to_x,to_y" ++ (codes ",euler"
    ++ (codes ",convex_area,convex_perimeter,min_feret,side_x,side_y" ++ (ratio_names ++ heads z)))))
    (λ j l.
    let border = same_border g flat X number name text other bytes more names (inl refl) i h k refl is_flat j in
    let ratio = same_ratio g flat X number name text other bytes more names (inl refl) i h k refl is_flat j l in
    let e = entries g flat X number name text other bytes more names (inl refl) i h k j l in
    flat_row border (ap (feret_cells false) (e.ferets false)) (ap (minkowski_cells false) e.minkowski) (ap hull_cells (e.hulls refl)) ratio
    (flat_groups g f u j e))
