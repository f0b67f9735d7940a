-- From what was read of two reports to the drawing of the one over the other, or why there is none.
-- Laws over texts, files and lines; nothing is read here.
use Rattle.std.proofs.Common.{◌≡◌, ◌≤◌, inl, inr, ℕ, refl, ap, sym, subst, ◌∙◌, arith, List, [], ◌∷◌, ◌++◌, map, Option, Some, None}
use Rattle.std.specs.Prelude.{ℤ, pos, nat_abs, Result, Ok, Err, OnOk, MatchOption, filter}
use Rattle.std.proofs.lemmas.Int.{ints}
use Rattle.shape_desk.specs.Desk.{Files, DeskState, IsAtFront, IsMissing}
use Rattle.shape_desk.specs.Line.{IfTold}
use Rattle.shape_desk.specs.Files.{OfFile}
use Rattle.shape_desk.proofs.Begun.{of_file, rose_earlier}
use Rattle.shape_terms.specs.Limits.{most_flat}
use Rattle.shape_terms.specs.Points.{AreSides, sides_of}
use Rattle.shape_terms.proofs.Boxes.{abs_is}
use Rattle.shape_terms.specs.Points.{Point}
use Rattle.shape_terms.specs.Pictures.{Picture}
use Rattle.text_terms.specs.Going.{IsTextOf}
use Rattle.text_terms.proofs.Checking.{begins_none, first_bad}
use Rattle.report_text.proofs.Told.{if_told}
use Rattle.report_terms.specs.Lines.{Line}
use Rattle.report_terms.proofs.Spelled.{are_spelled}
use Rattle.report_lines.specs.Reports.{flat as plane, in_order, FirstBad}
use Rattle.report_lines.specs.Said.{given_sides, said}
use Rattle.report_lines.specs.Headings.{IsOfNoBox, LacksHeading}
use Rattle.report_lines.specs.Answers as Lines
use Rattle.report_lines.specs.declared.fault.ReportFault.{ReportFault}
use Rattle.report_lines.specs.declared.fault.ReportFault.TheVariants as cause
use Rattle.drawing.specs.Seen.{flat}
use Rattle.drawing.specs.Outlines.{is_inside}
use Rattle.drawing.specs.Svg.{contour_layer}
use Rattle.draw_report.specs.Parts.{Mark}
use Rattle.draw_report.specs.Kinds.{lines_of, IsMarkedBy, IsNoFurther}
use Rattle.draw_report.specs.Contours.{contours_of}
use Rattle.draw_report.specs.Corners.{AreCornerPaths}
use Rattle.draw_report.specs.Borders.{borders, strokes_over}
use Rattle.draw_report.specs.Circles.{balls_in, balls_layer}
use Rattle.draw_report.specs.Layers.{ArePaths, corner_layer, marks_layer, EdgesPut, MarksPut, IsOverlay}
use Rattle.draw_report.specs.Seen.{all_marks}
use Rattle.draw_report.specs.Standing.{IsAnalysisOf}
use Rattle.draw_report.specs.Answers.{IsNoAnalysis, AnalysisFails, AnalysisRead, AnalysisInFile, FurtherFails, FurtherRead, FurtherInFile, FurtherRefused}
use Rattle.draw_report.specs.Answers.{GatherFails, OfFiles, AreDrawnAs, AreNotOver, Refused, sides_in}
use Rattle.draw_report.specs.declared.kind.Kind.{Kind}
use Rattle.draw_report.specs.declared.kind.Kind.TheVariants as kind
use Rattle.draw_report.specs.declared.analysis.Analysis.{Analysis}
use Rattle.draw_report.specs.declared.further.Further.{Further}
use Rattle.draw_report.specs.declared.fault.OverFault.{OverFault}
use Rattle.draw_report.specs.declared.fault.OverFault.TheVariants as fault

-- ---- the analysis

-- what reading its lines answers, where the count of faults stood before
pub read_so : (text : Option (List ℕ)) (before mid now : ℕ) (r : Result Analysis ReportFault) → before ≤ mid → Lines.Reads plane IsAnalysisOf text mid now r
    → AnalysisRead text before now r
read_so text before mid now (Ok a) l h = h
read_so text before mid now (Err (cause.NotReport k)) l h = if_told text (λ t b. inl b) h
read_so text before mid now (Err cause.ReadFault) l h = omega (arith, l, h)
read_so text before mid now (Err cause.NoMemory) l h = tt

pub read_later : (text : Option (List ℕ)) (before mid now : ℕ) (r : Result Analysis ReportFault) → before ≤ mid → AnalysisRead text mid now r
    → AnalysisRead text before now r
read_later text before mid now (Ok a) l h = h
read_later text before mid now (Err (cause.NotReport k)) l h = h
read_later text before mid now (Err cause.ReadFault) l h = omega (arith, l, h)
read_later text before mid now (Err cause.NoMemory) l h = tt

-- without a heading the first line is bad
none_there : (front : List Line) → [] ≡ front ++ Line.End ∷ [] → ⊥
none_there [] e = cc
none_there (l ∷ front) e = cc

first_of : (text : List ℕ) → LacksHeading plane text → FirstBad plane text 1
first_of text lacks = first_bad (in_order plane) (are_spelled plane.axes) text [] text (begins_none (in_order plane) text)
    (λ l rest t c. lacks l rest t (c.heading refl)) (λ front f z. none_there front f)

-- there is no heading
pub no_opening : (bytes new text : Option (List ℕ)) (before now : ℕ) (why : ReportFault) → bytes ≡ text → Lines.OpeningAnswer bytes new before now (Err why)
    → AnalysisFails text before now why
no_opening bytes new text before now (cause.NotReport k) e h =
    subst (λ t. IfTold t (IsNoAnalysis k)) e (subst (λ j. IfTold bytes (IsNoAnalysis j)) (sym h.0) (if_told bytes (λ t n. inl (first_of t n.flat)) h.1))
no_opening bytes new text before now cause.ReadFault e h = h
no_opening bytes new text before now cause.NoMemory e h = tt

pub no_box : (text : Option (List ℕ)) → IfTold text IsOfNoBox → IfTold text (IsNoAnalysis 1)
no_box text h = if_told text (λ t b. inr (refl, b.volume)) h

-- what reading it answers, of the file that it is in
pub analysis_file : (name : List ℕ) (old mid new : DeskState) (left : Option (List ℕ)) (r : Result Analysis ReportFault) → IsAtFront old.files name left
    → old.read_faults ≤ mid.read_faults → AnalysisRead left mid.read_faults new.read_faults r → AnalysisInFile name old new r
analysis_file name old mid new left (Ok a) f l h = of_file old.files name left (IsTextOf (in_order plane) (λ lines. IsAnalysisOf lines a)) f h
analysis_file name old mid new left (Err (cause.NotReport k)) f l h = of_file old.files name left (IsNoAnalysis k) f h
analysis_file name old mid new left (Err cause.ReadFault) f l h = inl (rose_earlier old.read_faults mid.read_faults new.read_faults l h)
analysis_file name old mid new left (Err cause.NoMemory) f l h = tt

-- ---- the further report

-- why its marks were not gathered, where its heading was taken
pub not_gathered : (k : Kind) (sides : Point) (text : Option (List ℕ)) (before mid now : ℕ) (why : OverFault) → before ≤ mid
    → GatherFails (lines_of k) sides text mid now why → FurtherFails sides text before now why
not_gathered k sides text before mid now (fault.Analysis why) l h = h
not_gathered k sides text before mid now (fault.NotOver n) l h = if_told text (λ t b. record { kind = k; bad = b.0; any = λ e. absurd (b.1 e) }) h
not_gathered k sides text before mid now fault.ReadFault l h = omega (arith, l, h)
not_gathered k sides text before mid now fault.NoMemory l h = tt

-- what reading it answers, of the file that it is in
pub further_file : (sides : Point) (name : List ℕ) (old mid new : DeskState) (left : Option (List ℕ)) (r : Result Further OverFault)
    → IsAtFront old.files name left → old.read_faults ≤ mid.read_faults → FurtherRead sides left mid.read_faults new.read_faults r
    → FurtherInFile sides name old new r
further_file sides name old mid new left (Ok u) f l h = of_file old.files name left (IsMarkedBy u.kind sides (all_marks u.marks.items)) f h
further_file sides name old mid new left (Err (fault.Analysis why)) f l h = h
further_file sides name old mid new left (Err (fault.NotOver k)) f l h = of_file old.files name left (IsNoFurther sides k) f h
further_file sides name old mid new left (Err fault.ReadFault) f l h = inl (rose_earlier old.read_faults mid.read_faults new.read_faults l h)
further_file sides name old mid new left (Err fault.NoMemory) f l h = tt

-- ---- both

-- the sides of a box are those of its lengths
whole : (x y : ℤ) → AreSides (pos most_flat) (x ∷ y ∷ []) → map pos (sides_of (x ∷ y ∷ [])) ≡ x ∷ y ∷ []
whole x y h =
    let a = (h 0 (omega arith)).0 in
    let b = (h 1 (omega arith)).0 in
    let e : pos (nat_abs x) ≡ x = abs_is x (omega (arith, ints, a)) in
    let f : pos (nat_abs y) ≡ y = abs_is y (omega (arith, ints, b)) in
    λ i. e i ∷ f i ∷ []

sides_seen : (lines : List Line) (a : Analysis) → IsAnalysisOf lines a → sides_in lines ≡ flat a.sides.lengths
sides_seen lines a h = ap (map pos) h.given ∙ whole a.sides.lengths.x a.sides.lengths.y a.sides.in_range

both_at : {P Q : List ℕ → Type 0} (R : List ℕ → List ℕ → Type 0) (o p : Option (List ℕ)) → MatchOption o ⊥ P → MatchOption p ⊥ Q
    → ((x y : List ℕ) → P x → Q y → R x y) → MatchOption o ⊥ (λ x. MatchOption p ⊥ (λ y. R x y))
both_at R None p h k f = h
both_at R (Some x) None h k f = k
both_at R (Some x) (Some y) h k f = f x y h k

both : {P Q : List ℕ → Type 0} (R : List ℕ → List ℕ → Type 0) (files : Option Files) (a b : List ℕ) → OfFile files a P → OfFile files b Q
    → ((x y : List ℕ) → P x → Q y → R x y) → OfFile files a (λ x. OfFile files b (λ y. R x y))
both R None a b h k f = tt
both R (Some files) a b h k f = both_at R (files a) (files b) h k f

module _ (first second : List ℕ) (old mid new : DeskState) (a : Analysis)
    (read : OfFile old.files first (IsTextOf (in_order plane) (λ lines. IsAnalysisOf lines a))) (same : mid.files ≡ old.files)
    (later : old.read_faults ≤ mid.read_faults) where
  -- why the second is not read, over the first
  pub refused_over : (why : OverFault) → FurtherRefused (flat a.sides.lengths) second mid new why → Refused first second old new why
  refused_over (fault.Analysis why) h = absurd h
  refused_over (fault.NotOver k) h = both (λ x y. AreNotOver x y k) old.files first second read
      (subst (λ f. OfFile f second (IsNoFurther (flat a.sides.lengths) k)) same h)
      (λ x y t b. record {
        lines = t.front ++ Line.End ∷ [];
        report = record { whole = t.whole; ends = record { front = t.front; is = refl } };
        bad = subst (λ s. IsNoFurther s k y) (sym (sides_seen (t.front ++ Line.End ∷ []) a t.follows)) b;
      })
  refused_over fault.ReadFault h =
      elim h [ inl r ↦ inl (rose_earlier old.read_faults mid.read_faults new.read_faults later r) | inr m ↦ inr (subst (λ f. IsMissing f second) same m) ]
  refused_over fault.NoMemory h = tt

  -- the drawing of the second over the first
  pub drawn_over : (u : Further) (svg : List ℕ) → OfFile mid.files second (IsMarkedBy u.kind (flat a.sides.lengths) (all_marks u.marks.items))
      → ((lines : List Line) → IsAnalysisOf lines a → IsOverlay u.kind lines (all_marks u.marks.items) svg)
      → OfFiles old first second (λ x y. AreDrawnAs x y svg)
  drawn_over u svg h d = both (λ x y. AreDrawnAs x y svg) old.files first second read
      (subst (λ f. OfFile f second (IsMarkedBy u.kind (flat a.sides.lengths) (all_marks u.marks.items))) same h)
      (λ x y t m. record {
        lines = t.front ++ Line.End ∷ [];
        report = record { whole = t.whole; ends = record { front = t.front; is = refl } };
        kind = u.kind;
        marks = all_marks u.marks.items;
        marked = subst (λ s. IsMarkedBy u.kind s (all_marks u.marks.items) y) (sym (sides_seen (t.front ++ Line.End ∷ []) a t.follows)) m;
        overlay = d (t.front ++ Line.End ∷ []) t.follows;
      })

-- ---- layers

pub on_ok : {E : Type 0} {P Q : Type 0} (r : Result (Unit {0}) E) → (P → Q) → OnOk r P → OnOk r Q
on_ok (Ok u) f h = f h
on_ok (Err e) f h = tt

-- the balls were put
pub balls_put : {E : Type 0} (r : Result (Unit {0}) E) (k : Kind) (lines : List Line) (sides : List ℕ) (ms ns : List Mark) (old new : List ℕ) → k ≡ kind.Balls
    → given_sides lines ≡ sides → ns ≡ ms → OnOk r (new ≡ old ++ balls_layer (balls_in sides ns)) → OnOk r (MarksPut k lines ms old new)
balls_put r k lines sides ms ns old new z e f h = on_ok r (λ p. record {
  paths = [];
  are = subst (λ j. ArePaths j lines []) (sym z) refl;
  put = p ∙ (λ i. old ++ balls_layer (balls_in (sym e i) (f i))) ∙ ap (λ j. old ++ marks_layer j (given_sides lines) [] ms) (sym z);
}) h

-- the pieces were put
pub pieces_put : {E : Type 0} (r : Result (Unit {0}) E) (k : Kind) (lines : List Line) (sides : List ℕ) (ds : List (List Point)) (ms ns : List Mark)
    (old new : List ℕ) → k ≡ kind.Pieces → given_sides lines ≡ sides → ds ≡ contours_of lines → ns ≡ ms
    → OnOk r (new ≡ old ++ contour_layer (filter (is_inside sides) (strokes_over ds (borders ns)))) → OnOk r (MarksPut k lines ms old new)
pieces_put r k lines sides ds ms ns old new z e d f h = on_ok r (λ p. record {
  paths = contours_of lines;
  are = subst (λ j. ArePaths j lines (contours_of lines)) (sym z) refl;
  put = p ∙ (λ i. old ++ contour_layer (filter (is_inside (sym e i)) (strokes_over (d i) (borders (f i)))))
      ∙ ap (λ j. old ++ marks_layer j (given_sides lines) (contours_of lines) ms) (sym z);
}) h

-- the arcs were put
pub edges_put : {E : Type 0} (r : Result (Unit {0}) E) (k : Kind) (lines : List Line) (X : Picture) (ms ns : List Mark) (old new : List ℕ) → k ≡ kind.Edges
    → X ≡ (said lines).object → ns ≡ ms → OnOk r (EdgesPut X ns old new) → OnOk r (MarksPut k lines ms old new)
edges_put r k lines X ms ns old new z e f h = on_ok r (λ (p : EdgesPut X ns old new). record {
  paths = p.paths;
  are = subst (λ j. ArePaths j lines p.paths) (sym z) (subst (λ Y. AreCornerPaths Y p.paths) e p.are);
  put = p.put ∙ ap (λ t. old ++ corner_layer (strokes_over p.paths (borders t))) f ∙ ap (λ j. old ++ marks_layer j (given_sides lines) p.paths ms) (sym z);
}) h
