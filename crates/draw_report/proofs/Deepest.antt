-- The deepest points of the rows of a table are those of the components.
-- Lists of points and of rows alone.
use Rattle.std.proofs.Common.{◌≡◌, inl, inr, ℕ, zero, suc, ◌+◌, ◌<◌, Bool, true, false, List, [], ◌∷◌, length, map, get_or, refl, sym, ap, ◌∙◌, arith, subst}
use Rattle.std.specs.Prelude.{◌==◌, Some}
use Rattle.std.specs.List.{Contains, find}
use Rattle.std.specs.Option.{unwrap_or}
use Rattle.std.proofs.lemmas.Bool.{cond-true, cond-false, cases_Bool}
use Rattle.std.proofs.lemmas.Bool.Decides.{nat_tests}
use Rattle.std.proofs.lemmas.List.{length-map, get_or-map}
use Rattle.shape_terms.specs.Points.{Point}
use Rattle.shape_terms.specs.Pictures.{Picture}
use Rattle.shape_terms.specs.Parts.{Object, NamesParts}
use Rattle.shape_terms.specs.Adjacency.{Near}
use Rattle.shape_terms.proofs.Members.{Contains-later}
use Rattle.report_terms.specs.Subjects.{Subject}
use Rattle.report_terms.specs.Holds.{Holds}
use Rattle.report_lines.specs.Reports.{flat}
use Rattle.report_lines.specs.Said.{said}
use Rattle.report_lines.specs.Tells.{StandsIn, Tells}
use Rattle.report_lines.proofs.Telling.{holding_tells}
use Rattle.measure_terms.specs.Measures.{Measures, measures_of}
use Rattle.measure_terms.specs.Components.{component, AreMeasuresOf, MeasuresComponents}
use Rattle.measure_terms.proofs.TableOfComponents.{table_measures}
use Rattle.draw_report.specs.Numbers.{deepest_point}
use Rattle.draw_report.specs.Drawings.{IsNumberedText}
use Rattle.draw_report.specs.Holding.{IsDeepestOf, at_point, AreDeepest, NumbersComponents, NumbersTell}

-- ---- the first point that passes a test

-- of the points one that passes the test, and is found as the first
record IsFound (p : Point → Bool) (ps : List Point) : Type 0 where
  point : Point
  there : Contains ps point
  passes : p point ≡ true
  found : find p ps ≡ Some point

found_later : (p : Point → Bool) (x : Point) (ps : List Point) → p x ≡ false → IsFound p ps → IsFound p (x ∷ ps)
found_later p x ps n f = record {
  point = f.point;
  there = Contains-later x ps f.point f.there;
  passes = f.passes;
  found = cond-false (p x) (Some x) (find p ps) n ∙ f.found;
}

behind : (p : Point → Bool) (x : Point) (ps : List Point) (q : Point) → p x ≡ false → p q ≡ true → Contains (x ∷ ps) q → Contains ps q
behind p x ps q n t (zero, l, e) = absurd (let f : false ≡ true = sym n ∙ ap p e ∙ t in cc)
behind p x ps q n t (suc k, l, e) = (k, omega arith, e)

is_found : (p : Point → Bool) (ps : List Point) (q : Point) → p q ≡ true → Contains ps q → IsFound p ps
is_found p [] q t c = absurd (omega (arith, c.1))
is_found p (x ∷ ps) q t c = elim (cases_Bool (p x)) [
  | inl y ↦ record { point = x; there = (0, omega arith, refl); passes = y; found = cond-true (p x) (Some x) (find p ps) y }
  | inr n ↦ found_later p x ps n (is_found p ps q t (behind p x ps q n t c))
]

-- ---- the deepest point of a component

deepest_of : (object : Picture) (square : Point → ℕ) (left : Picture) (ps : List Point) (m : Measures) → AreMeasuresOf object square left ps m
    → IsDeepestOf square ps (deepest_point m)
deepest_of object square left ps m a =
    let r = a.depth.reached in
    let e = r.2 in
    let t : (square r.0 == m.depth) ≡ true = grind (arith, nat_tests) in
    let f = is_found (λ p. square p == m.depth) ps r.0 t r.1 in
    let passes = f.passes in
    let same : square f.point ≡ m.depth = grind (arith, nat_tests) in
    let point : deepest_point m ≡ f.point = ap (λ o. unwrap_or o []) (a.deepest ∙ f.found) in
    subst (IsDeepestOf square ps) (sym point) (record {
      point = f.there;
      bound = λ q c. let b = a.depth.bound q c in omega (arith, b, same);
      first = ap (λ d. find (λ p. square p == d) ps) same ∙ f.found;
    })

-- ---- the components of a picture

are_deepest : (X left : Picture) (squares : List ℕ) (rows : List Measures) → MeasuresComponents X squares left rows
    → AreDeepest X squares (map deepest_point rows)
are_deepest X left squares rows m =
    let same = length-map rows deepest_point in
    record {
      labels = m.labels;
      named = m.named;
      all = subst (λ n. NamesParts Near (Object X) n (at_point X m.labels)) (sym same) m.all;
      each = λ k d l.
          let none = measures_of [] in
          let within : k < length rows = omega (arith, l, same) in
          subst (IsDeepestOf (at_point X squares) (component X m.labels (k + 1))) (sym (get_or-map deepest_point rows k none d within))
          (deepest_of X (at_point X squares) left (component X m.labels (k + 1)) (get_or rows k none) (m.each k none within));
    }

numbers_so : (X : Subject) (text bytes : List ℕ) (t : Tells flat X text) → IsNumberedText t.lines bytes → NumbersComponents X.picture t.lines bytes
numbers_so X text bytes t h =
    let s = said t.lines in
    let points = map deepest_point h.rows in
    let there = are_deepest s.object s.left s.squares h.rows (table_measures s.object s.left s.squares h.rows refl h.table) in
    record {
      squares = s.squares;
      least = t.squares;
      points = points;
      deepest = subst (λ (Y : Picture). AreDeepest Y s.squares points) t.object there;
      text = h.text;
    }

pub numbers_tell : (X : Subject) (text bytes : List ℕ) → Holds X text → StandsIn flat X.picture → NumbersTell X text bytes
numbers_tell X text bytes h i =
    let t = holding_tells flat X text h i in
    record { lines = t.lines; report = t.report; told = numbers_so X text bytes t }
