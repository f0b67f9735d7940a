-- The points with one label of the object's components are one component.
-- That is what a table of objects tells apart.
use Rattle.std.proofs.Common.{◌≡◌, ℕ, ◌≤◌, Bool, sym, ◌∙◌}
use Rattle.std.specs.Prelude.{IsTrue}
use Rattle.shape_terms.specs.Points.{Point}
use Rattle.shape_terms.specs.Adjacency.{Near}
use Rattle.shape_terms.specs.Pictures.{Picture}
use Rattle.shape_terms.specs.Parts.{Object, NamesParts}
use Rattle.measure_terms.specs.ComponentContours.{IsComponent}

pub labelled_part : (X : Picture) (n : ℕ) (label : Point → ℕ) → NamesParts Near (Object X) n label → (k : ℕ) → 1 ≤ k → k ≤ n → (K : Point → Bool)
    → ((p : Point) → IsTrue (K p) → Object X p × (label p ≡ k)) → ((p : Point) → Object X p → label p ≡ k → IsTrue (K p)) → IsComponent X K
labelled_part X n label names k l m K f g = record {
  some = (let u = names.used k l m in (u.0, g u.0 u.1 u.2));
  object = λ p t. (f p t).0;
  whole = λ p q t o s. g q o (sym (names.adjacent p q (f p t).0 o s) ∙ (f p t).1);
  joined = λ p q t u. names.connected p q (f p t).0 (f q u).0 ((f p t).1 ∙ sym (f q u).1);
}
