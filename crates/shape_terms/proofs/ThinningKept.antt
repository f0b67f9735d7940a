-- A thinning keeps both numbers of components.
-- Laws over the definitions alone.
use Rattle.std.proofs.Common.{◌≡◌, ℕ, Bool, true, false, cond, List, [], ◌∷◌, length, refl, sym, ◌∙◌, ap, subst}
use Rattle.std.specs.List.{FoldsTo}
use Rattle.shape_terms.specs.Points.{Point}
use Rattle.shape_terms.specs.Pictures.{Picture, object_points}
use Rattle.shape_terms.specs.Adjacency.{Near, Side}
use Rattle.shape_terms.specs.Parts.{Object, HasParts, FramedBackground, Counts}
use Rattle.shape_terms.specs.Thinning.{Facts, Rule, Stage, Event, ThinStep, ThinsTo, IsNext, event_at, stage_after}
use Rattle.shape_terms.proofs.SimpleDeletion.{object_kept, background_kept}

-- the picture has these numbers of components
pub record HasCounts (o b : ℕ) (Y : Picture) : Type 0 where
  pub object : HasParts Near (Object Y) o
  pub background : HasParts Side (FramedBackground Y) b

module _ (rule : Rule) (X : Picture) (o b : ℕ) where
  step_keeps : (s : Stage) (p : Point) (facts : Facts) (m : Bool) → IsNext X s p facts → rule.marks s.state facts ≡ m → HasCounts o b s.left
      → HasCounts o b (stage_after rule s (cond m (Event.Tip p) (Event.Del p)) facts).left
  step_keeps s p facts true n e h = h
  step_keeps s p facts false n e h = record {
    object = object_kept s.left p n.candidate.object n.candidate.simple h.object;
    background = background_kept s.left p n.candidate.object n.candidate.simple h.background;
  }

  run_keeps : (events : List Event) (s u : Stage) → FoldsTo (ThinStep rule X) s events u → HasCounts o b s.left → HasCounts o b u.left
  run_keeps [] s u e h = subst (λ v. HasCounts o b v.left) e h
  run_keeps (d ∷ events) s u (v, (p, facts, n, e, a), r) h =
      let k = step_keeps s p facts (rule.marks s.state facts) n refl h in
      let same : stage_after rule s (event_at rule s p facts) facts ≡ v = ap (λ d. stage_after rule s d facts) (sym e) ∙ sym a in
      run_keeps events v u r (subst (λ w. HasCounts o b w.left) same k)

-- what is left by a thinning has the numbers of components of the opening picture
pub thinning_keeps : (rule : Rule) (X : Picture) (events : List Event) (s : Stage) (n o b : ℕ) → ThinsTo rule X events s → Counts X n o b
    → Counts s.left (length (object_points s.left)) o b
thinning_keeps rule X events s n o b t c =
    let k = run_keeps rule X o b events (record { left = X; marked = []; state = rule.opening }) s t (record { object = c.object; background = c.background })
    in
    record { points = refl; object = k.object; background = k.background }
