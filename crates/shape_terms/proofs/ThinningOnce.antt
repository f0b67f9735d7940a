-- A picture has one thinning by a rule.
-- Laws over the definitions alone.
use Rattle.std.proofs.Common.{◌≡◌, ℕ, ◌<◌, refl, ap, sym, ◌∙◌, subst, arith, List, [], ◌∷◌, inl, inr}
use Rattle.std.specs.Prelude.{◌⊎◌}
use Rattle.std.specs.List.{FoldsTo}
use Rattle.shape_terms.specs.Points.{Point}
use Rattle.shape_terms.specs.Steps.{Before}
use Rattle.shape_terms.specs.Pictures.{Picture}
use Rattle.shape_terms.proofs.CrackOrder.{before_once}
use Rattle.shape_terms.specs.Thinning.{near_count, Rule, Event, Stage, Facts, IsNext, IsCandidate, HasDistance, ThinStep, IsThinned, IsThinning, opening_stage}
use Rattle.shape_terms.specs.Thinning.{event_at, stage_after}

-- the distance to the background is one
pub one_distance : (X : Picture) (p : Point) (s t : ℕ) → HasDistance X p s → HasDistance X p t → s ≡ t
one_distance X p s t (q, a) (r, b) =
    let c = a.least r b.background in
    let d = b.least q a.background in
    let e = a.distance in
    let f = b.distance in
    omega arith

-- the least candidate is one, and so are its facts
one_next : (X : Picture) (s : Stage) (p q : Point) (f g : Facts) → IsNext X s p f → IsNext X s q g → (p ≡ q) × (f ≡ g)
one_next X s p q f g a b = (
  same,
  λ i. record {
    neighbours = (a.neighbours ∙ ap (λ r. near_count s.left r) same ∙ sym b.neighbours) i;
    distance =
        one_distance X q f.distance g.distance (subst (λ r. HasDistance X r f.distance) same a.distance) b.distance i;
  },
)
  where
    in_raster : f.distance ≡ g.distance → (Before p q) ⊎ (p ≡ q) → (Before q p) ⊎ (q ≡ p) → p ≡ q
    in_raster e (inl h) (inl k) = absurd (before_once p q h k)
    in_raster e (inl h) (inr k) = sym k
    in_raster e (inr h) k = h

    by_order : (f.distance < g.distance) ⊎ ((f.distance ≡ g.distance) × ((Before p q) ⊎ (p ≡ q)))
        → (g.distance < f.distance) ⊎ ((g.distance ≡ f.distance) × ((Before q p) ⊎ (q ≡ p))) → p ≡ q
    by_order (inl h) (inl k) = absurd (omega arith)
    by_order (inl h) (inr k) = absurd (omega (arith, k.0))
    by_order (inr h) (inl k) = absurd (omega (arith, h.0))
    by_order (inr h) (inr k) = in_raster h.0 h.1 k.1

    same : p ≡ q
    same = by_order (a.least q g.distance b.candidate b.distance) (b.least p f.distance a.candidate a.distance)

-- one event and one stage can follow a stage
pub one_step : (rule : Rule) (X : Picture) (s u v : Stage) (d e : Event) → ThinStep rule X s d u → ThinStep rule X s e v → (d ≡ e) × (u ≡ v)
one_step rule X s u v d e (p, f, a, c, h) (q, g, b, k, l) =
    let n = one_next X s p q f g a b in
    let m : event_at rule s p f ≡ event_at rule s q g = λ i. event_at rule s (n.0 i) (n.1 i) in
    let r : d ≡ e = c ∙ m ∙ sym k in
    (r, h ∙ (λ i. stage_after rule s (r i) (n.1 i)) ∙ sym l)

-- the stage that events lead to is one
pub one_stage : (rule : Rule) (X : Picture) (events : List Event) (s u v : Stage) → FoldsTo (ThinStep rule X) s events u → FoldsTo (ThinStep rule X) s events v
    → u ≡ v
one_stage rule X [] s u v a b = sym a ∙ b
one_stage rule X (e ∷ events) s u v (j, a, c) (k, b, d) =
    let n = one_step rule X s j k e e a b in
    one_stage rule X events j u v c (subst (λ w. FoldsTo (ThinStep rule X) w events v) (sym n.1) d)

-- a picture has one thinning
thinnings : (rule : Rule) (X : Picture) (ds es : List Event) (s u v : Stage) → FoldsTo (ThinStep rule X) s ds u → IsThinned u → FoldsTo (ThinStep rule X) s es v
    → IsThinned v → (ds ≡ es) × (u ≡ v)
thinnings rule X [] [] s u v a m b n = (refl, sym a ∙ b)
thinnings rule X [] (e ∷ es) s u v a m (k, (p, f, x, c, h), d) n = absurd (m p (subst (λ w. IsCandidate w p) a x.candidate))
thinnings rule X (d ∷ ds) [] s u v (j, (p, f, x, c, h), r) m b n = absurd (n p (subst (λ w. IsCandidate w p) b x.candidate))
thinnings rule X (d ∷ ds) (e ∷ es) s u v (j, a, c) m (k, b, r) n =
    let q = one_step rule X s j k d e a b in
    let t = thinnings rule X ds es j u v c m (subst (λ w. FoldsTo (ThinStep rule X) w es v) (sym q.1) r) n in
    ((λ i. q.0 i ∷ t.0 i), t.1)

pub one_thinning : (rule : Rule) (X : Picture) (ds es : List Event) (u v : Stage) → IsThinning rule X ds u → IsThinning rule X es v → (ds ≡ es) × (u ≡ v)
one_thinning rule X ds es u v a b = thinnings rule X ds es (opening_stage rule X) u v a.0 a.1 b.0 b.1
