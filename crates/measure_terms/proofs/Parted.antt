-- A set of cracks of one component that has each crack with the next one has all cracks of the component to one component of the complement, or none.
-- The pixel and its neighbour over a crack of the set have two parities, and these are the same all over the two components.
use Rattle.std.proofs.Common.{◌≡◌, ℕ, ◌<◌, Bool, true, false, refl, sym, ◌∙◌, ap, subst}
use Rattle.std.specs.Prelude.{ℤ, negsuc}
use Rattle.shape_terms.specs.Parts.{Connected}
use Rattle.shape_terms.proofs.Paths.{starts_in}
use Rattle.shape_terms.proofs.Turning.{IsEdge}
use Rattle.shape_terms.proofs.Successor.{Place, step, moves, IsSide}
use Rattle.measure_terms.proofs.Parity.{differ}
use Rattle.measure_terms.proofs.OverSteps.{Close, s, close_alike, over_crack, over_none}
use Rattle.measure_terms.proofs.Corner.{IsClosed, turned_at}

-- one step over a side
abbrev pub Beside : Place → Place → Type 0
Beside p q = (d : ℕ) × (d < 4) × (step d p ≡ q)

-- the pixel is none of the component K
abbrev pub Outside : (Place → Type 0) → (Place → Bool) → Place → Type 0
Outside F K p = F p × (K p ≡ false)

cancelled : (s m : Bool) → differ s true ≡ differ s m → m ≡ true
cancelled true true e = refl
cancelled true false e = e
cancelled false true e = refl
cancelled false false e = sym e

module _ (F : Place → Type 0) (X K : Place → Bool) (M : Place → ℕ → Bool) (bare : (n : ℕ) (y : ℤ) → X (negsuc n, y) ≡ false) (closed : IsClosed X M)
    (own : (p : Place) (d : ℕ) → K p ≡ false → M p d ≡ false) where
  abbrev pub parity_of : Place → Bool
  parity_of = s X M bare (turned_at X M closed)

  pub in_component : {p q : Place} → Connected Close (λ (p : Place). X p ≡ true) p q → parity_of p ≡ parity_of q
  in_component (Connected.here y) = refl
  in_component (Connected.onward {p = p} {q = q} y c r) = close_alike X M bare (turned_at X M closed) p q c y (starts_in r) ∙ in_component r

  outside_step : (p q : Place) → K p ≡ false → K q ≡ false → Beside p q → parity_of p ≡ parity_of q
  outside_step p q h k (d, l, e) =
      sym (over_none X M bare (turned_at X M closed) p d l (λ t. own p t h) (λ t. own (step d p) t (subst (λ (r : Place). K r ≡ false) (sym e) k)))
      ∙ ap parity_of e

  pub in_complement : {p q : Place} → Connected Beside (Outside F K) p q → parity_of p ≡ parity_of q
  in_complement (Connected.here y) = refl
  in_complement (Connected.onward {p = p} {q = q} y c r) = outside_step p q y.1 (starts_in r).1 c ∙ in_complement r

  -- two cracks of the component to one component of the complement
  pub all_or_none : (p q : Place) (d e : ℕ) → IsEdge moves X IsSide p d → IsEdge moves X IsSide q e → Connected Close (λ (p : Place). X p ≡ true) p q
      → Connected Beside (Outside F K) (step d p) (step e q) → M p d ≡ true → M q e ≡ true
  all_or_none p q d e h k c o m =
      let a = over_crack X M bare (turned_at X M closed) p d h in
      let b = over_crack X M bare (turned_at X M closed) q e k in
      cancelled (parity_of p) (M q e) (ap (differ (parity_of p)) (sym m)
      ∙ (sym a ∙ (in_complement o ∙ (b ∙ ap (λ v. differ v (M q e)) (sym (in_component c))))))
