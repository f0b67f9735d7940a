-- A chain as a list, with one point more of the list that it goes along.
-- What stands at each place is told here; turns are told in `Chaining`.
use Rattle.std.proofs.Common.{◌≡◌, ◌⊎◌, inl, inr, ℕ, ◌+◌, ◌-◌, ◌<◌, ◌≤◌, Bool, List, [], ◌∷◌, ◌++◌, length, take, ap, refl, sym, subst, ◌∙◌, arith}
use Rattle.std.proofs.Common.{length-append}
use Rattle.std.proofs.Math.ListN.{get_or-append}
use Rattle.std.proofs.Math.Seq.{get_or-append_seam}
use Rattle.std.proofs.lemmas.List.{get_or-take, length-take-le}
use Rattle.measure_terms.specs.Hulls.{Corner, origin, vertex}
use Rattle.measuring.specs.Corners.{IsAmong}
use Rattle.measuring.specs.Chains.{Reaches, Leads, AreInOrder, IsChain, IsOpen, IsKept, IsSide}
use Rattle.measuring.proofs.Chaining.{reaches_apart, opened, same_kept, same_set, pushed, begun}

-- ---- the points before a place, and that one

pub one_more : (points : List Corner) (n : ℕ) (p : Corner) → IsAmong points (n + 1) p → IsAmong points n p ⊎ (p ≡ vertex points n)
one_more points n p a =
    let w = a.within in
    let c : (a.place < n) ⊎ (a.place ≡ n) = grind arith in
    elim c [
      | inl l ↦ inl (record { place = a.place; within = l; is = a.is })
      | inr e ↦ inr (sym a.is ∙ ap (vertex points) e)
    ]

pub no_fewer : (points : List Corner) (n : ℕ) (p : Corner) → IsAmong points n p → IsAmong points (n + 1) p
no_fewer points n p a = let w = a.within in record { place = a.place; within = omega (arith, w); is = a.is }

pub itself : (points : List Corner) (n : ℕ) → IsAmong points (n + 1) (vertex points n)
itself points n = record { place = n; within = omega arith; is = refl }

ahead : (up : Bool) (points : List Corner) (n : ℕ) → AreInOrder up points → n < length points → (p : Corner) → IsAmong points n p
    → Reaches up p (vertex points n)
ahead up points n h l p a = subst (λ z. Reaches up z (vertex points n)) a.is (h.order a.place n a.within l)

-- ---- the point is there already

pub stayed : (up : Bool) (points h : List Corner) (n : ℕ) → 1 ≤ length h → vertex h (length h - 1) ≡ vertex points n → IsSide up points n h
    → IsSide up points (n + 1) h
stayed up points h n some e side = record {
  chain = λ o. (
      let c = side.chain o in
      let there = subst (IsAmong points n) e (c.arch.of (length h - 1) (omega (arith, some))) in
      same_set up (IsAmong points n) (IsAmong points (n + 1)) (vertex h) (length h)
      (λ p t. elim (one_more points n p t) [ inl a ↦ a | inr f ↦ subst (IsAmong points n) (sym f) there ])
      (λ p a. no_fewer points n p a) c);
}

-- ---- the point is put

-- where the chain is open to the point
pub opens : (up : Bool) (points h : List Corner) (n : ℕ) → n < length points → 1 ≤ length h → (vertex h (length h - 1) ≡ vertex points n → ⊥)
    → AreInOrder up points
    → IsChain up (IsAmong points n) (vertex h) (length h) → IsOpen up (IsAmong points n) (vertex h) (vertex points n) (length h)
opens up points h n l some other o c =
    opened up (IsAmong points n) (vertex h) (vertex points n) (length h) c
    (λ i e. (let f : length h - 1 ≡ i = omega (arith, e, some) in
    subst (λ k. Leads up (vertex h k) (vertex points n)) f
    (reaches_apart up (vertex h (length h - 1)) (vertex points n)
    (ahead up points n o l (vertex h (length h - 1)) (c.arch.of (length h - 1) (omega (arith, some)))) other)))

pub put : (up : Bool) (points h : List Corner) (n k : ℕ) → n < length points → k ≤ length h → AreInOrder up points
    → IsKept up (IsAmong points n) (vertex h) (vertex points n) k
    → IsChain up (IsAmong points (n + 1)) (vertex (take k h ++ vertex points n ∷ [])) (length (take k h ++ vertex points n ∷ []))
put up points h n k l within o kept =
    let q = vertex points n in
    let w = vertex (take k h ++ q ∷ []) in
    let count : length (take k h) ≡ k = length-take-le k h within in
    let all : k + 1 ≡ length (take k h ++ q ∷ []) = (let e = length-append (take k h) (q ∷ []) in omega (arith, e, count)) in
    let same = λ (i : ℕ) (m : i < k). (get_or-append (take k h) (q ∷ []) origin i (omega (arith, m, count)) ∙ get_or-take k h i origin m) in
    let top : w k ≡ q = subst (λ j. w j ≡ q) count (get_or-append_seam (take k h) q [] origin) in
    let kept' = subst (λ z. IsKept up (IsAmong points n) w z k) (sym top) (same_kept up (IsAmong points n) (vertex h) w q k same kept) in
    subst (λ m. IsChain up (IsAmong points (n + 1)) w m) all
    (pushed up (IsAmong points n) (IsAmong points (n + 1)) w k kept'
    (λ p a. subst (λ z. Reaches up p z) (sym top) (ahead up points n o l p a))
    (λ p t. elim (one_more points n p t) [ inl a ↦ inl a | inr f ↦ inr (f ∙ sym top) ])
    (λ p a. no_fewer points n p a)
    (subst (IsAmong points (n + 1)) (sym top) (itself points n)))

-- ---- the first point

pub first : (up : Bool) (points h : List Corner) → h ≡ vertex points 0 ∷ [] → IsSide up points 1 h
first up points h e = record {
  chain = λ o. subst (λ l. IsChain up (IsAmong points 1) (vertex l) (length l)) (sym e)
      (begun up (IsAmong points 1) (vertex (vertex points 0 ∷ [])) (record { place = 0; within = omega arith; is = refl })
      (λ p a. (let w = a.within in let f : a.place ≡ 0 = omega (arith, w) in sym a.is ∙ ap (vertex points) f)));
}
