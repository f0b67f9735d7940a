-- The steps that lead out of an object, with one point of the box more.
-- Labels and sets of steps alone.
use Rattle.std.proofs.Common.{◌≡◌, ◌⊎◌, inl, inr, ℕ, ◌+◌, ◌<◌, ◌↔◌, List, length, get_or, subst, sym, ap, ◌∙◌, arith, refl}
use Rattle.shape_terms.specs.Points.{Point, box_count, raster_number, raster_point}
use Rattle.shape_terms.specs.Adjacency.{near_point, near_step}
use Rattle.shape_terms.proofs.Boxes.{raster_below, raster_point_in, raster_number-raster_point, raster_point-raster_number}
use Rattle.shape_terms.proofs.ObjectPlaces.{length-raster_point}
use Rattle.shape_adj.specs.NearMasks.{In, near_total}
use Rattle.measure_terms.specs.Feret.{HasLabel}
use Rattle.measure_terms.specs.Seen.{IsSeen}
use Rattle.measure_terms.specs.Crossings.{IsSizeOf, Step, LeadsOut, AreCrossings, half_total, step_class}
use Rattle.measure_terms.proofs.Sizes.{same_size, no_elements, both_sizes, image_size}
use Rattle.measuring.specs.Gains.{IsUnseen}
use Rattle.measuring.specs.Tables.{HasDirections}
use Rattle.measuring.specs.MinkowskiSoFar.{IsOut}
use Rattle.measuring.proofs.Halves.{earlier}

module _ (sides labels : List ℕ) (j m : ℕ) where
  pub none_out : IsSizeOf (IsOut sides labels j m 0) 0
  none_out = no_elements (IsOut sides labels j m 0) (λ s o. let l = o.below in omega (arith, l))

  pub all_out : (i n : ℕ) → i ≡ box_count sides → IsSizeOf (IsOut sides labels j m i) n → AreCrossings (HasLabel sides labels j) m n
  all_out i n e h = same_size (IsOut sides labels j m i) (LeadsOut (HasLabel sides labels j) m) n (λ s o. o.leads)
      (λ s o. record { leads = o; below = (let l = raster_below sides s.from o.within.inside in omega (arith, e, l)) }) h

  module _ (i : ℕ) where
    more_out : (s : Step) → IsOut sides labels j m i s → IsOut sides labels j m (i + 1) s
    more_out s o = let l = o.below in record { leads = o.leads; below = omega (arith, l) }

    last_out : (s : Step) → IsOut sides labels j m (i + 1) s → IsOut sides labels j m i s ⊎ (raster_number sides s.from ≡ i)
    last_out s o =
        let l = o.below in
        let split : (raster_number sides s.from < i) ⊎ (raster_number sides s.from ≡ i) = grind (arith, l) in
        elim split [ inl b ↦ inl (record { leads = o.leads; below = b }) | inr e ↦ inr e ]

    -- a point with another label
    pub other_out : (n : ℕ) → (get_or labels i 0 ≡ j → ⊥) → IsSizeOf (IsOut sides labels j m i) n → IsSizeOf (IsOut sides labels j m (i + 1)) n
    other_out n other h = same_size (IsOut sides labels j m i) (IsOut sides labels j m (i + 1)) n more_out
        (λ s o. elim (last_out s o) [ inl t ↦ t | inr e ↦ absurd (other (ap (λ k. get_or labels k 0) (sym e) ∙ o.leads.within.label)) ]) h

    -- a point with the label, where `seen` has its near neighbours of the object that come before it
    module _ (d mask seen : ℕ) (two : (d ≡ 2) ⊎ (d ≡ 3)) (axes : length sides ≡ d) (below : i < box_count sides) (label : get_or labels i 0 ≡ j)
        (along : HasDirections d m mask)
        (were : (k : ℕ) → In seen k ↔ ((k < near_total d) × IsSeen sides labels j i (near_point (raster_point sides i) k))) where
      abbrev p : Point
      p = raster_point sides i

      abbrev step : ℕ → Step
      step k = record { from = p; number = k }

      -- a step from the point, in a direction that leads to no neighbour seen
      record IsNew (s : Step) : Type 0 where
        number : ℕ
        unseen : IsUnseen mask seen number
        is : step number ≡ s

      len : length p ≡ d
      len = length-raster_point sides i ∙ axes

      number : raster_number sides p ≡ i
      number = raster_number-raster_point sides i below

      at_point : (q : Point) → HasLabel sides labels j q → raster_number sides q ≡ i → q ≡ p
      at_point q h e = sym (raster_point-raster_number sides q h.inside) ∙ ap (raster_point sides) e

      point_in : HasLabel sides labels j p
      point_in = record { inside = raster_point_in sides i below; label = ap (λ k. get_or labels k 0) (raster_number-raster_point sides i below) ∙ label }

      -- no step to a neighbour of the object leads to one that was not seen
      is_seen : (k : ℕ) → k < half_total d → HasLabel sides labels j (near_point p k) → In seen k
      is_seen k l h =
          let b = earlier sides d i k two axes below l h.inside in
          (were k).1 (omega (arith, l), record { is = h; below = b })

      seen_is : (k : ℕ) → In seen k → HasLabel sides labels j (near_point p k)
      seen_is k s = ((were k).0 s).1.is

      new_leads : (k : ℕ) → IsUnseen mask seen k → IsOut sides labels j m (i + 1) (step k)
      new_leads k u =
          let a = (along k).0 u.direction in
          record {
            leads = record {
              direction = subst (λ n. k < half_total n) (sym len) a.0;
              class = subst (λ n. step_class (near_step n k) ≡ m) (sym len) a.1;
              within = point_in;
              out = λ h. u.new (is_seen k a.0 h);
            };
            below = omega (arith, number);
          }

      new_out : (s : Step) → IsNew s → IsOut sides labels j m (i + 1) s
      new_out s n = subst (IsOut sides labels j m (i + 1)) n.is (new_leads n.number n.unseen)

      leads_new : (k : ℕ) → LeadsOut (HasLabel sides labels j) m (step k) → IsUnseen mask seen k
      leads_new k o = record {
        direction = (along k).1 (subst (λ n. k < half_total n) len o.direction, subst (λ n. step_class (near_step n k) ≡ m) len o.class);
        new = λ s. o.out (seen_is k s);
      }

      out_new : (s : Step) → IsOut sides labels j m (i + 1) s → raster_number sides s.from ≡ i → IsNew s
      out_new s o e =
          let q = at_point s.from o.leads.within e in
          record {
            number = s.number;
            unseen = leads_new s.number (subst (λ f. LeadsOut (HasLabel sides labels j) m (record { from = f; number = s.number })) q o.leads);
            is = ap (λ f. record { from = f; number = s.number }) (sym q);
          }

      apart : (s : Step) → IsOut sides labels j m i s → IsNew s → ⊥
      apart s o n =
          let l = o.below in
          let e : raster_number sides p ≡ raster_number sides s.from = ap (λ t. raster_number sides t.from) n.is in
          omega (arith, l, e, number)

      new_size : (e : ℕ) → IsSizeOf (IsUnseen mask seen) e → IsSizeOf IsNew e
      new_size e = image_size step (IsUnseen mask seen) IsNew e (λ k l q. ap (λ t. t.number) q) (λ k u. record { number = k; unseen = u; is = refl })
          (λ s n. (n.number, n.unseen, n.is))

      pub outs_more : (n e : ℕ) → IsSizeOf (IsUnseen mask seen) e → IsSizeOf (IsOut sides labels j m i) n → IsSizeOf (IsOut sides labels j m (i + 1)) (n + e)
      outs_more n e new h = both_sizes (IsOut sides labels j m i) IsNew (IsOut sides labels j m (i + 1)) n e apart more_out new_out
          (λ s o. elim (last_out s o) [ inl t ↦ inl t | inr q ↦ inr (out_new s o q) ]) h (new_size e new)
