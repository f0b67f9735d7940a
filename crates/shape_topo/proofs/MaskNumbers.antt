-- The numbers of components of a mask are those of the sets of bits, and those of the points that the steps lead to.
-- Laws for any number of axes.
use Rattle.std.proofs.Common.{◌≡◌, ◌-◌, ◌^◌, ◌<◌, ◌↔◌, ℕ, Bool, true, false, refl, ap, sym, ◌∙◌, subst, arith, length}
use Rattle.std.specs.Prelude.{◌⊎◌}
use Rattle.std.specs.Int.{bit_at}
use Rattle.std.specs.Int.Bits.{bit_and}
use Rattle.std.proofs.lemmas.Nat.Bits.{bit_at-lt}
use native.Mathlib.Decide.{ℕ_discrete}
use Rattle.shape_terms.specs.Points.{Point}
use Rattle.shape_terms.specs.Pictures.{Picture, at}
use Rattle.shape_terms.specs.Adjacency.{Near, Side, Round, origin, near_steps, near_step, near_point}
use Rattle.shape_terms.specs.Parts.{Connected}
use Rattle.shape_terms.specs.Simple.{Holding, ObjectRound, BackgroundRound, BackgroundAtSides, IsSimple}
use Rattle.shape_terms.proofs.Deletion.{same_parts}
use Rattle.shape_terms.proofs.Paths.{ends_in}
use Rattle.shape_terms.proofs.PartCount.{one_count}
use Rattle.shape_terms.proofs.PointTests.{same_point}
use Rattle.shape_terms.proofs.AdjacencySymmetric.{near_sym, side_sym}
use Rattle.shape_terms.proofs.NeighbourNumbers.{near_number, near_of_number, near_once, side_is_round}
use Rattle.shape_adj.specs.NearMasks.{In, near_total, IsNearMask}
use Rattle.shape_topo.specs.Bits.{Linked, AreSymmetric, CountsParts}
use Rattle.shape_topo.specs.Masks.{NearSteps, SideSteps, MaskObject, MaskBackground, IsSideStep, HasMaskObjectNumber, HasMaskBackgroundNumber, IsSimpleMask}
use Rattle.shape_terms.specs.Links.{near_test, side_test, near_links, side_links, side_set}
use Rattle.shape_topo.proofs.Growing.{place_below}
use Rattle.shape_adj.proofs.MaskBits.{both_sets, few_neighbours, marks_small, unset}
use Rattle.shape_terms.proofs.LinkTests.{near_tested, side_tested, row_is, link_is}
use Rattle.shape_terms.proofs.ShiftedSteps.{length-near_step, length-origin, near-moved, side-moved, round-moved, moved-origin, length-moved}
use Rattle.shape_topo.proofs.Matching.{Matches, turned_round, parts_across, holding_matches, find, find_at}

-- ---- links are steps

near_linked : (d j k : ℕ) → Linked (near_links d) j k ↔ ((j < near_total d) × (k < near_total d) × NearSteps d j k)
near_linked d j k =
    let l = link_is near_test (near_steps d) j k in
    let t = near_tested (near_step d j) (near_step d k) in
    ((λ h. let a = l.0 h in (a.0, a.1, t.0 a.2)), λ h. l.1 (h.0, h.1, t.1 h.2))

side_linked : (d j k : ℕ) → Linked (side_links d) j k ↔ ((j < near_total d) × (k < near_total d) × SideSteps d j k)
side_linked d j k =
    let l = link_is side_test (near_steps d) j k in (
      (λ h. let a = l.0 h in (a.0, a.1, (side_tested (near_step d j) (near_step d k) (length-near_step d j a.0 ∙ sym (length-near_step d k a.1))).0 a.2)),
      λ h. l.1 (h.0, h.1, (side_tested (near_step d j) (near_step d k) h.2.0).1 h.2),
    )

pub side_set_is : (d k : ℕ) → In (side_set d) k ↔ ((k < near_total d) × IsSideStep d k)
side_set_is d k =
    let r = row_is (side_test (origin d)) (near_steps d) k in (
      (λ h. let a = r.0 h in (a.0, (side_tested (origin d) (near_step d k) (length-origin d ∙ sym (length-near_step d k a.0))).0 a.1)),
      λ h. r.1 (h.0, (side_tested (origin d) (near_step d k) h.1.0).1 h.1),
    )

pub near_symmetric : (d : ℕ) → AreSymmetric (near_links d)
near_symmetric d j k l = let a = (near_linked d j k).0 l in (near_linked d k j).1 (a.1, a.0, near_back a.2)
  where
    near_back : NearSteps d j k → NearSteps d k j
    near_back h = near_sym (near_step d j) (near_step d k) h

pub side_symmetric : (d : ℕ) → AreSymmetric (side_links d)
side_symmetric d j k l = let a = (side_linked d j k).0 l in (side_linked d k j).1 (a.1, a.0, side_sym (near_step d j) (near_step d k) a.2)

-- ---- the object of a mask

bits_match : (d m : ℕ) → m < 2 ^ near_total d → Matches (Linked (near_links d)) (NearSteps d) (In m) (MaskObject d m) (λ k. k) (λ k. k)
bits_match d m small = record {
  into = λ k i. (place_below m (near_total d) k small i, i);
  once = λ k i. refl;
  back = λ k h. h.1;
  again = λ k h. refl;
  link = λ j k x y l. ((near_linked d j k).0 l).2;
  unlink = λ j k x y r. (near_linked d j k).1 (x.0, y.0, r);
}

pub object_counted : (d m n : ℕ) → m < 2 ^ near_total d → CountsParts (near_links d) m m n → HasMaskObjectNumber d m n
object_counted d m n small c = parts_across (bits_match d m small) (same_parts (λ k h. ends_in h.2) (λ k i. (k, i, Connected.here i)) c)

-- and the other way round
pub object_of_mask : (d m n : ℕ) → m < 2 ^ near_total d → HasMaskObjectNumber d m n → CountsParts (near_links d) m m n
object_of_mask d m n small c = same_parts (λ k i. (k, i, Connected.here i)) (λ k h. ends_in h.2) (parts_across (turned_round (bits_match d m small)) c)

-- ---- the background of a mask

-- r holds the steps of the background, and s those of them that are side steps
pub record AreDark (d m r s : ℕ) : Type 0 where
  pub round : (k : ℕ) → In r k ↔ MaskBackground d m k
  pub sides : (k : ℕ) → In s k ↔ ((k < near_total d) × (bit_at m k ≡ 0) × IsSideStep d k)

dark_match : (d m r s : ℕ) → AreDark d m r s → Matches (Linked (side_links d)) (SideSteps d) (In r) (MaskBackground d m) (λ k. k) (λ k. k)
dark_match d m r s a = record {
  into = λ k i. (a.round k).0 i;
  once = λ k i. refl;
  back = λ k h. (a.round k).1 h;
  again = λ k h. refl;
  link = λ j k x y l. ((side_linked d j k).0 l).2;
  unlink = λ j k x y e. (side_linked d j k).1 (x.0, y.0, e);
}

pub background_counted : (d m r s n : ℕ) → AreDark d m r s → CountsParts (side_links d) r s n → HasMaskBackgroundNumber d m n
background_counted d m r s n a c = parts_across
    (holding_matches (dark_match d m r s a) (λ k i g. ((a.sides k).0 g).2) (λ k h g. (a.sides k).1 (h.0, h.1, g))) c

-- and the other way round
pub background_of_mask : (d m r s n : ℕ) → AreDark d m r s → HasMaskBackgroundNumber d m n → CountsParts (side_links d) r s n
background_of_mask d m r s n a c = parts_across
    (turned_round (holding_matches (dark_match d m r s a) (λ k i g. ((a.sides k).0 g).2) (λ k h g. (a.sides k).1 (h.0, h.1, g)))) c

-- a set that has the unset places among the round ones, and one that has those of the side steps
pub dark_sets : (d m dark all : ℕ) → ((k : ℕ) → In dark k ↔ ((k < near_total d) × (bit_at m k ≡ 0)))
    → ((k : ℕ) → k < near_total d → In all k ↔ Round (origin d) (near_step d k))
    → AreDark d m (bit_and dark all) (bit_and dark (side_set d))
dark_sets d m dark all u r = record {
  round = λ k. (
    (λ i. let b = (both_sets dark all k).0 i in let a = (u k).0 b.0 in (a.0, a.1, (r k a.0).0 b.1)),
    λ h. (both_sets dark all k).1 ((u k).1 (h.0, h.1), (r k h.0).1 h.2),
  );
  sides = λ k. (
    (λ i. let b = (both_sets dark (side_set d) k).0 i in let a = (u k).0 b.0 in (a.0, a.1, ((side_set_is d k).0 b.1).1)),
    λ h. (both_sets dark (side_set d) k).1 ((u k).1 (h.0, h.1), (side_set_is d k).1 (h.0, h.2)),
  );
}

-- each side step is a round one
pub dark_seeds : (d m r s : ℕ) → AreDark d m r s → (k : ℕ) → In s k → In r k
dark_seeds d m r s a k i = let h = (a.sides k).0 i in (a.round k).1 (h.0, h.1, side_is_round (origin d) (near_step d k) h.2)

pub dark_small : (d m r s : ℕ) → AreDark d m r s → r < 2 ^ near_total d
dark_small d m r s a = marks_small (λ k. (bit_at m k ≡ 0) × Round (origin d) (near_step d k)) (near_total d) r
    (λ k. ((λ i. let b = (a.round k).0 i in (b.0, (b.1, b.2))), λ h. (a.round k).1 (h.0, h.1.0, h.1.1)))

-- ---- the points that the steps lead to

pub round_step : (p : Point) (k : ℕ) → k < near_total (length p) → Round (origin (length p)) (near_step (length p) k) ↔ Round p (near_point p k)
round_step p k l = subst (λ o. Round (origin (length p)) (near_step (length p) k) ↔ Round o (near_point p k)) (moved-origin p)
    (round-moved p (origin (length p)) (near_step (length p) k) (length-origin (length p)) (length-near_step (length p) k l))

pub round_step_at : (d : ℕ) (p : Point) (k : ℕ) → length p ≡ d → k < near_total d → Round (origin d) (near_step d k) ↔ Round p (near_point p k)
round_step_at d p k e = subst (λ d. k < near_total d → Round (origin d) (near_step d k) ↔ Round p (near_point p k)) e (round_step p k)

pub side_step_is : (p : Point) (k : ℕ) → k < near_total (length p) → IsSideStep (length p) k ↔ Side p (near_point p k)
side_step_is p k l = subst (λ o. IsSideStep (length p) k ↔ Side o (near_point p k)) (moved-origin p)
    (side-moved p (origin (length p)) (near_step (length p) k) (length-origin (length p)) (length-near_step (length p) k l))

module _ (Y : Picture) (p : Point) (m : ℕ) (axes : length p ≡ length Y.sides) (mask : IsNearMask Y p m) where
  d : ℕ
  d = length p

  of : Point → ℕ
  of = find same_point (near_point p) (near_total d)

  of_near : (q : Point) → Near p q → (of q < near_total d) × (near_point p (of q) ≡ q)
  unfolding of d
  of_near q h = let n = near_number p q h in find_at same_point (near_point p) (near_total (length p)) q n.0 n.1 n.2

  once_of : (k : ℕ) → k < near_total d → of (near_point p k) ≡ k
  unfolding d
  once_of k l = let o = of_near (near_point p k) (near_of_number p k l) in near_once p (of (near_point p k)) k o.0 l o.1

  near_is : (j k : ℕ) → j < near_total d → k < near_total d → NearSteps d j k ↔ Near (near_point p j) (near_point p k)
  unfolding d
  near_is j k a b = near-moved p (near_step (length p) j) (near_step (length p) k) (length-near_step (length p) j a) (length-near_step (length p) k b)

  side_is : (j k : ℕ) → j < near_total d → k < near_total d → SideSteps d j k ↔ Side (near_point p j) (near_point p k)
  unfolding d
  side_is j k a b = side-moved p (near_step (length p) j) (near_step (length p) k) (length-near_step (length p) j a) (length-near_step (length p) k b)

  dark : (k : ℕ) → k < near_total d → (bit_at m k ≡ 0) ↔ (at Y (near_point p k) ≡ false)
  unfolding d
  dark k l = (
    to (at Y (near_point p k)) refl,
    λ f. elim (ℕ_discrete (bit_at m k) 1) [
      | yes i ↦ absurd (let t : true ≡ false = sym ((mask k).0 i).1 ∙ f in cc)
      | no o ↦ (let b = bit_at-lt m k in omega arith)
    ],
  )
    where
      to : (b : Bool) → at Y (near_point p k) ≡ b → bit_at m k ≡ 0 → at Y (near_point p k) ≡ false
      to true e z = absurd (let i = (mask k).1 (l, e) in omega arith)
      to false e z = e

  object_match : Matches (NearSteps d) Near (MaskObject d m) (ObjectRound Y p) (near_point p) of
  unfolding d
  object_match = record {
    into = λ k h. (((mask k).0 h.1).1, near_of_number p k h.0);
    once = λ k h. once_of k h.0;
    back = λ q h. let o = of_near q h.1 in (o.0, (mask (of q)).1 (o.0, ap (at Y) o.1 ∙ h.0));
    again = λ q h. (of_near q h.1).1;
    link = λ j k x y l. (near_is j k x.0 y.0).0 l;
    unlink = λ a b x y r.
        let o = of_near a x.1 in
        let u = of_near b y.1 in
        (near_is (of a) (of b) o.0 u.0).1 (subst (λ z. Near z (near_point p (of b))) (sym o.1) (subst (λ z. Near a z) (sym u.1) r));
  }

  background_match : Matches (SideSteps d) Side (MaskBackground d m) (BackgroundRound Y p) (near_point p) of
  unfolding d
  background_match = record {
    into = λ k h. (record { point = same_axes k h.0; value = (dark k h.0).0 h.1 }, (round_step p k h.0).0 h.2);
    once = λ k h. once_of k h.0;
    back = λ q h. let o = of_near q h.1.0 in
        (o.0, (dark (of q) o.0).1 (ap (at Y) o.1 ∙ h.0.value), (round_step p (of q) o.0).1 (subst (Round p) (sym o.1) h.1));
    again = λ q h. (of_near q h.1.0).1;
    link = λ j k x y l. (side_is j k x.0 y.0).0 l;
    unlink = λ a b x y r.
        let o = of_near a x.1.0 in
        let u = of_near b y.1.0 in
        (side_is (of a) (of b) o.0 u.0).1 (subst (λ z. Side z (near_point p (of b))) (sym o.1) (subst (λ z. Side a z) (sym u.1) r));
  }
    where
      same_axes : (k : ℕ) → k < near_total (length p) → length (near_point p k) ≡ length Y.sides
      same_axes k l = length-moved p (near_step (length p) k) (length-near_step (length p) k l) ∙ axes

  sides_match : Matches (SideSteps d) Side (Holding (SideSteps d) (MaskBackground d m) (IsSideStep d)) (BackgroundAtSides Y p) (near_point p) of
  unfolding d
  sides_match = holding_matches background_match (λ k h g. (side_step_is p k h.0).0 g)
      (λ q h s. let o = of_near q h.1.0 in (side_step_is p (of q) o.0).1 (subst (Side p) (sym o.1) s))

  -- the mask is simple exactly where the point is
  pub simple_is : IsSimpleMask (length p) m ↔ IsSimple Y p
  unfolding d
  simple_is = (
    (λ s. record { object = parts_across object_match s.object; background = parts_across sides_match s.background }),
    (λ s. record { object = parts_across (turned_round object_match) s.object; background = parts_across (turned_round sides_match) s.background }),
  )

-- ---- how many there are

-- ---- each number is one

pub one_object_number : (d m n k : ℕ) → HasMaskObjectNumber d m n → HasMaskObjectNumber d m k → n ≡ k
one_object_number d m n k = one_count (NearSteps d) (MaskObject d m) n k

pub one_background_number : (d m n k : ℕ) → HasMaskBackgroundNumber d m n → HasMaskBackgroundNumber d m k → n ≡ k
one_background_number d m n k = one_count (SideSteps d) (Holding (SideSteps d) (MaskBackground d m) (IsSideStep d)) n k

-- ---- the three sets of the program

pub dark_by : (d m all round sides : ℕ) → (d ≡ 2) ⊎ (d ≡ 3) → m < 2 ^ 32 → all ≡ 2 ^ near_total d - 1 → sides ≡ side_set d
    → ((k : ℕ) → k < near_total d → In round k ↔ Round (origin d) (near_step d k))
    → AreDark d m (bit_and (bit_and all (2 ^ 32 - 1 - m)) round) (bit_and (bit_and all (2 ^ 32 - 1 - m)) sides)
dark_by d m all round sides h small a s r =
    let few = few_neighbours d (near_total d) h refl in
    rw (a, s) (dark_sets d m (bit_and (2 ^ near_total d - 1) (2 ^ 32 - 1 - m)) round (λ k. unset (near_total d) m k (omega arith) small) r)
