-- A cycle begins at an upper or a lower side: before a right side and behind a left one comes a crack that stands earlier in raster order.
-- So all cracks with these sides are marked by the time that they are met.
use Rattle.std.proofs.Common.{◌≡◌, ℕ, ◌+◌, ◌*◌, ◌%◌, ◌<◌, Bool, true, false, refl, ap, sym, ◌∙◌, subst, arith, List, [], ◌∷◌, length, inl, inr, mul_comm}
use Rattle.std.specs.Prelude.{pos, ◌+ℤ◌, nat_abs, IsTrue, Contains, flat_map, All}
use Rattle.std.proofs.lemmas.Int.{ints}
use Rattle.std.proofs.lemmas.List.Elements.{All-contains}
use Rattle.shape_terms.specs.Points.{in_box, raster_number}
use Rattle.shape_terms.specs.Pictures.{Picture}
use Rattle.shape_terms.specs.Contours.{Crack, IsCrack, successor, Follow, IsCycle}
use Rattle.shape_terms.specs.CrackNumbers.{crack_number}
use Rattle.shape_terms.proofs.Boxes.{in_box_first}
use Rattle.shape_terms.proofs.Turning.{Moves, MoveLaws, ahead_by, edge_ahead, behind_by, edge_behind}
use Rattle.shape_terms.proofs.Edges.{ahead_crack, behind_ahead}
use Rattle.shape_terms.proofs.Successor.{Place, point, crack_at, step, moves, IsSide, move_laws, held, crack_of, successor_is, successor_crack, successor_once}
use Rattle.shape_terms.proofs.Successor.{placed, edge_crack}
use Rattle.shape_terms.proofs.SameCycles.{head_in, later_in, in_cases, in_none, cycle_on, of_list, list_of}
use Rattle.shape_terms.proofs.Found.{Found, All-each}
use Rattle.shape_terms.proofs.Numbered.{object_in_box}
use Rattle.shape_crack.proofs.Rows.{flat_number}

-- ---- the crack before one, by the laws of steps with left and right exchanged

mirrored : Moves Place ℕ
mirrored = record { step = step; right = λ d. (d + 3) % 4; left = λ d. (d + 1) % 4 }

mirror_laws : MoveLaws mirrored IsSide
unfolding mirrored
mirror_laws = record {
  right_good = λ d h. omega arith;
  left_good = λ d h. omega arith;
  right_left = λ d h. omega arith;
  left_right = λ d h. omega arith;
  round = λ d h. omega arith;
  there_and_back = λ d p h.
      (let e : ((d + 1) % 4 + 1) % 4 ≡ ((d + 3) % 4 + 3) % 4 = omega arith in subst (λ k. step k (step d p) ≡ p) e (move_laws.there_and_back d p h));
  across = λ d p h.
      (let e : ((d + 3) % 4 + 1) % 4 ≡ d = omega arith in
      sym (subst (λ k. step ((d + 3) % 4) (step k p) ≡ step k (step ((d + 3) % 4) p)) e (move_laws.across ((d + 3) % 4) p (omega arith))));
}

turned : (X : Place → Bool) (b a : Bool) (p A B : Place) (d : ℕ) → ◌≡◌ {A = Place × ℕ} (ahead_by moves X b a p A B d) (behind_by mirrored X b a p A B d)
unfolding mirrored
turned X true a p A B d = refl
turned X false true p A B d = refl
turned X false false p A B d = refl

forth_is_back : (X : Place → Bool) (q : Place) (d : ℕ) → ◌≡◌ {A = Place × ℕ} (edge_ahead moves X q d) (edge_behind mirrored X q d)
unfolding mirrored
forth_is_back X q d = turned X (X (step ((d + 1) % 4) (step d q))) (X (step ((d + 1) % 4) q)) q (step ((d + 1) % 4) q) (step ((d + 1) % 4) (step d q)) d

-- ---- numbers of cracks in the row over a pixel

module _ (w h : ℕ) where
  up_less : (q p : Place) → IsTrue (in_box (w ∷ h ∷ []) (point q)) → IsTrue (in_box (w ∷ h ∷ []) (point p)) → q.1 +ℤ pos 1 ≡ p.1
      → raster_number (w ∷ h ∷ []) (point q) < raster_number (w ∷ h ∷ []) (point p)
  up_less q p a b e =
      let f = in_box_first w (h ∷ []) q.0 (q.1 ∷ []) a in
      let g = in_box_first h [] q.1 [] f.2 in
      let n : nat_abs p.1 ≡ nat_abs q.1 + 1 = omega (arith, ints) in
      let m = flat_number w h q.0 q.1 in
      let k = flat_number w h p.0 p.1 ∙ ap (λ y. nat_abs p.0 + w * y) n in
      omega (arith, f.1, m, k, mul_comm w (nat_abs q.1 + 1), mul_comm w (nat_abs q.1))

module _ (X : Picture) (axes : length X.sides ≡ 2) where
  flat_sides : (w : ℕ) × (h : ℕ) × (w ∷ h ∷ [] ≡ X.sides)
  flat_sides = go X.sides refl axes
    where
      go : (s : List ℕ) → s ≡ X.sides → length s ≡ 2 → (w : ℕ) × (h : ℕ) × (w ∷ h ∷ [] ≡ X.sides)
      go [] e a = absurd (omega arith)
      go (w ∷ []) e a = absurd (omega arith)
      go (w ∷ h ∷ []) e a = (w, h, e)
      go (w ∷ h ∷ d ∷ s) e a = absurd (omega arith)

  higher : (q p : Place) (s t : ℕ) → IsCrack X (crack_at q s) → IsCrack X (crack_at p t) → q.1 +ℤ pos 1 ≡ p.1
      → crack_number X.sides (crack_at q s) < crack_number X.sides (crack_at p t)
  higher q p s t k l e =
      let (w, h, f) = flat_sides in
      let a = subst (λ (d : List ℕ). IsTrue (in_box d (point q))) (sym f) (object_in_box X (point q) k.pixel) in
      let b = subst (λ (d : List ℕ). IsTrue (in_box d (point p))) (sym f) (object_in_box X (point p) l.pixel) in
      let r = subst (λ (d : List ℕ). raster_number d (point q) < raster_number d (point p)) f (up_less w h q p a b e) in
      let s = k.side in
      let t = l.side in
      omega arith

  -- of the three edges that may come next all stand earlier
  earlier : (m : Moves Place ℕ) (b a : Bool) (p A B : Place) (t : ℕ) → A.1 +ℤ pos 1 ≡ p.1 → B.1 +ℤ pos 1 ≡ p.1 → m.right t ≡ 0 → 0 < t
      → IsCrack X (crack_at p t)
      → let n = ahead_by m (held X) b a p A B t in IsCrack X (crack_of n) → crack_number X.sides (crack_of n) < crack_number X.sides (crack_at p t)
  earlier m true a p A B t up over r s l k = higher B p (m.left t) t k l over
  earlier m false true p A B t up over r s l k = higher A p t t k l up
  earlier m false false p A B t up over r s l k = omega (arith, r)

  left_follows : (p : Place) → IsCrack X (crack_at p 3) → crack_number X.sides (successor X (crack_at p 3)) < crack_number X.sides (crack_at p 3)
  left_follows p k =
      let s = successor_is X p 3 in
      let n = earlier moves (held X (step 0 (step 3 p))) (held X (step 0 p)) p (step 0 p) (step 0 (step 3 p)) 3 (omega (arith, ints)) (omega (arith, ints)) refl
      (omega arith) k (subst (IsCrack X) s (successor_crack X axes (crack_at p 3) k)) in
      subst (λ (d : Crack). crack_number X.sides d < crack_number X.sides (crack_at p 3)) (sym s) n

  right_preceded : (p : Place) → IsCrack X (crack_at p 1) → (d : Crack) × IsCrack X d × (crack_number X.sides d < crack_number X.sides (crack_at p 1))
      × (successor X d ≡ crack_at p 1)
  unfolding mirrored
  right_preceded p k =
      let n = edge_ahead mirrored (held X) p 1 in
      let i = ahead_crack mirrored mirror_laws (held X) p 1 (k.side, k.pixel, k.neighbour) in
      let d = edge_crack X n i in
      let s : successor X (crack_of n) ≡ crack_at p 1 = successor_is X n.0 n.1
      ∙ ap crack_of (forth_is_back (held X) n.0 n.1 ∙ behind_ahead mirrored mirror_laws (held X) p 1 (k.side, k.pixel, k.neighbour)) in
      let l = earlier mirrored (held X (step 0 (step 1 p))) (held X (step 0 p)) p (step 0 p) (step 0 (step 1 p)) 1 (omega (arith, ints)) (omega (arith, ints))
      refl (omega arith) k d in
      (crack_of n, d, l, s)

  -- ---- cycles

  last_one : (f : Crack) (xs : List Crack) → Follow X f xs → (y : Crack) × Contains xs y × (successor X y ≡ f)
  last_one f [] h = absurd h
  last_one f (c ∷ []) h = (c, head_in c [], h)
  last_one f (c ∷ d ∷ xs) h = let r = last_one f (d ∷ xs) h.1 in (r.0, later_in c (d ∷ xs) r.0 r.1, r.2)

  one_before : (f c : Crack) (xs : List Crack) → Follow X f (c ∷ xs) → (x : Crack) → Contains xs x → (y : Crack) × Contains (c ∷ xs) y × (successor X y ≡ x)
  one_before f c [] h x i = absurd (in_none x i)
  one_before f c (d ∷ xs) h x i = elim (in_cases d xs x i) [
    | inl e ↦ (c, head_in c (d ∷ xs), h.0 ∙ e)
    | inr j ↦ (let r = one_before f d xs h.1 x j in (r.0, later_in c (d ∷ xs) r.0 r.1, r.2))
  ]

  -- a crack whose successor is on a cycle is on it
  cycle_back : (xs : List Crack) → IsCycle X xs → All (IsCrack X) xs → (c : Crack) → IsCrack X c → Contains xs (successor X c) → Contains xs c
  cycle_back [] y a c k i = absurd y
  cycle_back (d ∷ xs) y a c k i =
      let r = elim (in_cases d xs (successor X c) i) as (λ _. (z : Crack) × Contains (d ∷ xs) z × (successor X z ≡ successor X c)) [
        | inl e ↦ (let q = last_one d (d ∷ xs) y.1 in (q.0, q.1, q.2 ∙ e))
        | inr j ↦ one_before d d xs y.1 (successor X c) j
      ] in
      subst (Contains (d ∷ xs)) (successor_once X axes r.0 c (All-contains (IsCrack X) (d ∷ xs) r.0 a r.1) k r.2) r.1

  -- the crack with the number n is on a cycle that was found
  module _ (n : ℕ) (marks : ℕ → Bool) (cycles : List (List Crack)) (f : Found X n marks cycles) where
    on : (d : Crack) → Contains (flat_map (λ c. c) cycles) d → Contains (flat_map (λ c. c) cycles) (successor X d)
    on d i =
        let r = list_of cycles d i in
        of_list cycles r.0 (successor X d) r.1 (go r.0 (All-contains (IsCycle X) cycles r.0 f.cycle r.1) r.2)
      where
        go : (xs : List Crack) → IsCycle X xs → Contains xs d → Contains xs (successor X d)
        go [] y j = absurd y
        go (x ∷ xs) y j = cycle_on X x xs y d j

    back : (c : Crack) → IsCrack X c → Contains (flat_map (λ c. c) cycles) (successor X c) → Contains (flat_map (λ c. c) cycles) c
    back c k i =
        let r = list_of cycles (successor X c) i in
        let all : All (IsCrack X) r.0 = All-each (IsCrack X) r.0 (λ x j. f.cracks x (of_list cycles r.0 x r.1 j)) in
        of_list cycles r.0 c r.1 (cycle_back r.0 (All-contains (IsCycle X) cycles r.0 f.cycle r.1) all c k r.2)

    pub right_found : (c : Crack) → IsCrack X c → c.side ≡ 1 → crack_number X.sides c ≡ n → Contains (flat_map (λ c. c) cycles) c
    right_found c k s e =
        let a = placed X axes c k in
        let q : c ≡ crack_at a.place 1 = a.is ∙ ap (crack_at a.place) s in
        let r = right_preceded a.place (subst (IsCrack X) q k) in
        let l : crack_number X.sides r.0 < n = subst (λ j. crack_number X.sides r.0 < j) (ap (crack_number X.sides) (sym q) ∙ e) r.2 in
        subst (Contains (flat_map (λ c. c) cycles)) (r.3 ∙ sym q) (on r.0 (f.passed r.0 r.1 l))

    pub left_found : (c : Crack) → IsCrack X c → c.side ≡ 3 → crack_number X.sides c ≡ n → Contains (flat_map (λ c. c) cycles) c
    left_found c k s e =
        let a = placed X axes c k in
        let q : c ≡ crack_at a.place 3 = a.is ∙ ap (crack_at a.place) s in
        let r = left_follows a.place (subst (IsCrack X) q k) in
        let l : crack_number X.sides (successor X c) < n = subst (λ j. crack_number X.sides (successor X c) < j) e
        (subst (λ (d : Crack). crack_number X.sides (successor X d) < crack_number X.sides d) (sym q) r) in
        back c k (f.passed (successor X c) (successor_crack X axes c k) l)
