-- The rows of all objects with one point of the box more.
-- Labels and lists of rows alone stand here.
use Rattle.std.proofs.Common.{◌≡◌, ◌≢◌, ◌⊎◌, inl, inr, ℕ, ◌+◌, ◌<◌, ◌≤◌, List, [], ◌∷◌, ◌++◌, length, get_or, set, ap, sym, ◌∙◌, subst, arith}
use Rattle.std.specs.Prelude.{IsTrue}
use Rattle.std.proofs.Math.ListN.{get_or-append}
use Rattle.std.proofs.Math.Seq.{get_or-append_seam}
use Rattle.std.proofs.lemmas.List.{length-set, get_or-set_same, get_or-set_other}
use Rattle.shape_terms.specs.Points.{Point, box_count, in_box, raster_number}
use Rattle.shape_terms.proofs.Boxes.{raster_below}
use Rattle.measure_terms.specs.Feret.{HasLabel}
use Rattle.measuring.specs.declared.spot.Spot.{Spot}
use Rattle.measuring.specs.declared.object_row.Row.{Row}
use Rattle.measuring.specs.declared.outline.Outline.{Outline}
use Rattle.measuring.specs.FeretsTold.{spot_point}
use Rattle.measuring.specs.Rows.{IsInRow, AreRowsOf}
use Rattle.measuring.specs.Seen.{IsSeen, IsWidened, IsBegun, HaveRows, AreInOrder}
use Rattle.measuring.proofs.Widening.{same_rows, one_more}
use Rattle.measuring.proofs.Places.{inside_x, spot_is, up_to_by_number}

-- ---- what was seen

-- no spot was seen
pub none_seen : (sides labels : List ℕ) (k : ℕ) (rows : List Row) → rows ≡ [] → AreRowsOf (IsSeen sides labels k 0) rows
none_seen sides labels k rows e = subst (AreRowsOf (IsSeen sides labels k 0)) (sym e) (record {
  order = record { some = λ j l. absurd (omega (arith, l)); rising = λ i j m l. absurd (omega (arith, l)) };
  hold = λ p s. absurd (let l = s.below in omega (arith, l));
  first = λ j l. absurd (omega (arith, l));
  last = λ j l. absurd (omega (arith, l));
})

more_seen : (sides labels : List ℕ) (k i : ℕ) (q : Spot) → IsSeen sides labels k i q → IsSeen sides labels k (i + 1) q
more_seen sides labels k i q s = let l = s.below in record { is = s.is; below = omega (arith, l) }

-- a point of another object
pub other_seen : (sides labels : List ℕ) (k i : ℕ) (rows : List Row) → get_or labels i 0 ≢ k → AreRowsOf (IsSeen sides labels k i) rows
    → AreRowsOf (IsSeen sides labels k (i + 1)) rows
other_seen sides labels k i rows n h = same_rows (IsSeen sides labels k i) (IsSeen sides labels k (i + 1)) rows (more_seen sides labels k i) (λ q t.
    let l = t.below in
    let split : (raster_number sides (spot_point q) < i) ⊎ (raster_number sides (spot_point q) ≡ i) = grind arith in
    elim split [
      | inl m ↦ record { is = t.is; below = m }
      | inr e ↦ absurd (n (ap (λ j. get_or labels j 0) (sym e) ∙ t.is.label))
    ]) h

same_spot : (w h : ℕ) (p q : Spot) → IsTrue (in_box (w ∷ h ∷ []) (spot_point p)) → IsTrue (in_box (w ∷ h ∷ []) (spot_point q))
    → raster_number (w ∷ h ∷ []) (spot_point p) ≡ raster_number (w ∷ h ∷ []) (spot_point q) → p ≡ q
same_spot w h p q a b e =
    let x = inside_x w h p a in
    let y = inside_x w h q b in
    let u = up_to_by_number w h p q x y (omega (arith, e)) in
    let v = up_to_by_number w h q p y x (omega (arith, e)) in
    let r = u.row in let s = v.row in
    let row : p.y ≡ q.y = omega (arith, r, s) in
    let c = u.column row in let d = v.column (sym row) in
    let column : p.x ≡ q.x = omega (arith, c, d) in
    λ i. record { x = column i; y = row i }

-- a point of the object
point_seen : (w h : ℕ) (labels : List ℕ) (k i : ℕ) (p : Spot) (old new : List Row) → get_or labels i 0 ≡ k → IsTrue (in_box (w ∷ h ∷ []) (spot_point p))
    → raster_number (w ∷ h ∷ []) (spot_point p) ≡ i
    → IsWidened p old new ⊎ IsBegun p old new → AreRowsOf (IsSeen (w ∷ h ∷ []) labels k i) old → AreRowsOf (IsSeen (w ∷ h ∷ []) labels k (i + 1)) new
point_seen w h labels k i p old new label inside number put rows =
    let sides = w ∷ h ∷ [] in
    one_more (IsSeen sides labels k i) (IsSeen sides labels k (i + 1)) old new p rows
    (λ q s. (let l = s.below in up_to_by_number w h q p (inside_x w h q s.is.inside) (inside_x w h p inside) (omega (arith, l, number))))
    (λ q t.
    let l = t.below in
    let split : (raster_number sides (spot_point q) < i) ⊎ (raster_number sides (spot_point q) ≡ i) = grind arith in
    elim split [
      | inl m ↦ inl (record { is = t.is; below = m })
      | inr e ↦ inr (same_spot w h q p t.is.inside inside (e ∙ sym number))
    ])
    (more_seen sides labels k i)
    (record { is = record { inside = inside; label = ap (λ j. get_or labels j 0) number ∙ label }; below = omega (arith, number) })
    put

-- ---- all objects

pub no_objects : (sides labels : List ℕ) (n : ℕ) (all : List Outline) → length all ≡ n → ((k : ℕ) (d : Outline) → k < n → (get_or all k d).rows.items ≡ [])
    → HaveRows sides labels n 0 all
no_objects sides labels n all count empty = record { count = count; each = λ k d l. none_seen sides labels (k + 1) (get_or all k d).rows.items (empty k d l) }

-- one object more without a row
pub one_empty : (all : List Outline) (o : Outline) (i : ℕ) → length all ≡ i → o.rows.items ≡ []
    → ((k : ℕ) (d : Outline) → k < i → (get_or all k d).rows.items ≡ [])
    → (k : ℕ) (d : Outline) → k < i + 1 → (get_or (all ++ o ∷ []) k d).rows.items ≡ []
one_empty all o i count none h k d l =
    let split : (k ≡ length all) ⊎ (k < length all) = grind arith in
    elim split [
      | inl e ↦ ap (λ j. (get_or (all ++ o ∷ []) j d).rows.items) e ∙ ap (λ (z : Outline). z.rows.items) (get_or-append_seam all o [] d) ∙ none
      | inr m ↦ ap (λ (z : Outline). z.rows.items) (get_or-append all (o ∷ []) d k m) ∙ h k d (omega (arith, m, count))
    ]

-- a point of none of them
pub point_passed : (sides labels : List ℕ) (n i : ℕ) (all : List Outline) → HaveRows sides labels n i all
    → (get_or labels i 0 ≡ 0) ⊎ (length all < get_or labels i 0) → HaveRows sides labels n (i + 1) all
point_passed sides labels n i all h none = record {
  count = h.count;
  each = λ k d l. other_seen sides labels (k + 1) i (get_or all k d).rows.items
      (λ e. (let c = h.count in elim none [ inl z ↦ omega (arith, z, e) | inr m ↦ omega (arith, m, e, c, l) ])) (h.each k d l);
}

pub point_put : (w h : ℕ) (labels : List ℕ) (n i m : ℕ) (p : Spot) (all : List Outline) (d o : Outline) → HaveRows (w ∷ h ∷ []) labels n i all → m < length all
    → get_or labels i 0 ≡ m + 1
    → IsTrue (in_box (w ∷ h ∷ []) (spot_point p)) → raster_number (w ∷ h ∷ []) (spot_point p) ≡ i
    → IsWidened p (get_or all m d).rows.items o.rows.items ⊎ IsBegun p (get_or all m d).rows.items o.rows.items
    → HaveRows (w ∷ h ∷ []) labels n (i + 1) (set all m o)
point_put w h labels n i m p all d o rows within label inside number put = record {
  count = length-set all m o ∙ rows.count;
  each = λ k e l.
      let sides = w ∷ h ∷ [] in
      let split : (k ≡ m) ⊎ (k ≢ m) = grind arith in
      elim split [
        | inl s ↦ (
            let now = point_seen w h labels (m + 1) i p (get_or all m d).rows.items o.rows.items label inside number put
            (rows.each m d (let c = rows.count in omega (arith, within, c))) in
            let new = subst (λ (z : Outline). AreRowsOf (IsSeen sides labels (m + 1) (i + 1)) z.rows.items) (sym (get_or-set_same all m o e within)) now in
            subst (λ j. AreRowsOf (IsSeen sides labels (j + 1) (i + 1)) (get_or (set all m o) j e).rows.items) (sym s) new)
        | inr s ↦ subst (λ (z : Outline). AreRowsOf (IsSeen sides labels (k + 1) (i + 1)) z.rows.items) (sym (get_or-set_other all m k o e s))
            (other_seen sides labels (k + 1) i (get_or all k e).rows.items (λ f. s (omega (arith, f, label))) (rows.each k e l))
      ];
}

-- ---- in the end

pub in_order : (sides labels : List ℕ) (n i : ℕ) (all : List Outline) → HaveRows sides labels n i all → AreInOrder all
in_order sides labels n i all h = record { each = λ k o l. (h.each k o (let c = h.count in omega (arith, c, l))).order }

-- a point of the object lies in a row
pub record IsHeld (rows : List Row) (p : Point) : Type 0 where
  pub spot : Spot
  pub is : spot_point spot ≡ p
  pub place : ℕ
  pub row : IsInRow rows place spot

pub held : (w h : ℕ) (labels : List ℕ) (k : ℕ) (rows : List Row) (p : Point) → AreRowsOf (IsSeen (w ∷ h ∷ []) labels k (box_count (w ∷ h ∷ []))) rows
    → HasLabel (w ∷ h ∷ []) labels k p → IsHeld rows p
held w h labels k rows p o l =
    let sides = w ∷ h ∷ [] in
    let s = spot_is w h p l.inside in
    let is = subst (HasLabel sides labels k) (sym s.1) l in
    let i = o.hold s.0 (record { is = is; below = raster_below sides (spot_point s.0) is.inside }) in
    record { spot = s.0; is = s.1; place = i.0; row = i.1 }

pub some_row : (w h : ℕ) (labels : List ℕ) (k : ℕ) (rows : List Row) (p : Point) → AreRowsOf (IsSeen (w ∷ h ∷ []) labels k (box_count (w ∷ h ∷ []))) rows
    → HasLabel (w ∷ h ∷ []) labels k p → 1 ≤ length rows
some_row w h labels k rows p o l = (let i = (held w h labels k rows p o l).row.place in omega (arith, i))
