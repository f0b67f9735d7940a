-- A point that is refused: the turn or the weights that the program names.
-- The arithmetic stands in `Clashes`.
use Rattle.std.proofs.Common.{◌≡◌, ℕ, ◌+◌, ◌-◌, ◌<◌, ◌≤◌, List, [], ◌∷◌, ◌++◌, length, refl, ap, sym, subst, ◌∙◌, arith, ◌⊎◌, inl, inr}
use Rattle.std.specs.Prelude.{ℤ, pos, negsuc, ◌+ℤ◌, ◌-ℤ◌, ◌*ℤ◌, neg_ℤ, ◌≤ℤ◌, ◌<ℤ◌}
use Rattle.std.proofs.lemmas.Int.{ints}
use Rattle.std.proofs.lemmas.List.{length-append}
use Rattle.std.proofs.Math.ListN.{get_or-append}
use Rattle.std.proofs.Math.Seq.{get_or-append_seam}
use Rattle.shape_space.specs.declared.point.P2.{P2}
use Rattle.shape_terms.specs.Points.{Point, coordinate}
use Rattle.shape_terms.specs.Refutations.{point_at}
use Rattle.shape_terms.specs.Turns.{IsTurn, change_at, other_axis}
use Rattle.shape_refute.specs.declared.naive.Naive.{Naive}
use Rattle.shape_refute.specs.Terms.{flat_point}
use Rattle.shape_line.specs.Segments.{Seg}
use Rattle.shape_line.specs.Frames.{IsSense, along, IsRunOf, line_points, end_point}
use Rattle.shape_line.specs.Grown.{segment_of, IsGrown}
use Rattle.shape_line.proofs.Frames.{which, signed_up, signed_down, same_point, taken_one}
use Rattle.shape_line.proofs.Steps.{run_is}

-- ---- turns

-- a point that is not one further along makes a turn with the first change
turn_by : (s : ℤ) (a b c d : ℤ) → (s ≡ pos 1) ⊎ (s ≡ negsuc 0) → s *ℤ b -ℤ s *ℤ a ≡ pos 1 → (s *ℤ d -ℤ s *ℤ c ≡ pos 1 → ⊥)
    → ((b -ℤ a ≡ pos 1) × (d -ℤ c ≡ pos 1) → ⊥) × ((b -ℤ a ≡ negsuc 0) × (d -ℤ c ≡ negsuc 0) → ⊥)
turn_by s a b c d (inl e) h k =
    ((λ u. k ((λ i. signed_up s d e i -ℤ signed_up s c e i) ∙ u.1)), λ u. off _ (sym (λ i. signed_up s b e i -ℤ signed_up s a e i) ∙ h) u.0)
  where
    off : (x : ℤ) → x ≡ pos 1 → x ≡ negsuc 0 → ⊥
    off x h k = omega (arith, ints)
turn_by s a b c d (inr e) h k =
    ((λ u. off a b (sym (λ i. signed_down s b e i -ℤ signed_down s a e i) ∙ h) u.0), λ u. k ((λ i. signed_down s d e i -ℤ signed_down s c e i) ∙ back c d u.1))
  where
    off : (a b : ℤ) → neg_ℤ b -ℤ neg_ℤ a ≡ pos 1 → b -ℤ a ≡ pos 1 → ⊥
    off a b h k = omega (arith, ints)

    back : (c d : ℤ) → d -ℤ c ≡ negsuc 0 → neg_ℤ d -ℤ neg_ℤ c ≡ pos 1
    back c d h = omega (arith, ints)

one_apart : (x y z : ℤ) → y ≡ x +ℤ pos 0 → z ≡ x +ℤ pos 1 → z -ℤ y ≡ pos 1
one_apart x y z e f = omega (arith, ints)

at_last : (n : ℕ) (x0 x1 x : ℤ) → pos n ≡ x1 -ℤ x0 +ℤ pos 1 → 1 ≤ n → x ≡ x0 +ℤ pos (n - 1) → x ≡ x1
at_last n x0 x1 x e l f = omega (arith, ints)

pub turns_last : (t : ℕ) (s : ℤ) (seg : Seg) (run : List Point) (p : Point) → IsSense s → IsRunOf t s seg run → 2 ≤ length run
    → (along t s p ≡ seg.x1 +ℤ pos 1 → ⊥) → IsTurn t (run ++ p ∷ []) 0 (length run - 1)
turns_last t s seg run p sense h two off =
    let n = length-append run (p ∷ []) in
    let a : point_at (run ++ p ∷ []) 0 ≡ point_at run 0 = get_or-append run (p ∷ []) [] 0 (omega arith) in
    let b : point_at (run ++ p ∷ []) 1 ≡ point_at run 1 = get_or-append run (p ∷ []) [] 1 (omega arith) in
    let c : point_at (run ++ p ∷ []) (length run - 1) ≡ point_at run (length run - 1) = get_or-append run (p ∷ []) [] (length run - 1) (omega arith) in
    let d : point_at (run ++ p ∷ []) (length run - 1 + 1) ≡ p = ap (point_at (run ++ p ∷ [])) (let q : length run - 1 + 1 ≡ length run = omega arith in q)
    ∙ get_or-append_seam run p [] [] in
    let u = other_axis t in
    let x = one_apart seg.x0 _ _ (h.place 0 (omega arith)) (h.place 1 (omega arith)) in
    let y = at_last (length run) seg.x0 seg.x1 _ h.count (omega arith) (h.place (length run - 1) (omega arith)) in
    let w = turn_by s (coordinate (point_at run 0) u) (coordinate (point_at run 1) u) (coordinate (point_at run (length run - 1)) u) (coordinate p u)
    (which s sense) x (λ g. off (next _ _ _ g y)) in
    let e : change_at (run ++ p ∷ []) t 0 ≡ coordinate (point_at run 1) u -ℤ coordinate (point_at run 0) u = (λ i. coordinate (b i) u -ℤ coordinate (a i) u) in
    let f : change_at (run ++ p ∷ []) t (length run - 1) ≡ coordinate p u -ℤ coordinate (point_at run (length run - 1)) u =
    (λ i. coordinate (d i) u -ℤ coordinate (c i) u) in
    record {
      first = omega (arith, n);
      second = omega (arith, n);
      not_forward = λ v. w.0 (sym e ∙ v.0, sym f ∙ v.1);
      not_backward = λ v. w.1 (sym e ∙ v.0, sym f ∙ v.1);
    }
  where
    next : (x y z : ℤ) → x -ℤ y ≡ pos 1 → y ≡ z → x ≡ z +ℤ pos 1
    next x y z e f = omega (arith, ints)

-- two points that are not next to each other along
pub turns_once : (t : ℕ) (run : List Point) (p q : Point) → run ≡ p ∷ [] → (coordinate q (other_axis t) -ℤ coordinate p (other_axis t) ≡ pos 1 → ⊥)
    → (coordinate q (other_axis t) -ℤ coordinate p (other_axis t) ≡ negsuc 0 → ⊥) → IsTurn t (run ++ q ∷ []) 0 0
turns_once t run p q e f b = subst (λ (r : List Point). IsTurn t (r ++ q ∷ []) 0 0) (sym e)
    (record { first = omega arith; second = omega arith; not_forward = λ v. f v.0; not_backward = λ v. b v.0 })

-- ---- the fields of a segment

module _ (t : ℕ) (s : ℤ) (line : Naive) (first last : P2) (upper lower : List P2) (g : IsGrown t s line first last upper lower) where
  abbrev seg : Seg
  seg = segment_of t s line first last upper lower

  abbrev run : List Point
  run = line_points t s (segment_of t s line first last upper lower)

  counts : (n : ℕ) (x0 x1 : ℤ) → pos n ≡ x1 -ℤ x0 +ℤ pos 1 → (x0 ≤ℤ x1 → 1 ≤ n) × (x0 <ℤ x1 → 2 ≤ n)
  counts n x0 x1 e = (λ h. omega (arith, ints), λ h. omega (arith, ints))

  pub run_some : 1 ≤ length run
  run_some = (counts _ _ _ (run_is t s line first last upper lower g).count).0 g.order

  pub run_two : seg.x0 <ℤ seg.x1 → 2 ≤ length run
  run_two l = (counts _ _ _ (run_is t s line first last upper lower g).count).1 l

  -- the run ends with the last point
  pub ends_with : end_point run ≡ flat_point last
  ends_with =
      let h = run_is t s line first last upper lower g in
      let n = run_some in
      let l : length run - 1 < length run = omega (arith, n) in
      let e = at_last (length run) _ _ _ h.count n (h.place (length run - 1) l) in
      same_point t s (end_point run) (flat_point last) g.axis g.sense (h.flat (length run - 1) l) refl e
      (taken_one seg _ _ _ _ g.some e (h.taken (length run - 1) l) g.ends)
