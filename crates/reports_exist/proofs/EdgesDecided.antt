-- Each run of corners one unit step apart is decided: a standard line holds it, or evidence shows that it is not straight.
-- Its sheared run is decided for the axis y as in `RunsDecided`.
use Rattle.std.proofs.Common.{◌≡◌, ◌⊎◌, inl, inr, ℕ, ◌+◌, ◌-◌, ◌*◌, ◌<◌, ◌≤◌, ◌^◌, refl, sym, subst, arith, List, [], length}
use Rattle.std.specs.Prelude.{ℤ, pos, negsuc, ◌+ℤ◌, ◌-ℤ◌, ◌*ℤ◌, ◌≤ℤ◌, nat_abs}
use Rattle.std.proofs.lemmas.Int.{ints, by_lt_z}
use Rattle.std.proofs.lemmas.List.{length-map, get_or-map}
use Rattle.shape_terms.specs.Limits.{most_flat, line_coordinate, line_gap, line_area}
use Rattle.shape_terms.specs.Points.{Point, coordinate}
use Rattle.shape_terms.specs.Steps.{AreClose}
use Rattle.shape_terms.specs.Naive.{Naive}
use Rattle.shape_terms.specs.Refutations.{point_at}
use Rattle.shape_terms.specs.Covers.{Evidence}
use Rattle.shape_terms.proofs.Evidences.{evidence_shows}
use Rattle.shape_line.specs.Evidence.{IsShown}
use Rattle.edge_terms.specs.Corners.{IsSign, IsCorner, IsUnitStep}
use Rattle.edge_terms.specs.EdgeStraight.{Standard, GoesBy}
use Rattle.edge_terms.specs.EdgeEvidence.{EdgeEvidence, from_origin, sheared_run}
use Rattle.edge_terms.specs.EdgeCovers.{IsHeld, IsGap}
use Rattle.edge_terms.proofs.Shearing.{step_across, step_down, line_by, standard_by, flat_line, flat_from}
use Rattle.edge_terms.proofs.ShearedRuns.{GoneBy, sheared_change, fold_by}
use Rattle.shape_edges.proofs.Growth.{close_sheared, short_weights}
use Rattle.reports_exist.proofs.SmallRuns.{IsSmallPoint, IsWithin, product_within}
use Rattle.reports_exist.proofs.RunsDecided.{IsLineFor, IsNearRun, decided}
use Rattle.reports_exist.proofs.StepSigns.{signs_told}

-- the run is not long, its points are corners, and each is one unit step from the one before it
pub record IsCornerRun (run : List Point) : Type 0 where
  pub some : 0 < length run
  pub few : length run < 2 ^ 31
  pub corners : (i : ℕ) → i < length run → IsCorner (point_at run i)
  pub units : (i : ℕ) → i + 1 < length run → IsUnitStep (point_at run i) (point_at run (i + 1))

-- a standard line holds the run, or evidence shows that none does
abbrev pub IsEdgeDecided : List Point → Type 0
IsEdgeDecided run = ((l : Standard) × IsHeld run l) ⊎ ((e : EdgeEvidence) × IsGap run e)

-- ---- sizes

signed_within : (s x : ℤ) → IsSign s → pos 0 ≤ℤ x → x ≤ℤ pos most_flat → IsWithin (pos most_flat) (s *ℤ x)
signed_within s x (inl e) l h = subst (λ (w : ℤ). IsWithin (pos most_flat) (w *ℤ x)) (sym e) (record { low = omega (arith, ints); high = omega (arith, ints) })
signed_within s x (inr e) l h = subst (λ (w : ℤ). IsWithin (pos most_flat) (w *ℤ x)) (sym e) (record { low = omega (arith, ints); high = omega (arith, ints) })

small_sheared : (h v : ℤ) (o p : Point) → IsSign h → IsSign v → IsCorner o → IsCorner p → IsSmallPoint (from_origin h v o p)
small_sheared h v o p hs vs co cp =
    let a = signed_within h (coordinate p 0) hs cp.x_low cp.x_high in
    let b = signed_within v (coordinate p 1) vs cp.y_low cp.y_high in
    let c = signed_within h (coordinate o 0) hs co.x_low co.x_high in
    let d = signed_within v (coordinate o 1) vs co.y_low co.y_high in
    record { flat = refl; x = four _ _ _ _ a b c d; y = two _ _ b d }
  where
    four : (a b c d : ℤ) → IsWithin (pos most_flat) a → IsWithin (pos most_flat) b → IsWithin (pos most_flat) c → IsWithin (pos most_flat) d
        → nat_abs ((a +ℤ b) +ℤ negsuc 0 *ℤ (c +ℤ d)) ≤ line_coordinate
    four a b c d h k l m =
        let hl = h.low in
        let hh = h.high in
        let kl = k.low in
        let kh = k.high in
        let ll = l.low in
        let lh = l.high in
        let ml = m.low in
        let mh = m.high in
        omega (arith, ints)

    two : (b d : ℤ) → IsWithin (pos most_flat) b → IsWithin (pos most_flat) d → nat_abs (b +ℤ negsuc 0 *ℤ d) ≤ line_coordinate
    two b d k m =
        let kl = k.low in
        let kh = k.high in
        let ml = m.low in
        let mh = m.high in
        omega (arith, ints)

-- ---- the sheared run is small and near

module _ (run : List Point) (r : IsCornerRun run) (n : ℕ) (all : n + 1 ≡ length run) (h v : ℤ) (g : GoneBy run n h v) where
  abbrev o : Point
  o = point_at run 0

  abbrev sheared : List Point
  sheared = sheared_run h v run

  count : length sheared ≡ length run
  count = length-map run (from_origin h v o)

  sheared_at : (i : ℕ) → i < length run → point_at sheared i ≡ from_origin h v o (point_at run i)
  sheared_at i l = get_or-map (from_origin h v o) run i [] [] l

  goes : GoesBy h v run
  goes i l = g.steps i (omega arith)

  near_next : (i : ℕ) → i + 1 < length run → AreClose (from_origin h v o (point_at run i)) (from_origin h v o (point_at run (i + 1)))
  near_next i l = close_sheared h v o (point_at run i) (point_at run (i + 1)) g.h_sign g.v_sign (elim (goes i l) [
    | inl e ↦ inl (step_across run i h e)
    | inr e ↦ inr (step_down run i v e)
  ])

  sheared_near : IsNearRun sheared
  sheared_near = record {
    small = λ i l.
        let m : i < length run = omega (arith, count) in
        subst IsSmallPoint (sym (sheared_at i m)) (small_sheared h v o (point_at run i) g.h_sign g.v_sign (r.corners 0 r.some) (r.corners i m));
    near = λ i l.
        let m : i + 1 < length run = omega (arith, count) in
        subst (λ (q : Point). AreClose q (point_at sheared (i + 1))) (sym (sheared_at i (omega arith)))
        (subst (AreClose (from_origin h v o (point_at run i))) (sym (sheared_at (i + 1) m)) (near_next i m));
  }

  -- ---- a line of the sheared run gives a standard line

  module _ (line : Naive) (f : IsLineFor 1 sheared line) where
    flat_short : pos 1 ≤ℤ coordinate line.a 0 → IsHeld run (flat_line h v run)
    flat_short p = record {
      holds = flat_from h v run line g.h_sign g.v_sign goes f.naive p;
      short = record {
        a = omega arith;
        c = omega arith;
        mu = bound (v *ℤ coordinate o 1) (let c = r.corners 0 r.some in signed_within v (coordinate o 1) g.v_sign c.y_low c.y_high);
      };
    }
      where
        bound : (z : ℤ) → IsWithin (pos most_flat) z → nat_abs (pos 0 -ℤ z) < 2 ^ 63
        bound z w = let l = w.low in let u = w.high in omega (arith, ints)

    slant : (a c : ℕ) → coordinate line.a 0 ≡ pos 0 -ℤ pos a → coordinate line.a 1 ≡ pos a +ℤ pos c → (l : Standard) × IsHeld run l
    slant a c e k =
        let corner = r.corners 0 r.some in
        let x = signed_within h (coordinate o 0) g.h_sign corner.x_low corner.x_high in
        let y = signed_within v (coordinate o 1) g.v_sign corner.y_low corner.y_high in
        let small = sizes a c k f.main in (
          line_by h v o line.mu a c,
          record {
            holds = standard_by h v run line g.h_sign g.v_sign goes f.naive a c e k;
            short = record {
              a = let s = small.0 in omega arith;
              c = let s = small.1 in omega arith;
              mu = bound a c (h *ℤ coordinate o 0) (v *ℤ coordinate o 1) line.mu small.0 small.1 x y f.mu;
            };
          },
        )
      where
        sizes : (a c : ℕ) → coordinate line.a 1 ≡ pos a +ℤ pos c → coordinate line.a 1 ≤ℤ pos (line_gap + 1) → (a ≤ line_gap + 1) × (c ≤ line_gap + 1)
        sizes a c k l = (omega (arith, ints), omega (arith, ints))

        wide : (m z : ℤ) → m ≤ℤ pos (line_gap + 1) → IsWithin m z → IsWithin (pos (line_gap + 1)) z
        wide m z l w = let a = w.low in let b = w.high in record { low = omega (arith, ints); high = omega (arith, ints) }

        sum : (u w m : ℤ) (a c : ℕ) → a ≤ line_gap + 1 → c ≤ line_gap + 1 → IsWithin (pos ((line_gap + 1) * (line_gap + 1))) u
            → IsWithin (pos ((line_gap + 1) * (line_gap + 1))) w → IsWithin (pos (3 * line_area)) m
            → nat_abs ((u -ℤ w) -ℤ m -ℤ (pos a +ℤ pos c) +ℤ pos 1) < 2 ^ 63
        sum u w m a c la lc hu hw hm =
            let ul = hu.low in
            let uh = hu.high in
            let wl = hw.low in
            let wh = hw.high in
            let ml = hm.low in
            let mh = hm.high in
            omega (arith, ints)

        natural : (a : ℕ) → a ≤ line_gap + 1 → IsWithin (pos (line_gap + 1)) (pos a)
        natural a l = record { low = omega (arith, ints); high = omega (arith, ints) }

        bound : (a c : ℕ) (x y m : ℤ) → a ≤ line_gap + 1 → c ≤ line_gap + 1 → IsWithin (pos most_flat) x → IsWithin (pos most_flat) y
            → IsWithin (pos (3 * line_area)) m
            → nat_abs ((pos a *ℤ x -ℤ pos c *ℤ y) -ℤ m -ℤ (pos a +ℤ pos c) +ℤ pos 1) < 2 ^ 63
        bound a c x y m la lc hx hy hm =
            let p = product_within (pos (line_gap + 1)) (pos a) x (natural a la) (wide (pos most_flat) x (omega (arith, ints)) hx) in
            let q = product_within (pos (line_gap + 1)) (pos c) y (natural c lc) (wide (pos most_flat) y (omega (arith, ints)) hy) in
            sum (pos a *ℤ x) (pos c *ℤ y) m a c la lc p q hm

    standard_found : (l : Standard) × IsHeld run l
    standard_found = by_lt_z (pos 0) (coordinate line.a 0)
        (λ m. (flat_line h v run, flat_short (omega (arith, ints, m))))
        (λ m.
        let p = parts (coordinate line.a 0) (coordinate line.a 1) m (f.naive.proper.others 0 (λ e. (let z : 0 ≡ 1 = e in absurd (omega arith)))) in
        slant p.0 p.1 p.2 p.3)
      where
        parts : (p q : ℤ) → p ≤ℤ pos 0 → pos (nat_abs p) ≤ℤ q → (a : ℕ) × (c : ℕ) × (p ≡ pos 0 -ℤ pos a) × (q ≡ pos a +ℤ pos c)
        parts p q l h = (nat_abs p, nat_abs (q -ℤ pos (nat_abs p)), omega (arith, ints), omega (arith, ints))

  -- ---- and evidence against each such line shows a fold

  fold_found : (e : Evidence) → IsShown 1 sheared e → (gap : EdgeEvidence) × IsGap run gap
  fold_found (Evidence.Turned i j) s =
      let t = s.shows in
      absurd (t.not_forward (sheared_change h v run g.h_sign g.v_sign goes i t.first, sheared_change h v run g.h_sign g.v_sign goes j t.second))
  fold_found (Evidence.Cut why) s = (
    EdgeEvidence.Fold why,
    record {
      shows = fold_by run n h v all g (evidence_shows 1 sheared (Evidence.Cut why) s.shows) why s.shows.1;
      short = short_weights sheared why (let few = r.few in let c = count in omega arith) (record { refutes = s.shows.1; light = s.light });
    },
  )

  by_signs : IsEdgeDecided run
  by_signs = elim (decided 1 (omega arith) sheared (let c = count in let s = r.some in omega arith) sheared_near) [
    | inl (line, f) ↦ inl (standard_found line f)
    | inr (e, s) ↦ inr (fold_found e s)
  ]

pub edge_decided : (run : List Point) → IsCornerRun run → IsEdgeDecided run
edge_decided run r =
    let some = r.some in
    elim (signs_told run r.units (length run - 1) (omega arith)) [
      | inl (h, v, g) ↦ by_signs run r (length run - 1) (omega arith) h v g
      | inr (i, j, b) ↦ inr (
        EdgeEvidence.Bend i j,
        record
            { shows = b; short = (let f = r.few in let l = b.first in omega arith, let f = r.few in let l = b.second in omega arith) },
      )
    ]
