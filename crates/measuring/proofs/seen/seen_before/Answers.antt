use Rattle.std.proofs.Common.{◌/◌, ◌<◌, ◌≤◌, ℕ, arith, sym, ◌∙◌, subst}
use Rattle.std.specs.Prelude.{slice_index}
use Rattle.shape_terms.specs.Points.{Point, sides_of, raster_point}
use Rattle.shape_terms.specs.Adjacency.{near_point}
use Rattle.shape_adj.proofs.MaskBits.{marks_yes, marks_no, few_neighbours}
use Rattle.measure_terms.specs.Seen.{IsSeen}
use Rattle.std.proofs.lemmas.List.{length-map}
use Rattle.std.specs.Prelude.{nat_abs}
use native.Mathlib.Decide.{dec_lt}
use Rattle.measuring.proofs.Halves.{not_later}
use Rattle.measuring.proofs.seen.seen_before.Goals as goal
use Rattle.measuring.proofs.seen.seen_before.Goals.{then-is_seen, else-is_seen}

pub loop-k-preserved : goal.loop-k-preserved
loop-k-preserved g c =
    let few : g.P.Pairing.NEAR_COUNT ≤ 26 = few_neighbours g.P.Point.DIM g.P.Pairing.NEAR_COUNT g.met.P.Point.two_or_three g.met.P.Pairing.near_total in
    let sides = sides_of (g.P.Point.coords c.args.near.now.sides.lengths) in
    let labels = (g.L.Labelling.labels c.args.labels.now) in
    let i = c.args.i in
    let S : Point → Type 0 = IsSeen sides labels (slice_index labels i) i in
    let Q : ℕ → Type 0 = λ j. S (near_point (raster_point sides i) j) in
    let p = c.unraster-p.ensures.value in
    elim c.if-is_seen.branch [
      | then-is_seen b ↦ rw b.mask-is (marks_yes Q c.loop-k.k c.loop-k.mask c.loop-k.invariant (omega (arith, c.NEAR_COUNT-k-end.ensures))
          (subst (λ (q : Point). S (near_point q c.loop-k.k)) p (c.is_seen.ensures.0 b.if-is_seen.true)))
      | else-is_seen b ↦ rw b.mask-is (marks_no Q c.loop-k.k c.loop-k.mask c.loop-k.invariant (λ h.
          let t = c.is_seen.ensures.1 (subst (λ (q : Point). S (near_point q c.loop-k.k)) (sym p) h) in
          let f = b.if-is_seen.false in cc))
    ]

pub returns : goal.returns
returns g c = λ j.
    let d = g.P.Point.DIM in
    let n = g.P.Pairing.NEAR_COUNT in
    let lengths = g.P.Point.coords c.args.near.now.sides.lengths in
    let sides = sides_of lengths in
    let labels = (g.L.Labelling.labels c.args.labels.now) in
    let i = c.args.i in
    let total = g.met.P.Pairing.near_total in (
      (λ b. let a = (c.loop-k.invariant j).0 b in (let l = a.0 in omega (arith, l, c.NEAR_COUNT-k-end.ensures), a.1)),
      λ b. elim (dec_lt j (n / 2)) [
        | yes l ↦ (c.loop-k.invariant j).1 (omega (arith, l, c.loop-k-test.false, c.NEAR_COUNT-k-end.ensures), b.1)
        | no l ↦ absurd (not_later sides labels d (slice_index labels i) i j g.met.P.Point.two_or_three
            (length-map lengths nat_abs ∙ g.met.P.Point.axes c.args.near.now.sides.lengths) c.requires.below
            (subst (λ m. m / 2 ≤ j) total (omega (arith, l))) (subst (λ m. j < m) total b.0) b.1)
      ],
    )
