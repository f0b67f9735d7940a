-- The rows of a set of spots with one spot more, which comes last in raster order.
-- Sets and rows alone; nothing is known of labels here.
use Rattle.std.proofs.Common.{◌≡◌, ◌⊎◌, inl, inr, ℕ, ◌+◌, ◌-◌, ◌<◌, ◌≤◌, List, length, ap, sym, ◌∙◌, subst, arith}
use Rattle.measuring.specs.declared.spot.Spot.{Spot}
use Rattle.measuring.specs.declared.object_row.Row.{Row}
use Rattle.measuring.specs.Rows.{IsUpTo, row_at, first_spot, last_spot, IsIn, AreRowsOf}
use Rattle.measuring.specs.Seen.{IsWidened, IsBegun}

-- the same set
pub same_rows : (S T : Spot → Type 0) (rows : List Row) → ((q : Spot) → S q → T q) → ((q : Spot) → T q → S q) → AreRowsOf S rows → AreRowsOf T rows
same_rows S T rows to back h = record {
  order = h.order;
  hold = λ q t. h.hold q (back q t);
  first = λ k l. to (first_spot (row_at rows k)) (h.first k l);
  last = λ k l. to (last_spot (row_at rows k)) (h.last k l);
}

-- ---- the last row goes on

widened : (S T : Spot → Type 0) (old new : List Row) (p : Spot) → AreRowsOf S old → ((q : Spot) → S q → IsUpTo q p) → ((q : Spot) → T q → S q ⊎ (q ≡ p))
    → ((q : Spot) → S q → T q) → T p
    → IsWidened p old new → AreRowsOf T new
widened S T old new p h up split to here w =
    let n = length old in
    let m = n - 1 in
    let some = w.some in
    let many = w.all in
    let top : m + 1 ≡ n = omega (arith, some) in
    let within : m < n = omega (arith, some) in
    let is = w.last m top in
    let left = ap (λ (r : Row). r.left) is in
    let right = ap (λ (r : Row). r.right) is in
    let level = ap (λ (r : Row). r.y) is in
    let row = w.row m top in
    let before = up (last_spot (row_at old m)) (h.last m within) in
    let reach : (row_at old m).right ≤ p.x = before.column row in
    let wide = h.order.some m within in
    let case = λ (k : ℕ) (l : k < length new). (let c : (k ≡ m) ⊎ (k + 1 < n) = grind arith in c) in
    let y = λ (k : ℕ) (l : k < length new). (
    let c : (row_at new k).y ≡ (row_at old k).y = elim (case k l) [
      | inl e ↦ subst (λ j. (row_at new j).y ≡ (row_at old j).y) (sym e) level
      | inr s ↦ ap (λ (r : Row). r.y) (w.same k s)
    ] in c) in
    let end : last_spot (row_at new m) ≡ p = (λ i. record { x = right i; y = level i }) ∙ (λ i. record { x = p.x; y = row i }) in
    record {
      order = record {
        some = λ k l. elim (case k l) [
          | inl e ↦ subst (λ j. (row_at new j).left ≤ (row_at new j).right) (sym e) (omega (arith, left, right, wide, reach))
          | inr s ↦ (let r = w.same k s in subst (λ (x : Row). x.left ≤ x.right) (sym r) (h.order.some k (omega (arith, s))))
        ];
        rising = λ i k l g. (
            let a = y i (omega (arith, l, g)) in let b = y k g in let r = h.order.rising i k l (omega (arith, g, many)) in omega (arith, a, b, r));
      };
      hold = λ q t. elim (split q t) [
        | inl s ↦ (
            let o = h.hold q s in
            let k = o.0 in
            let i = o.1 in
            let place = i.place in
            let l : k < length new = omega (arith, place, many) in (
              k,
              record {
                place = l;
                on = elim (case k l) [
                  | inl e ↦ subst (λ j. IsIn (row_at new j) q) (sym e) (
                      let g = subst (λ j. IsIn (row_at old j) q) e i.on in
                      let a = g.row in let b = g.left in let c = g.right in
                      record { row = omega (arith, a, level); left = omega (arith, b, left); right = omega (arith, c, right, reach) })
                  | inr s ↦ subst (λ (x : Row). IsIn x q) (sym (w.same k s)) i.on
                ];
              },
            ))
        | inr e ↦ (
          m,
          record {
            place = omega (arith, within, many);
            on = subst (IsIn (row_at new m)) (sym e) (record {
              row = omega (arith, row, level);
              left = omega (arith, left, wide, reach);
              right = omega (arith, right);
            });
          },
        )
      ];
      first = λ k l. elim (case k l) [
        | inl e ↦ subst (λ j. T (first_spot (row_at new j))) (sym e) (
            let f : first_spot (row_at old m) ≡ first_spot (row_at new m) = λ i. record { x = sym left i; y = sym level i } in
            subst T f (to (first_spot (row_at old m)) (h.first m within)))
        | inr s ↦ subst (λ (x : Row). T (first_spot x)) (sym (w.same k s)) (to (first_spot (row_at old k)) (h.first k (omega (arith, s))))
      ];
      last = λ k l. elim (case k l) [
        | inl e ↦ subst (λ j. T (last_spot (row_at new j))) (sym e) (subst T (sym end) here)
        | inr s ↦ subst (λ (x : Row). T (last_spot x)) (sym (w.same k s)) (to (last_spot (row_at old k)) (h.last k (omega (arith, s))))
      ];
    }

-- ---- a row begins

begun : (S T : Spot → Type 0) (old new : List Row) (p : Spot) → AreRowsOf S old → ((q : Spot) → S q → IsUpTo q p) → ((q : Spot) → T q → S q ⊎ (q ≡ p))
    → ((q : Spot) → S q → T q) → T p
    → IsBegun p old new → AreRowsOf T new
begun S T old new p h up split to here b =
    let n = length old in
    let many = b.all in
    let is = b.last in
    let left = ap (λ (r : Row). r.left) is in
    let right = ap (λ (r : Row). r.right) is in
    let level = ap (λ (r : Row). r.y) is in
    let case = λ (k : ℕ) (l : k < length new). (let c : (k ≡ n) ⊎ (k < n) = grind arith in c) in
    let up_row = λ (k : ℕ) (l : k < n). (let c : (row_at old k).y ≤ p.y = (up (last_spot (row_at old k)) (h.last k l)).row in c) in
    let lower = λ (k : ℕ) (l : k < n). (
    let low = up_row k l in
    let c : (k + 1 ≡ n) ⊎ (k + 1 < n) = grind arith in
    let d : (row_at old k).y < p.y = elim c [
      | inl e ↦ (let o = b.other k e in omega (arith, low, o))
      | inr s ↦ (let r = h.order.rising k (k + 1) (omega arith) s in let t = up_row (k + 1) s in omega (arith, r, t))
    ] in d) in
    let first : first_spot (row_at new n) ≡ p = λ i. record { x = left i; y = level i } in
    let last : last_spot (row_at new n) ≡ p = λ i. record { x = right i; y = level i } in
    record {
      order = record {
        some = λ k l. elim (case k l) [
          | inl e ↦ subst (λ j. (row_at new j).left ≤ (row_at new j).right) (sym e) (omega (arith, left, right))
          | inr s ↦ subst (λ (x : Row). x.left ≤ x.right) (sym (b.same k s)) (h.order.some k s)
        ];
        rising = λ i k l g.
            let m : i < n = omega (arith, l, g, many) in
            let a = ap (λ (r : Row). r.y) (b.same i m) in
            elim (case k g) [
              | inl e ↦ subst (λ j. (row_at new i).y < (row_at new j).y) (sym e) (let r = lower i m in omega (arith, a, level, r))
              | inr s ↦ (let c = ap (λ (r : Row). r.y) (b.same k s) in let r = h.order.rising i k l s in omega (arith, a, c, r))
            ];
      };
      hold = λ q t. elim (split q t) [
        | inl s ↦ (
            let o = h.hold q s in
            let place = o.1.place in
            (o.0, record { place = omega (arith, place, many); on = subst (λ (x : Row). IsIn x q) (sym (b.same o.0 place)) o.1.on }))
        | inr e ↦ (
          n,
          record {
            place = omega (arith, many);
            on = subst (IsIn (row_at new n)) (sym e) (record {
              row = omega (arith, level);
              left = omega (arith, left);
              right = omega (arith, right);
            });
          },
        )
      ];
      first = λ k l. elim (case k l) [
        | inl e ↦ subst (λ j. T (first_spot (row_at new j))) (sym e) (subst T (sym first) here)
        | inr s ↦ subst (λ (x : Row). T (first_spot x)) (sym (b.same k s)) (to (first_spot (row_at old k)) (h.first k s))
      ];
      last = λ k l. elim (case k l) [
        | inl e ↦ subst (λ j. T (last_spot (row_at new j))) (sym e) (subst T (sym last) here)
        | inr s ↦ subst (λ (x : Row). T (last_spot x)) (sym (b.same k s)) (to (last_spot (row_at old k)) (h.last k s))
      ];
    }

pub one_more : (S T : Spot → Type 0) (old new : List Row) (p : Spot) → AreRowsOf S old → ((q : Spot) → S q → IsUpTo q p) → ((q : Spot) → T q → S q ⊎ (q ≡ p))
    → ((q : Spot) → S q → T q) → T p
    → IsWidened p old new ⊎ IsBegun p old new → AreRowsOf T new
one_more S T old new p h up split to here e = elim e [
  | inl w ↦ widened S T old new p h up split to here w
  | inr b ↦ begun S T old new p h up split to here b
]
