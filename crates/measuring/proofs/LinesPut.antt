-- The corners of rows line by line, with one line more.
-- Rows, lines and lists of corners alone.
use Rattle.std.proofs.Common.{◌≡◌, ◌⊎◌, inl, inr, ℕ, ◌+◌, ◌-◌, ◌^◌, ◌<◌, ◌≤◌, unsigned_abs, List, [], ◌∷◌, ◌++◌, length, ap, refl, sym, subst, ◌∙◌, add-one}
use Rattle.std.proofs.Common.{arith, length-append}
use Rattle.std.proofs.Math.IntN.{ℤ, pos, negsuc}
use Rattle.std.proofs.Math.ListN.{get_or-append}
use Rattle.std.proofs.Math.Seq.{get_or-append_seam}
use lib.Signed.{◌<ℤ◌, ◌≤ℤ◌}
use Rattle.std.proofs.lemmas.Int.{ints, by_lt_z}
use Rattle.measure_terms.specs.Hulls.{Corner, IsUpTo, origin, vertex}
use Rattle.measuring.specs.declared.object_row.Row.{Row}
use Rattle.measuring.specs.declared.line.Line.{Line}
use Rattle.measuring.specs.Rows.{row_at, AreRows}
use Rattle.measuring.specs.Corners.{IsOf, AreInRasterOrder, IsShort, AreShort, AreEndsOf, IsCornerOfRow, IsCornerOfRows}
use Rattle.measuring.specs.Lines.{first, last, above, below, IsShortLine, IsJoined, with_line, AreLines, reach}

-- ---- one corner more

of_push : (ps : List Corner) (q p : Corner) → IsOf (ps ++ q ∷ []) p → IsOf ps p ⊎ (p ≡ q)
of_push ps q p a =
    let w = a.within in
    let n = length-append ps (q ∷ []) in
    let c : (a.place < length ps) ⊎ (a.place ≡ length ps) = grind arith in
    elim c [
      | inl l ↦ inl (record { place = a.place; within = l; is = sym (get_or-append ps (q ∷ []) origin a.place l) ∙ a.is })
      | inr e ↦ inr (sym a.is ∙ ap (vertex (ps ++ q ∷ [])) e ∙ get_or-append_seam ps q [] origin)
    ]

push_of : (ps : List Corner) (q p : Corner) → IsOf ps p → IsOf (ps ++ q ∷ []) p
push_of ps q p a =
    let w = a.within in
    let n = length-append ps (q ∷ []) in
    record { place = a.place; within = omega (arith, w, n); is = get_or-append ps (q ∷ []) origin a.place w ∙ a.is }

push_last : (ps : List Corner) (q : Corner) → IsOf (ps ++ q ∷ []) q
push_last ps q = (let n = length-append ps (q ∷ []) in record { place = length ps; within = omega (arith, n); is = get_or-append_seam ps q [] origin })

itself : (ps : List Corner) (i : ℕ) → i < length ps → IsOf ps (vertex ps i)
itself ps i l = record { place = i; within = l; is = refl }

-- what holds of each corner, and of one more
each_push : (P : Corner → Type 0) (ps : List Corner) (q : Corner) → ((i : ℕ) → i < length ps → P (vertex ps i)) → P q → (i : ℕ) → i < length (ps ++ q ∷ [])
    → P (vertex (ps ++ q ∷ []) i)
each_push P ps q h here i l =
    let n = length-append ps (q ∷ []) in
    let c : (i < length ps) ⊎ (i ≡ length ps) = grind arith in
    elim c [
      | inl m ↦ subst P (sym (get_or-append ps (q ∷ []) origin i m)) (h i m)
      | inr e ↦ subst (λ j. P (vertex (ps ++ q ∷ []) j)) (sym e) (subst P (sym (get_or-append_seam ps q [] origin)) here)
    ]

short_push : (ps : List Corner) (q : Corner) → AreShort ps → IsShort q → AreShort (ps ++ q ∷ [])
short_push ps q h here = record { each = each_push IsShort ps q h.each here }

order_push : (ps : List Corner) (q : Corner) → AreInRasterOrder ps → ((p : Corner) → IsOf ps p → IsUpTo p q) → AreInRasterOrder (ps ++ q ∷ [])
order_push ps q h up = record {
  order = λ i k l m.
      let n = length-append ps (q ∷ []) in
      let c : (k < length ps) ⊎ (k ≡ length ps) = grind arith in
      let f : i < length ps = omega (arith, l, m, n) in
      subst (λ z. IsUpTo z (vertex (ps ++ q ∷ []) k)) (sym (get_or-append ps (q ∷ []) origin i f)) (elim c [
        | inl g ↦ subst (IsUpTo (vertex ps i)) (sym (get_or-append ps (q ∷ []) origin k g)) (h.order i k l g)
        | inr e ↦ subst (λ j. IsUpTo (vertex ps i) (vertex (ps ++ q ∷ []) j)) (sym e)
            (subst (IsUpTo (vertex ps i)) (sym (get_or-append_seam ps q [] origin)) (up (vertex ps i) (itself ps i f)))
      ]);
}

-- ---- one line more

-- the corner lies on the line
record IsOn (l : Line) (p : Corner) : Type 0 where
  pub row : p.y ≡ l.y
  pub left : l.left ≤ℤ p.x
  pub right : p.x ≤ℤ l.right

lower : (p q : Corner) (y : ℤ) → p.y ≤ℤ y → y <ℤ q.y → IsUpTo p q
lower p q y a b = record { row = omega (arith, ints, a, b); column = λ e. absurd (omega (arith, ints, a, b, e)) }

level : (l : Line) → l.left ≤ℤ l.right → IsUpTo (first l) (last l)
level l h = record { row = omega (arith, ints); column = λ e. h }

with_of : (ps : List Corner) (l : Line) (p : Corner) → IsOf (with_line ps l) p → IsOf ps p ⊎ (p ≡ first l) ⊎ (p ≡ last l)
with_of ps l p a = elim (of_push (ps ++ first l ∷ []) (last l) p a) [
  | inl b ↦ elim (of_push ps (first l) p b) [ inl c ↦ inl c | inr e ↦ inr (inl e) ]
  | inr e ↦ inr (inr e)
]

of_with : (ps : List Corner) (l : Line) (p : Corner) → IsOf ps p → IsOf (with_line ps l) p
of_with ps l p a = push_of (ps ++ first l ∷ []) (last l) p (push_of ps (first l) p a)

row_of : (p q : Corner) → p ≡ q → q.y ≡ p.y
row_of p q e = ap (λ (z : Corner). z.y) (sym e)

put_line : (rows : List Row) (n m : ℕ) (y : ℤ) (l : Line) (ps : List Corner) → AreLines rows n y ps → y <ℤ l.y → l.left ≤ℤ l.right → IsShortLine l
    → IsCornerOfRows rows (length rows) (first l) → IsCornerOfRows rows (length rows) (last l)
    → ((p : Corner) → IsCornerOfRows rows m p → p.y ≤ℤ l.y → (IsCornerOfRows rows n p × (p.y ≤ℤ y)) ⊎ IsOn l p) → AreLines rows m l.y (with_line ps l)
put_line rows n m y l ps h down wide short begins ends cover = record {
  order = order_push (ps ++ first l ∷ []) (last l) (order_push ps (first l) h.order (λ p a. lower p (first l) y (h.until p a) down))
      (λ p a. elim (of_push ps (first l) p a)
      [ inl b ↦ lower p (last l) y (h.until p b) down | inr e ↦ subst (λ z. IsUpTo z (last l)) (sym e) (level l wide) ]);
  short = short_push (ps ++ first l ∷ []) (last l) (short_push ps (first l) h.short short.first) short.last;
  of = λ p a. elim (with_of ps l p a) [
    | inl b ↦ h.of p b
    | inr c ↦ elim c [ inl e ↦ subst (IsCornerOfRows rows (length rows)) (sym e) begins | inr e ↦ subst (IsCornerOfRows rows (length rows)) (sym e) ends ]
  ];
  until = λ p a. elim (with_of ps l p a) [
    | inl b ↦ (let u = h.until p b in omega (arith, ints, u, down))
    | inr c ↦ elim c [ inl e ↦ (let f = row_of p (first l) e in omega (arith, ints, f)) | inr e ↦ (let f = row_of p (last l) e in omega (arith, ints, f)) ]
  ];
  hold = λ p a below. elim (cover p a below) [
    | inl b ↦ (
        let c = h.hold p b.0 b.1 in
        record {
          left = c.left;
          right = c.right;
          left_in = of_with ps l c.left c.left_in;
          right_in = of_with ps l c.right c.right_in;
          left_row = c.left_row;
          right_row = c.right_row;
          behind = c.behind;
          before = c.before;
        })
    | inr o ↦ record {
      left = first l;
      right = last l;
      left_in = push_of (ps ++ first l ∷ []) (last l) (first l) (push_last ps (first l));
      right_in = push_last (ps ++ first l ∷ []) (last l);
      left_row = sym o.row;
      right_row = sym o.row;
      behind = o.left;
      before = o.right;
    }
  ];
}

-- a line that reaches over two of a box lies in it
pub joined_short : (a b l : Line) → IsJoined a b l → IsShortLine a → IsShortLine b → IsShortLine l
joined_short a b l j h k =
    let y : unsigned_abs l.y ≤ 2 ^ 16 = subst (λ z. unsigned_abs z ≤ 2 ^ 16) (sym j.row) k.first.y in
    record {
      first = record {
        x = elim j.begins [ inl e ↦ subst (λ z. unsigned_abs z ≤ 2 ^ 16) (sym e) h.first.x | inr e ↦ subst (λ z. unsigned_abs z ≤ 2 ^ 16) (sym e) k.first.x ];
        y = y;
      };
      last = record {
        x = elim j.ends [ inl e ↦ subst (λ z. unsigned_abs z ≤ 2 ^ 16) (sym e) h.last.x | inr e ↦ subst (λ z. unsigned_abs z ≤ 2 ^ 16) (sym e) k.last.x ];
        y = y;
      };
    }

-- ---- corners of rows on lines

on_above : (r : Row) (p : Corner) → r.left ≤ r.right → IsCornerOfRow r p → p.y ≤ℤ pos r.y → IsOn (above r) p
on_above r p wide h up = elim h.row [
  | inl e ↦ elim h.column [
    | inl f ↦ record { row = e; left = omega (arith, ints, f); right = omega (arith, ints, f, wide) }
    | inr f ↦ record { row = e; left = omega (arith, ints, f, wide); right = omega (arith, ints, f) }
  ]
  | inr e ↦ absurd (omega (arith, ints, e, up))
]

on_below : (r : Row) (p : Corner) → r.left ≤ r.right → IsCornerOfRow r p → pos r.y <ℤ p.y → IsOn (below r) p
on_below r p wide h down = elim h.row [
  | inl e ↦ absurd (omega (arith, ints, e, down))
  | inr e ↦ elim h.column [
    | inl f ↦ record { row = e; left = omega (arith, ints, f); right = omega (arith, ints, f, wide) }
    | inr f ↦ record { row = e; left = omega (arith, ints, f, wide); right = omega (arith, ints, f) }
  ]
]

-- no corner of a row lies below the line below it
no_lower : (r : Row) (p : Corner) → IsCornerOfRow r p → p.y ≤ℤ pos (r.y + 1)
no_lower r p h = elim h.row [ inl e ↦ omega (arith, ints, e) | inr e ↦ omega (arith, ints, e) ]

wide_row : (a b : ℕ) → a ≤ b → pos a ≤ℤ pos (b + 1)
wide_row a b l = omega (arith, ints, l)

module _ (rows : List Row) (are : AreRows rows) where
  -- rows before another lie above it
  no_lower_row : (i k : ℕ) → i ≤ k → k < length rows → (row_at rows i).y ≤ (row_at rows k).y
  no_lower_row i k l m =
      let c : (i < k) ⊎ (i ≡ k) = grind arith in
      elim c [
        | inl n ↦ (let r = are.rising i k n m in omega (arith, r))
        | inr e ↦ subst (λ j. (row_at rows i).y ≤ (row_at rows j).y) e (omega arith)
      ]

  -- the corners of the first rows down to the line below the last of them: those down to the line above it, and those on the line
  last_below : (n : ℕ) → n < length rows → (p : Corner) → IsCornerOfRows rows (n + 1) p → (IsCornerOfRows rows (n + 1) p × (p.y ≤ℤ pos (row_at rows n).y))
      ⊎ IsOn (below (row_at rows n)) p
  last_below n l p h =
      by_lt_z (pos (row_at rows n).y) p.y
      (λ (d : pos (row_at rows n).y <ℤ p.y).
      let w = h.within in
      let c : (h.place < n) ⊎ (h.place ≡ n) = grind arith in
      elim c [
        | inl m ↦ (let r = are.rising h.place n m l in let q = no_lower (row_at rows h.place) p h.corner in absurd (omega (arith, ints, r, q, d)))
        | inr e ↦ inr (on_below (row_at rows n) p (are.some n l) (subst (λ j. IsCornerOfRow (row_at rows j) p) e h.corner) d)
      ])
      (λ (d : p.y ≤ℤ pos (row_at rows n).y). inl (h, d))

  -- the corners of the first rows and one more, down to the line above that
  next_above : (n : ℕ) → n + 1 < length rows → (p : Corner) → IsCornerOfRows rows (n + 2) p → p.y ≤ℤ pos (row_at rows (n + 1)).y
      → (IsCornerOfRows rows (n + 1) p × (p.y ≤ℤ pos ((row_at rows n).y + 1))) ⊎ IsOn (above (row_at rows (n + 1))) p
  next_above n l p h up =
      let w = h.within in
      let c : (h.place < n + 1) ⊎ (h.place ≡ n + 1) = grind arith in
      elim c [
        | inl m ↦ (
            let q = no_lower (row_at rows h.place) p h.corner in
            let r = no_lower_row h.place n (omega (arith, m)) (omega (arith, l)) in
            inl (record { place = h.place; within = m; corner = h.corner }, omega (arith, ints, q, r)))
        | inr e ↦ inr (on_above (row_at rows (n + 1)) p (are.some (n + 1) l) (subst (λ j. IsCornerOfRow (row_at rows j) p) e h.corner) up)
      ]

  above_first : (n : ℕ) → n < length rows → IsCornerOfRows rows (length rows) (first (above (row_at rows n)))
  above_first n l = record { place = n; within = l; corner = record { row = inl refl; column = inl refl } }

  above_last : (n : ℕ) → n < length rows → IsCornerOfRows rows (length rows) (last (above (row_at rows n)))
  above_last n l = record { place = n; within = l; corner = record { row = inl refl; column = inr refl } }

  below_first : (n : ℕ) → n < length rows → IsCornerOfRows rows (length rows) (first (below (row_at rows n)))
  below_first n l = record { place = n; within = l; corner = record { row = inr refl; column = inl refl } }

  below_last : (n : ℕ) → n < length rows → IsCornerOfRows rows (length rows) (last (below (row_at rows n)))
  below_last n l = record { place = n; within = l; corner = record { row = inr refl; column = inr refl } }

  -- ---- the lines of all rows, one by one

  pub no_lines : AreLines rows 0 (reach rows 0) []
  no_lines = record {
    order = record { order = λ i k l m. absurd (omega (arith, m)) };
    short = record { each = λ i l. absurd (omega (arith, l)) };
    of = λ p a. absurd (let l = a.within in omega (arith, l));
    until = λ p a. absurd (let l = a.within in omega (arith, l));
    hold = λ p a d. absurd (let l = a.within in omega (arith, l));
  }

  -- the line above the first row
  pub first_line : 0 < length rows → IsShortLine (above (row_at rows 0)) → (ps : List Corner) → AreLines rows 0 (reach rows 0) ps
      → AreLines rows 1 (reach rows 1) (with_line ps (above (row_at rows 0)))
  first_line l short ps h =
      let r = row_at rows 0 in
      put_line rows 0 1 (negsuc 0) (above r) ps h (omega (arith, ints)) (wide_row r.left r.right (are.some 0 l)) short (above_first 0 l) (above_last 0 l)
      (λ p a up. (let w = a.within in let e : a.place ≡ 0 = omega (arith, w) in
      inr (on_above r p (are.some 0 l) (subst (λ j. IsCornerOfRow (row_at rows j) p) e a.corner) up)))

  -- the line below the last of the first rows
  pub line_below : (n : ℕ) → n < length rows → IsShortLine (below (row_at rows n)) → (ps : List Corner) → AreLines rows (n + 1) (pos (row_at rows n).y) ps
      → AreLines rows (n + 1) (pos ((row_at rows n).y + 1)) (with_line ps (below (row_at rows n)))
  line_below n l short ps h =
      let r = row_at rows n in
      put_line rows (n + 1) (n + 1) (pos r.y) (below r) ps h (omega (arith, ints)) (wide_row r.left r.right (are.some n l)) short (below_first n l)
      (below_last n l) (λ p a up. last_below n l p a)

  -- the line above the next row
  pub line_above : (n : ℕ) → n + 1 < length rows → (row_at rows n).y + 1 < (row_at rows (n + 1)).y → IsShortLine (above (row_at rows (n + 1)))
      → (ps : List Corner)
      → AreLines rows (n + 1) (pos ((row_at rows n).y + 1)) ps
      → AreLines rows (n + 2) (pos (row_at rows (n + 1)).y) (with_line ps (above (row_at rows (n + 1))))
  line_above n l far short ps h =
      let r = row_at rows (n + 1) in
      put_line rows (n + 1) (n + 2) (pos ((row_at rows n).y + 1)) (above r) ps h (omega (arith, ints, far)) (wide_row r.left r.right (are.some (n + 1) l)) short
      (above_first (n + 1) l) (above_last (n + 1) l) (λ p a up. next_above n l p a up)

  -- the line between two rows that lie one below the other
  pub line_between : (n : ℕ) → n + 1 < length rows → (row_at rows n).y + 1 ≡ (row_at rows (n + 1)).y → (l : Line)
      → IsJoined (below (row_at rows n)) (above (row_at rows (n + 1))) l → IsShortLine l
      → (ps : List Corner) → AreLines rows (n + 1) (pos (row_at rows n).y) ps → AreLines rows (n + 2) (pos (row_at rows (n + 1)).y) (with_line ps l)
  line_between n k near l j short ps h =
      let u = row_at rows n in
      let v = row_at rows (n + 1) in
      let low = j.left in let low' = j.left_too in let high = j.right in let high' = j.right_too in
      let level = j.row in
      let a = wide_row u.left u.right (are.some n (omega (arith, k))) in
      let up : l.y ≡ pos (u.y + 1) = omega (arith, ints, level, near) in
      subst (λ y. AreLines rows (n + 2) y (with_line ps l)) level
      (put_line rows (n + 1) (n + 2) (pos u.y) l ps h (omega (arith, ints, level, near)) (omega (arith, ints, low, high, a)) short
      (elim j.begins [
        | inl e ↦ record { place = n; within = omega (arith, k); corner = record { row = inr up; column = inl e } }
        | inr e ↦ record { place = n + 1; within = k; corner = record { row = inl level; column = inl e } }
      ])
      (elim j.ends [
        | inl e ↦ record { place = n; within = omega (arith, k); corner = record { row = inr up; column = inr e } }
        | inr e ↦ record { place = n + 1; within = k; corner = record { row = inl level; column = inr e } }
      ])
      (λ p b d. elim (next_above n k p b (omega (arith, ints, d, level))) [
        | inl c ↦ elim (last_below n (omega (arith, k)) p c.0) [
          | inl e ↦ inl e
          | inr o ↦ inr (let x = o.row in let y = o.left in let z = o.right in
              record { row = omega (arith, ints, x, up); left = omega (arith, ints, y, low); right = omega (arith, ints, z, high) })
        ]
        | inr o ↦ inr (let x = o.row in let y = o.left in let z = o.right in
            record { row = omega (arith, ints, x, level); left = omega (arith, ints, y, low'); right = omega (arith, ints, z, high') })
      ]))

  -- in the end the corners bound those of all rows
  pub all_lines : (n : ℕ) → n + 1 ≡ length rows → (ps : List Corner) → AreLines rows (n + 1) (pos ((row_at rows n).y + 1)) ps
      → AreEndsOf (IsCornerOfRows rows (length rows)) (IsOf ps)
  all_lines n e ps h = record {
    of = h.of;
    hold = λ p a. (
        let w = a.within in
        let b : IsCornerOfRows rows (n + 1) p = record { place = a.place; within = omega (arith, w, e); corner = a.corner } in
        let q = no_lower (row_at rows a.place) p a.corner in
        let r = no_lower_row a.place n (omega (arith, w, e)) (omega (arith, e)) in
        h.hold p b (omega (arith, ints, q, r)));
  }

-- ---- as the program puts them

reach_next : (rows : List Row) (n : ℕ) → reach rows (n + 1) ≡ pos (row_at rows n).y
reach_next rows n = rw add-one refl

reach_second : (rows : List Row) (n : ℕ) → reach rows (n + 2) ≡ pos (row_at rows (n + 1)).y
reach_second rows n = let e : n + 1 + 1 ≡ n + 2 = omega arith in subst (λ k. reach rows k ≡ pos (row_at rows (n + 1)).y) e (reach_next rows (n + 1))

-- where the lines between two rows are one
pub put_joined : (rows : List Row) (n : ℕ) (u v : Row) (a b l : Line) (old new : List Corner) → AreRows rows → n + 1 < length rows → u ≡ row_at rows n
    → v ≡ row_at rows (n + 1)
    → a ≡ below u → b ≡ above v → a.y ≡ b.y → IsJoined a b l → IsShortLine l → new ≡ with_line old l → AreLines rows (n + 1) (reach rows (n + 1)) old
    → AreLines rows (n + 2) (reach rows (n + 2)) new
put_joined rows n u v a b l old new are k up low is is' level j short put h =
    let one : a ≡ below (row_at rows n) = is ∙ ap below up in
    let two : b ≡ above (row_at rows (n + 1)) = is' ∙ ap above low in
    let e = ap (λ (z : Line). z.y) one in
    let f = ap (λ (z : Line). z.y) two in
    let near : (row_at rows n).y + 1 ≡ (row_at rows (n + 1)).y = whole _ _ (sym e ∙ level ∙ f) in
    let j' = subst (λ z. IsJoined z (above (row_at rows (n + 1))) l) one (subst (λ z. IsJoined a z l) two j) in
    subst (λ ps. AreLines rows (n + 2) (reach rows (n + 2)) ps) (sym put)
    (subst (λ y. AreLines rows (n + 2) y (with_line old l)) (sym (reach_second rows n))
    (line_between rows are n k near l j' short old (subst (λ y. AreLines rows (n + 1) y old) (reach_next rows n) h)))
  where
    whole : (x y : ℕ) → pos x ≡ pos y → x ≡ y
    whole x y e = omega (arith, ints, e)

-- where they are apart
pub put_apart : (rows : List Row) (n : ℕ) (u v : Row) (a b : Line) (old mid new : List Corner) → AreRows rows → n + 1 < length rows → u ≡ row_at rows n
    → v ≡ row_at rows (n + 1)
    → a ≡ below u → b ≡ above v → (a.y ≡ b.y → ⊥) → IsShortLine a → IsShortLine b → mid ≡ with_line old a → new ≡ with_line mid b
    → AreLines rows (n + 1) (reach rows (n + 1)) old → AreLines rows (n + 2) (reach rows (n + 2)) new
put_apart rows n u v a b old mid new are k up low is is' apart short short' put put' h =
    let one : a ≡ below (row_at rows n) = is ∙ ap below up in
    let two : b ≡ above (row_at rows (n + 1)) = is' ∙ ap above low in
    let e = ap (λ (z : Line). z.y) one in
    let f = ap (λ (z : Line). z.y) two in
    let rises = are.rising n (n + 1) (omega arith) k in
    let far : (row_at rows n).y + 1 < (row_at rows (n + 1)).y = farther _ _ rises (λ g. apart (e ∙ ap pos g ∙ sym f)) in
    let first' = subst (λ z. AreLines rows (n + 1) (pos ((row_at rows n).y + 1)) (with_line old z)) (sym one)
    (line_below rows are n (omega (arith, k)) (subst IsShortLine one short) old (subst (λ y. AreLines rows (n + 1) y old) (reach_next rows n) h)) in
    let mid' = subst (AreLines rows (n + 1) (pos ((row_at rows n).y + 1))) (sym put) first' in
    let last' = line_above rows are n k far (subst IsShortLine two short') mid mid' in
    subst (λ ps. AreLines rows (n + 2) (reach rows (n + 2)) ps) (sym put')
    (subst (λ z. AreLines rows (n + 2) (reach rows (n + 2)) (with_line mid z)) (sym two)
    (subst (λ y. AreLines rows (n + 2) y (with_line mid (above (row_at rows (n + 1))))) (sym (reach_second rows n)) last'))
  where
    farther : (x y : ℕ) → x < y → (x + 1 ≡ y → ⊥) → x + 1 < y
    farther x y l apart = (let c : (x + 1 < y) ⊎ (x + 1 ≡ y) = grind arith in elim c [ inl m ↦ m | inr g ↦ absurd (apart g) ])

-- the first row
pub put_first : (rows : List Row) (at : ℕ) (u : Row) (a : Line) (old new : List Corner) → AreRows rows → at < length rows → at ≡ 0 → u ≡ row_at rows at
    → a ≡ above u → IsShortLine a → new ≡ with_line old a
    → AreLines rows at (reach rows at) old → AreLines rows (at + 1) (reach rows (at + 1)) new
put_first rows at u a old new are k zero' up is short put h =
    let one : a ≡ above (row_at rows 0) = is ∙ ap above (up ∙ ap (row_at rows) zero') in
    let e : 1 ≡ at + 1 = omega (arith, zero') in
    let r = first_line rows are (omega (arith, k, zero')) (subst IsShortLine one short) old (subst (λ n. AreLines rows n (reach rows n) old) zero' h) in
    subst (λ ps. AreLines rows (at + 1) (reach rows (at + 1)) ps) (sym put)
    (subst (λ n. AreLines rows n (reach rows n) (with_line old a)) e (subst (λ z. AreLines rows 1 (reach rows 1) (with_line old z)) (sym one) r))

-- the last one
pub put_end : (rows : List Row) (u : Row) (a : Line) (old new : List Corner) → AreRows rows → 1 ≤ length rows → u ≡ row_at rows (length rows - 1) → a ≡ below u
    → IsShortLine a → new ≡ with_line old a
    → AreLines rows (length rows) (reach rows (length rows)) old → (y : ℤ) × AreLines rows (length rows) y new
    × AreEndsOf (IsCornerOfRows rows (length rows)) (IsOf new)
put_end rows u a old new are some up is short put h =
    let n = length rows - 1 in
    let e : length rows ≡ n + 1 = omega (arith, some) in
    let one : a ≡ below (row_at rows n) = is ∙ ap below up in
    let h' = subst (λ y. AreLines rows (n + 1) y old) (reach_next rows n) (subst (λ k. AreLines rows k (reach rows k) old) e h) in
    let r = line_below rows are n (omega (arith, some)) (subst IsShortLine one short) old h' in
    let r' = subst (AreLines rows (n + 1) (pos ((row_at rows n).y + 1))) (sym put)
    (subst (λ z. AreLines rows (n + 1) (pos ((row_at rows n).y + 1)) (with_line old z)) (sym one) r) in
    (pos ((row_at rows n).y + 1), subst (λ k. AreLines rows k (pos ((row_at rows n).y + 1)) new) (sym e) r', all_lines rows are n (sym e) new r')
