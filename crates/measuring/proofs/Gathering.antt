-- The stretches of a set of numbers with one number more, which is greater than all of them, and those of all objects.
-- Numbers and labels alone.
use Rattle.std.proofs.Common.{◌≡◌, ◌≢◌, ◌⊎◌, inl, inr, ℕ, ◌+◌, ◌-◌, ◌/◌, ◌<◌, ◌≤◌, List, [], ◌∷◌, ◌++◌, length, get_or, set, ap, sym, ◌∙◌, subst, arith}
use Rattle.std.proofs.Math.ListN.{get_or-append}
use Rattle.std.proofs.Math.Seq.{get_or-append_seam}
use Rattle.std.proofs.lemmas.List.{length-set, get_or-set_same, get_or-set_other}
use Rattle.measuring.specs.declared.stretch.Stretch.{Stretch}
use Rattle.measuring.specs.declared.stretch.Stretches.{Stretches}
use Rattle.measuring.specs.Stretches.{stretch_at, AreStretchesOf, IsPutLast, IsPutNew, IsLabelled, HaveStretches}
use Rattle.measuring.specs.Farthest.{AreObjects}

-- the same set
same_stretches : (w : ℕ) (S T : ℕ → Type 0) (ss : List Stretch) → ((n : ℕ) → S n → T n) → ((n : ℕ) → T n → S n) → AreStretchesOf w S ss → AreStretchesOf w T ss
same_stretches w S T ss to back h = record {
  order = h.order;
  hold = λ n t. h.hold n (back n t);
  first = λ k l. to (stretch_at ss k).first (h.first k l);
  last = λ k l. to (stretch_at ss k).last (h.last k l);
}

-- ---- the last stretch goes on

module _ (w i : ℕ) (S T : ℕ → Type 0) (old new : List Stretch) (h : AreStretchesOf w S old) (up : (n : ℕ) → S n → n < i) (split : (n : ℕ) → T n → S n ⊎ (n ≡ i))
    (to : (n : ℕ) → S n → T n) (here : T i) where
  put_last : IsPutLast w i old new → AreStretchesOf w T new
  put_last p =
      let many = p.all in
      let some = p.some in
      let case = λ (k : ℕ) (l : k < length new). (let c : (k + 1 < length old) ⊎ (k + 1 ≡ length old) = grind arith in c) in
      let first = λ (k : ℕ) (l : k < length new). (
      let c : (stretch_at new k).first ≡ (stretch_at old k).first = elim (case k l) [
        | inl m ↦ ap (λ (t : Stretch). t.first) (p.same k m)
        | inr e ↦ ap (λ (t : Stretch). t.first) (p.last k e)
      ] in c) in
      let early = λ (k : ℕ) (m : k + 1 < length old). ap (λ (t : Stretch). t.last) (p.same k m) in
      let late = λ (k : ℕ) (e : k + 1 ≡ length old). ap (λ (t : Stretch). t.last) (p.last k e) in
      let low = λ (k : ℕ) (l : k < length new). up (stretch_at old k).first (h.first k (omega (arith, l, many))) in
      record {
        order = record {
          some = λ k l. elim (case k l) [
            | inl m ↦ (let a = first k l in let b = early k m in let o = h.order.some k (omega (arith, m)) in omega (arith, a, b, o))
            | inr e ↦ (let a = first k l in let b = late k e in let o = low k l in omega (arith, a, b, o))
          ];
          line = λ k l. elim (case k l) [
            | inl m ↦ ap (λ n. n / w) (first k l) ∙ h.order.line k (omega (arith, m)) ∙ sym (ap (λ n. n / w) (early k m))
            | inr e ↦ ap (λ n. n / w) (first k l) ∙ p.line k e ∙ sym (ap (λ n. n / w) (late k e))
          ];
          rising = λ j k l m. (
              let a = early j (omega (arith, l, m, many)) in
              let b = first k m in
              let o = h.order.rising j k l (omega (arith, m, many)) in
              omega (arith, a, b, o));
        };
        hold = λ n t. elim (split n t) [
          | inl s ↦ (
              let o = h.hold n s in
              let k = o.0 in
              let g = o.1 in
              let place = g.place in
              let within : k < length new = omega (arith, place, many) in
              let below = up n s in
              let a = first k within in
              let gl = g.low in
              let gh = g.high in (
                k,
                record {
                  place = within;
                  low = omega (arith, a, gl);
                  high = elim (case k within) [ inl m ↦ (let b = early k m in omega (arith, b, gh)) | inr e ↦ (let b = late k e in omega (arith, b, below)) ];
                },
              ))
          | inr e ↦ (
              let k = length old - 1 in
              let top : k + 1 ≡ length old = omega (arith, some) in
              let within : k < length new = omega (arith, some, many) in
              let a = first k within in
              let b = late k top in
              let o = low k within in
              (k, record { place = within; low = omega (arith, a, o, e); high = omega (arith, b, e) }))
        ];
        first = λ k l. subst T (sym (first k l)) (to (stretch_at old k).first (h.first k (omega (arith, l, many))));
        last = λ k l. elim (case k l) [
          | inl m ↦ subst T (sym (early k m)) (to (stretch_at old k).last (h.last k (omega (arith, m))))
          | inr e ↦ subst T (sym (late k e)) here
        ];
      }

  -- ---- or a new one begins

  put_new : IsPutNew i old new → AreStretchesOf w T new
  put_new p =
      let many = p.all in
      let case = λ (k : ℕ) (l : k < length new). (let c : (k < length old) ⊎ (k ≡ length old) = grind arith in c) in
      let at = λ (k : ℕ) (e : k ≡ length old). (let c : stretch_at new k ≡ record { first = i; last = i } = ap (stretch_at new) e ∙ p.last in c) in
      record {
        order = record {
          some = λ k l. elim (case k l) [
            | inl m ↦ subst (λ (t : Stretch). t.first ≤ t.last) (sym (p.same k m)) (h.order.some k m)
            | inr e ↦ subst (λ (t : Stretch). t.first ≤ t.last) (sym (at k e)) (omega arith)
          ];
          line = λ k l. elim (case k l) [
            | inl m ↦ subst (λ (t : Stretch). t.first / w ≡ t.last / w) (sym (p.same k m)) (h.order.line k m)
            | inr e ↦ subst (λ (t : Stretch). t.first / w ≡ t.last / w) (sym (at k e)) (λ _. i / w)
          ];
          rising = λ j k l m. (
              let before = p.same j (omega (arith, l, m, many)) in
              let a = ap (λ (t : Stretch). t.last) before in
              elim (case k m) [
                | inl n ↦ (let b = ap (λ (t : Stretch). t.first) (p.same k n) in let o = h.order.rising j k l n in omega (arith, a, b, o))
                | inr e ↦ (let b = ap (λ (t : Stretch). t.first) (at k e) in let o = up (stretch_at old j).last (h.last j (omega (arith, l, e))) in
                    omega (arith, a, b, o))
              ]);
        };
        hold = λ n t. elim (split n t) [
          | inl s ↦ (
              let o = h.hold n s in
              let k = o.0 in
              let g = o.1 in
              let place = g.place in
              let e = p.same k place in (
                k,
                record {
                  place = omega (arith, place, many);
                  low = subst (λ (t : Stretch). t.first ≤ n) (sym e) g.low;
                  high = subst (λ (t : Stretch). n ≤ t.last) (sym e) g.high;
                },
              ))
          | inr e ↦ (
            length old,
            record {
              place = omega (arith, many);
              low = subst (λ (t : Stretch). t.first ≤ n) (sym p.last) (omega (arith, e));
              high = subst (λ (t : Stretch). n ≤ t.last) (sym p.last) (omega (arith, e));
            },
          )
        ];
        first = λ k l. elim (case k l) [
          | inl m ↦ subst (λ (t : Stretch). T t.first) (sym (p.same k m)) (to (stretch_at old k).first (h.first k m))
          | inr e ↦ subst (λ (t : Stretch). T t.first) (sym (at k e)) here
        ];
        last = λ k l. elim (case k l) [
          | inl m ↦ subst (λ (t : Stretch). T t.last) (sym (p.same k m)) (to (stretch_at old k).last (h.last k m))
          | inr e ↦ subst (λ (t : Stretch). T t.last) (sym (at k e)) here
        ];
      }

  one_more : IsPutLast w i old new ⊎ IsPutNew i old new → AreStretchesOf w T new
  one_more put = elim put [ inl p ↦ put_last p | inr p ↦ put_new p ]

-- ---- numbers with a label

none_labelled : (w : ℕ) (labels : List ℕ) (k : ℕ) (ss : List Stretch) → ss ≡ [] → AreStretchesOf w (IsLabelled labels k 0) ss
none_labelled w labels k ss e = subst (AreStretchesOf w (IsLabelled labels k 0)) (sym e) (record {
  order = record { some = λ j l. absurd (omega (arith, l)); line = λ j l. absurd (omega (arith, l)); rising = λ i j m l. absurd (omega (arith, l)) };
  hold = λ n s. absurd (let l = s.below in omega (arith, l));
  first = λ j l. absurd (omega (arith, l));
  last = λ j l. absurd (omega (arith, l));
})

still_labelled : (labels : List ℕ) (k i n : ℕ) → IsLabelled labels k i n → IsLabelled labels k (i + 1) n
still_labelled labels k i n s = (let l = s.below in record { label = s.label; below = omega (arith, l) })

-- a number of another object
other_labelled : (w : ℕ) (labels : List ℕ) (k i : ℕ) (ss : List Stretch) → get_or labels i 0 ≢ k → AreStretchesOf w (IsLabelled labels k i) ss
    → AreStretchesOf w (IsLabelled labels k (i + 1)) ss
other_labelled w labels k i ss n h = same_stretches w (IsLabelled labels k i) (IsLabelled labels k (i + 1)) ss (still_labelled labels k i) (λ m t.
    let l = t.below in
    let split : (m < i) ⊎ (m ≡ i) = grind arith in
    elim split [
      | inl b ↦ record { label = t.label; below = b }
      | inr e ↦ absurd (n (ap (λ j. get_or labels j 0) (sym e) ∙ t.label))
    ]) h

-- a number of the object
number_labelled : (w : ℕ) (labels : List ℕ) (k i : ℕ) (old new : List Stretch) → get_or labels i 0 ≡ k → IsPutLast w i old new ⊎ IsPutNew i old new
    → AreStretchesOf w (IsLabelled labels k i) old
    → AreStretchesOf w (IsLabelled labels k (i + 1)) new
number_labelled w labels k i old new label put h =
    one_more w i (IsLabelled labels k i) (IsLabelled labels k (i + 1)) old new h (λ n s. s.below)
    (λ n t. (
    let l = t.below in
    let split : (n < i) ⊎ (n ≡ i) = grind arith in
    elim split [ inl b ↦ inl (record { label = t.label; below = b }) | inr e ↦ inr e ]))
    (still_labelled labels k i) (record { label = label; below = omega arith }) put

-- ---- all objects

pub no_objects : (w : ℕ) (labels : List ℕ) (n : ℕ) (all : List Stretches) → length all ≡ n → ((k : ℕ) (d : Stretches) → k < n → (get_or all k d).all.items ≡ [])
    → HaveStretches w labels n 0 all
no_objects w labels n all count empty = record { count = count; each = λ k d l. none_labelled w labels (k + 1) (get_or all k d).all.items (empty k d l) }

-- one object more without a stretch
pub one_empty : (all : List Stretches) (o : Stretches) (i : ℕ) → length all ≡ i → o.all.items ≡ []
    → ((k : ℕ) (d : Stretches) → k < i → (get_or all k d).all.items ≡ [])
    → (k : ℕ) (d : Stretches) → k < i + 1 → (get_or (all ++ o ∷ []) k d).all.items ≡ []
one_empty all o i count none h k d l =
    let split : (k ≡ length all) ⊎ (k < length all) = grind arith in
    elim split [
      | inl e ↦ ap (λ j. (get_or (all ++ o ∷ []) j d).all.items) e ∙ ap (λ (z : Stretches). z.all.items) (get_or-append_seam all o [] d) ∙ none
      | inr m ↦ ap (λ (z : Stretches). z.all.items) (get_or-append all (o ∷ []) d k m) ∙ h k d (omega (arith, m, count))
    ]

-- a number of none of them
pub number_passed : (w : ℕ) (labels : List ℕ) (n i : ℕ) (all : List Stretches) → HaveStretches w labels n i all
    → (get_or labels i 0 ≡ 0) ⊎ (length all < get_or labels i 0) → HaveStretches w labels n (i + 1) all
number_passed w labels n i all h none = record {
  count = h.count;
  each = λ k d l. other_labelled w labels (k + 1) i (get_or all k d).all.items
      (λ e. (let c = h.count in elim none [ inl z ↦ omega (arith, z, e) | inr m ↦ omega (arith, m, e, c, l) ])) (h.each k d l);
}

pub number_put : (w : ℕ) (labels : List ℕ) (n i m : ℕ) (all : List Stretches) (d o : Stretches) → HaveStretches w labels n i all → m < length all
    → get_or labels i 0 ≡ m + 1
    → IsPutLast w i (get_or all m d).all.items o.all.items ⊎ IsPutNew i (get_or all m d).all.items o.all.items → HaveStretches w labels n (i + 1) (set all m o)
number_put w labels n i m all d o h within label put = record {
  count = length-set all m o ∙ h.count;
  each = λ k e l.
      let split : (k ≡ m) ⊎ (k ≢ m) = grind arith in
      elim split [
        | inl s ↦ (
            let now = number_labelled w labels (m + 1) i (get_or all m d).all.items o.all.items label put
            (h.each m d (let c = h.count in omega (arith, within, c))) in
            let new = subst (λ (z : Stretches). AreStretchesOf w (IsLabelled labels (m + 1) (i + 1)) z.all.items) (sym (get_or-set_same all m o e within)) now
            in
            subst (λ j. AreStretchesOf w (IsLabelled labels (j + 1) (i + 1)) (get_or (set all m o) j e).all.items) (sym s) new)
        | inr s ↦ subst (λ (z : Stretches). AreStretchesOf w (IsLabelled labels (k + 1) (i + 1)) z.all.items) (sym (get_or-set_other all m k o e s))
            (other_labelled w labels (k + 1) i (get_or all k e).all.items (λ f. s (omega (arith, f, label))) (h.each k e l))
      ];
}

pub objects_are : (w : ℕ) (labels : List ℕ) (n i : ℕ) (all : List Stretches) → HaveStretches w labels n i all → AreObjects w i all
objects_are w labels n i all h = record {
  order = λ k o l. (h.each k o (let c = h.count in omega (arith, c, l))).order;
  below = λ k o l. record { each = λ j m. ((h.each k o (let c = h.count in omega (arith, c, l))).last j m).below };
}
