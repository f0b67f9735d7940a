-- The better of a pair of sites and the best pair.
-- Two sites and pairs of them alone.
use Rattle.std.proofs.Common.{◌≡◌, inl, inr, ℕ, ◌+◌, ◌<◌, ◌≤◌, List, ap, sym, refl, subst, ◌∙◌, arith}
use Rattle.measure_terms.specs.Spacing.{Spacing}
use Rattle.measuring.specs.declared.site.Site.{Site}
use Rattle.measuring.specs.declared.farthest.Feret.{Feret}
use Rattle.measuring.specs.Sites.{square_between, IsOneOf}
use Rattle.measuring.specs.Farthest.{IsPairOf, ComesBefore, ComesBehind, IsNoBetter, AreKept, IsBetter, IsPairIn}
use Rattle.measuring.specs.Farthest.ComesBefore.{Farther, Earlier, Later}
use Rattle.measuring.proofs.Gaps.{length_turned}

pub turned : (s : Spacing) (p q : Site) → square_between s p q ≡ square_between s q p
turned s p q = λ i. length_turned s.x p.x q.x i + length_turned s.y p.y q.y i + length_turned s.z p.z q.z i

-- the two sites of a pair are no better than it
pub pair_tried : (s : Spacing) (p q : Site) (f : Feret) → IsPairOf p q (square_between s p q) f → IsNoBetter s f p q
pair_tried s p q f h =
    let sq = h.square_is in
    let o = h.order in
    elim h.ends [
      | inl w ↦ (
          let a = ap (λ (t : Site). t.number) w.0 in
          let b = ap (λ (t : Site). t.number) w.1 in
          record {
            most = omega (arith, sq);
            first = λ e. omega (arith, a);
            first_too = λ e. omega (arith, a, b, o);
            last = λ e m. omega (arith, b);
            last_too = λ e m. omega (arith, a, b, o, m);
          })
      | inr w ↦ (
          let a = ap (λ (t : Site). t.number) w.0 in
          let b = ap (λ (t : Site). t.number) w.1 in
          record {
            most = omega (arith, sq);
            first = λ e. omega (arith, a, b, o);
            first_too = λ e. omega (arith, a);
            last = λ e m. omega (arith, a, b, o, m);
            last_too = λ e m. omega (arith, b);
          })
    ]

same_square : (x y z : ℕ) → x ≡ y → z ≤ y → x ≤ z → x ≡ z
same_square x y z e a b = omega (arith, e, a, b)

-- what is no better than a pair is no better than one that comes before it
pub comes_before_kept : (s : Spacing) (new best : Feret) → best.square ≤ new.square → ComesBefore new best → AreKept s best new
comes_before_kept s new best l (Farther m) p q h =
    let a = h.most in
    record {
      most = omega (arith, a, m);
      first = λ e. absurd (omega (arith, a, m, e));
      first_too = λ e. absurd (omega (arith, a, m, e));
      last = λ e f. absurd (omega (arith, a, m, e));
      last_too = λ e f. absurd (omega (arith, a, m, e));
    }
comes_before_kept s new best l (Earlier m) p q h =
    let a = h.most in
    let same = λ (e : square_between s p q ≡ new.square). same_square (square_between s p q) new.square best.square e l a in
    record {
      most = omega (arith, a, l);
      first = λ e. (let f = h.first (same e) in omega (arith, f, m));
      first_too = λ e. (let f = h.first_too (same e) in omega (arith, f, m));
      last = λ e n. absurd (let f = h.first (same e) in omega (arith, f, m, n));
      last_too = λ e n. absurd (let f = h.first_too (same e) in omega (arith, f, m, n));
    }
comes_before_kept s new best l (Later f m) p q h =
    let a = h.most in
    let same = λ (e : square_between s p q ≡ new.square). same_square (square_between s p q) new.square best.square e l a in
    record {
      most = omega (arith, a, l);
      first = λ e. (let g = h.first (same e) in omega (arith, f, g));
      first_too = λ e. (let g = h.first_too (same e) in omega (arith, f, g));
      last = λ e n. (let g = h.last (same e) (n ∙ f) in omega (arith, g, m));
      last_too = λ e n. (let g = h.last_too (same e) (n ∙ f) in omega (arith, g, m));
    }

pub new_better : (s : Spacing) (p q : Site) (best new : Feret) → best.square ≤ square_between s p q → IsPairOf p q (square_between s p q) new
    → ComesBefore new best → IsBetter s p q best new
new_better s p q best new l h b = record {
  tried = pair_tried s p q new h;
  kept = comes_before_kept s new best (let e = h.square_is in omega (arith, e, l)) b;
  is = inr h;
}

-- where the new pair comes behind the best one that stays
pub best_better : (s : Spacing) (p q : Site) (best new : Feret) → IsPairOf p q (square_between s p q) new → ComesBehind new best → IsBetter s p q best best
best_better s p q best new h b =
    let t = pair_tried s p q new h in
    let e = h.square_is in
    let m = b.square in
    let from = b.from in
    let first = t.first (sym e) in
    let other = t.first_too (sym e) in
    record {
      tried = record {
        most = omega (arith, e, m);
        first = λ _. omega (arith, from, first);
        first_too = λ _. omega (arith, from, other);
        last = λ _ n. (let same : new.from.number ≡ best.from.number = omega (arith, from, first, n) in let x = b.to same in let y =
            t.last (sym e) (n ∙ sym same) in omega (arith, x, y));
        last_too = λ _ n. (let same : new.from.number ≡ best.from.number = omega (arith, from, other, n) in let x = b.to same in let y =
            t.last_too (sym e) (n ∙ sym same) in omega (arith, x, y));
      };
      kept = λ r t h. h;
      is = inl refl;
    }

-- two sites that are not as far apart
pub no_better : (s : Spacing) (f : Feret) (p q : Site) → square_between s p q < f.square → IsNoBetter s f p q
no_better s f p q l = record {
  most = omega (arith, l);
  first = λ e. absurd (omega (arith, l, e));
  first_too = λ e. absurd (omega (arith, l, e));
  last = λ e m. absurd (omega (arith, l, e));
  last_too = λ e m. absurd (omega (arith, l, e));
}

pub less_better : (s : Spacing) (p q : Site) (best : Feret) → square_between s p q < best.square → IsBetter s p q best best
less_better s p q best l = record { tried = no_better s best p q l; kept = λ r t h. h; is = inl refl }

-- a pair of sites of a list
pub pair_in : (s : Spacing) (sites : List Site) (p q : Site) (old new : Feret) → IsOneOf sites p → IsOneOf sites q → IsPairIn s sites old
    → IsBetter s p q old new → IsPairIn s sites new
pair_in s sites p q old new a b h w = elim w.is [
  | inl e ↦ subst (IsPairIn s sites) (sym e) h
  | inr t ↦ elim t.ends [
    | inl e ↦ record {
      from = subst (IsOneOf sites) (sym e.0) a;
      to = subst (IsOneOf sites) (sym e.1) b;
      square = t.square_is ∙ (λ i. square_between s (sym e.0 i) (sym e.1 i));
    }
    | inr e ↦ record {
      from = subst (IsOneOf sites) (sym e.0) b;
      to = subst (IsOneOf sites) (sym e.1) a;
      square = t.square_is ∙ turned s p q ∙ (λ i. square_between s (sym e.0 i) (sym e.1 i));
    }
  ]
]

-- the same two the other way round
pub no_better_turned : (s : Spacing) (f : Feret) (p q : Site) → IsNoBetter s f p q → IsNoBetter s f q p
no_better_turned s f p q h =
    let t = turned s p q in
    let m = h.most in
    record {
      most = omega (arith, t, m);
      first = λ e. h.first_too (t ∙ e);
      first_too = λ e. h.first (t ∙ e);
      last = λ e n. h.last_too (t ∙ e) n;
      last_too = λ e n. h.last (t ∙ e) n;
    }
