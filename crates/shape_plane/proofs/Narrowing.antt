-- Ranges of the first slope that grow narrower, combination by combination.
-- The order in which combinations are looked at is that of the loops over them.
use Rattle.std.proofs.Common.{Bool, true, false, ◌≡◌, ℕ, zero, suc, ◌+◌, ◌<◌, List, ap, sym, subst, ◌∙◌, arith}
use Rattle.std.specs.Prelude.{IsTrue, ◌↔◌, ℤ, pos, negsuc, ◌+ℤ◌, ◌*ℤ◌, ◌≤ℤ◌, ◌<ℤ◌, unsigned_abs}
use Rattle.std.proofs.lemmas.Int.{ints, by_lt_z}
use native.Mathlib.Decide.{ℕ_discrete}
use Rattle.shape_plane.specs.declared.row.Row.{Row}
use Rattle.shape_plane.specs.declared.combination.Combination.{Combination}
use Rattle.shape_plane.specs.declared.range.Range.{Range}
use Rattle.shape_plane.specs.declared.range.Narrowed.{Narrowed}
use Rattle.shape_plane.specs.declared.range.Narrowed.TheVariants.{Room, Clash}
use Rattle.shape_plane.specs.Rows.{row_at, IsRow, IsSystem, Meets}
use Rattle.shape_plane.specs.Combinations.{IsCombination}
use Rattle.shape_plane.specs.Ranges.{IsRange, LeaveRoom, IsClear, IsMet, IsNarrower, HasNarrower, IsWhole}
use Rattle.shape_terms.proofs.Products.{rings}
use Rattle.shape_terms.proofs.Order.{mul-lt_ℤ}
use Rattle.shape_plane.proofs.Tighter.{follows_upper, follows_lower}
use Rattle.shape_plane.proofs.Together.{leave_room}

-- ---- one combination more

-- each slope inside the new range meets the combination
abbrev pub IsNarrowed : List Row → Range → Combination → Range → Type 0
IsNarrowed rows old c new = IsNarrower rows old (λ p q. Meets p q c.bound.x c.bound.z) new

pub upper_taken : (rows : List Row) (old : Range) (c : Combination) → IsRange rows old → IsCombination rows c → pos 0 <ℤ c.bound.x
    → (old.upper.bound.z *ℤ pos (unsigned_abs c.bound.x)) <ℤ (c.bound.z *ℤ pos (unsigned_abs old.upper.bound.x))
    → IsNarrowed rows old c (record { lower = old.lower; upper = c })
upper_taken rows old c r n hx h = record {
  range = record { lower = r.lower; upper = n; falls = r.falls; rises = hx };
  within = λ p q hq i. (i.0, follows_upper p q c.bound.x c.bound.z old.upper.bound.x old.upper.bound.z hq hx r.rises (omega (arith, ints, h)) i.1);
  met = λ p q hq i. i.1;
}

pub lower_taken : (rows : List Row) (old : Range) (c : Combination) → IsRange rows old → IsCombination rows c → c.bound.x <ℤ pos 0
    → (old.lower.bound.z *ℤ pos (unsigned_abs c.bound.x)) <ℤ (c.bound.z *ℤ pos (unsigned_abs old.lower.bound.x))
    → IsNarrowed rows old c (record { lower = c; upper = old.upper })
lower_taken rows old c r n hx h = record {
  range = record { lower = n; upper = r.upper; falls = hx; rises = r.rises };
  within = λ p q hq i. (follows_lower p q c.bound.x c.bound.z old.lower.bound.x old.lower.bound.z hq hx r.falls (omega (arith, ints, h)) i.0, i.1);
  met = λ p q hq i. i.0;
}

pub upper_kept : (rows : List Row) (old : Range) (c : Combination) → IsRange rows old → pos 0 <ℤ c.bound.x
    → (c.bound.z *ℤ pos (unsigned_abs old.upper.bound.x)) ≤ℤ (old.upper.bound.z *ℤ pos (unsigned_abs c.bound.x)) → IsNarrowed rows old c old
upper_kept rows old c r hx h =
    record {
      range = r;
      within = λ p q hq i. i;
      met = λ p q hq i. follows_upper p q old.upper.bound.x old.upper.bound.z c.bound.x c.bound.z hq r.rises hx h i.1;
    }

pub lower_kept : (rows : List Row) (old : Range) (c : Combination) → IsRange rows old → c.bound.x <ℤ pos 0
    → (c.bound.z *ℤ pos (unsigned_abs old.lower.bound.x)) ≤ℤ (old.lower.bound.z *ℤ pos (unsigned_abs c.bound.x)) → IsNarrowed rows old c old
lower_kept rows old c r hx h =
    record {
      range = r;
      within = λ p q hq i. i;
      met = λ p q hq i. follows_lower p q old.lower.bound.x old.lower.bound.z c.bound.x c.bound.z hq r.falls hx h i.0;
    }

pub flat_kept : (rows : List Row) (old : Range) (c : Combination) → IsRange rows old → c.bound.x ≡ pos 0 → c.bound.z <ℤ pos 0 → IsNarrowed rows old c old
flat_kept rows old c r hx hz = record { range = r; within = λ p q hq i. i; met = λ p q hq i. below c.bound.x c.bound.z p q hx hz hq }
  where
    below : (x z p q : ℤ) → x ≡ pos 0 → z <ℤ pos 0 → pos 0 <ℤ q → (x *ℤ p +ℤ z *ℤ q) <ℤ pos 0
    below x z p q e h k = let a = ap (λ (t : ℤ). t *ℤ p) e in let b = mul-lt_ℤ q z (pos 0) k h in omega (arith, ints, rings, a, b)

-- ---- ranges

mapped : (rows : List Row) (old : Range) (P Q : ℤ → ℤ → Type 0) (n : Narrowed) → ((p q : ℤ) → P p q → Q p q) → HasNarrower rows old P n
    → HasNarrower rows old Q n
mapped rows old P Q (Room new) f h = record { range = h.range; within = h.within; met = λ p q hq m. f p q (h.met p q hq m) }
mapped rows old P Q (Clash c) f h = h

pub opposite_met : (rows : List Row) (old : Range) (c : Combination) (i j : ℕ) (n : Narrowed) → c.first ≡ i → c.second ≡ j → IsCombination rows c
    → c.first_weight ≡ pos (unsigned_abs (row_at rows j).y) → c.second_weight ≡ pos (unsigned_abs (row_at rows i).y)
    → HasNarrower rows old (λ p q. Meets p q c.bound.x c.bound.z) n → HasNarrower rows old (λ p q. LeaveRoom p q (row_at rows i) (row_at rows j)) n
opposite_met rows old c i j n ei ej h ev ew m = mapped rows old (λ p q. Meets p q c.bound.x c.bound.z) _ n (λ p q. leave_room rows c i j p q ei ej h ev ew) m

pub crossed_more : (rows : List Row) (old best new : Range) (i j : ℕ) → IsNarrower rows old (IsClear rows j i) best
    → IsNarrower rows best (λ p q. LeaveRoom p q (row_at rows i) (row_at rows j)) new → IsNarrower rows old (IsClear rows j (i + 1)) new
crossed_more rows old best new i j x n = record {
  range = n.range;
  within = λ p q hq a. x.within p q hq (n.within p q hq a);
  met = λ p q hq m k a b. elim (ℕ_discrete k i) [
    | yes e ↦ subst (λ (v : ℕ). LeaveRoom p q (row_at rows v) (row_at rows j)) (sym e) (n.met p q hq m)
    | no e ↦ x.met p q hq (n.within p q hq m) k a (omega arith)
  ];
}

pub whole_more : (rows : List Row) (old new : Range) (j : ℕ) → IsWhole rows j old → IsNarrower rows old (IsMet rows j) new → IsWhole rows (j + 1) new
whole_more rows old new j w x = record {
  range = x.range;
  met = λ k b p q hq m. elim (ℕ_discrete k j) [
    | yes e ↦ subst (λ (v : ℕ). IsMet rows v p q) (sym e) (x.met p q hq m)
    | no e ↦ w.met k (omega arith) p q hq (x.within p q hq m)
  ];
}

-- the rows that bound the second slope leave room
room_bounds : (r s : Row) (p q : ℤ) → IsRow r (pos 0) (negsuc 0) (negsuc 0) → IsRow s (pos 0) (pos 1) (negsuc 0) → pos 0 <ℤ q → LeaveRoom p q r s
room_bounds r s p q h g l = (λ a b. rw (h.x, h.y, h.z, g.x, g.y, g.z) (omega (arith, ints, l)), λ a b. absurd (let y = g.y in omega (arith, ints, a, y)))

-- the slopes between -1 and 1
pub whole_slopes : (rows : List Row) (a b : Combination) → IsSystem rows → IsCombination rows a → IsCombination rows b
    → a.bound.x ≡ (row_at rows 0).x → a.bound.z ≡ (row_at rows 0).z → b.bound.x ≡ (row_at rows 1).x → b.bound.z ≡ (row_at rows 1).z
    → IsWhole rows 4 (record { lower = a; upper = b })
whole_slopes rows a b s ha hb ax az bx bz = record {
  range = record {
    lower = ha;
    upper = hb;
    falls = (let e = s.plus_first.x in omega (arith, ints, ax, e));
    rises = (let e = s.minus_first.x in omega (arith, ints, bx, e));
  };
  met = met;
}
  where
    met : (j : ℕ) → j < 4 → (p q : ℤ) → pos 0 <ℤ q → Meets p q a.bound.x a.bound.z × Meets p q b.bound.x b.bound.z → IsMet rows j p q
    met zero l p q hq m = record { flat = λ e. rw (sym ax, sym az) m.0; room = λ i u v. absurd (omega arith) }
    met (suc zero) l p q hq m = record { flat = λ e. rw (sym bx, sym bz) m.1; room = λ i u v. absurd (omega arith) }
    met (suc (suc zero)) l p q hq m = record { flat = λ e. absurd (let y = s.plus_second.y in omega (arith, ints, e, y)); room = λ i u v. absurd (omega arith) }
    met (suc (suc (suc zero))) l p q hq m = record { flat = λ e. absurd (let y = s.minus_second.y in omega (arith, ints, e, y)); room = room }
      where
        room : IsClear rows 3 3 p q
        room zero u v = absurd (omega arith)
        room (suc zero) u v = absurd (omega arith)
        room (suc (suc zero)) u v = room_bounds (row_at rows 2) (row_at rows 3) p q s.plus_second s.minus_second hq
        room (suc (suc (suc i))) u v = absurd (omega arith)
    met (suc (suc (suc (suc j)))) l p q hq m = absurd (omega arith)

pub not_so : {G : Type 0} (b : Bool) → IsTrue b ↔ G → b ≡ false → G → ⊥
not_so b h e g = let t = h.1 g in let f : false ≡ true = sym e ∙ t in cc

pub not_less : (b : Bool) (x y : ℤ) → IsTrue b ↔ (x <ℤ y) → b ≡ false → y ≤ℤ x
not_less b x y h e = by_lt_z x y (λ (l : x <ℤ y). absurd (not_so b h e l)) (λ (l : y ≤ℤ x). l)
