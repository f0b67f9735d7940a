-- At each corner of the grid an even number of cracks of a set meet, where the set has a crack exactly where it has the next one.
-- Laws of truth values: four pixels round a corner, and for each of the eight cracks of these there whether the set has it.
use Rattle.std.proofs.Common.{◌≡◌, Bool, true, false, cond, refl, sym, ◌∙◌, ap, subst}
use Rattle.std.specs.Prelude.{not}
use Rattle.measure_terms.proofs.Parity.{differ, between}

-- the pixels are a b over c d, and a1 says whether the set has the crack of a over its side 1;
-- each crack that comes to the corner is in the set where the next one is
pub record Turned (a b c d a1 a2 b2 b3 c0 c1 d0 d3 : Bool) : Type 0 where
  pub down : a ≡ true → b ≡ false → a1 ≡ cond d d0 (cond c c1 a2)
  pub left : b ≡ true → d ≡ false → b2 ≡ cond c c1 (cond a a2 b3)
  pub up : d ≡ true → c ≡ false → d3 ≡ cond a a2 (cond b b3 d0)
  pub right : c ≡ true → a ≡ false → c0 ≡ cond b b3 (cond d d0 c1)

pub plain : (v : Bool) → differ v false ≡ v
plain true = refl
plain false = refl

itself : (v : Bool) → differ v v ≡ false
itself true = refl
itself false = refl

swapped : (v w : Bool) → differ v w ≡ differ w v
swapped true true = refl
swapped true false = refl
swapped false true = refl
swapped false false = refl

same : (v w : Bool) → v ≡ w → differ v w ≡ false
same v w e = subst (λ x. differ v x ≡ false) e (itself v)

pub even : (a b c d a1 a2 b2 b3 c0 c1 d0 d3 : Bool) → Turned a b c d a1 a2 b2 b3 c0 c1 d0 d3 →
    differ (between a b a1 b3) (between c d c1 d3) ≡ differ (between a c a2 c0) (between b d b2 d0)
even true true true true a1 a2 b2 b3 c0 c1 d0 d3 h = refl
even true true true false a1 a2 b2 b3 c0 c1 d0 d3 h = sym (h.left refl refl)
even true true false true a1 a2 b2 b3 c0 c1 d0 d3 h = h.up refl refl ∙ sym (plain a2)
even true true false false a1 a2 b2 b3 c0 c1 d0 d3 h = sym (same a2 b2 (sym (h.left refl refl)))
even true false true true a1 a2 b2 b3 c0 c1 d0 d3 h = plain a1 ∙ h.down refl refl
even true false true false a1 a2 b2 b3 c0 c1 d0 d3 h = same a1 c1 (h.down refl refl)
even true false false true a1 a2 b2 b3 c0 c1 d0 d3 h = swapped a1 d3 ∙ (ap (λ x. differ x a1) (h.up refl refl) ∙ ap (differ a2) (h.down refl refl))
even true false false false a1 a2 b2 b3 c0 c1 d0 d3 h = ap (λ x. differ x false) (h.down refl refl)
even false true true true a1 a2 b2 b3 c0 c1 d0 d3 h = ap (λ x. differ x false) (sym (h.right refl refl))
even false true true false a1 a2 b2 b3 c0 c1 d0 d3 h = ap (λ x. differ x c1) (sym (h.right refl refl)) ∙ ap (differ c0) (sym (h.left refl refl))
even false true false true a1 a2 b2 b3 c0 c1 d0 d3 h = same b3 d3 (sym (h.up refl refl))
even false true false false a1 a2 b2 b3 c0 c1 d0 d3 h = plain b3 ∙ sym (h.left refl refl)
even false false true true a1 a2 b2 b3 c0 c1 d0 d3 h = sym (same c0 d0 (h.right refl refl))
even false false true false a1 a2 b2 b3 c0 c1 d0 d3 h = sym (h.right refl refl) ∙ sym (plain c0)
even false false false true a1 a2 b2 b3 c0 c1 d0 d3 h = h.up refl refl
even false false false false a1 a2 b2 b3 c0 c1 d0 d3 h = refl

crossed : (u v l m : Bool) → differ u v ≡ differ l m → differ l v ≡ differ u m
crossed true v true m e = e
crossed false v false m e = e
crossed true true false m e = ap not e
crossed true false false m e = ap not e
crossed false v true true e = ap not e
crossed false v true false e = ap not e

-- two ways round a corner change a parity in the same way
pub moved_over : (s u v l m : Bool) → differ u v ≡ differ l m → differ (differ s l) v ≡ differ (differ s u) m
moved_over s u v l m e = regrouped s l v ∙ (ap (differ s) (crossed u v l m e) ∙ sym (regrouped s u m))
  where
    opposite : (a b : Bool) → differ (not a) b ≡ not (differ a b)
    opposite true true = refl
    opposite true false = refl
    opposite false true = refl
    opposite false false = refl

    regrouped : (s a b : Bool) → differ (differ s a) b ≡ differ s (differ a b)
    regrouped true a b = opposite a b
    regrouped false a b = refl
