-- Texts that are put one behind the other are put as one text, and a text that stands between what stood there is put.
-- Which text is put for a number is no matter here.
use Rattle.std.proofs.Common.{◌≡◌, ◌+◌, ◌≤◌, ℕ, List, ◌++◌, length, take, drop, sym, ◌∙◌, ap, subst, arith, append_assoc, length-append, drop-drop}
use Rattle.std.proofs.lemmas.List.{length-take-le, length-drop, take-append-drop, take_at, drop_at}
use Rattle.shape_desk.specs.Putting.{PutsAt, PutsLast}

-- the same text, told otherwise
pub PutsAt-told : {text other : List ℕ} {at : ℕ} {old new : List ℕ} {end : ℕ} → text ≡ other → PutsAt text at old new end → PutsAt other at old new end
PutsAt-told {at = at} {old} {new} {end} same p = subst (λ t. PutsAt t at old new end) same p

-- a text, and another behind it
pub PutsAt-more : {a b : List ℕ} {at : ℕ} {old mid new : List ℕ} {m end : ℕ} → PutsAt a at old mid m → PutsAt b m mid new end → PutsAt (a ++ b) at old new end
PutsAt-more {a} {b} {at} {old} {mid} {new} {m} {end} p q = record {
  place = omega (arith, p.place, q.place, length-append a b);
  front = q.front ∙ ap (λ xs. xs ++ b) p.front ∙ append_assoc (take at old) a b;
  behind =
      let after : (xs : List ℕ) → drop end xs ≡ drop (length b) (drop m xs) = λ xs. ap (λ k. drop k xs) q.place ∙ sym (drop-drop (length b) m xs) in
      q.behind ∙ after mid ∙ ap (drop (length b)) p.behind ∙ sym (after old);
  same_length = q.same_length ∙ p.same_length;
}

-- what stood before a place, the text, and what stood behind its end
pub PutsAt-between : {text : List ℕ} {at end : ℕ} {old new : List ℕ} → end ≡ at + length text → end ≤ length old
    → take at new ≡ take at old → drop at new ≡ text ++ drop end old → PutsAt text at old new end
PutsAt-between {text} {at} {end} {old} {new} is within before from =
    let pre : List ℕ = take at old in
    let long : length (pre ++ text) ≡ end = omega (arith, length-append pre text, length-take-le at old (omega arith)) in
    let parted : new ≡ pre ++ drop at new = sym (take-append-drop at new) ∙ ap (λ (xs : List ℕ). xs ++ drop at new) before in
    let whole : new ≡ (pre ++ text) ++ drop end old = parted ∙ ap (λ (xs : List ℕ). pre ++ xs) from ∙ sym (append_assoc pre text (drop end old)) in
    record {
      place = is;
      front = ap (take end) whole ∙ take_at (pre ++ text) (drop end old) end long;
      behind = ap (drop end) whole ∙ drop_at (pre ++ text) (drop end old) end long;
      same_length = omega (arith, ap length whole, length-append (pre ++ text) (drop end old), length-drop end old);
    }

-- the same of a text that starts where it must, to end there
pub PutsAt-until : {text : List ℕ} {at end : ℕ} {old new : List ℕ} (start : ℕ) → end ≡ at + length text → end ≤ length old → start + length text ≡ end
    → take start new ≡ take start old → drop start new ≡ text ++ drop end old → PutsAt text at old new end
PutsAt-until {text} {at} {end} {old} {new} start is within starts before from =
    let same : start ≡ at = omega arith in
    PutsAt-between is within (subst (λ (k : ℕ). take k new ≡ take k old) same before) (subst (λ (k : ℕ). drop k new ≡ text ++ drop end old) same from)

-- ---- texts that are put last

pub PutsLast-at : {text : List ℕ} {at : ℕ} {old new : List ℕ} {end : ℕ} → PutsAt text at old new end → PutsLast text at old new end
PutsLast-at p = record { place = p.place; front = p.front; same_length = p.same_length }

-- the same text, told otherwise
pub PutsLast-told : {text other : List ℕ} {at : ℕ} {old new : List ℕ} {end : ℕ} → text ≡ other → PutsLast text at old new end → PutsLast other at old new end
PutsLast-told {at = at} {old} {new} {end} same p = subst (λ t. PutsLast t at old new end) same p

-- a text, and another behind it
pub PutsLast-more : {a b : List ℕ} {at : ℕ} {old mid new : List ℕ} {m end : ℕ} → PutsLast a at old mid m → PutsLast b m mid new end
    → PutsLast (a ++ b) at old new end
PutsLast-more {a} {b} {at} {old} {mid} {new} {m} {end} p q = record {
  place = omega (arith, p.place, q.place, length-append a b);
  front = q.front ∙ ap (λ xs. xs ++ b) p.front ∙ append_assoc (take at old) a b;
  same_length = q.same_length ∙ p.same_length;
}
