-- A number at hand while another one is put in or taken out, and the least number with it.
-- Laws over lists alone.
use Rattle.std.proofs.Common.{◌≡◌, ◌≢◌, ℕ, ◌*◌, ◌/◌, ◌%◌, ◌^◌, ◌<◌, List, length, slice_index, refl, sym, ◌∙◌, ap, subst, arith}
use Rattle.std.specs.Prelude.{Option, None, Some, MatchOption, min}
use Rattle.std.specs.Int.Bits.{bit_or}
use Rattle.std.proofs.lemmas.List.{get_or-set_same}
use native.Mathlib.Decide.{dec_lt, ℕ_discrete}
use Rattle.shape_grid.specs.Sets.{In, bit_of, IsPut, IsLeast}
use Rattle.shape_grid.specs.Hands.{with_hand, IsHeldApart, IsApart}
use Rattle.shape_grid.proofs.WordSteps.{put_one}

-- a bit that is so already
pub put_again : (words : List ℕ) (i b : ℕ) → bit_of words i ≡ b → IsPut words words i b
put_again words i b h = record { room = refl; here = h; others = λ j n. refl; words = λ w n. refl }

module _ (words : List ℕ) (h : ℕ) (a : IsHeldApart words h) where
  pub hand_in : IsPut words (with_hand (Some h) words) h 1
  hand_in = put_one words h a.room

  pub hand_out : IsPut (with_hand (Some h) words) words h 0
  hand_out = record {
    room = sym hand_in.room;
    here = a.out;
    others = λ j n. sym (hand_in.others j n);
    words = λ w n. sym (hand_in.words w n);
  }

  -- the hand holds a number while another one is put in or taken out
  pub hand_kept : (new : List ℕ) (i b : ℕ) → h ≢ i → IsPut words new i b → IsPut (with_hand (Some h) words) (with_hand (Some h) new) i b
  hand_kept new i b other u =
      let l = a.room in
      let e = u.room in
      let p = hand_in in
      let q = put_one new h (omega arith) in
      record {
        room = q.room ∙ u.room ∙ sym p.room;
        here = q.others i (λ e. other (sym e)) ∙ u.here;
        others = λ j n. elim (ℕ_discrete j h) [
          | yes e ↦ ap (bit_of (with_hand (Some h) new)) e ∙ q.here ∙ sym (ap (bit_of (with_hand (Some h) words)) e ∙ p.here)
          | no m ↦ q.others j m ∙ u.others j n ∙ sym (p.others j m)
        ];
        words = λ w n. elim (ℕ_discrete w (h / 64)) [
          | yes e ↦ (
              let there : h / 64 < length words = omega arith in
              let here : h / 64 < length new = omega arith in
              let same : slice_index new (h / 64) ≡ slice_index words (h / 64) = u.words (h / 64) (λ f. n (e ∙ f)) in
              let word : ℕ → ℕ = λ x. bit_or x (1 * 2 ^ (h % 64) % 2 ^ 64) in
              ap (slice_index (with_hand (Some h) new)) e ∙ get_or-set_same new (h / 64) (word (slice_index new (h / 64))) 0 here ∙ ap word same
              ∙ sym (ap (slice_index (with_hand (Some h) words)) e ∙ get_or-set_same words (h / 64) (word (slice_index words (h / 64))) 0 there))
          | no m ↦ q.words w m ∙ u.words w n ∙ sym (p.words w m)
        ];
      }

  -- a number of the set is the one at hand, or the words hold it
  in_words : (j : ℕ) → j ≢ h → In (with_hand (Some h) words) j → In words j
  in_words j n i = sym (hand_in.others j n) ∙ i

  pub hand_least : ((j : ℕ) → In words j → ⊥) → IsLeast (with_hand (Some h) words) h
  hand_least none = record {
    there = hand_in.here;
    least = λ j i. elim (ℕ_discrete j h) [ yes e ↦ omega arith | no n ↦ absurd (none j (in_words j n i)) ];
  }

  pub both_least : (i : ℕ) → IsLeast words i → IsLeast (with_hand (Some h) words) (min i h)
  both_least i l = elim (dec_lt i h) [
    | yes s ↦ (
        let m : min i h ≡ i = omega arith in
        subst (IsLeast (with_hand (Some h) words)) (sym m)
        (record {
          there = hand_in.others i (λ e. omega arith) ∙ l.there;
          least = λ j k. elim (ℕ_discrete j h) [ yes e ↦ omega arith | no n ↦ l.least j (in_words j n k) ];
        }))
    | no s ↦ (
        let m : min i h ≡ h = omega arith in
        subst (IsLeast (with_hand (Some h) words)) (sym m)
        (record {
          there = hand_in.here;
          least = λ j k. elim (ℕ_discrete j h) [ yes e ↦ omega arith | no n ↦ (let f = l.least j (in_words j n k) in omega arith) ];
        }))
  ]

-- the same where there is one at hand, told by an equation
pub kept_by : (o : Option ℕ) (words new : List ℕ) (h i b : ℕ) → o ≡ Some h → h ≢ i → IsApart o words → IsPut words new i b
    → IsPut (with_hand o words) (with_hand o new) i b
kept_by o words new h i b e n a u = subst (λ o. IsApart o words → IsPut (with_hand o words) (with_hand o new) i b) (sym e) (λ a. hand_kept words h a new i b
    n u) a

-- and where there is none
pub kept_alone : (o : Option ℕ) (words new : List ℕ) (i b : ℕ) → o ≡ None → IsPut words new i b → IsPut (with_hand o words) (with_hand o new) i b
kept_alone o words new i b e u = subst (λ o. IsPut (with_hand o words) (with_hand o new) i b) (sym e) u

-- the least number of a set whose words hold none
pub least_at_hand : (o : Option ℕ) (words : List ℕ) → IsApart o words → ((j : ℕ) → In words j → ⊥)
    → MatchOption o ((j : ℕ) → In (with_hand o words) j → ⊥) (IsLeast (with_hand o words))
least_at_hand None words a none = none
least_at_hand (Some h) words a none = hand_least words h a none
