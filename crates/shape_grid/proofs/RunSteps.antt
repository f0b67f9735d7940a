-- Runs of the truth values that words hold: spans of numbers of one kind in the words.
-- Laws over lists alone.
use Rattle.std.proofs.Common.{◌≡◌, ℕ, ◌*◌, ◌<◌, ◌≤◌, Bool, false, List, length, get_or, sym, ◌∙◌, ap, arith}
use Rattle.std.specs.Prelude.{◌==◌}
use Rattle.std.proofs.lemmas.List.{get_or_past}
use native.Mathlib.Decide.{dec_lt}
use Rattle.shape_grid.specs.Truths.{is_in, truths, AreTruths}
use Rattle.shape_grid.specs.Spans.{IsSpanEnd, IsSpanStart, IsSpanPut}
use Rattle.shape_grid.specs.Runs.{IsRunEnd, IsRunStart, IsFilled}
use Rattle.shape_grid.proofs.TruthSteps.{length-truths, value_of}

module _ (words : List ℕ) (n : ℕ) (values : List Bool) (a : AreTruths words n) (e : truths words n ≡ values) where
  long : n ≡ length values
  long = sym (length-truths words n) ∙ ap length e

  -- the words have room for one number more than there are values
  pub end_within : (until : ℕ) → until ≤ length values → until < 64 * length words
  end_within until l = let m = long in let r = a.room in omega arith

  value : (i : ℕ) → i < n → get_or values i false ≡ is_in words i
  value i l = ap (λ v. get_or v i false) (sym e) ∙ value_of words n i false l

  pub run_end : (v : Bool) (from until k : ℕ) → until ≤ length values → IsSpanEnd words v from until k → IsRunEnd values v from until k
  run_end v from until k l s = record {
    on = s.on;
    within = s.within;
    each = λ i b c. value i (let m = long in let w = s.within in omega arith) ∙ s.each i b c;
    stop = λ b. value k (let m = long in omega arith) ∙ s.stop b;
  }

  pub run_start : (from until k : ℕ) → until ≤ length values → IsSpanStart words from until k → IsRunStart values from until k
  run_start from until k l s = record {
    on = s.on;
    within = s.within;
    each = λ i b c. value i (let m = long in omega arith) ∙ s.each i b c;
    stop = λ i q b. value i (let m = long in let w = s.within in omega arith) ∙ s.stop i q b;
  }

  module _ (new : List ℕ) (from until : ℕ) (kind : Bool) (l : until ≤ length values) (p : IsSpanPut words new from until (64 * length words) kind) where
    -- behind the row there is still no bit
    pub filled_are : AreTruths new n
    filled_are = record {
      few = a.few;
      room = p.room ∙ a.room;
      none_past = λ j m h. a.none_past j m (sym (p.behind j (let q = long in omega arith)) ∙ h);
    }

    as_before : (i : ℕ) → (i < n → is_in new i ≡ is_in words i) → get_or (truths new n) i false ≡ get_or values i false
    as_before i same = elim (dec_lt i n) [
      | yes m ↦ value_of new n i false m ∙ same m ∙ sym (value i m)
      | no m ↦ get_or_past (truths new n) i false (omega (arith, length-truths new n)) ∙ sym (get_or_past values i false (let q = long in omega arith))
    ]

    -- the values of a stretch are changed
    pub filled : IsFilled values (truths new n) from until kind
    filled = record {
      room = length-truths new n ∙ long;
      inside = λ i b c. value_of new n i false (let q = long in omega arith)
          ∙ p.inside i b c (let q = long in let r = a.room in omega arith);
      before = λ i b. as_before i (λ m. ap (λ x. x == 1) (p.before i b));
      behind = λ i b. as_before i (λ m. ap (λ x. x == 1) (p.behind i b));
    }
