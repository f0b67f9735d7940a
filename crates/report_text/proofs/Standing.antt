-- Fields that stand at places of bytes, one after another.
-- Laws of bytes alone; how a short number is read is told in `shape_desk`.
use Rattle.std.proofs.Common.{◌≡◌, ◌+◌, ◌*◌, ◌<◌, ℕ, suc, ℤ, List, [], ◌∷◌, ◌++◌}
use Rattle.std.proofs.Common.{length, take, drop, get_or, FitsSigned, sym, ap, ◌∙◌, arith, append_assoc, append-nil}
use Rattle.std.specs.Prelude.{All}
use Rattle.std.specs.Int.{w32}
use Rattle.std.specs.Fmt.{decimal, signed_decimal}
use Rattle.std.proofs.Math.Seq.{take-add}
use Rattle.std.proofs.lemmas.List.{drop_more}
use Rattle.std.proofs.lemmas.List.Elements.{All-append, All-cons, All-nil}
use Rattle.std.proofs.lemmas.Grind.{flat_map-append}
use Rattle.shape_desk.specs.Number.{IsShortNumber}
use Rattle.report_text.specs.Spelling.{behind_blanks}
use Rattle.report_text.specs.Front.{StandsAt}
use Rattle.report_text.proofs.Behind.{number_words}

-- a short number behind a blank
pub number_stands : (bytes : List ℕ) (at n m : ℕ) → at < length bytes → get_or bytes at 0 ≡ 32 → IsShortNumber (drop (at + 1) bytes) n m
    → StandsAt bytes at (at + 1 + n) 7 (decimal m ∷ [])
number_stands bytes at n m inside blank h =
    let e : at + 1 + n ≡ at + suc n = omega arith in
    let part : take (suc n) (drop at bytes) ≡ 32 ∷ decimal m =
    ap (λ (l : List ℕ). take (suc n) l) (drop_more bytes at 0 inside ∙ ap (λ b. b ∷ drop (at + 1) bytes) blank) ∙ ap (λ (l : List ℕ). 32 ∷ l) h.spelling in
    record {
      order = omega arith;
      few = omega (arith, h.few);
      text = ap (λ k. take k bytes) e ∙ take-add at (suc n) bytes ∙ ap (λ (l : List ℕ). take at bytes ++ l) (part ∙ sym (append-nil (32 ∷ decimal m)));
    }

-- one field behind another
pub stands_both : (bytes : List ℕ) (from mid end r s : ℕ) (v w : List (List ℕ)) → StandsAt bytes from mid r v → StandsAt bytes mid end s w
    → StandsAt bytes from end (r + s) (v ++ w)
stands_both bytes from mid end r s v w a b = record {
  order = omega (arith, a.order, b.order);
  few = omega (arith, a.few, b.few);
  text = b.text ∙ ap (λ (l : List ℕ). l ++ behind_blanks w) a.text ∙ append_assoc (take from bytes) (behind_blanks v) (behind_blanks w)
      ∙ ap (λ (l : List ℕ). take from bytes ++ l) (sym (flat_map-append (λ u. 32 ∷ u) v w));
}

pub no_words : (bytes : List ℕ) (at : ℕ) → StandsAt bytes at at 0 []
no_words bytes at = record { order = omega arith; few = omega arith; text = sym (append-nil (take at bytes)) }

-- the first k of some coordinates, which are short numbers
pub record AreRead (bytes : List ℕ) (from end k : ℕ) (zs : List ℤ) : Type 0 where
  pub stands : StandsAt bytes from end (8 * k) (number_words zs)
  pub fits : All (FitsSigned w32) zs

pub none_read : (bytes : List ℕ) (at : ℕ) → AreRead bytes at at 0 []
none_read bytes at = record { stands = no_words bytes at; fits = All-nil (FitsSigned w32) }

pub one_read : (bytes : List ℕ) (from mid end k : ℕ) (zs : List ℤ) (z : ℤ) → AreRead bytes from mid k zs → FitsSigned w32 z
    → StandsAt bytes mid end 8 (signed_decimal z ∷ []) → AreRead bytes from end (k + 1) (zs ++ z ∷ [])
one_read bytes from mid end k zs z h fits one =
    let s = stands_both bytes from mid end (8 * k) 8 (number_words zs) (signed_decimal z ∷ []) h.stands one in
    record {
      stands = record {
        order = s.order;
        few = omega (arith, s.few);
        text = s.text ∙ ap (λ w. take from bytes ++ behind_blanks w) (sym (flat_map-append (λ y. signed_decimal y ∷ []) zs (z ∷ [])));
      };
      fits = All-append (FitsSigned w32) zs (z ∷ []) h.fits (All-cons (FitsSigned w32) z [] fits (All-nil (FitsSigned w32)));
    }

-- a negative short number behind a blank
pub negative_stands : (bytes : List ℕ) (at n m : ℕ) → at + 1 < length bytes → get_or bytes at 0 ≡ 32 → get_or bytes (at + 1) 0 ≡ 45
    → IsShortNumber (drop (at + 2) bytes) n m → StandsAt bytes at (at + 2 + n) 8 ((45 ∷ decimal m) ∷ [])
negative_stands bytes at n m inside blank minus h =
    let e : at + 2 + n ≡ at + suc (suc n) = omega arith in
    let two : at + 1 + 1 ≡ at + 2 = omega arith in
    let next : drop (at + 1) bytes ≡ 45 ∷ drop (at + 2) bytes =
    drop_more bytes (at + 1) 0 inside ∙ ap (λ b. b ∷ drop (at + 1 + 1) bytes) minus ∙ ap (λ k. 45 ∷ drop k bytes) two in
    let first : drop at bytes ≡ 32 ∷ 45 ∷ drop (at + 2) bytes =
    drop_more bytes at 0 (omega arith) ∙ ap (λ b. b ∷ drop (at + 1) bytes) blank ∙ ap (λ (l : List ℕ). 32 ∷ l) next in
    let part : take (suc (suc n)) (drop at bytes) ≡ 32 ∷ 45 ∷ decimal m =
    ap (λ (l : List ℕ). take (suc (suc n)) l) first ∙ ap (λ (l : List ℕ). 32 ∷ 45 ∷ l) h.spelling in
    record {
      order = omega arith;
      few = omega (arith, h.few);
      text = ap (λ k. take k bytes) e ∙ take-add at (suc (suc n)) bytes
          ∙ ap (λ (l : List ℕ). take at bytes ++ l) (part ∙ sym (append-nil (32 ∷ 45 ∷ decimal m)));
    }

-- a letter behind a blank
pub letter_stands : (bytes : List ℕ) (at c : ℕ) → at + 1 < length bytes → get_or bytes at 0 ≡ 32 → get_or bytes (at + 1) 0 ≡ c
    → StandsAt bytes at (at + 2) 2 ((c ∷ []) ∷ [])
letter_stands bytes at c inside blank there =
    let first : drop at bytes ≡ 32 ∷ c ∷ drop (at + 1 + 1) bytes =
    drop_more bytes at 0 (omega arith) ∙ ap (λ b. b ∷ drop (at + 1) bytes) blank
    ∙ ap (λ (l : List ℕ). 32 ∷ l) (drop_more bytes (at + 1) 0 inside ∙ ap (λ b. b ∷ drop (at + 1 + 1) bytes) there) in
    record { order = omega arith; few = omega arith; text = take-add at 2 bytes ∙ ap (λ (l : List ℕ). take at bytes ++ take 2 l) first }
