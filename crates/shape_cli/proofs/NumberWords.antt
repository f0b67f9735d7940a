-- The number of a range that a word spells.
-- Over plain numbers and words; commands stand in `OneCommand`.
use Rattle.std.proofs.Common.{◌≡◌, ℕ, suc, ◌<◌, ◌^◌, List, None, ap, sym, ◌∙◌, arith}
use Rattle.std.specs.Prelude.{ℤ, pos, negsuc, ◌<ℤ◌, FitsSigned}
use Rattle.std.specs.Int.{w64}
use Rattle.std.specs.Fmt.{decimal, signed_decimal}
use Rattle.std.proofs.lemmas.Fmt.{decimal_injective, decimal_is_IsNumeral}
use Rattle.std.proofs.lemmas.Int.{ints}
use Rattle.shape_desk.proofs.Numbers.{no_minus}
use Rattle.report_text.specs.Reading.{ReadsNumberWord}
use Rattle.shape_cli.specs.Numbers.{IsNoNumber}

fits : (n : ℕ) → n < 2 ^ 32 → FitsSigned w64 (pos n)
fits n l = record { sfits = omega (arith, ints, l) }

pub none_spelled : (least most : ℕ) (word : List ℕ) → most < 2 ^ 32 → ReadsNumberWord word None → IsNoNumber least most word
none_spelled least most word m none n l h e = none (pos n) (fits n (omega (arith, m, h))) e

-- a word spells one number
same : (word : List ℕ) (z : ℤ) (n : ℕ) → FitsSigned w64 z → n < 2 ^ 32 → word ≡ signed_decimal z → word ≡ decimal n → z ≡ pos n
same word (pos k) n f h s e = ap pos (decimal_injective k n (omega (arith, f.sfits)) (omega (arith, h)) (sym s ∙ e))
same word (negsuc k) n f h s e = absurd (no_minus (decimal n) (decimal (suc k)) (decimal_is_IsNumeral n (omega (arith, h))).0.1 (sym e ∙ s))

pub too_small : (least most : ℕ) (word : List ℕ) (z : ℤ) → most < 2 ^ 32 → FitsSigned w64 z → word ≡ signed_decimal z → z <ℤ pos least
    → IsNoNumber least most word
too_small least most word z m f s less n l h e = let q = same word z n f (omega (arith, m, h)) s e in omega (arith, ints, q, less, l)

pub too_large : (least most : ℕ) (word : List ℕ) (z : ℤ) → most < 2 ^ 32 → FitsSigned w64 z → word ≡ signed_decimal z → pos most <ℤ z
    → IsNoNumber least most word
too_large least most word z m f s more n l h e = let q = same word z n f (omega (arith, m, h)) s e in omega (arith, ints, q, more, h)
