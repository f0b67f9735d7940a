-- The words of sides: they spell one triple of sides at most, and the program reads the one that they spell.
-- Over plain numbers and words; sources stand in `SourceWords`.
use Rattle.std.proofs.Common.{◌≡◌, ℕ, ◌<◌, ◌^◌, List, [], ◌∷◌, length, Option, None, Some, Result, rules, refl, ap, sym, ◌∙◌, arith}
use Rattle.std.specs.Prelude.{ℤ, pos, negsuc, nat_abs, ◌≤ℤ◌, ◌↔◌, FitsSigned, IsSome, IfSome, MatchOption, OkIff}
use Rattle.std.specs.Result.{result_ok}
use lib.Signed.{mag}
use Rattle.std.specs.Int.{w32, w64}
use Rattle.std.specs.Fmt.{decimal, signed_decimal}
use Rattle.std.proofs.lemmas.Fmt.{decimal_injective, signed_decimal_injective}
use Rattle.std.proofs.lemmas.Int.{ints}
use Rattle.shape_terms.specs.Limits.{most_solid}
use Rattle.shape_terms.specs.Points.{AreSides}
use Rattle.shape_cli.specs.Numbers.{ReadsCoordinate}
use Rattle.shape_cli.specs.Sources.{Source, HasSides, IsNoSides, side_words, source_words, read_source}
use Rattle.report_text.specs.Reading.{ReadsField}
use Rattle.report_text.proofs.Numbers.{read_short}
use Rattle.shape_cli.specs.declared.source.Source.{Source as ProgramSource}
use Rattle.shape_cli.specs.declared.source.Source.TheVariants as source

-- each of three sides is from 1 to the greatest
record ThreeSides (x y z : ℤ) : Type 0 where
  first : (pos 1 ≤ℤ x) × (x ≤ℤ pos most_solid)
  second : (pos 1 ≤ℤ y) × (y ≤ℤ pos most_solid)
  third : (pos 1 ≤ℤ z) × (z ≤ℤ pos most_solid)

three : (x y z : ℤ) → AreSides (pos most_solid) (x ∷ y ∷ z ∷ []) → ThreeSides x y z
three x y z h = record { first = h 0 (omega arith); second = h 1 (omega arith); third = h 2 (omega arith) }

small : (n : ℕ) → pos n ≤ℤ pos most_solid → n < 2 ^ 64
small n l = omega (arith, ints)

-- words spell one triple
pub record SameSides (a b c x y z : ℕ) : Type 0 where
  pub first : a ≡ x
  pub second : b ≡ y
  pub third : c ≡ z

pub same_sides : (a b c x y z : ℕ) → AreSides (pos most_solid) (pos a ∷ pos b ∷ pos c ∷ []) → AreSides (pos most_solid) (pos x ∷ pos y ∷ pos z ∷ [])
    → decimal a ≡ decimal x → decimal b ≡ decimal y → decimal c ≡ decimal z → SameSides a b c x y z
same_sides a b c x y z h k f g i =
    let p = three (pos a) (pos b) (pos c) h in
    let q = three (pos x) (pos y) (pos z) k in
    record {
      first = decimal_injective a x (small a p.first.1) (small x q.first.1) f;
      second = decimal_injective b y (small b p.second.1) (small y q.second.1) g;
      third = decimal_injective c z (small c p.third.1) (small z q.third.1) i;
    }

-- a number from 1 on is its size
positive : (x : ℤ) → pos 1 ≤ℤ x → pos (nat_abs x) ≡ x
positive (pos n) l = refl
positive (negsuc n) l = absurd (omega (arith, ints))

pub natural_sides : (x y z : ℤ) → AreSides (pos most_solid) (x ∷ y ∷ z ∷ [])
    → AreSides (pos most_solid) (pos (nat_abs x) ∷ pos (nat_abs y) ∷ pos (nat_abs z) ∷ [])
natural_sides x y z h =
    let p = three x y z h in
    rw (positive x p.first.0, positive y p.second.0, positive z p.third.0) h

-- the program's sources have sides in range
pub program_sides : (s : ProgramSource) → HasSides (read_source s)
program_sides (source.Pbm file) = tt
program_sides (source.Raw sides file) = natural_sides sides.lengths.x sides.lengths.y sides.lengths.z sides.in_range

-- ---- reading

from_field : (word : List ℕ) (r : Option ℤ) → ReadsField (λ y. y) (FitsSigned w32) (λ y. signed_decimal y ∷ []) (word ∷ []) [] r → ReadsCoordinate word r
from_field word None n = λ z f k. n z [] f (ap (λ (w : List ℕ). w ∷ []) k)
from_field word (Some z) h = let e = h.split in (h.range, cc)

pub read_coordinate : {E : Type 0} (word : List ℕ) (z v : ℤ) (t : Result ℤ E) → FitsSigned w64 z → word ≡ signed_decimal z → v ≡ z
    → OkIff t (FitsSigned w32 v) v → ReadsCoordinate word (result_ok t)
read_coordinate word z v t f s e o = from_field word (result_ok t) (read_short (word ∷ []) [] word z v t refl f s e o)

fits : (n : ℕ) → pos n ≤ℤ pos most_solid → FitsSigned w32 (pos n)
fits n l = record { sfits = omega (arith, ints, l) }

module _ (x y z : List ℕ) where
  pub no_first : ReadsCoordinate x None → IsNoSides (x ∷ y ∷ z ∷ [])
  no_first n a b c h e = let k : x ≡ decimal a = cc in n (pos a) (fits a (three (pos a) (pos b) (pos c) h).first.1) k

  pub no_second : ReadsCoordinate y None → IsNoSides (x ∷ y ∷ z ∷ [])
  no_second n a b c h e = let k : y ≡ decimal b = cc in n (pos b) (fits b (three (pos a) (pos b) (pos c) h).second.1) k

  pub no_third : ReadsCoordinate z None → IsNoSides (x ∷ y ∷ z ∷ [])
  no_third n a b c h e = let k : z ≡ decimal c = cc in n (pos c) (fits c (three (pos a) (pos b) (pos c) h).third.1) k

-- a word spells one number
same_number : (y z : ℤ) → FitsSigned w32 y → FitsSigned w32 z → signed_decimal y ≡ signed_decimal z → y ≡ z
same_number y z f g e = signed_decimal_injective y z (near y f) (near z g) e
  where
    near : (y : ℤ) → FitsSigned w32 y → mag y < 2 ^ 63
    near (pos n) f = omega (arith, f.sfits)
    near (negsuc n) f = omega (arith, f.sfits)

spelled_by : (x : List ℕ) (u : ℤ) → pos 1 ≤ℤ u → x ≡ signed_decimal u → x ≡ decimal (nat_abs u)
spelled_by x u l e = e ∙ ap signed_decimal (sym (positive u l))

pub three_read : {S P : Type 0} (lengths : S → P) (cx cy cz : P → ℤ) (p : P) (r : Option S) (x y z : List ℕ) (u v w : ℤ) → IfSome r (λ s. lengths s ≡ p)
    → IsSome r ↔ AreSides (pos most_solid) (cx p ∷ cy p ∷ cz p ∷ []) → cx p ≡ u → cy p ≡ v → cz p ≡ w
    → ReadsCoordinate x (Some u) → ReadsCoordinate y (Some v) → ReadsCoordinate z (Some w)
    → MatchOption r (IsNoSides (x ∷ y ∷ z ∷ []))
    (λ s. x ∷ y ∷ z ∷ [] ≡ side_words (nat_abs (cx (lengths s))) (nat_abs (cy (lengths s))) (nat_abs (cz (lengths s))))
three_read {S = S} lengths cx cy cz p None x y z u v w g e ex ey ez f h i = λ a b c k l.
    let t = three (pos a) (pos b) (pos c) k in
    let mx : x ≡ decimal a = cc in
    let my : y ≡ decimal b = cc in
    let mz : z ≡ decimal c = cc in
    let nx : pos a ≡ cx p = same_number (pos a) u (fits a t.first.1) f.0 (sym mx ∙ f.1) ∙ sym ex in
    let ny : pos b ≡ cy p = same_number (pos b) v (fits b t.second.1) h.0 (sym my ∙ h.1) ∙ sym ey in
    let nz : pos c ≡ cz p = same_number (pos c) w (fits c t.third.1) i.0 (sym mz ∙ i.1) ∙ sym ez in
    let sides : AreSides (pos most_solid) (cx p ∷ cy p ∷ cz p ∷ []) = rw (← nx, ← ny, ← nz) k in
    let q : IsSome {T = S} None = e.1 sides in cc
three_read lengths cx cy cz p (Some s) x y z u v w g e ex ey ez f h i =
    let t = three (cx p) (cy p) (cz p) (e.0 (search rules)) in
    let mx = spelled_by x (cx p) t.first.0 (f.1 ∙ ap signed_decimal (sym ex)) in
    let my = spelled_by y (cy p) t.second.0 (h.1 ∙ ap signed_decimal (sym ey)) in
    let mz = spelled_by z (cz p) t.third.0 (i.1 ∙ ap signed_decimal (sym ez)) in
    rw (g, mx, my, mz) refl

-- ---- the words of a volume

pub no_volume : (kind x y z file : List ℕ) (words : List (List ℕ)) → words ≡ x ∷ y ∷ z ∷ file ∷ [] → IsNoSides (x ∷ y ∷ z ∷ []) → (s : Source) → HasSides s
    → kind ∷ words ≡ source_words s → ⊥
no_volume kind x y z file words w n (Source.Pbm f) h e = let l = ap length e in let m = ap length w in omega arith
no_volume kind x y z file words w n (Source.Raw a b c f) h e =
    let i : x ≡ decimal a = cc in
    let j : y ≡ decimal b = cc in
    let l : z ≡ decimal c = cc in
    n a b c h (rw (i, j, l) refl)
