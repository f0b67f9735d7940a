-- What a cell keeps of a nearest background point, of which the transform needs the square of its distance alone.
-- A cell of a further kind is one more keeping.
use Rattle.std.specs.Prelude.{◌≡◌, ℕ, ◌+◌, refl}
use Rattle.std.proofs.Common.{ap, arith}
use Rattle.shape_dist.specs.declared.found.Found.{Found}

-- of point q at the squared distance s a cell keeps `of q s`; what moves keeps the point, and the square grows
pub record Keeping (A : Type 0) : Type 0 where
  pub of : ℕ → ℕ → A
  pub square : A → ℕ
  pub moved : A → ℕ → A
  pub square_of : (q s : ℕ) → square (of q s) ≡ s
  pub square_moved : (f : A) (w : ℕ) → square (moved f w) ≡ square f + w
  pub moved_of : (q s w : ℕ) → moved (of q s) w ≡ of q (s + w)
  pub unmoved : (f : A) → moved f 0 ≡ f

-- the square alone
abbrev pub square_keeping : Keeping ℕ
square_keeping = record {
  of = λ q s. s;
  square = λ s. s;
  moved = λ s w. s + w;
  square_of = λ q s. refl;
  square_moved = λ s w. refl;
  moved_of = λ q s w. refl;
  unmoved = λ s. omega arith;
}

abbrev made : ℕ → ℕ → Found
made q s = record { q = q; s = s }

-- the point and the square
abbrev pub point_keeping : Keeping Found
point_keeping = record {
  of = made;
  square = λ f. f.s;
  moved = λ f w. made f.q (f.s + w);
  square_of = λ q s. refl;
  square_moved = λ f w. refl;
  moved_of = λ q s w. refl;
  unmoved = λ f. ap (made f.q) (omega arith);
}
