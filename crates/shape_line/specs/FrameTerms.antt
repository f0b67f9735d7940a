-- Points of the program in the frame of a run: how far along and how high they are, and how far one is from another.
-- Only words that tie a type of the program to its term stand here.
use Rattle.std.specs.Prelude.{◌≡◌, ℕ, ℤ, pos, ◌+ℤ◌, ◌-ℤ◌, ◌*ℤ◌, take}
use Rattle.shape_space.specs.declared.point.P2.{P2}
use Rattle.shape_terms.specs.Points.{coordinate}
use Rattle.shape_terms.specs.Turns.{other_axis}
use Rattle.shape_refute.specs.declared.naive.Naive.{Naive}
use Rattle.shape_refute.specs.Terms.{flat_point}
use Rattle.shape_line.specs.Segments.{rest}
use Rattle.shape_line.specs.Small.{IsPlaneLine}
use Rattle.shape_line.specs.Frames.{along, height}

abbrev pub along_at : ℕ → ℤ → P2 → ℤ
along_at t s p = along t s (flat_point p)

abbrev pub height_at : ℕ → P2 → ℤ
height_at t p = height t (flat_point p)

-- the line of the axis t, with these numbers in the frame
pub record IsFrameLine (t : ℕ) (s : ℤ) (line : Naive) (a b least : ℤ) : Type 0 where
  pub plane : IsPlaneLine t line
  pub side : s *ℤ coordinate (take 2 line.a) (other_axis t) ≡ a
  pub main : coordinate (take 2 line.a) t ≡ b
  pub mu : line.mu ≡ least

-- the second point is the next one along
abbrev pub IsOneOn : ℕ → ℤ → P2 → P2 → Type 0
IsOneOn t s p q = along_at t s q ≡ along_at t s p +ℤ pos 1

-- how much further along the second point is than the first
abbrev pub run_between : ℕ → ℤ → P2 → P2 → ℤ
run_between t s p q = along_at t s q -ℤ along_at t s p

-- and how much higher
abbrev pub rise_between : ℕ → P2 → P2 → ℤ
rise_between t p q = height_at t q -ℤ height_at t p

-- the remainder that both points have on the line through them
abbrev pub rest_through : ℕ → ℤ → P2 → P2 → ℤ
rest_through t s p q = rest (rise_between t p q) (run_between t s p q) (along_at t s p) (height_at t p)
