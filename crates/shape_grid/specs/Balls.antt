-- The picture of a seed: balls whose centres and radii are drawn, each third of them background.
-- The rule is given here alone; every definition serves each number of axes.
use Rattle.std.specs.Prelude.{ℕ, zero, suc, ◌+◌, ◌*◌, ◌/◌, ◌%◌, ◌^◌, ◌==◌, nat_le, Bool, false, not, if◌then◌else◌, map, fold, pos}
use Rattle.std.specs.List.{range_with_len}
use Rattle.shape_terms.specs.Points.{Point, squared_distance, box_points}
use Rattle.shape_terms.specs.Pictures.{Picture}

-- the state of the generator after n draws
abbrev pub drawn_state : ℕ → ℕ → ℕ
drawn_state seed zero = seed
drawn_state seed (suc n) = (drawn_state seed n * 1664525 + 1013904223) % 2 ^ 32

-- the n-th draw, from 0
abbrev pub draw : ℕ → ℕ → ℕ
draw seed n = drawn_state seed (n + 1) / 65536

-- the k-th ball of a picture with d sides of n: its centre and its radius
abbrev pub ball_centre : ℕ → ℕ → ℕ → ℕ → Point
ball_centre d n seed k = map (λ i. pos (draw seed (k * (d + 1) + i) % n)) (range_with_len 0 d)

abbrev pub ball_radius : ℕ → ℕ → ℕ → ℕ → ℕ
ball_radius d n seed k = 1 + draw seed (k * (d + 1) + d) % (1 + n / 4)

-- the ball covers the point
abbrev pub covers : Point → ℕ → Point → Bool
covers centre radius p = nat_le (squared_distance p centre) (radius * radius)

-- each third ball makes the points that it covers background, the others make them object
abbrev pub ball_object : ℕ → Bool
ball_object k = not (k % 3 == 2)

-- the value of a point after the balls in turn: the last ball that covers it decides
abbrev pub ball_value : ℕ → ℕ → ℕ → Point → Bool
ball_value d n seed p = fold (λ v k. if covers (ball_centre d n seed k) (ball_radius d n seed k) p then ball_object k else v)
    false (range_with_len 0 (1 + n / 8))

-- the picture with d sides of n that a seed gives
abbrev pub ball_picture : ℕ → ℕ → ℕ → Picture
ball_picture d seed n = let sides = map (λ _. n) (range_with_len 0 d) in record { sides = sides; values = map (ball_value d n seed) (box_points sides) }
