-- Draws that go on from a state, and the balls that they give.
-- Laws of the rule alone; nothing here knows of grids.
use Rattle.std.proofs.Common.{◌≡◌, ◌+◌, ◌*◌, ◌/◌, ◌%◌, ◌<◌, ℕ, zero, suc, ℤ, pos, List, [], ◌∷◌, ◌++◌, map, length, take, set, refl, sym, ap, ◌∙◌, arith}
use Rattle.std.specs.List.{range_with_len}
use Rattle.std.proofs.lemmas.List.{take_more_set}
use Rattle.std.proofs.lemmas.List.FromFn.{map-range_with_len_more}
use Rattle.shape_terms.specs.Points.{Point}
use Rattle.shape_grid.specs.Balls.{drawn_state, draw, ball_centre, ball_radius}

-- the states after a state are those after the seed
pub drawn_state-add : (s m n : ℕ) → drawn_state (drawn_state s m) n ≡ drawn_state s (m + n)
drawn_state-add s m zero = ap (drawn_state s) (omega arith)
drawn_state-add s m (suc n) =
    let e : m + suc n ≡ suc (m + n) = omega arith in
    rw (e, drawn_state-add s m n) refl

pub draw-add : (s m n : ℕ) → draw (drawn_state s m) n ≡ draw s (m + n)
draw-add s m n =
    let e : m + (n + 1) ≡ m + n + 1 = omega arith in
    ap (λ x. x / 65536) (drawn_state-add s m (n + 1) ∙ ap (drawn_state s) e)

same_map : {A B : Type 0} (f g : A → B) (xs : List A) → ((x : A) → f x ≡ g x) → map f xs ≡ map g xs
same_map f g [] h = refl
same_map f g (x ∷ xs) h = λ i. h x i ∷ same_map f g xs h i

-- the ball number k is the first one that is drawn from the state before it
pub ball_centre-first : (d n s k : ℕ) → ball_centre d n (drawn_state s (k * (d + 1))) 0 ≡ ball_centre d n s k
ball_centre-first d n s k = same_map _ _ (range_with_len 0 d) (λ i.
    let z : k * (d + 1) + (0 * (d + 1) + i) ≡ k * (d + 1) + i = omega arith in
    ap (λ x. pos (x % n)) (draw-add s (k * (d + 1)) (0 * (d + 1) + i) ∙ ap (draw s) z))

pub ball_radius-first : (d n s k : ℕ) → ball_radius d n (drawn_state s (k * (d + 1))) 0 ≡ ball_radius d n s k
ball_radius-first d n s k =
    let z : k * (d + 1) + (0 * (d + 1) + d) ≡ k * (d + 1) + d = omega arith in
    ap (λ x. 1 + x % (1 + n / 4)) (draw-add s (k * (d + 1)) (0 * (d + 1) + d) ∙ ap (draw s) z)

-- the state behind a ball
pub state_behind : (d s k : ℕ) → drawn_state (drawn_state s (k * (d + 1))) (d + 1) ≡ drawn_state s ((k + 1) * (d + 1))
state_behind d s k = drawn_state-add s (k * (d + 1)) (d + 1) ∙ ap (drawn_state s) (omega arith)

-- ---- a centre, one axis more

-- the coordinates that are drawn first from a state
abbrev pub first_drawn : ℕ → ℕ → ℕ → ℕ → Point
first_drawn d n s k = map (λ i. pos (draw s (0 * (d + 1) + i) % n)) (range_with_len 0 k)

pub first_more : (d n s k : ℕ) (p : Point) (v : ℤ) (x : ℕ) → k < length p → take k p ≡ first_drawn d n s k → x ≡ draw (drawn_state s k) 0 → v ≡ pos (x % n)
    → take (k + 1) (set p k v) ≡ first_drawn d n s (k + 1)
first_more d n s k p v x l h e is =
    let f : ℕ → ℤ = λ i. pos (draw s (0 * (d + 1) + i) % n) in
    let z : k + 0 ≡ 0 * (d + 1) + k = omega arith in
    let w : v ≡ f k = is ∙ ap (λ y. pos (y % n)) (e ∙ draw-add s k 0 ∙ ap (draw s) z) in
    take_more_set p k v l ∙ (λ i. h i ++ w i ∷ []) ∙ sym (map-range_with_len_more f 0 k k (omega arith))
