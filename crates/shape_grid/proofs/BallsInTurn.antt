-- The picture after some of its balls, one ball after another.
-- Laws over pictures alone.
use Rattle.std.proofs.Common.{◌≡◌, ◌+◌, ◌<◌, ℕ, zero, suc, Bool, false, cond, List, [], ◌∷◌, ◌++◌, map, length, get_or, refl, sym, ap, ◌∙◌, arith}
use Rattle.std.specs.Prelude.{fold}
use Rattle.std.specs.List.{range_with_len}
use Rattle.std.proofs.lemmas.List.{same_lists, get_or_default, length-map, get_or-map, get_or-replicate, length-replicate}
use Rattle.std.proofs.lemmas.List.Sums.{fold-append}
use Rattle.shape_terms.specs.Points.{Point, box_count, box_points, raster_point}
use Rattle.shape_terms.specs.Pictures.{Picture, blank}
use Rattle.shape_terms.proofs.BoxLists.{length-box_points, get_or-box_points}
use Rattle.shape_grid.specs.Balls.{ball_centre, ball_radius, ball_object, covers}
use Rattle.shape_grid.specs.Painting.{painted}
use Rattle.shape_grid.proofs.Spans.{length-painted, get_or-painted, painted_within}

-- ---- pictures of a test of points

-- the picture of a box with the value of f at each point
abbrev pub of_points : List ℕ → (Point → Bool) → Picture
of_points sides f = record { sides = sides; values = map f (box_points sides) }

get_or-of_points : (sides : List ℕ) (f : Point → Bool) (i : ℕ) (d : Bool) → i < box_count sides
    → get_or (map f (box_points sides)) i d ≡ f (raster_point sides i)
get_or-of_points sides f i d l = get_or-map f (box_points sides) i [] d (omega (arith, length-box_points sides)) ∙ ap f (get_or-box_points sides i [] l)

same_points : (X : Picture) (f : Point → Bool) → length X.values ≡ box_count X.sides
    → ((i : ℕ) → i < box_count X.sides → get_or X.values i false ≡ f (raster_point X.sides i)) → X ≡ of_points X.sides f
same_points X f filled h =
    let e : X.values ≡ map f (box_points X.sides) = same_lists X.values (map f (box_points X.sides))
    (filled ∙ sym (length-map (box_points X.sides) f ∙ length-box_points X.sides)) (λ k d l.
    let m : k < box_count X.sides = omega (arith, filled) in
    get_or_default X.values k d false l ∙ h k m ∙ sym (get_or-of_points X.sides f k d m)) in
    λ i. record { sides = X.sides; values = e i }

-- a ball on a picture
whole_ball : (sides : List ℕ) (f : Point → Bool) (c : Point) (r : ℕ) (v : Bool)
    → painted (of_points sides f) c r v 0 (box_count sides) ≡ of_points sides (λ p. cond (covers c r p) v (f p))
whole_ball sides f c r v =
    let X = of_points sides f in
    let n = box_count sides in
    same_points (painted X c r v 0 n) (λ p. cond (covers c r p) v (f p)) (length-painted c r v X 0 n) (λ i l.
    get_or-painted c r v X 0 n i l ∙ ap (λ b. cond b v (get_or X.values i false)) (painted_within c r v sides 0 n i (omega arith) l)
    ∙ ap (λ x. cond (covers c r (raster_point sides i)) v x) (get_or-of_points sides f i false l))

pub blank_points : (sides : List ℕ) → blank sides ≡ of_points sides (λ _. false)
blank_points sides = same_points (blank sides) (λ _. false) (length-replicate (box_count sides) false)
    (λ i l. get_or-replicate (box_count sides) i false false l)

-- ---- balls

range_more : (a n : ℕ) → range_with_len a (n + 1) ≡ range_with_len a n ++ (a + n) ∷ []
range_more a zero = let e : a + 0 ≡ a = omega arith in rw e refl
range_more a (suc n) =
    let e : a + suc n ≡ a + 1 + n = omega arith in
    let s : suc n + 1 ≡ suc (n + 1) = omega arith in
    rw (e, s) (ap (λ l. a ∷ l) (range_more (a + 1) n))

-- the value of a point after the first m balls
abbrev pub value_after : ℕ → ℕ → ℕ → ℕ → Point → Bool
value_after d n seed m p = fold (λ v k. cond (covers (ball_centre d n seed k) (ball_radius d n seed k) p) (ball_object k) v) false (range_with_len 0 m)

-- the picture after the first m balls
abbrev pub after_balls : ℕ → ℕ → ℕ → ℕ → Picture
after_balls d seed n m = of_points (map (λ _. n) (range_with_len 0 d)) (value_after d n seed m)

value_after-more : (d n seed m : ℕ) (p : Point) → cond (covers (ball_centre d n seed m) (ball_radius d n seed m) p) (ball_object m) (value_after d n seed m p)
    ≡ value_after d n seed (m + 1) p
value_after-more d n seed m p =
    let f : Bool → ℕ → Bool = λ v k. cond (covers (ball_centre d n seed k) (ball_radius d n seed k) p) (ball_object k) v in
    let z : 0 + m ≡ m = omega arith in
    sym (ap (fold f false) (range_more 0 m) ∙ fold-append f false (range_with_len 0 m) ((0 + m) ∷ []) ∙ ap (λ k. f (value_after d n seed m p) k) z)

-- one ball more
pub after_more : (d seed n m : ℕ) (c : Point) (r : ℕ) (v : Bool) → c ≡ ball_centre d n seed m → r ≡ ball_radius d n seed m → v ≡ ball_object m
    → (X Y : Picture) → X ≡ after_balls d seed n m → Y ≡ painted X c r v 0 (box_count X.sides) → Y ≡ after_balls d seed n (m + 1)
after_more d seed n m c r v ec er ev X Y ex ey =
    let sides = map (λ _. n) (range_with_len 0 d) in
    ey ∙ (λ i. painted (ex i) (ec i) (er i) (ev i) 0 (box_count (ex i).sides))
    ∙ whole_ball sides (value_after d n seed m) (ball_centre d n seed m) (ball_radius d n seed m) (ball_object m)
    ∙ (λ i. of_points sides (λ p. value_after-more d n seed m p i))
