-- The first values of a picture are known, and some more become so.
-- Over plain variables; it knows neither forms nor bytes.
use Rattle.std.proofs.Common.{◌≡◌, ℕ, suc, ◌+◌, ◌-◌, ◌*◌, ◌<◌, ◌≤◌, Bool, true, false, cond, List, [], ◌∷◌, ◌++◌, length, get_or, set, take, replicate, refl}
use Rattle.std.proofs.Common.{sym, ap, ◌∙◌, arith}
use Rattle.std.proofs.lemmas.List.{append_assoc, append-nil, length-append, length-take-le, replicate-append-replicate, set_at, take-replicate}
use Rattle.std.proofs.lemmas.Grind.{take_at_read}
use Rattle.shape_terms.specs.Points.{box_count}
use Rattle.shape_terms.specs.Pictures.{Picture, blank}
use Rattle.shape_picture.specs.Raster.{FirstValues}
use Rattle.shape_picture.proofs.Grammar.{times_one}

-- ---- one value more

-- the values once one more is read
abbrev pub put_value : List Bool → ℕ → Bool → List Bool
put_value values n b = cond b (set values n true) values

pub values_next : (known values : List Bool) (n t : ℕ) (b : Bool) → values ≡ known ++ replicate (t - n) false → length known ≡ n → n < t
    → put_value values n b ≡ (known ++ b ∷ []) ++ replicate (t - (n + 1)) false
values_next known values n t b e l m =
    let k : t - n ≡ suc (t - (n + 1)) = omega arith in
    by_value b (e ∙ ap (λ (i : ℕ). known ++ replicate i false) k)
  where
    rest : List Bool
    rest = replicate (t - (n + 1)) false

    by_value : (b : Bool) → values ≡ known ++ false ∷ rest → put_value values n b ≡ (known ++ b ∷ []) ++ rest
    by_value true e = rw (e, set_at known false rest true n l, append_assoc known (true ∷ []) rest) refl
    by_value false e = e ∙ sym (append_assoc known (false ∷ []) rest)

-- the next of some more values
pub value_next : (known more values : List Bool) (n i t : ℕ) → values ≡ (known ++ take i more) ++ replicate (t - (n + i)) false → length known ≡ n
    → i < length more → n + i < t → put_value values (n + i) (get_or more i false) ≡ (known ++ take (i + 1) more) ++ replicate (t - (n + (i + 1))) false
value_next known more values n i t e l m r =
    let b = get_or more i false in
    let k : length (known ++ take i more) ≡ n + i = omega (arith, length-append known (take i more), length-take-le i more (omega arith)) in
    let s : t - ((n + i) + 1) ≡ t - (n + (i + 1)) = omega arith in
    values_next (known ++ take i more) values (n + i) t b e k r
    ∙ ap (λ (l : List Bool). l ++ replicate (t - ((n + i) + 1)) false)
    (append_assoc known (take i more) (b ∷ []) ∙ ap (λ (l : List Bool). known ++ l) (sym (take_at_read more i false m).1))
    ∙ ap (λ (j : ℕ). (known ++ take (i + 1) more) ++ replicate j false) s

-- the next of them are background
pub values_blank : (known values : List Bool) (n m p t : ℕ) → values ≡ known ++ replicate (t - n) false → p ≤ m → n + p ≤ t
    → values ≡ (known ++ take p (replicate m false)) ++ replicate (t - (n + p)) false
values_blank known values n m p t e few room =
    let s : t - n ≡ p + (t - (n + p)) = omega arith in
    e ∙ ap (λ (i : ℕ). known ++ replicate i false) s
    ∙ ap (λ (l : List Bool). known ++ l) (sym (replicate-append-replicate p (t - (n + p)) false))
    ∙ sym (append_assoc known (replicate p false) (replicate (t - (n + p)) false))
    ∙ ap (λ (l : List Bool). (known ++ l) ++ replicate (t - (n + p)) false) (sym (take-replicate p m false few))

-- ---- the picture

-- no value is known
pub first_start : (X : Picture) (n : List ℕ) (w h : ℕ) → X ≡ blank n → n ≡ w ∷ h ∷ [] → 0 < w * h → FirstValues X w h 0 []
first_start X n w h e s l = record {
  sides = ap (λ (X : Picture). X.sides) e ∙ s;
  fewer = l;
  count = refl;
  values = ap (λ (X : Picture). X.values) e ∙ ap (λ (i : ℕ). replicate i false) (ap box_count s ∙ (let q : w * (h * 1) ≡ w * h - 0 = grind arith in q));
}

-- how many values there are in all
pub total_is : {w h n : ℕ} {known : List Bool} (X : Picture) → FirstValues X w h n known → box_count X.sides ≡ w * h
total_is {w} {h} X f = ap box_count f.sides ∙ times_one w h

module _ (X Y : Picture) (w h n m : ℕ) (known more : List Bool) (f : FirstValues X w h n known) (sides : Y.sides ≡ X.sides)
    (values : Y.values ≡ (known ++ more) ++ replicate (w * h - m) false) (count : m ≡ n + length more) where
  -- some more are known, and not all
  pub first_next : m < w * h → FirstValues Y w h m (known ++ more)
  first_next l = record { sides = sides ∙ f.sides; fewer = l; count = omega (arith, length-append known more, f.count, count); values = values }

  -- all are known
  pub first_whole : m ≡ w * h → (Y.values ≡ known ++ more) × (length Y.values ≡ box_count Y.sides)
  first_whole l =
      let z : w * h - m ≡ 0 = omega arith in
      let e : Y.values ≡ known ++ more = values ∙ ap (λ (i : ℕ). (known ++ more) ++ replicate i false) z ∙ append-nil (known ++ more) in
      let b : box_count Y.sides ≡ w * h = ap box_count (sides ∙ f.sides) ∙ times_one w h in
      (e, omega (arith, ap length e, length-append known more, f.count, count, b))
