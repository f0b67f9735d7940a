-- Where a row of coefficients has values along a run that differ by less than the main one, some line with that row holds the run.
-- Lists of points alone; which rows there are belongs elsewhere.
use Rattle.std.proofs.Common.{◌≡◌, inl, inr, ℕ, zero, suc, ◌<◌, List, [], ◌∷◌, length, subst, arith}
use Rattle.std.specs.Prelude.{ℤ, pos, ◌+ℤ◌, ◌-ℤ◌, ◌≤ℤ◌, ◌<ℤ◌}
use Rattle.std.proofs.lemmas.Int.{ints, by_lt_z}
use Rattle.std.proofs.lemmas.Bool.{cases_lt}
use Rattle.std.proofs.lemmas.List.Elements.{All-nil, All-from_get_or}
use Rattle.shape_terms.specs.Points.{Point, coordinate}
use Rattle.shape_terms.specs.Vectors.{dot}
use Rattle.shape_terms.specs.Naive.{Naive, IsProper, HoldsPoint, IsNaiveFor}
use Rattle.shape_terms.specs.Refutations.{point_at}

-- the first n + 1 values have a least one
least_value : (v : ℕ → ℤ) (n : ℕ) → (i : ℕ) × (i < suc n) × ((j : ℕ) → j < suc n → v i ≤ℤ v j)
least_value v zero = (0, omega arith, λ j h. let e : 0 ≡ j = omega arith in subst (λ (k : ℕ). v 0 ≤ℤ v k) e (omega (arith, ints)))
least_value v (suc n) =
    let r = least_value v n in
    let before = r.2 in
    by_lt_z (v (suc n)) (v r.0)
    (λ (less : v (suc n) <ℤ v r.0). (
      suc n,
      omega arith,
      λ j h. elim (cases_lt j (suc n)) [
        | inl k ↦ (let b = before j k in omega (arith, ints, less, b))
        | inr k ↦ (let e : suc n ≡ j = omega arith in subst (λ (k : ℕ). v (suc n) ≤ℤ v k) e (omega (arith, ints)))
      ],
    ))
    (λ (more : v r.0 ≤ℤ v (suc n)). (
      r.0,
      (let i = r.1 in omega (arith, i)),
      λ j h. elim (cases_lt j (suc n)) [
        | inl k ↦ before j k
        | inr k ↦ (let e : suc n ≡ j = omega arith in subst (λ (k : ℕ). v r.0 ≤ℤ v k) e more)
      ],
    ))

-- the values of the row at each two points of the run differ by less than the main coefficient
abbrev pub IsNarrow : ℕ → List Point → List ℤ → Type 0
IsNarrow t run a = (i j : ℕ) → i < length run → j < length run → (dot a (point_at run j) -ℤ dot a (point_at run i)) <ℤ coordinate a t

pub some_line : (t : ℕ) (run : List Point) (a : List ℤ) → IsProper t (record { a = a; mu = pos 0 }) → IsNarrow t run a
    → (mu : ℤ) × IsNaiveFor t run (record { a = a; mu = mu })
some_line t [] a proper narrow = (pos 0, record { proper = proper; holds = All-nil (HoldsPoint t (record { a = a; mu = pos 0 })) })
some_line t (p ∷ run) a proper narrow =
    let v : ℕ → ℤ = λ i. dot a (point_at (p ∷ run) i) in
    let r = least_value v (length run) in
    let n : Naive = record { a = a; mu = v r.0 } in
    let least = r.2 in (
      v r.0,
      record {
        proper = record { main = proper.main; others = proper.others };
        holds = All-from_get_or (HoldsPoint t n) (p ∷ run) [] (λ i h. record {
          low = least i h;
          high = above (v i) (v r.0) (coordinate a t) (narrow r.0 i r.1 h);
        });
      },
    )
  where
    above : (x y b : ℤ) → (x -ℤ y) <ℤ b → x <ℤ (y +ℤ b)
    above x y b h = omega (arith, ints, h)
