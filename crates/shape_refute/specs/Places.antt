-- The places of a stretch of a round of points after the stretches before it.
-- What holds the points of a stretch stands in the terms.
use Rattle.std.specs.Prelude.{◌≡◌, ℕ, ◌+◌, ◌-◌, ◌<◌, ◌≤◌, List, [], ◌∷◌, ◌++◌, length, slice_get, slice_index_or, IfSome}
use Rattle.shape_terms.specs.Covers.{Stretch}
use Rattle.shape_refute.specs.declared.places.Places.{Places}

-- the stretch from place to place
abbrev pub stretch_of : Places → Stretch
stretch_of p = record { first = p.first; last = p.last }

-- the places of a stretch of a round of n points: the first is one of these, and the last less than one round on
pub record IsAround (n : ℕ) (s : Stretch) : Type 0 where
  pub begins : s.first < n
  pub short : s.last < s.first + n

-- the places rise after those before, go less than one round, and close the round with the last of m
pub record AreNextPlaces (n m : ℕ) (before : List Stretch) (b e : ℕ) : Type 0 where
  pub begins : b < n
  pub rises : b ≤ e
  pub short : e < b + n
  pub after : IfSome (slice_get before (length before - 1)) (λ s. (s.first < b) × (s.last < e))
  pub closes : length before + 1 ≡ m → e < (slice_index_or (before ++ record { first = b; last = e } ∷ []) 0 (record { first = b; last = e })).last + n
