-- Bytes that are taken one by one from the picture's place.
use Rattle.std.specs.Prelude.{◌≡◌, ℕ, List, [], ◌∷◌, Option, None, Some, Result, Ok, Err}
use Rattle.shape_desk.specs.Desk.{Rose, Takes, IsEnd}

-- the next byte was taken from those left; or there is none, or the read failed, and nothing was taken
abbrev pub NextByte : {E : Type 0} → Option (List ℕ) → Option (List ℕ) → ℕ → ℕ → Result (Option ℕ) E → Type 0
NextByte old new before now (Ok (Some c)) = Takes old new (c ∷ [])
NextByte old new before now (Ok None) = (new ≡ old) × IsEnd new
NextByte old new before now (Err e) = (new ≡ old) × Rose before now
