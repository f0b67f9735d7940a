-- Shelves: end rules by name.
-- What stands for a rule is left open here: its three functions, or a program's object.
use Rattle.std.specs.Prelude.{◌≢◌, ℕ, ◌≤◌, List, length, map, AllPairs}

-- a rule and its name
pub record Named (R : Type 0) : Type 0 where
  pub name : List ℕ
  pub rule : R

-- the names on a shelf
abbrev pub names_of : {R : Type 0} → List (Named R) → List (List ℕ)
names_of shelf = map (λ e. e.name) shelf

-- the rules on a shelf
abbrev pub rules_of : {R : Type 0} → List (Named R) → List R
rules_of shelf = map (λ e. e.rule) shelf

-- from 1 to 64 names, all distinct
pub record AreNames (names : List (List ℕ)) : Type 0 where
  pub some : 1 ≤ length names
  pub few : length names ≤ 64
  pub distinct : AllPairs (λ v w. v ≢ w) names
