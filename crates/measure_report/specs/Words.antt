-- The words of a command line: what is made of a report, and the name of its file.
-- A further group of columns is one more word; a further thing that is made of a report, one more case.
use Rattle.std.specs.Prelude.{if◌then◌else◌, ℕ, Bool, ⊤, List, [], ◌∷◌, ◌++◌, codes, Option, Some, None, IfSome}
use Rattle.measure_terms.specs.Spacing.{IsSpacing, side_words}
use Rattle.measuring.specs.Spaced.{spacing_told}
use Rattle.measuring.specs.declared.spacing.Spacing.{Spacing}
use Rattle.measure_report.specs.declared.groups.Groups.{Groups}
use Rattle.measure_report.specs.declared.wanted.Wanted.{Wanted}
use Rattle.measure_report.specs.declared.wanted.Wanted.TheVariants.{Table, Whole}

-- a word where it is asked for
abbrev pub word_where : Bool → List ℕ → List (List ℕ)
word_where asked word = if asked then word ∷ [] else []

-- the words of a spacing
abbrev pub spacing_words : Option Spacing → List (List ℕ)
spacing_words None = []
spacing_words (Some s) = codes "spacing" ∷ side_words (spacing_told s)

-- the words of the groups that are asked for
abbrev pub group_words : Groups → List (List ℕ)
group_words g = word_where g.moments (codes "moments") ++ (word_where g.thickness (codes "thickness") ++ spacing_words g.spacing)

-- the words that ask for something
abbrev pub wanted_words : Wanted → List (List ℕ)
wanted_words (Table g) = group_words g
wanted_words Whole = codes "whole" ∷ []

-- each side of a spacing is a number from 1 to the greatest
abbrev pub HasSides : Option Spacing → Type 0
HasSides o = IfSome o (λ s. IsSpacing (spacing_told s))

abbrev pub IsAsked : Wanted → Type 0
IsAsked (Table g) = HasSides g.spacing
IsAsked Whole = ⊤

-- and behind them the name of a report's file
abbrev pub asking : Wanted → List ℕ → List (List ℕ)
asking w name = wanted_words w ++ (name ∷ [])
