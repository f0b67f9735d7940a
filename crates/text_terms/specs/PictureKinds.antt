-- The word that tells in a report which kind of picture it is about.
-- A further kind of picture is a further word.
use Rattle.std.specs.Prelude.{ℕ, zero, suc, List, codes}

-- the word for pictures with so many axes
abbrev pub kind_word : ℕ → List ℕ
kind_word (suc (suc zero)) = codes "pbm"
kind_word _ = codes "raw"
