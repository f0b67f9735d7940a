-- Two tables of the same rows, whose further columns have the same names and the same cells in these rows, are one text.
-- Lists of bytes alone.
use Rattle.std.proofs.Common.{◌≡◌, Bool, ℕ, ◌+◌, ◌<◌, refl, arith, List, [], ◌∷◌, ◌++◌, length}
use Rattle.std.specs.Prelude.{codes, nat_eq}
use Rattle.std.specs.Fmt.{decimal}
use Rattle.measure_terms.specs.Measures.{Measures}
use Rattle.measure_terms.specs.Texts.{Columns, cells, header, rows_text, table_text}

same_rows : (told : Bool) (d : ℕ) (some other : Columns) (i : ℕ) (ms : List Measures) → ((j : ℕ) → j < i + length ms → some.cells j ≡ other.cells j)
    → rows_text told d some i ms ≡ rows_text told d other i ms
same_rows told d some other i [] h = refl
same_rows told d some other i (m ∷ ms) h =
    let here = h i (omega arith) in
    let rest = same_rows told d some other (i + 1) ms (λ j l. h j (omega arith)) in
    λ k. (decimal (i + 1) ++ (cells told d m ++ (here k ++ codes "\n"))) ++ rest k

pub same_table : (told : Bool) (d : ℕ) (some other : Columns) (ms : List Measures) → some.names ≡ other.names
    → ((j : ℕ) → j < length ms → some.cells j ≡ other.cells j) → table_text told d some ms ≡ table_text told d other ms
same_table told d some other ms names h =
    let rows = same_rows told d some other 0 ms (λ j l. h j (omega arith)) in
    λ k. (header (nat_eq d 2) ++ (names k ++ codes "\n")) ++ rows k
