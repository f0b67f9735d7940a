-- Words spell one source at most, also where other words follow.
-- Over what is spelled; how the program reads it stands in `Reading`.
use Rattle.std.proofs.Common.{◌≡◌, ℕ, List, ◌++◌, length, refl, ap, arith}
use Rattle.std.specs.Fmt.{decimal}
use Rattle.shape_cli.specs.Sources.{Source, HasSides, source_words}
use Rattle.shape_cli.proofs.SideWords.{same_sides}

-- one source, and the words behind those of it
pub record SameSource (s t : Source) (more more' : List (List ℕ)) : Type 0 where
  pub source : s ≡ t
  pub rest : more ≡ more'

pub same_source : (s t : Source) (more more' : List (List ℕ)) → length more ≡ length more' → HasSides s → HasSides t
    → source_words s ++ more ≡ source_words t ++ more' → SameSource s t more more'
same_source (Source.Pbm f) (Source.Pbm g) more more' l h k e = record { source = (let n : f ≡ g = cc in rw n refl); rest = cc }
same_source (Source.Raw a b c f) (Source.Raw x y z g) more more' l h k e =
    let i : decimal a ≡ decimal x = cc in
    let j : decimal b ≡ decimal y = cc in
    let m : decimal c ≡ decimal z = cc in
    let n : f ≡ g = cc in
    let o : more ≡ more' = cc in
    let s = same_sides a b c x y z h k i j m in
    record { source = rw (s.first, s.second, s.third, n) refl; rest = o }
same_source (Source.Pbm f) (Source.Raw x y z g) more more' l h k e = absurd (let n = ap length e in omega arith)
same_source (Source.Raw x y z g) (Source.Pbm f) more more' l h k e = absurd (let n = ap length e in omega arith)
