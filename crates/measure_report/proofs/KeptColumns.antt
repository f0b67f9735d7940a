-- The columns of what is kept of Euler numbers and surfaces are those of the numbers, where each kept surface is that of the numbers beside it.
-- Lists of numbers and of bytes alone.
use Rattle.std.proofs.Common.{◌≡◌, ℕ, zero, suc, ◌+◌, ◌/◌, List, [], ◌∷◌, ◌++◌, map, get_or, refl, sym, ap, ◌∙◌, arith}
use Rattle.std.specs.Prelude.{codes, Option, Some, None, IfSome}
use Rattle.measure_terms.specs.Minkowski as Terms
use Rattle.measure_terms.specs.Spacing as Spaced
use Rattle.measure_terms.specs.SpacedSurface.{volume, step_weight, cuts, spaced_surface}
use Rattle.measure_terms.specs.Texts.{whole, signed, thousandths}
use Rattle.measuring.specs.Spaced.{spacing_told}
use Rattle.measuring.specs.declared.spacing.Spacing.{Spacing}
use Rattle.measuring.specs.MinkowskiTold.{told, all_told}
use Rattle.measuring.specs.declared.numbers.Minkowski.{Minkowski}
use Rattle.measure_report.specs.MinkowskiColumns.{no_minkowski, space_columns}
use Rattle.measure_report.specs.KeptSurfaces.{columns_by, kept_columns, surfaces_of}
use Rattle.measure_report.specs.declared.minkowski.SolidNumbers.{SolidNumbers}

-- an entry of a list of what is made of numbers, also past its end
entry : (f : Terms.Minkowski → ℕ) (ns : List Minkowski) (i : ℕ) → f no_minkowski ≡ 0
    → get_or (map (λ m. f (told m)) ns) i 0 ≡ f (get_or (all_told ns) i no_minkowski)
entry f [] i e = sym e
entry f (n ∷ ns) zero e = refl
entry f (n ∷ ns) (suc i) e = entry f ns i e

no_cuts : (weight : ℕ → ℕ) → cuts weight no_minkowski ≡ 0
no_cuts weight = omega arith

no_surface : (s : Spaced.Spacing) → spaced_surface s no_minkowski ≡ 0
no_surface s = ap (λ n. (n + 500000) / 1000000) (no_cuts (step_weight s))

kept_by : (o : Option Spacing) (c : SolidNumbers) → IfSome o (λ s. c.surfaces.items ≡ surfaces_of s c)
    → columns_by o c ≡ space_columns o c.areas.items (all_told c.numbers.items)
kept_by None c h = refl
kept_by (Some s) c h =
    let surface : (i : ℕ) → get_or c.surfaces.items i 0 ≡ spaced_surface (spacing_told s) (get_or (all_told c.numbers.items) i no_minkowski) =
    λ i. ap (λ ns. get_or ns i 0) h ∙ entry (spaced_surface (spacing_told s)) c.numbers.items i (no_surface (spacing_told s)) in
    λ z. record {
      names = codes ",euler,surface,volume";
      cells = λ i. signed (get_or (all_told c.numbers.items) i no_minkowski).euler
          ++ (thousandths (surface i z) ++ whole (volume (spacing_told s) (get_or c.areas.items i 0)));
    }

pub kept_is : (o : Option Spacing) (c : SolidNumbers) → c.spacing ≡ o → IfSome o (λ s. c.surfaces.items ≡ surfaces_of s c)
    → kept_columns c ≡ space_columns o c.areas.items (all_told c.numbers.items)
kept_is o c e h = ap (λ p. columns_by p c) e ∙ kept_by o c h
