-- No words are those of a command and of a product, or of two products.
-- That the first words differ is found by computing.
use Rattle.std.proofs.Common.{◌≡◌, ℕ, List, ◌∷◌, None, Some, get_or, refl, ap, sym, ◌∙◌, arith}
use Rattle.shape_cli.specs.Commands.{Asked, First, begin_with, first_of, first_word, words_of}
use Rattle.shape.specs.Products.{product_word}
use Rattle.shape.specs.declared.product.Product.{Product}
use Rattle.shape.specs.declared.product.Product.TheVariants as product

-- the words of a command begin as one, and those of a product do not
begins : (f : First) → begin_with (first_word f) ≡ Some f
begins f = grind arith

begins_none : (p : Product) → begin_with (product_word p) ≡ None
begins_none product.Drawing = refl
begins_none product.Table = refl
begins_none product.Mask = refl

pub no_command : (p : Product) (rest : List (List ℕ)) (c : Asked) → product_word p ∷ rest ≡ words_of c → ⊥
no_command p rest c e =
    let w : product_word p ≡ first_word (first_of c) = cc in
    let s = sym (begins_none p) ∙ ap begin_with w ∙ begins (first_of c) in
    cc

letters : (v w : List ℕ) → v ≡ w → (get_or v 0 0 ≡ get_or w 0 0) × (get_or v 1 0 ≡ get_or w 1 0)
letters v w e = (ap (λ (l : List ℕ). get_or l 0 0) e, ap (λ (l : List ℕ). get_or l 1 0) e)

pub same_product : (p q : Product) → product_word p ≡ product_word q → p ≡ q
same_product product.Drawing product.Drawing e = refl
same_product product.Table product.Table e = refl
same_product product.Mask product.Mask e = refl
same_product product.Drawing product.Table e = absurd (let n = letters (product_word product.Drawing) (product_word product.Table) e in omega arith)
same_product product.Drawing product.Mask e = absurd (let n = letters (product_word product.Drawing) (product_word product.Mask) e in omega arith)
same_product product.Table product.Drawing e = absurd (let n = letters (product_word product.Table) (product_word product.Drawing) e in omega arith)
same_product product.Table product.Mask e = absurd (let n = letters (product_word product.Table) (product_word product.Mask) e in omega arith)
same_product product.Mask product.Drawing e = absurd (let n = letters (product_word product.Mask) (product_word product.Drawing) e in omega arith)
same_product product.Mask product.Table e = absurd (let n = letters (product_word product.Mask) (product_word product.Table) e in omega arith)
