-- A list of entries that loses or gains one rule, and the place of a word in a list.
-- Laws over any lists; no program occurs here but for what an entry is.
use Rattle.std.proofs.Common.{◌≡◌, ◌<◌, ℕ, zero, suc, List, [], ◌∷◌, length, map, get_or, Some, refl, sym, ◌∙◌, ap, arith}
use Rattle.std.specs.Prelude.{Contains, slice_get, slice_set}
use Rattle.shape_rules.specs.Names.{word_of}
use Rattle.shape_terms.specs.Shelves.{Named, names_of, rules_of}
use Rattle.shape_rules.specs.Lending.{with_rule}
use Rattle.shape_rules.specs.Entries.{named}
use Rattle.shape_rules.specs.declared.shelf.Entry.{Entry}

-- the entry at i, seen through two maps, is found at i
pub found_at : {A B W : Type 0} (f : B → W) (g : A → B) (xs : List A) (i : ℕ) (x : A) → i < length xs → x ≡ get_or xs i x
    → slice_get (map f (map g xs)) i ≡ Some (f (g x))
found_at f g (y ∷ xs) zero x l e = ap (λ z. Some (f (g z))) (sym e)
found_at f g (y ∷ xs) (suc i) x l e = found_at f g xs i x (omega arith) e
found_at f g [] i x l e = absurd (omega arith)

-- a word that stands at no place is not contained
pub nowhere : {A B W : Type 0} (f : B → W) (g : A → B) (xs : List A) (w : W)
    → ((j : ℕ) → j < length xs → (d : A) → f (g (get_or xs j d)) ≡ w → ⊥) → Contains (map f (map g xs)) w → ⊥
nowhere f g [] w none (j, l, e) = absurd (omega arith)
nowhere f g (x ∷ xs) w none (zero, l, e) = none 0 (omega arith) x e
nowhere f g (x ∷ xs) w none (suc j, l, e) = nowhere f g xs w (λ k m d q. none (suc k) (omega arith) d q) (j, omega arith, e)

-- an entry that keeps its name changes no name and no other entry
pub rule_set : {R : Type 0} (es : List (Entry R)) (i : ℕ) (e : Entry R) (w : R) → e ≡ get_or es i e
    → map named (slice_set es i (record { name = e.name; rule = w })) ≡ with_rule (map named es) i w
rule_set [] i e w h = refl
rule_set (x ∷ es) zero e w h = ap (λ z. record { name = word_of z.name; rule = w } ∷ map named es) h
rule_set (x ∷ es) (suc i) e w h = ap (λ z. named x ∷ z) (rule_set es i e w h)

-- another rule in an entry leaves what a reading of the entries finds, where it reads as much in both rules
pub kept_by : {R X : Type 0} (f : Named R → X) (shelf : List (Named R)) (i : ℕ) (r w : R) → slice_get (rules_of shelf) i ≡ Some r
    → ((n : List ℕ) → f (record { name = n; rule = w }) ≡ f (record { name = n; rule = r })) → map f (with_rule shelf i w) ≡ map f shelf
kept_by f [] i r w e h = refl
kept_by f (x ∷ es) zero r w e h =
    let is : x.rule ≡ r = cc in
    ap (λ z. z ∷ map f es) (h x.name ∙ ap (λ q. f (record { name = x.name; rule = q })) (sym is))
kept_by f (x ∷ es) (suc i) r w e h = ap (λ z. f x ∷ z) (kept_by f es i r w e h)

-- and it leaves the names
pub names_kept : {R : Type 0} (shelf : List (Named R)) (i : ℕ) (w : R) → names_of (with_rule shelf i w) ≡ names_of shelf
names_kept [] i w = refl
names_kept (e ∷ es) zero w = refl
names_kept (e ∷ es) (suc i) w = ap (λ z. e.name ∷ z) (names_kept es i w)
