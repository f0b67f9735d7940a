-- The words of a command line ask for one thing, of one file.
-- Laws of lists alone.
use Rattle.std.proofs.Common.{◌≡◌, ◌≢◌, ℕ, ◌<◌, ◌^◌, Bool, true, false, List, [], ◌∷◌, ◌++◌, refl, ap, sym, ◌∙◌, subst, arith, length, get_or}
use Rattle.std.proofs.Props.{props}
use mathlib.Core.HLevel.{is_prop→PathP}
use Rattle.std.specs.Prelude.{codes, Option, Some, None, MatchOption, IsTrue}
use Rattle.measure_terms.specs.Spacing as Terms
use Rattle.measure_terms.specs.Spacing.{IsSpacing}
use Rattle.std.specs.Fmt.{decimal}
use Rattle.std.proofs.lemmas.Fmt.{decimal_injective}
use Rattle.measuring.specs.Spaced.{spacing_told}
use Rattle.measuring.specs.declared.spacing.Spacing.{Spacing}
use Rattle.measure_report.specs.Words.{word_where, spacing_words, wanted_words, asking, HasSides, IsAsked}
use Rattle.measure_report.specs.declared.groups.Groups.{Groups}
use Rattle.measure_report.specs.declared.wanted.Wanted.{Wanted}
use Rattle.measure_report.specs.declared.wanted.Wanted.TheVariants.{Table, Whole}

-- what words ask for, and the file
pub record SameAsked (v w : Wanted) (name other : List ℕ) : Type 0 where
  pub wanted : v ≡ w
  pub names : name ≡ other

first_of : {x y : List ℕ} {xs ys : List (List ℕ)} → x ∷ xs ≡ y ∷ ys → x ≡ y
first_of e = cc

rest_of : {x y : List ℕ} {xs ys : List (List ℕ)} → x ∷ xs ≡ y ∷ ys → xs ≡ ys
rest_of e = cc

-- no list of words begins with this one
abbrev pub Lacks : List ℕ → List (List ℕ) → Type 0
Lacks word words = (rest : List (List ℕ)) → words ≢ word ∷ rest

-- ---- the first word

pub record SameFirst (m n : Bool) (r q : List (List ℕ)) : Type 0 where
  pub asked : m ≡ n
  pub rest : r ≡ q

pub same_first : (word : List ℕ) (m n : Bool) (r q : List (List ℕ)) → (m ≡ false → Lacks word r) → (n ≡ false → Lacks word q)
    → word_where m word ++ r ≡ word_where n word ++ q → SameFirst m n r q
same_first word true true r q a b e = record { asked = refl; rest = rest_of e }
same_first word false false r q a b e = record { asked = refl; rest = e }
same_first word true false r q a b e = absurd (b refl r (sym e))
same_first word false true r q a b e = absurd (a refl q e)

-- ---- spacings

same_side : (m n : ℕ) → m < 2 ^ 64 → n < 2 ^ 64 → decimal m ≡ decimal n → m ≡ n
same_side m n = decimal_injective m n

pub same_spacing : (o p : Option Spacing) → HasSides o → HasSides p → spacing_words o ≡ spacing_words p → o ≡ p
same_spacing None None a b e = refl
same_spacing None (Some t) a b e = absurd (let l : 0 ≡ 4 = ap length e in omega (arith, l))
same_spacing (Some s) None a b e = absurd (let l : 4 ≡ 0 = ap length e in omega (arith, l))
same_spacing (Some s) (Some t) a b e =
    let xs = rest_of e in
    let ys = rest_of xs in
    let zs = rest_of ys in
    let x = decimal_injective s.x t.x (let l = a.along_x.most in omega (arith, l)) (let l = b.along_x.most in omega (arith, l)) (first_of xs) in
    let y = decimal_injective s.y t.y (let l = a.along_y.most in omega (arith, l)) (let l = b.along_y.most in omega (arith, l)) (first_of ys) in
    let z = decimal_injective s.z t.z (let l = a.along_z.most in omega (arith, l)) (let l = b.along_z.most in omega (arith, l)) (first_of zs) in
    λ i. Some (record {
      x = x i;
      y = y i;
      z = z i;
      sides = is_prop→PathP (λ j. IsSpacing (record { x = x j; y = y j; z = z j })) (λ j. hlevel props) s.sides t.sides i;
    })

-- ---- words of other groups

pub spacing_lacks : (o : Option Spacing) → Lacks (codes "thickness") (spacing_words o)
spacing_lacks None rest e = cc
spacing_lacks (Some s) rest e = let l : 7 ≡ 9 = ap length (first_of e) in omega (arith, l)

no_moments : (o : Option Spacing) → Lacks (codes "moments") (spacing_words o)
no_moments None rest e = cc
no_moments (Some s) rest e = let l : 115 ≡ 109 = ap (λ (cs : List ℕ). get_or cs 0 0) (first_of e) in omega (arith, l)

pub thickness_lacks : (t : Bool) (o : Option Spacing) → Lacks (codes "moments") (word_where t (codes "thickness") ++ spacing_words o)
thickness_lacks true o rest e = let l : 9 ≡ 7 = ap length (first_of e) in omega (arith, l)
thickness_lacks false o rest e = no_moments o rest e

-- the word `whole` is that of no group
pub not_whole : (m t : Bool) (o : Option Spacing) → word_where m (codes "moments") ++ (word_where t (codes "thickness") ++ spacing_words o) ≡ codes "whole" ∷ []
    → ⊥
not_whole true t o e = let l : 7 ≡ 5 = ap length (first_of e) in omega (arith, l)
not_whole false true o e = let l : 9 ≡ 5 = ap length (first_of e) in omega (arith, l)
not_whole false false None e = cc
not_whole false false (Some s) e = let l : 4 ≡ 1 = ap length e in omega (arith, l)

-- ---- all words

same_groups : (g h : Groups) → g.moments ≡ h.moments → g.thickness ≡ h.thickness → g.spacing ≡ h.spacing → g ≡ h
same_groups g h m t s = λ i. record { moments = m i; thickness = t i; spacing = s i }

pub same_wanted : (v w : Wanted) → IsAsked v → IsAsked w → wanted_words v ≡ wanted_words w → v ≡ w
same_wanted (Table g) (Table h) a b e =
    let m = same_first (codes "moments") g.moments h.moments (word_where g.thickness (codes "thickness") ++ spacing_words g.spacing)
    (word_where h.thickness (codes "thickness") ++ spacing_words h.spacing)
    (λ n. thickness_lacks g.thickness g.spacing) (λ n. thickness_lacks h.thickness h.spacing) e in
    let t = same_first (codes "thickness") g.thickness h.thickness (spacing_words g.spacing) (spacing_words h.spacing) (λ n. spacing_lacks g.spacing)
    (λ n. spacing_lacks h.spacing) m.rest in
    ap Table (same_groups g h m.asked t.asked (same_spacing g.spacing h.spacing a b t.rest))
same_wanted (Table g) Whole a b e = absurd (not_whole g.moments g.thickness g.spacing e)
same_wanted Whole (Table h) a b e = absurd (not_whole h.moments h.thickness h.spacing (sym e))
same_wanted Whole Whole a b e = refl

-- lists with one more word last
pub record SameLast (xs ys : List (List ℕ)) (x y : List ℕ) : Type 0 where
  pub front : xs ≡ ys
  pub last : x ≡ y

longer : (x : List ℕ) (xs : List (List ℕ)) (y : List ℕ) → [] ≡ xs ++ (y ∷ []) → ⊥
longer x [] y e = cc
longer x (z ∷ xs) y e = cc

pub same_last : (xs ys : List (List ℕ)) (x y : List ℕ) → xs ++ (x ∷ []) ≡ ys ++ (y ∷ []) → SameLast xs ys x y
same_last [] [] x y e = record { front = refl; last = first_of e }
same_last [] (b ∷ ys) x y e = absurd (longer x ys y (rest_of e))
same_last (a ∷ xs) [] x y e = absurd (longer y xs x (sym (rest_of e)))
same_last (a ∷ xs) (b ∷ ys) x y e =
    let s = same_last xs ys x y (rest_of e) in
    let h : a ≡ b = first_of e in
    record { front = λ i. h i ∷ s.front i; last = s.last }

pub same_asked : (v w : Wanted) (name other : List ℕ) → IsAsked v → IsAsked w → asking v name ≡ asking w other → SameAsked v w name other
same_asked v w name other a b e =
    let s = same_last (wanted_words v) (wanted_words w) name other e in
    record { wanted = same_wanted v w a b s.front; names = s.last }

-- ---- what is read

pub not_both : (b : Bool) → b ≡ false → IsTrue b → ⊥
not_both b e t = cc

not_spelled : (word x y z : List ℕ) → ((s : Terms.Spacing) → Terms.IsSpacing s → x ∷ y ∷ z ∷ [] ≢ Terms.side_words s) → (o : Option Spacing) → HasSides o
    → word ∷ x ∷ y ∷ z ∷ [] ≢ spacing_words o
not_spelled word x y z h None side e = let l : 4 ≡ 0 = ap length e in omega (arith, l)
not_spelled word x y z h (Some s) side e = h (spacing_told s) side (rest_of e)

-- what three words spell is what they spell behind the word
pub spelled_so : (r : Option Spacing) (word x y z : List ℕ) → word ≡ codes "spacing"
    → MatchOption r ((s : Terms.Spacing) → Terms.IsSpacing s → x ∷ y ∷ z ∷ [] ≢ Terms.side_words s)
    (λ s. Terms.IsSpacing (spacing_told s) × (x ∷ y ∷ z ∷ [] ≡ Terms.side_words (spacing_told s)))
    → MatchOption r ((o : Option Spacing) → HasSides o → word ∷ x ∷ y ∷ z ∷ [] ≢ spacing_words o)
    (λ s. HasSides (Some s) × (word ∷ x ∷ y ∷ z ∷ [] ≡ spacing_words (Some s)))
spelled_so None word x y z w h = λ o side e. not_spelled word x y z h o side e
spelled_so (Some s) word x y z w h = (h.0, λ i. w i ∷ h.1 i)

-- four words of which the first is another one ask for no spacing
pub other_word : (word x y z : List ℕ) → (word ≡ codes "spacing" → ⊥) → (o : Option Spacing) → HasSides o → word ∷ x ∷ y ∷ z ∷ [] ≢ spacing_words o
other_word word x y z other None side e = let l : 4 ≡ 0 = ap length e in omega (arith, l)
other_word word x y z other (Some s) side e = other (first_of e)

-- words that ask for no spacing behind the words of groups ask for nothing
pub none_asked : (m t : Bool) (words behind last : List (List ℕ)) → words ≡ word_where m (codes "moments") ++ behind
    → (m ≡ false → Lacks (codes "moments") words)
    → behind ≡ word_where t (codes "thickness") ++ last → (t ≡ false → Lacks (codes "thickness") behind)
    → (words ≡ codes "whole" ∷ [] → ⊥) → ((o : Option Spacing) → HasSides o → last ≢ spacing_words o) → (w : Wanted) → IsAsked w → words ≢ wanted_words w
none_asked m t words behind last a b c d whole none Whole asked e = whole e
none_asked m t words behind last a b c d whole none (Table g) asked e =
    let first = same_first (codes "moments") m g.moments behind (word_where g.thickness (codes "thickness") ++ spacing_words g.spacing)
    (λ n. subst (Lacks (codes "moments")) (a ∙ ap (λ f. word_where f (codes "moments") ++ behind) n) (b n)) (λ n. thickness_lacks g.thickness g.spacing)
    (sym a ∙ e) in
    let second = same_first (codes "thickness") t g.thickness last (spacing_words g.spacing)
    (λ n. subst (Lacks (codes "thickness")) (c ∙ ap (λ f. word_where f (codes "thickness") ++ last) n) (d n)) (λ n. spacing_lacks g.spacing)
    (sym c ∙ first.rest) in
    none g.spacing asked second.rest
