-- What a form reads, from what its words say; and lists that are read one value after another.
-- Laws for any form; which form a function reads stands in its clause.
use Rattle.std.proofs.Common.{◌≡◌, ℕ, suc, ◌+◌, ◌-◌, ◌<◌, ◌≤◌, Option, Some, None, List, [], ◌∷◌, ◌++◌, refl, ap, sym, ◌∙◌, arith, append_assoc, append-nil}
use Rattle.std.specs.Option.{option_map, option_and_then}
use Rattle.text_terms.specs.Forms.{Form, IsForm, read_times}
use Rattle.report_text.specs.Reading.{NoField, ReadsField, ReadsForm}

-- words that begin with no value in range are read as none
none_read : {V : Type 0} (f : Form V) → IsForm f → (words : List (List ℕ)) (o : Option (V × List (List ℕ))) → f.read words ≡ o → NoField f.InRange f.words words
    → o ≡ None
none_read f h words None e n = refl
none_read f h words (Some (v, rest)) e n = let p = h.only words v rest e in absurd (n v rest p.0 p.1)

-- what a form reads is known from what its values and their words are
pub as_form : {T V : Type 0} (seen : T → V) (f : Form V) → IsForm f → (old new : List (List ℕ)) (r : Option T) → ReadsField seen f.InRange f.words old new r
    → ReadsForm seen f old new r
as_form seen f h old new None n = none_read f h old (f.read old) refl n
as_form seen f h old new (Some x) b = ap f.read b.split ∙ h.again (seen x) new b.range

-- ---- lists

-- these values before those that are read
abbrev pub after_values : {V : Type 0} → List V → Option (List V × List (List ℕ)) → Option (List V × List (List ℕ))
after_values vs o = option_map (λ q. (vs ++ q.0, q.1)) o

-- this value before those that are read
abbrev pub after_value : {V : Type 0} → V → Option (List V × List (List ℕ)) → Option (List V × List (List ℕ))
after_value v o = option_map (λ q. (v ∷ q.0, q.1)) o

-- of n values, the first k were read, these ones
pub record HasRead {V : Type 0} (f : Form V) (n k : ℕ) (start words : List (List ℕ)) (vs : List V) : Type 0 where
  pub is : read_times n f.read start ≡ after_values vs (read_times (n - k) f.read words)

no_front : {V : Type 0} (o : Option (List V × List (List ℕ))) → o ≡ after_values [] o
no_front None = refl
no_front (Some q) = refl

one_front : {V : Type 0} (vs : List V) (v : V) (o : Option (List V × List (List ℕ))) → after_values vs (after_value v o) ≡ after_values (vs ++ v ∷ []) o
one_front vs v None = refl
one_front vs v (Some q) = ap (λ l. Some (l, q.1)) (sym (append_assoc vs (v ∷ []) q.0))

pub read_begun : {V : Type 0} (f : Form V) (n : ℕ) (words : List (List ℕ)) → HasRead f n 0 words words []
read_begun f n words = let e : n ≡ n - 0 = omega arith in
    record { is = no_front (read_times n f.read words) ∙ ap (λ m. after_values [] (read_times m f.read words)) e }

next_read : {V : Type 0} (f : Form V) (n k : ℕ) (words : List (List ℕ)) → k < n
    → read_times (n - k) f.read words ≡ option_and_then (λ p. after_value p.0 (read_times (n - (k + 1)) f.read p.1)) (f.read words)
next_read f n k words h = let e : n - k ≡ suc (n - (k + 1)) = omega (arith, h) in ap (λ m. read_times m f.read words) e

pub read_more : {V : Type 0} (f : Form V) (n k : ℕ) (start words left : List (List ℕ)) (vs : List V) (v : V) → k < n → HasRead f n k start words vs
    → f.read words ≡ Some (v, left) → HasRead f n (k + 1) start left (vs ++ v ∷ [])
read_more f n k start words left vs v h r e = record {
  is = r.is
      ∙ ap (after_values vs) (next_read f n k words h ∙ ap (option_and_then (λ p. after_value p.0 (read_times (n - (k + 1)) f.read p.1))) e)
      ∙ one_front vs v (read_times (n - (k + 1)) f.read left);
}

pub read_stops : {V : Type 0} (f : Form V) (n k : ℕ) (start words : List (List ℕ)) (vs : List V) → k < n → HasRead f n k start words vs → f.read words ≡ None
    → read_times n f.read start ≡ None
read_stops f n k start words vs h r e = r.is
    ∙ ap (after_values vs) (next_read f n k words h ∙ ap (option_and_then (λ p. after_value p.0 (read_times (n - (k + 1)) f.read p.1))) e)

pub read_whole : {V : Type 0} (f : Form V) (n k : ℕ) (start words : List (List ℕ)) (vs : List V) → n ≤ k → HasRead f n k start words vs
    → read_times n f.read start ≡ Some (vs, words)
read_whole f n k start words vs h r =
    let e : n - k ≡ 0 = omega (arith, h) in
    r.is ∙ ap (λ m. after_values vs (read_times m f.read words)) e ∙ ap (λ l. Some (l, words)) (append-nil vs)
