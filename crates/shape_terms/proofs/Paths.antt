-- Paths in a set: connectedness is an equivalence on its points.
-- Laws over any set and adjacency alone.
use Rattle.shape_terms.specs.Parts.{Connected}

pub starts_in : {A : Type 0} {R : A → A → Type 0} {Y : A → Type 0} {p q : A} → Connected R Y p q → Y p
starts_in (Connected.here y) = y
starts_in (Connected.onward y s c) = y

pub joined_to : {A : Type 0} {R : A → A → Type 0} {Y : A → Type 0} {p q r : A} → Connected R Y p q → Connected R Y q r → Connected R Y p r
joined_to (Connected.here y) d = d
joined_to (Connected.onward y s c) d = Connected.onward y s (joined_to c d)

pub turned_back : {A : Type 0} {R : A → A → Type 0} {Y : A → Type 0} {p q : A} → ((x y : A) → R x y → R y x) → Connected R Y p q → Connected R Y q p
turned_back f (Connected.here y) = Connected.here y
turned_back f (Connected.onward {p = p} {q = q} y s c) = joined_to (turned_back f c) (Connected.onward (starts_in c) (f p q s) (Connected.here y))

pub ends_in : {A : Type 0} {R : A → A → Type 0} {Y : A → Type 0} {p q : A} → Connected R Y p q → Y q
ends_in (Connected.here y) = y
ends_in (Connected.onward y s c) = ends_in c

-- a path in a set is one in each greater set
pub in_greater : {A : Type 0} {R : A → A → Type 0} {Y Z : A → Type 0} {p q : A} → ((x : A) → Y x → Z x) → Connected R Y p q → Connected R Z p q
in_greater {p = p} f (Connected.here y) = Connected.here (f p y)
in_greater f (Connected.onward {p = p} y s c) = Connected.onward (f p y) s (in_greater f c)
