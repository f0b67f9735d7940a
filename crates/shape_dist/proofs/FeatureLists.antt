-- The features of a picture while they are listed, one object point at a time.
-- Laws over lists and pictures alone.
use Rattle.std.proofs.Common.{◌≡◌, ℕ, ◌+◌, ◌<◌, List, [], ◌∷◌, ◌++◌, length, map, get_or, refl, sym, ap, ◌∙◌, subst}
use Rattle.std.specs.Prelude.{Some, All, slice_get}
use Rattle.std.proofs.lemmas.Option.{slice_get_within, get_or_from_slice_get}
use Rattle.std.proofs.lemmas.List.{append_assoc, append-nil, length-map, get_or-map, map-append}
use Rattle.std.proofs.lemmas.List.Elements.{All-nil, All-cons, All-append}
use Rattle.shape_terms.specs.Points.{Point, raster_point, squared_distance}
use Rattle.shape_terms.specs.Pictures.{Picture, object_points, objects_from, Least}
use Rattle.shape_terms.specs.Distances.{NearFact, IsField, AreFeatures}

abbrev pub no_fact : NearFact
no_fact = record { p = []; q = []; s = 0 }

-- item i of a list that is made of another one
item_of : {A : Type 0} (f : NearFact → A) (facts : List NearFact) (xs : List A) (i : ℕ) (x : A) → map f facts ≡ xs → slice_get xs i ≡ Some x
    → (i < length facts) × (f (get_or facts i no_fact) ≡ x)
item_of f facts xs i x e h =
    let l : i < length facts = subst (λ n. i < n) (ap length (sym e) ∙ length-map facts f) (slice_get_within xs i x h) in
    (l, sym (get_or-map f facts i no_fact x l) ∙ ap (λ l. get_or l i x) e ∙ get_or_from_slice_get xs i x x h)

features_of : (X : Picture) (facts : List NearFact) → IsField X facts → AreFeatures X (map (λ f. f.q) facts)
features_of X facts h = record {
  many = length-map facts (λ (f : NearFact). f.q) ∙ sym (length-map facts (λ (f : NearFact). f.p)) ∙ ap length h.points;
  least = λ i p q a b.
      let at_p = item_of (λ f. f.p) facts (object_points X) i p h.points a in
      let at_q = item_of (λ f. f.q) facts (map (λ f. f.q) facts) i q refl b in
      let f = get_or facts i no_fact in
      let there : Least X f.p f.q f.s = h.least i no_fact at_p.0 in
      let s : f.s ≡ squared_distance p q = there.distance ∙ ap (λ p. squared_distance p f.q) at_p.1 ∙ ap (squared_distance p) at_q.1 in
      subst (Least X p q) s (subst (λ q. Least X p q f.s) at_q.1 (subst (λ p. Least X p f.q f.s) at_p.1 there));
}

-- the points are those of facts of the object points before a raster number
pub record AreFeaturesTo (X : Picture) (next : ℕ) (qs : List Point) : Type 0 where
  pub facts : List NearFact
  pub points : map (λ (f : NearFact). f.p) facts ++ objects_from X next ≡ object_points X
  pub least : All (λ (f : NearFact). Least X f.p f.q f.s) facts
  pub told : qs ≡ map (λ (f : NearFact). f.q) facts

pub no_features : (X : Picture) → AreFeaturesTo X 0 []
no_features X = record { facts = []; points = refl; least = All-nil (λ (f : NearFact). Least X f.p f.q f.s); told = refl }

pub one_more_feature : (X : Picture) (next i s : ℕ) (qs : List Point) (q : Point) → objects_from X next ≡ raster_point X.sides i ∷ objects_from X (i + 1)
    → Least X (raster_point X.sides i) q s → AreFeaturesTo X next qs → AreFeaturesTo X (i + 1) (qs ++ q ∷ [])
one_more_feature X next i s qs q is l h =
    let f : NearFact = record { p = raster_point X.sides i; q = q; s = s } in
    record {
      facts = h.facts ++ f ∷ [];
      points = rw (map-append (λ (f : NearFact). f.p) h.facts (f ∷ []))
          (append_assoc (map (λ (f : NearFact). f.p) h.facts) (f.p ∷ []) (objects_from X (i + 1)) ∙ (rw is at h.points));
      least = All-append (λ (f : NearFact). Least X f.p f.q f.s) h.facts (f ∷ []) h.least
          (All-cons (λ (f : NearFact). Least X f.p f.q f.s) f [] l (All-nil (λ (f : NearFact). Least X f.p f.q f.s)));
      told = ap (λ qs. qs ++ q ∷ []) h.told ∙ sym (map-append (λ (f : NearFact). f.q) h.facts (f ∷ []));
    }

pub all_features : (X : Picture) (next : ℕ) (qs : List Point) → objects_from X next ≡ [] → AreFeaturesTo X next qs → AreFeatures X qs
all_features X next qs none h =
    let facts : List NearFact = h.facts in
    let points : map (λ (f : NearFact). f.p) facts ≡ object_points X =
    sym (append-nil (map (λ (f : NearFact). f.p) facts)) ∙ ap (λ (l : List Point). map (λ (f : NearFact). f.p) facts ++ l) (sym none) ∙ h.points in
    subst (AreFeatures X) (sym h.told) (features_of X facts (record { points = points; least = h.least }))
