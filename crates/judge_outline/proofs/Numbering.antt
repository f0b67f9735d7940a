-- Points and numbers that are listed once each: how many there may be, and one more of them.
-- Laws over pictures and lists.
use Rattle.std.proofs.Common.{◌≡◌, ◌≢◌, ℕ, ◌<◌, ◌≤◌, true, false, ap, sym, ◌∙◌, subst, arith, inl, inr, List, [], ◌∷◌, ◌++◌, length, get_or, map}
use Rattle.std.specs.Prelude.{◌↔◌, ◌⊎◌, IsTrue, AllPairs, Contains, slice_set}
use Rattle.std.proofs.lemmas.Bool.{cases_lt, and_parts}
use Rattle.std.proofs.lemmas.List.{length-append, length-map}
use Rattle.std.proofs.lemmas.List.Elements.{Contains-get_or, Contains-push, Contains-push_cases, Contains-append_left}
use Rattle.std.proofs.lemmas.List.Quantifiers.{all_pairs_push}
use Rattle.shape_terms.specs.Points.{Point, in_box, box_count, raster_number, raster_point}
use Rattle.shape_terms.specs.Pictures.{Picture, at, with_value}
use Rattle.shape_terms.proofs.Boxes.{raster_below, raster_point_in, raster_point-raster_number, raster_number-raster_point}
use Rattle.shape_terms.proofs.Members.{Contains-map}
use Rattle.shape_terms.proofs.Pigeon.{pigeon}
use Rattle.shape_terms.proofs.PointLists.{no_more}
use Rattle.shape_terms.proofs.SameCycles.{in_none}
use Rattle.judge_outline.specs.Exposure.{AreMarked}
use Rattle.judge_outline.specs.Listings.{AreNumbered, HasRoomFor, AreNumberedOf}
use Rattle.judge_outline.proofs.Marking.{AreMarkedFrom, same_number, with_one}

-- ---- lists without two equal elements

-- one element has one place
one_place : {A : Type 0} (xs : List A) → AllPairs (λ x y. x ≢ y) xs → (d : A) (i j : ℕ) → i < length xs → j < length xs → get_or xs i d ≡ get_or xs j d → i ≡ j
one_place xs apart d i j l m e = elim (cases_lt i j) [
  | inl a ↦ absurd (apart i j d a m e)
  | inr b ↦ elim (cases_lt j i) [ inl a ↦ absurd (apart j i d a l (sym e)) | inr c ↦ omega arith ]
]

pub apart_push : {A : Type 0} (xs : List A) (y : A) → AllPairs (λ x z. x ≢ z) xs → (Contains xs y → ⊥) → AllPairs (λ x z. x ≢ z) (xs ++ y ∷ [])
apart_push xs y apart new = all_pairs_push (λ x z. x ≢ z) xs y apart (λ k d l e. new (subst (Contains xs) e (Contains-get_or xs k d l)))

-- no more points are listed than the box has
pub few_listed : (sides : List ℕ) (points : List Point) → ((p : Point) → Contains points p → IsTrue (in_box sides p)) → AllPairs (λ p q. p ≢ q) points
    → length points ≤ box_count sides
few_listed sides points inside apart =
    let in_place : (i : ℕ) → i < length points → IsTrue (in_box sides (get_or points i [])) = λ i l. inside (get_or points i []) (Contains-get_or points i [] l)
    in
    pigeon (box_count sides) (length points) (λ i. raster_number sides (get_or points i []))
    (λ i l. raster_below sides (get_or points i []) (in_place i l))
    (λ i j l m e. one_place points apart [] i j l m (same_number sides (get_or points i []) (get_or points j []) (in_place i l) (in_place j m) e))

-- an element of a list of the program's points, as a point
pub item_there : {A : Type 0} (f : A → Point) (xs : List A) (k : ℕ) (x : A) → k < length xs → x ≡ get_or xs k x → Contains (map f xs) (f x)
item_there f xs k x l e = Contains-map f xs x (k, l, sym e)

pub inside_push : (sides : List ℕ) (points : List Point) (p : Point) → ((q : Point) → Contains points q → IsTrue (in_box sides q)) → IsTrue (in_box sides p)
    → (q : Point) → Contains (points ++ p ∷ []) q → IsTrue (in_box sides q)
inside_push sides points p inside here q c =
    elim (Contains-push_cases points p q c) [ inl o ↦ inside q o | inr e ↦ subst (λ z. IsTrue (in_box sides z)) e here ]

-- ---- the numbers of marked points

-- none
pub numbered_none : (M : Picture) → AreMarked [] M → AreNumbered M []
numbered_none M h = record {
  apart = λ i j d l m. absurd (omega arith);
  below = λ n c. absurd (in_none n c);
  marked = λ n l. (λ a. absurd (in_none (raster_point M.sides n) ((h.each (raster_point M.sides n)).0 a)), λ c. absurd (in_none n c));
}

pub few_numbered : (M : Picture) (numbers : List ℕ) → AreNumbered M numbers → length numbers ≤ box_count M.sides
few_numbered M numbers h = pigeon (box_count M.sides) (length numbers) (λ i. get_or numbers i 0)
    (λ i l. h.below (get_or numbers i 0) (Contains-get_or numbers i 0 l)) (λ i j l m e. one_place numbers h.apart 0 i j l m e)

module _ (M : Picture) (numbers : List ℕ) (h : AreNumbered M numbers) where
  -- a marked point has its number among them
  pub number_there : (q : Point) → IsTrue (in_box M.sides q) → IsTrue (at M q) → Contains numbers (raster_number M.sides q)
  number_there q inside a = (h.marked (raster_number M.sides q) (raster_below M.sides q inside)).0 (ap (at M) (raster_point-raster_number M.sides q inside) ∙ a)

  -- the marked points are those with the numbers
  pub marked_numbers : AreMarkedFrom (map (raster_point M.sides) numbers) 0 M
  marked_numbers q a =
      let inside = (and_parts (in_box M.sides q) _ a).0 in
      subst (Contains (map (raster_point M.sides) numbers)) (raster_point-raster_number M.sides q inside)
      (Contains-map (raster_point M.sides) numbers (raster_number M.sides q) (number_there q inside a))

  module _ (i : ℕ) (l : i < box_count M.sides) where
    -- the point is marked already
    pub put_again : IsTrue (at M (raster_point M.sides i)) → (q : Point) → IsTrue (at M q) ↔ (IsTrue (at M q) ⊎ (raster_point M.sides i ≡ q))
    put_again here q = ((λ a. inl a), λ c. elim c [ inl a ↦ a | inr e ↦ subst (λ z. IsTrue (at M z)) e here ])

    module _ (filled : length M.values ≡ box_count M.sides) (M2 : Picture) (e : M2 ≡ record { sides = M.sides; values = slice_set M.values i true }) where
      is_one : M2 ≡ with_value M (raster_point M.sides i) true
      is_one = e ∙ (let n = sym (raster_number-raster_point M.sides i l) in λ k. record { sides = M.sides; values = slice_set M.values (n k) true })

      -- it is marked now
      pub put_new : (q : Point) → IsTrue (at M2 q) ↔ (IsTrue (at M q) ⊎ (raster_point M.sides i ≡ q))
      put_new q = subst (λ Y. IsTrue (at Y q) ↔ (IsTrue (at M q) ⊎ (raster_point M.sides i ≡ q))) (sym is_one)
          (with_one M (raster_point M.sides i) filled (raster_point_in M.sides i l) q)

      pub numbered_more : at M (raster_point M.sides i) ≡ false → AreNumbered M2 (numbers ++ i ∷ [])
      numbered_more new =
          let same : M2.sides ≡ M.sides = ap (λ (Y : Picture). Y.sides) e in
          record {
            apart = apart_push numbers i h.apart (λ c. (let f : true ≡ false = sym ((h.marked i l).1 c) ∙ new in cc));
            below = λ n c. elim (Contains-push_cases numbers i n c)
                [ inl o ↦ (let b = h.below n o in omega (arith, b, ap box_count same)) | inr s ↦ omega (arith, s, l, ap box_count same) ];
            marked = λ n m. put_marked n (omega (arith, m, ap box_count same)) (raster_point M2.sides n) (ap (λ s. raster_point s n) same);
          }
        where
          put_marked : (n : ℕ) → n < box_count M.sides → (q : Point) → q ≡ raster_point M.sides n → IsTrue (at M2 q) ↔ Contains (numbers ++ i ∷ []) n
          put_marked n m q s = (
            λ a. elim ((put_new q).0 a) [
              | inl o ↦ Contains-append_left numbers (i ∷ []) n ((h.marked n m).0 (ap (at M) (sym s) ∙ o))
              | inr t ↦
                  let k : i ≡ n = sym (raster_number-raster_point M.sides i l) ∙ ap (raster_number M.sides) (t ∙ s) ∙ raster_number-raster_point M.sides n m in
                  subst (Contains (numbers ++ i ∷ [])) k (Contains-push numbers i)
            ],
            λ c. (put_new q).1 (elim (Contains-push_cases numbers i n c) [
              | inl o ↦ inl (ap (at M) s ∙ (h.marked n m).1 o)
              | inr k ↦ inr (ap (raster_point M.sides) k ∙ sym s)
            ]),
          )

-- ---- the numbers of marked points that are object points of a picture

-- none
pub numbered_of_none : (X M : Picture) (room : ℕ) → AreMarked [] M → HasRoomFor X room → AreNumberedOf X M [] room
numbered_of_none X M room h r = record { numbered = numbered_none M h; within = λ q a. absurd (in_none q ((h.each q).0 a)); room_for = r }

module _ (X M : Picture) (numbers : List ℕ) (room : ℕ) (h : AreNumberedOf X M numbers room) where
  -- there is room for the number of an object point that is not marked
  pub room_more : (i : ℕ) → i < box_count M.sides → IsTrue (at X (raster_point M.sides i)) → at M (raster_point M.sides i) ≡ false → length numbers < room
  room_more i l here new =
      let r = h.room_for in
      let apart = apart_push numbers i h.numbered.apart (λ c. (let f : true ≡ false = sym ((h.numbered.marked i l).1 c) ∙ new in cc)) in
      let few = no_more (numbers ++ i ∷ []) (map (raster_number M.sides) r.among) apart (λ n c. elim (Contains-push_cases numbers i n c) [
        | inl o ↦ (let b = h.numbered.below n o in listed n b (h.within (raster_point M.sides n) ((h.numbered.marked n b).1 o)))
        | inr e ↦ subst (Contains (map (raster_number M.sides) r.among)) e (listed i l here)
      ]) in
      let fits = r.fits in
      omega (arith, few, fits, length-append numbers (i ∷ []), length-map r.among (raster_number M.sides))
    where
      listed : (n : ℕ) → n < box_count M.sides → IsTrue (at X (raster_point M.sides n)) → Contains (map (raster_number M.sides) h.room_for.among) n
      listed n b o =
          let r = h.room_for in
          subst (Contains (map (raster_number M.sides) r.among)) (raster_number-raster_point M.sides n b)
          (Contains-map (raster_number M.sides) r.among (raster_point M.sides n) (r.each (raster_point M.sides n) o))

  -- and one of them more is marked
  pub numbered_with : (i : ℕ) (M2 : Picture) (numbers2 : List ℕ) (room2 : ℕ) → IsTrue (at X (raster_point M.sides i)) → AreNumbered M2 numbers2
      → ((q : Point) → IsTrue (at M2 q) ↔ (IsTrue (at M q) ⊎ (raster_point M.sides i ≡ q))) → room2 ≡ room → AreNumberedOf X M2 numbers2 room2
  numbered_with i M2 numbers2 room2 here n put same = record {
    numbered = n;
    within = λ q a. elim ((put q).0 a) [ inl o ↦ h.within q o | inr e ↦ subst (λ z. IsTrue (at X z)) e here ];
    room_for = subst (HasRoomFor X) (sym same) h.room_for;
  }
