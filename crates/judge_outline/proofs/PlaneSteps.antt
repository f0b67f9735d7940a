-- What the judge keeps, when it takes a line of each kind, and what its tests of this say.
-- Laws over what the judge keeps; what lines claim after those that it stands for is told in `PlaneStandings`.
use Rattle.std.proofs.Common.{◌≡◌, ℕ, ◌+◌, ◌-◌, ◌<◌, ◌≤◌, Bool, false, ap, sym, ◌∙◌, refl, subst, arith, inl, inr, List, [], ◌∷◌, ◌++◌, length, drop, take, map}
use Rattle.std.specs.Prelude.{◌↔◌, Contains, IsTrue, not, ◌&&◌, nat_lt, filter, nat_eq, slice_index, ◌==◌}
use Rattle.std.proofs.lemmas.Bool.{cond-false, ne_eqb, cases_lt, ltb-true}
use native.Mathlib.Decide.{ℕ_discrete}
use Rattle.shape_terms.proofs.Boxes.{raster_below, raster_number-raster_point, raster_point-raster_number}
use Rattle.std.specs.Ordering.{int_eq}
use Rattle.std.proofs.lemmas.Bool.Decides.{nat_tests, Decides-int_eq, Decides-and}
use Rattle.shape_space.specs.declared.solid.P3.{P3}
use Rattle.judge_outline.specs.Terms.{point_of}
use Rattle.std.proofs.lemmas.List.{length-append, length-drop, drop-append-le, take_more, map-append, length-map, length-take-le}
use Rattle.std.proofs.lemmas.List.Elements.{Contains-append_left, Contains-push_cases}
use Rattle.shape_terms.specs.Points.{Point, box_count, raster_number, raster_point}
use Rattle.shape_terms.specs.Adjacency.{moved}
use Rattle.shape_terms.specs.Pictures.{Picture, at, object_points}
use Rattle.shape_terms.proofs.BoxLists.{few_objects}
use Rattle.shape_terms.proofs.SameCycles.{in_none}
use Rattle.std.proofs.lemmas.List.Sums.{length-filter, count_by-le-length}
use Rattle.shape_terms.specs.Naive.{Naive as Plane, IsProper}
use Rattle.shape_refute.specs.declared.naive.Naive.{Naive}
use Rattle.shape_refute.specs.Terms.{naive_of}
use Rattle.shape_terms.specs.Patches.{sense_step, IsFirstLeft}
use Rattle.report_terms.specs.FaceFacts.{face_axis, face_sense}
use Rattle.report_terms.specs.FaceLines.{IsNextTouching, IsNextOn, PatchIsFull, IsPatchHead}
use Rattle.judge_outline.specs.Exposure.{exposed_at, IsLeft, IsNearTo, AreTakenBelow, AreTouching, first_points}
use Rattle.judge_outline.specs.PlaneState.{Counts, state_of, given_plane, with_on, AreInStep}
use Rattle.judge_outline.proofs.Exposing.{exposed_in}
use Rattle.judge_outline.proofs.Touching.{next_yes, next_only, full_yes, full_only, of_before, before_of}

-- the plane of a patch that was begun
pub plane_begun : (declared : ℕ) (plane : Naive) → 0 < declared → given_plane declared plane ≡ naive_of 3 plane
plane_begun declared plane h = cond-false (declared == 0) _ (naive_of 3 plane) (ne_eqb declared 0 (λ e. omega arith))

-- no more points are exposed than are object
pub exposed_few : (X : Picture) (face : ℕ) → length (exposed_at X face) ≤ length (object_points X)
exposed_few X face = kept_few (λ p. not (at X (moved p (sense_step (face_axis face) (face_sense face))))) (object_points X)
  where
    kept_few : (test : Point → Bool) (xs : List Point) → length (filter test xs) ≤ length xs
    kept_few test xs = omega (arith, length-filter test xs, count_by-le-length test xs)

-- nor than the box has
pub few_exposed : (X : Picture) (face : ℕ) → length (exposed_at X face) ≤ box_count X.sides
few_exposed X face = omega (arith, exposed_few X face, few_objects X)

-- no more points of a face were declared than are object
pub declared_few : (X : Picture) (c : Counts) (taken : List Point) (numbers : List ℕ) → AreInStep X c taken numbers
    → c.start + c.declared ≤ length (object_points X)
declared_few X c taken numbers k = elim (cases_lt 0 c.begun) [
  | inl h ↦ omega (arith, k.exposed h, k.declared, exposed_few X (c.begun - 1))
  | inr h ↦ (let e = k.none (omega arith) in omega (arith, e, k.declared))
]

pub few_declared : (X : Picture) (c : Counts) (taken : List Point) (numbers : List ℕ) → AreInStep X c taken numbers → c.exposed ≤ box_count X.sides
few_declared X c taken numbers k = elim (cases_lt 0 c.begun) [
  | inl h ↦ omega (arith, k.exposed h, few_exposed X (c.begun - 1))
  | inr h ↦ (let e = k.none (omega arith) in omega arith)
]

-- ---- tests

-- two points of the program are equal
pub equal_test : (p q : P3) (b : Bool) → b ≡ (int_eq p.z q.z && (int_eq p.y q.y && int_eq p.x q.x)) → IsTrue b ↔ (point_of p ≡ point_of q)
equal_test p q b e =
    let d = Decides-and _ _ (Decides-int_eq p.z q.z) (Decides-and _ _ (Decides-int_eq p.y q.y) (Decides-int_eq p.x q.x)) in (
      λ t. (let r = d.0 (sym e ∙ t) in λ i. r.1.1 i ∷ r.1.0 i ∷ r.0 i ∷ []),
      λ h. e ∙ d.1 (let z : p.z ≡ q.z = cc in z, (let y : p.y ≡ q.y = cc in y, let x : p.x ≡ q.x = cc in x)),
    )

-- at first no face is begun
pub step_none : (X : Picture) (numbers : List ℕ) → numbers ≡ []
    → AreInStep X (record { begun = 0; exposed = 0; start = 0; declared = 0; cursor = 0; refused = 0 }) [] numbers
step_none X numbers e = record {
  faces = omega arith;
  none = λ z. refl;
  exposed = λ l. absurd (omega arith);
  within = λ p h. absurd (in_none p h);
  below = λ q h l. absurd (omega arith);
  start = omega arith;
  given = omega arith;
  declared = omega arith;
  early = λ l. refl;
  touching = λ z. rw e (record {
    rising = λ i l. absurd (omega arith);
    below = λ m h. absurd (none_there m h);
    each = λ q t. absurd (in_none t.near.0 t.near.1);
    only = λ m h. absurd (none_there m h);
  });
  refused = omega arith;
  few = omega (arith, ap length e);
}
  where
    none_there : (m : ℕ) → Contains [] m → ⊥
    none_there m h = (let l = h.1 in omega arith)

-- a number that is not below another, where nothing holds
pub none_passed : {P : Type 0} (m n : ℕ) → n ≤ m → (P → ⊥) → IsTrue (nat_lt m n) ↔ P
none_passed m n l none = ((λ t. absurd (let h = ltb-true m n t in omega arith)), λ h. absurd (none h))

-- ---- whether a patch has all its points

pub points_test : (n start declared : ℕ) (taken : List Point) → n ≡ length taken → start ≤ length taken
    → IsTrue (nat_eq n (start + declared)) ↔ (length (drop start taken) ≡ declared)
points_test n start declared taken e l = ((λ t. omega (arith, equal t, length-drop start taken)), λ h. equal_back (omega (arith, h, length-drop start taken)))
  where
    equal : IsTrue (nat_eq n (start + declared)) → n ≡ start + declared
    equal t = grind (arith, nat_tests, t)

    equal_back : n ≡ start + declared → IsTrue (nat_eq n (start + declared))
    equal_back h = grind (arith, nat_tests, h)

module _ (X : Picture) (c : Counts) (plane : Naive) (taken : List Point) (numbers : List ℕ) (k : AreInStep X c taken numbers) where
  all_points : length (drop c.start taken) ≡ c.declared → length taken ≡ c.start + c.declared
  all_points e = (let s = k.start in let g = k.given in omega (arith, length-drop c.start taken))

  pub touching : length (drop c.start taken) ≡ c.declared → AreTouching X.sides (exposed_at X (c.begun - 1)) taken (drop c.start taken) numbers
  touching e = k.touching (all_points e)

  -- whether it refused all that touch it
  pub full_test : (m : ℕ) → m ≡ length numbers → length (drop c.start taken) ≡ c.declared
      → IsTrue (nat_eq c.refused m) ↔ PatchIsFull (exposed_at X (c.begun - 1)) (state_of X c plane taken numbers).standing
  full_test m e p = (
    λ t.
        let all : c.refused ≡ length numbers = equal t ∙ e in
        record {
          points = p;
          refused = λ q h. subst (λ n. Contains (first_points X.sides n numbers) q) (sym all)
              (full_yes X.sides (exposed_at X (c.begun - 1)) taken (drop c.start taken) numbers (touching p) (exposed_in X (c.begun - 1)) q h);
        },
    λ f. equal_back (full_only X.sides (exposed_at X (c.begun - 1)) taken (drop c.start taken) numbers (touching p) (exposed_in X (c.begun - 1)) c.refused
        k.refused f.refused ∙ sym e),
  )
    where
      equal : IsTrue (nat_eq c.refused m) → c.refused ≡ m
      equal t = grind (arith, nat_tests, t)

      equal_back : c.refused ≡ m → IsTrue (nat_eq c.refused m)
      equal_back h = grind (arith, nat_tests, h)

  -- the next touching point is the one at the next place
  pub next_test : (n : ℕ) (p q : Point) (b : Bool) → length (drop c.start taken) ≡ c.declared → c.refused < length numbers → n ≡ slice_index numbers c.refused
      → q ≡ raster_point X.sides n → (IsTrue b ↔ (q ≡ p))
      → IsTrue b ↔ IsNextTouching (exposed_at X (c.begun - 1)) taken (drop c.start taken) (first_points X.sides c.refused numbers) p
  next_test n p q b all l e f t =
      let here : raster_point X.sides (slice_index numbers c.refused) ≡ q = ap (raster_point X.sides) (sym e) ∙ sym f in (
        λ u. subst (IsNextTouching (exposed_at X (c.begun - 1)) taken (drop c.start taken) (first_points X.sides c.refused numbers)) (here ∙ t.0 u)
            (next_yes X.sides (exposed_at X (c.begun - 1)) taken (drop c.start taken) numbers (touching all) (exposed_in X (c.begun - 1)) c.refused l),
        λ h. t.1 (sym here ∙ (next_only X.sides (exposed_at X (c.begun - 1)) taken (drop c.start taken) numbers (touching all) (exposed_in X (c.begun - 1))
            c.refused p k.refused h).1),
      )

  pub next_none : (p : Point) → length (drop c.start taken) ≡ c.declared → length numbers ≤ c.refused
      → IsNextTouching (exposed_at X (c.begun - 1)) taken (drop c.start taken) (first_points X.sides c.refused numbers) p → ⊥
  next_none p all l h =
      (let r = (next_only X.sides (exposed_at X (c.begun - 1)) taken (drop c.start taken) numbers (touching all) (exposed_in X (c.begun - 1)) c.refused p
      k.refused h).0 in omega arith)

  -- ---- one more line

  -- a face is begun
  pub step_face : (n : ℕ) → c.begun < 6 → n ≡ length (exposed_at X (c.begun + 1 - 1))
      → AreInStep X (record { begun = c.begun + 1; exposed = n; start = 0; declared = 0; cursor = 0; refused = 0 }) [] []
  step_face n few e = record {
    faces = omega arith;
    none = λ z. absurd (omega arith);
    exposed = λ l. e;
    within = λ p h. absurd (in_none p h);
    below = λ q h l. absurd (omega arith);
    start = omega arith;
    given = omega arith;
    declared = omega arith;
    early = λ l. absurd (omega arith);
    touching = λ z. record {
      rising = λ i l. absurd (omega arith);
      below = λ m h. absurd (none_there m h);
      each = λ q t. absurd (in_none t.near.0 t.near.1);
      only = λ m h. absurd (none_there m h);
    };
    refused = omega arith;
    few = omega arith;
  }
    where
      none_there : (m : ℕ) → Contains [] m → ⊥
      none_there m h = (let l = h.1 in omega arith)

  -- a patch is begun
  pub step_patch : (m n : ℕ) → m ≡ length taken → (n ≡ 0 → ⊥) → n ≤ c.exposed - m
      → AreInStep X (record c { start = m; declared = n; refused = 0 }) taken numbers
  step_patch m n e some l = record {
    faces = k.faces;
    none = k.none;
    exposed = k.exposed;
    within = k.within;
    below = k.below;
    start = omega arith;
    given = omega arith;
    declared = (let g = k.given in let d = k.declared in omega arith);
    early = λ h. refl;
    touching = λ h. absurd (some (omega arith));
    refused = omega arith;
    few = k.few;
  }

  -- all points with smaller numbers are found to be taken
  pub step_cursor : (i : ℕ) → AreTakenBelow X (c.begun - 1) taken i → AreInStep X (record c { cursor = i }) taken numbers
  step_cursor i b = record {
    faces = k.faces;
    none = k.none;
    exposed = k.exposed;
    within = k.within;
    below = b;
    start = k.start;
    given = k.given;
    declared = k.declared;
    early = k.early;
    touching = k.touching;
    refused = k.refused;
    few = k.few;
  }

  -- a point is refused
  pub step_off : length (drop c.start taken) ≡ c.declared → c.refused < length numbers → AreInStep X (record c { refused = c.refused + 1 }) taken numbers
  step_off all l = record {
    faces = k.faces;
    none = k.none;
    exposed = k.exposed;
    within = k.within;
    below = k.below;
    start = k.start;
    given = k.given;
    declared = k.declared;
    early = λ m. absurd (let a = all_points all in omega arith);
    touching = k.touching;
    refused = omega arith;
    few = k.few;
  }

  -- a point is taken
  pub step_on : (p : Point) (more : List ℕ) → length (drop c.start taken) < c.declared → IsLeft (exposed_at X (c.begun - 1)) taken p
      → (length (taken ++ p ∷ []) ≡ c.start + c.declared → AreTouching X.sides (exposed_at X (c.begun - 1)) (taken ++ p ∷ []) (drop c.start (taken ++ p ∷ []))
      more) → length more ≤ box_count X.sides
      → AreInStep X c (taken ++ p ∷ []) more
  step_on p more early left touching few =
      let s = k.start in
      let n = length-append taken (p ∷ []) in
      let d = length-drop c.start taken in
      let e : c.refused ≡ 0 = k.early (omega arith) in
      record {
        faces = k.faces;
        none = k.none;
        exposed = k.exposed;
        within = λ q h. elim (Contains-push_cases taken p q h) [ inl o ↦ k.within q o | inr e ↦ subst (Contains (exposed_at X (c.begun - 1))) e left.there ];
        below = λ q h l. Contains-append_left taken (p ∷ []) q (k.below q h l);
        start = omega arith;
        given = omega arith;
        declared = k.declared;
        early = λ l. e;
        touching = touching;
        refused = omega arith;
        few = few;
      }

-- ---- the next point of a patch

-- the first that is left
pub first_is : (X : Picture) (face : ℕ) (taken : List Point) (i : ℕ) (p : Point) (b : Bool) (q : Point) → AreTakenBelow X face taken i
    → IsLeft (exposed_at X face) taken (raster_point X.sides i) → i < box_count X.sides → q ≡ raster_point X.sides i → (IsTrue b ↔ (q ≡ p))
    → IsTrue b ↔ IsFirstLeft (exposed_at X face) taken p
first_is X face taken i p b q below left l e t =
    let inside = exposed_in X face in
    let here = raster_point X.sides i in
    let number = raster_number-raster_point X.sides i l in
    let first : IsFirstLeft (exposed_at X face) taken here =
    record {
      there = left.there;
      left = left.left;
      first =
          λ r h s. below r h (let m = of_before X.sides r here (inside r h) (inside here left.there) s in omega (arith, m, number));
    } in (
      λ u. subst (IsFirstLeft (exposed_at X face) taken) (sym e ∙ t.0 u) first,
      λ f. t.1 (e ∙ only f),
    )
  where
    only : IsFirstLeft (exposed_at X face) taken p → raster_point X.sides i ≡ p
    only f = elim (cases_lt (raster_number X.sides p) i) [
      | inl a ↦ absurd (f.left (below p f.there a))
      | inr a ↦ elim (ℕ_discrete (raster_number X.sides p) i) [
        | yes s ↦ ap (raster_point X.sides) (sym s) ∙ raster_point-raster_number X.sides p (exposed_in X face p f.there)
        | no n ↦ absurd (left.left
            (f.first (raster_point X.sides i) left.there
            (before_of X.sides (raster_point X.sides i) p (exposed_in X face (raster_point X.sides i) left.there) (exposed_in X face p f.there)
            (omega (arith, raster_number-raster_point X.sides i l, apart (raster_number X.sides p) i a n)))))
      ]
    ]
      where
        apart : (a b : ℕ) → b ≤ a → (a ≡ b → ⊥) → b < a
        apart a b l n = omega arith

pub first_none : (X : Picture) (face : ℕ) (taken : List Point) (p : Point) → AreTakenBelow X face taken (box_count X.sides)
    → IsFirstLeft (exposed_at X face) taken p → ⊥
first_none X face taken p below f = f.left (below p f.there (raster_below X.sides p (exposed_in X face p f.there)))

-- the first point of a patch, and a later one
pub next_first : (exposed taken patch : List Point) (p : Point) → length patch ≡ 0 → IsFirstLeft exposed taken p ↔ IsNextOn exposed taken patch p
next_first exposed taken [] p e = ((λ h. h), λ h. h)
next_first exposed taken (q ∷ patch) p e = absurd (omega arith)

pub next_later : (exposed taken patch : List Point) (p : Point) → 0 < length patch → (IsLeft exposed taken p × IsNearTo patch p)
    ↔ IsNextOn exposed taken patch p
next_later exposed taken [] p e = absurd (omega arith)
next_later exposed taken (q ∷ patch) p e =
    ((λ h. record { there = h.0.there; left = h.0.left; near = h.1 }), λ h. (record { there = h.there; left = h.left }, h.near))

-- whether a point of the patch that is not its first is next
pub later_test : (exposed taken patch : List Point) (p : Point) (b t : Bool) → 0 < length patch → b ≡ t → IsLeft exposed taken p → (IsTrue t ↔ IsNearTo patch p)
    → IsTrue b ↔ IsNextOn exposed taken patch p
later_test exposed taken patch p b t some e left r = (
  λ h. (next_later exposed taken patch p some).0 (left, r.0 (sym e ∙ h)),
  λ h. e ∙ r.1 ((next_later exposed taken patch p some).1 h).1,
)

pub later_none : (exposed taken patch : List Point) (p : Point) (b : Bool) → 0 < length patch → b ≡ false → (IsLeft exposed taken p → ⊥)
    → IsTrue b ↔ IsNextOn exposed taken patch p
later_none exposed taken patch p b some e none = ((λ h. cc), λ h. absurd (none ((next_later exposed taken patch p some).1 h).0))

-- the first refused points with one more
pub first_more : (sides : List ℕ) (k : ℕ) (numbers : List ℕ) (p : Point) → k < length numbers → raster_point sides (slice_index numbers k) ≡ p
    → first_points sides (k + 1) numbers ≡ first_points sides k numbers ++ p ∷ []
first_more sides k numbers p l e =
    ap (map (raster_point sides)) (take_more numbers k 0 l) ∙ map-append (raster_point sides) (take k numbers) (slice_index numbers k ∷ [])
    ∙ ap (λ q. first_points sides k numbers ++ q ∷ []) e

pub drop_whole : {A : Type 0} (n : ℕ) (xs : List A) → n ≡ length xs → drop n xs ≡ []
drop_whole n xs e = none (drop n xs) (omega (arith, length-drop n xs))
  where
    none : {A : Type 0} (ys : List A) → length ys ≡ 0 → ys ≡ []
    none [] h = refl
    none (y ∷ ys) h = absurd (omega arith)

-- ---- the next patch

module _ (X : Picture) (c : Counts) (plane : Naive) (taken : List Point) (numbers : List ℕ) (k : AreInStep X c taken numbers) (begun : 0 < c.begun) where
  pub patch_yes : (n t : ℕ) (other : Plane) → PatchIsFull (exposed_at X (c.begun - 1)) (state_of X c plane taken numbers).standing → (n ≡ 0 → ⊥)
      → n ≤ c.exposed - length taken → t ≡ face_axis (c.begun - 1) → IsProper t other → IsPatchHead X (state_of X c plane taken numbers).standing n other
  patch_yes n t other full some left e proper = record {
    face = begun;
    full = full;
    some = positive n some;
    left = (let x = k.exposed begun in let g = k.given in let d = k.declared in total n (length taken) c.exposed (length (exposed_at X (c.begun - 1))) left
        (omega arith) x);
    proper = subst (λ a. IsProper a other) e proper;
  }
    where
      positive : (n : ℕ) → (n ≡ 0 → ⊥) → 1 ≤ n
      positive n h = omega arith

      total : (n m e x : ℕ) → n ≤ e - m → m ≤ e → e ≡ x → n + m ≤ x
      total n m e x h l q = omega arith

  pub patch_many : (n : ℕ) (other : Plane) → c.exposed - length taken < n → IsPatchHead X (state_of X c plane taken numbers).standing n other → ⊥
  patch_many n other more h = (let x = k.exposed begun in let l = h.left in omega arith)

  pub patch_improper : (n t : ℕ) (other : Plane) → t ≡ face_axis (c.begun - 1) → (IsProper t other → ⊥)
      → IsPatchHead X (state_of X c plane taken numbers).standing n other → ⊥
  patch_improper n t other e none h = none (subst (λ a. IsProper a other) (sym e) h.proper)

-- ---- the next point

pub left_of_next : (exposed taken patch : List Point) (p : Point) → IsNextOn exposed taken patch p → IsLeft exposed taken p
left_of_next exposed taken [] p h = record { there = h.there; left = h.left }
left_of_next exposed taken (q ∷ patch) p h = record { there = h.there; left = h.left }

module _ (X : Picture) (c : Counts) (taken : List Point) (numbers : List ℕ) (k : AreInStep X c taken numbers) where
  -- a patch that has not all its points is to have more
  pub more_points : (length (drop c.start taken) ≡ c.declared → ⊥) → length (drop c.start taken) < c.declared
  more_points none = (let s = k.start in let g = k.given in below (length (drop c.start taken)) c.declared none (omega (arith, length-drop c.start taken)))
    where
      below : (a b : ℕ) → (a ≡ b → ⊥) → a ≤ b → a < b
      below a b n l = omega arith

  -- and so a face was begun, and has points that are not taken
  pub begun_of : 0 < c.declared → 0 < c.begun
  begun_of h = elim (cases_lt 0 c.begun) [ inl l ↦ l | inr e ↦ absurd (let z = k.none (omega arith) in let d = k.declared in omega arith) ]

  pub some_left : length (drop c.start taken) < c.declared → length taken < length (exposed_at X (c.begun - 1))
  some_left l = (let e = k.exposed (begun_of (omega arith)) in let s = k.start in let d = k.declared in omega (arith, length-drop c.start taken))

  -- one more point of the patch; no point is refused so far
  pub next_on : (plane : Naive) (p : Point) (now : List ℕ) → length (drop c.start taken) < c.declared
      → (state_of X c plane (taken ++ p ∷ []) now).standing ≡ with_on (state_of X c plane taken numbers).standing p
  next_on plane p now l =
      let none : c.refused ≡ 0 = k.early (let s = k.start in omega (arith, length-drop c.start taken)) in
      let first : first_points X.sides c.refused now ≡ first_points X.sides c.refused numbers = ap (λ r. first_points X.sides r now) none
      ∙ sym (ap (λ r. first_points X.sides r numbers) none) in
      let points : drop c.start (taken ++ p ∷ []) ≡ drop c.start taken ++ p ∷ [] = drop-append-le c.start taken (p ∷ []) k.start in
      λ i. record {
        begun = c.begun;
        taken = taken ++ p ∷ [];
        patch =
            record { declared = c.declared; plane = given_plane c.declared plane; points = points i; refused = first i };
      }

-- as many points as are counted
pub length-first : (sides : List ℕ) (k : ℕ) (numbers : List ℕ) → k ≤ length numbers → length (first_points sides k numbers) ≡ k
length-first sides k numbers l = length-map (take k numbers) (raster_point sides) ∙ length-take-le k numbers l
