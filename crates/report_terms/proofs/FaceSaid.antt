-- What the good lines of one face say of it, one after another: full patches, and what is given of the last one.
-- Laws of one group of lines; how the groups follow each other stands in `FacesShown`.
use Rattle.std.proofs.Common.{◌≡◌, ℕ, suc, ◌-◌, ◌<◌, ◌≤◌, false, List, [], ◌∷◌, ◌++◌, length, map, Some, refl, ap, sym, ◌∙◌, subst, arith, inl, inr}
use Rattle.std.specs.Prelude.{◌≢◌, ℤ, filter_map, slice_get, All, AllPairs, Contains}
use Rattle.std.proofs.lemmas.List.{append-nil, append_assoc, map-append}
use Rattle.std.proofs.lemmas.List.Elements.{All-nil, All-push, All-contains, All-weaker, All-map, Contains-get_or, Contains-push_cases}
use Rattle.std.proofs.lemmas.List.Quantifiers.{all_pairs_push}
use Rattle.shape_terms.specs.Points.{Point}
use Rattle.shape_terms.specs.Adjacency.{Near}
use Rattle.shape_terms.specs.Pictures.{Picture}
use Rattle.shape_terms.specs.Naive.{Naive, IsProper, HoldsPoint, HoldsAll, IsNaiveFor}
use Rattle.shape_terms.specs.Refutations.{Refutation, Refutes}
use Rattle.shape_terms.proofs.Exclusion.{excludes}
use Rattle.shape_terms.specs.Patches.{exposed_points, IsFirstLeft, Patch, Grows, points_of}
use Rattle.shape_terms.proofs.FullPatches.{IsFullPatch, AreFullPatches, points_of-push, partition_of}
use Rattle.report_terms.specs.Lines.{Line}
use Rattle.report_terms.specs.FaceFacts.{face_axis, face_sense, PatchFact, patches_of, PatchShows, FaceShows}
use Rattle.report_terms.specs.FaceLines.{is_face, is_patch, patch_groups, last_group, on_point, off_point, count_of, GivenPatch, given_patch}
use Rattle.report_terms.specs.FaceLines.{face_standing_with, IsTouching, PatchIsFull, FaceIsFull, IsNextOn, IsPatchHead, IsOnLine, IsOffLine, SurfaceClaim}
use Rattle.report_terms.specs.Shows.{patch_fact, face_fact}
use Rattle.text_terms.proofs.ListPushes.{get_push, filter_map-same, filter_map-push}
use Rattle.report_terms.proofs.ContourGroups.{group_begun, group_more}
use Rattle.report_terms.proofs.FaceGroups.{last_is, declared_some, given_point, given_refused}

-- ---- one patch

-- weights refute the points with this one put last
abbrev pub IsRefuted : ℕ → List Point → Point → Type 0
IsRefuted t points q = (why : Refutation) × Refutes 3 t (points ++ q ∷ []) why

-- what is given of a patch so far, after the points of those before it
pub record PatchSoFar (t : ℕ) (exposed before : List Point) (g : GivenPatch) : Type 0 where
  pub some : 1 ≤ g.declared
  pub first : (p : Point) → slice_get g.points 0 ≡ Some p → IsFirstLeft exposed before p
  pub grows : Grows g.points
  pub proper : IsProper t g.plane
  pub holds : HoldsAll t g.plane g.points
  pub early : length g.points < g.declared → g.refused ≡ []
  pub refused : All (IsRefuted t g.points) g.refused

patch_none : (t : ℕ) (exposed before : List Point) (k : ℕ) (plane : Naive) → 1 ≤ k → IsProper t plane
    → PatchSoFar t exposed before (record { declared = k; plane = plane; points = []; refused = [] })
patch_none t exposed before k plane some proper = record {
  some = some;
  first = λ p e. cc;
  grows = λ k p e. cc;
  proper = proper;
  holds = All-nil (HoldsPoint t plane);
  early = λ h. refl;
  refused = All-nil (IsRefuted t []);
}

-- the first point of a patch is the first one left
first_on : (exposed taken before points : List Point) (p : Point) → taken ≡ before ++ points → IsNextOn exposed taken points p
    → ((q : Point) → slice_get points 0 ≡ Some q → IsFirstLeft exposed before q) → (q : Point) → slice_get (points ++ p ∷ []) 0 ≡ Some q
    → IsFirstLeft exposed before q
first_on exposed taken before [] p e h f q there =
    let same : p ≡ q = cc in
    subst (IsFirstLeft exposed before) same (subst (λ l. IsFirstLeft exposed l p) (e ∙ append-nil before) h)
first_on exposed taken before (a ∷ points) p e h f q there = f q there

-- and each other touches an earlier one
grows_on : (exposed taken points : List Point) (p : Point) → IsNextOn exposed taken points p → Grows points → Grows (points ++ p ∷ [])
grows_on exposed taken [] p h g k q e = cc
grows_on exposed taken (a ∷ points) p h g k q e = elim (get_push (a ∷ points) p (suc k) q e) [
  | inl o ↦ (let r = g k q o.0 in (r.0, subst (λ l. Contains l r.0) (sym o.1) r.1, r.2))
  | inr n ↦ (let r = h.near in (r.0, subst (λ l. Contains l r.0) (sym n.1) r.1, subst (λ z. Near z r.0) n.0 r.2))
]

patch_on : (t : ℕ) (exposed taken before : List Point) (g : GivenPatch) (p : Point) → taken ≡ before ++ g.points → PatchSoFar t exposed before g
    → length g.points < g.declared → IsNextOn exposed taken g.points p → HoldsPoint t g.plane p
    → PatchSoFar t exposed before (record g { points = g.points ++ p ∷ [] })
patch_on t exposed taken before g p e w more next held = record {
  some = w.some;
  first = first_on exposed taken before g.points p e next w.first;
  grows = grows_on exposed taken g.points p next w.grows;
  proper = w.proper;
  holds = All-push (HoldsPoint t g.plane) g.points p w.holds held;
  early = λ h. w.early more;
  refused = subst (All (IsRefuted t (g.points ++ p ∷ []))) (sym (w.early more)) (All-nil (IsRefuted t (g.points ++ p ∷ [])));
}

patch_off : (t : ℕ) (exposed before : List Point) (g : GivenPatch) (p : Point) (why : Refutation) → PatchSoFar t exposed before g → length g.points ≡ g.declared
    → Refutes 3 t (g.points ++ p ∷ []) why → PatchSoFar t exposed before (record g { refused = g.refused ++ p ∷ [] })
patch_off t exposed before g p why w all refuted = record {
  some = w.some;
  first = w.first;
  grows = w.grows;
  proper = w.proper;
  holds = w.holds;
  early = λ h. absurd (omega arith);
  refused = All-push (IsRefuted t g.points) g.refused p w.refused (why, refuted);
}

some_first : (points : List Point) → 1 ≤ length points → (p : Point) × (slice_get points 0 ≡ Some p)
some_first [] h = absurd (omega arith)
some_first (p ∷ points) h = (p, refl)

-- a patch that has all its points and refused all that touch it
patch_full : (t : ℕ) (exposed taken before : List Point) (g : GivenPatch) → taken ≡ before ++ g.points → PatchSoFar t exposed before g
    → length g.points ≡ g.declared → ((q : Point) → IsTouching exposed taken g.points q → Contains g.refused q)
    → IsFullPatch 3 t exposed before (record { points = g.points; plane = g.plane })
patch_full t exposed taken before g e w all touching =
    let f = some_first g.points (omega (arith, w.some)) in
    record {
      first = (f.0, f.1, w.first f.0 f.1);
      grows = w.grows;
      plane = record { proper = w.proper; holds = w.holds };
      left = λ q there out p c n. All-contains (IsRefuted t g.points) g.refused q w.refused
          (touching q (record { there = there; left = λ d. out (subst (λ l. Contains l q) e d); near = (p, c, n) }));
    }

-- and shows what it refused
patch_shows : (t : ℕ) (exposed before : List Point) (p : List Line) → PatchSoFar t exposed before (given_patch p) → PatchShows t (patch_fact p)
patch_shows t exposed before p w = All-weaker (IsRefuted t (filter_map on_point p)) (λ q. (n : Naive) → IsNaiveFor t (filter_map on_point p ++ q ∷ []) n → ⊥)
    (λ q r. excludes 3 t (filter_map on_point p ++ q ∷ []) r.0 r.1) (filter_map off_point p) w.refused

-- ---- one face

abbrev pub front_patches : List (List Line) → List Patch
front_patches front = patches_of (map patch_fact front)

-- the patches of a face before its last one, and what is given of that
pub record HasPatches (t : ℕ) (exposed : List Point) (face : List Line) (front : List (List Line)) (p : List Line) : Type 0 where
  pub groups_are : patch_groups face ≡ front ++ p ∷ []
  pub full : AreFullPatches 3 t exposed (front_patches front)
  pub shows : All (λ g. PatchShows t (patch_fact g)) front
  pub given : PatchSoFar t exposed (points_of (front_patches front)) (given_patch p)
  pub taken : filter_map on_point face ≡ points_of (front_patches front) ++ filter_map on_point p

-- no patch was begun, or one was begun last
pub data SaysPatches (t : ℕ) (exposed : List Point) (face : List Line) : Type 0 where
  NoPatch : patch_groups face ≡ [] → filter_map on_point face ≡ [] → SaysPatches t exposed face
  SomePatch : (front : List (List Line)) (p : List Line) → HasPatches t exposed face front p → SaysPatches t exposed face

-- the lines of the group say this of the face with the number j
pub record SaysFace (X : Picture) (j : ℕ) (face : List Line) : Type 0 where
  pub number : ℕ
  pub lines : List Line
  pub head : face ≡ Line.Face (face_axis j) (face_sense j) number ∷ lines
  pub once : AllPairs (λ p q. p ≢ q) (filter_map on_point face)
  pub within : (p : Point) → Contains (filter_map on_point face) p → Contains (exposed_points X (face_axis j) (face_sense j)) p
  pub patches : SaysPatches (face_axis j) (exposed_points X (face_axis j) (face_sense j)) face

pub said_face : (X : Picture) (j n : ℕ) → SaysFace X j (Line.Face (face_axis j) (face_sense j) n ∷ [])
said_face X j n = record {
  number = n;
  lines = [];
  head = refl;
  once = λ i k d l m. absurd (omega arith);
  within = λ p c. absurd (let l = c.1 in omega arith);
  patches = NoPatch refl refl;
}

-- all patches, where the last one is full
record AllPatches (t : ℕ) (exposed : List Point) (face : List Line) : Type 0 where
  full : AreFullPatches 3 t exposed (front_patches (patch_groups face))
  shows : All (λ g. PatchShows t (patch_fact g)) (patch_groups face)
  taken : filter_map on_point face ≡ points_of (front_patches (patch_groups face))

one_more : (t : ℕ) (exposed : List Point) (patches : List Patch) (x : Patch) → AreFullPatches 3 t exposed patches
    → IsFullPatch 3 t exposed (points_of patches) x → AreFullPatches 3 t exposed (patches ++ x ∷ [])
one_more t exposed patches x full f k y e = elim (get_push patches x k y e) [
  | inl o ↦ subst (λ l. IsFullPatch 3 t exposed (points_of l) y) (sym o.1) (full k y o.0)
  | inr n ↦ subst (λ l. IsFullPatch 3 t exposed (points_of l) y) (sym n.1) (subst (IsFullPatch 3 t exposed (points_of patches)) n.0 f)
]

front-push : (front : List (List Line)) (p : List Line) → front_patches (front ++ p ∷ []) ≡ front_patches front ++ (patch_fact p).patch ∷ []
front-push front p = ap patches_of (map-append patch_fact front (p ∷ [])) ∙ map-append (λ (x : PatchFact). x.patch) (map patch_fact front) (patch_fact p ∷ [])

all_patches : (t : ℕ) (exposed : List Point) (face : List Line) (n : ℕ) → SaysPatches t exposed face → PatchIsFull exposed (face_standing_with n face)
    → AllPatches t exposed face
all_patches t exposed face n (NoPatch e f) full = record {
  full = subst (λ gs. AreFullPatches 3 t exposed (front_patches gs)) (sym e) (λ k x e. cc);
  shows = subst (All (λ g. PatchShows t (patch_fact g))) (sym e) (All-nil (λ g. PatchShows t (patch_fact g)));
  taken = f ∙ ap (λ gs. points_of (front_patches gs)) (sym e);
}
all_patches t exposed face n (SomePatch front p w) full =
    let last = last_is (patch_groups face) front p w.groups_are in
    let all : length (filter_map on_point p) ≡ count_of p = subst (λ g. length (filter_map on_point g) ≡ count_of g) last full.points in
    let touching : (q : Point) → IsTouching exposed (filter_map on_point face) (filter_map on_point p) q → Contains (filter_map off_point p) q =
    subst (λ g. (q : Point) → IsTouching exposed (filter_map on_point face) (filter_map on_point g) q → Contains (filter_map off_point g) q) last full.refused
    in
    let f = patch_full t exposed (filter_map on_point face) (points_of (front_patches front)) (given_patch p) w.taken w.given all touching in
    let e = front-push front p in
    record {
      full = subst (λ gs. AreFullPatches 3 t exposed (front_patches gs)) (sym w.groups_are)
          (subst (AreFullPatches 3 t exposed) (sym e) (one_more t exposed (front_patches front) (patch_fact p).patch w.full f));
      shows = subst (All (λ g. PatchShows t (patch_fact g))) (sym w.groups_are)
          (All-push (λ g. PatchShows t (patch_fact g)) front p w.shows (patch_shows t exposed (points_of (front_patches front)) p w.given));
      taken = w.taken ∙ sym (points_of-push (front_patches front) (patch_fact p).patch) ∙ ap points_of (sym e)
          ∙ ap (λ gs. points_of (front_patches gs)) (sym w.groups_are);
    }

-- the patch that was begun last
record OpenPatch (t : ℕ) (exposed : List Point) (face : List Line) : Type 0 where
  front : List (List Line)
  has : HasPatches t exposed face front (last_group (patch_groups face))

open_patch_of : (t : ℕ) (exposed : List Point) (face : List Line) → SaysPatches t exposed face → 0 < count_of (last_group (patch_groups face))
    → OpenPatch t exposed face
open_patch_of t exposed face (NoPatch e f) h =
    absurd (let s = declared_some face h in let n : length (patch_groups face) ≡ 0 = ap length e in omega (arith, s, n))
open_patch_of t exposed face (SomePatch front p w) h =
    record { front = front; has = subst (HasPatches t exposed face front) (sym (last_is (patch_groups face) front p w.groups_are)) w }

-- ---- one more line

apart_push : (exposed taken : List Point) (p : Point) → AllPairs (λ a b. a ≢ b) taken → (Contains taken p → ⊥) → AllPairs (λ a b. a ≢ b) (taken ++ p ∷ [])
apart_push exposed taken p once out = all_pairs_push (λ a b. a ≢ b) taken p once (λ k d l e. out (subst (Contains taken) e (Contains-get_or taken k d l)))

within_push : (exposed taken : List Point) (p : Point) → ((q : Point) → Contains taken q → Contains exposed q) → Contains exposed p → (q : Point)
    → Contains (taken ++ p ∷ []) q → Contains exposed q
within_push exposed taken p within there q c = elim (Contains-push_cases taken p q c) [ inl o ↦ within q o | inr e ↦ subst (Contains exposed) e there ]

-- the next point of a patch is exposed and not taken
next_there : (exposed taken points : List Point) (p : Point) → IsNextOn exposed taken points p → Contains exposed p × (Contains taken p → ⊥)
next_there exposed taken [] p h = (h.there, h.left)
next_there exposed taken (a ∷ points) p h = (h.there, h.left)

touched_some : (exposed taken points : List Point) (q : Point) → IsTouching exposed taken points q → 0 < length points
touched_some exposed taken points q h = let c = h.near.1.1 in omega (arith, c)

module _ (X : Picture) (n : ℕ) (face : List Line) (w : SaysFace X (n - 1) face) where
  said_patch : (k : ℕ) (a : List ℤ) (mu : ℤ) → IsPatchHead X (face_standing_with n face) k (record { a = a; mu = mu })
      → SaysFace X (n - 1) (face ++ Line.Patch k a mu ∷ [])
  said_patch k a mu c =
      let l = Line.Patch k a mu in
      let exposed = exposed_points X (face_axis (n - 1)) (face_sense (n - 1)) in
      let same = filter_map-same on_point face l refl in
      let all = all_patches (face_axis (n - 1)) exposed face n w.patches c.full in
      record {
        number = w.number;
        lines = w.lines ++ l ∷ [];
        head = ap (λ ls. ls ++ l ∷ []) w.head;
        once = subst (AllPairs (λ p q. p ≢ q)) (sym same) w.once;
        within = subst (λ ps. (p : Point) → Contains ps p → Contains exposed p) (sym same) w.within;
        patches = SomePatch (patch_groups face) (l ∷ []) (record {
          groups_are = group_begun is_patch face l refl;
          full = all.full;
          shows = all.shows;
          given = patch_none (face_axis (n - 1)) exposed (points_of (front_patches (patch_groups face))) k (record { a = a; mu = mu }) c.some c.proper;
          taken = same ∙ all.taken ∙ sym (append-nil (points_of (front_patches (patch_groups face))));
        });
      }

  said_on : (p : Point) → IsOnLine X (face_standing_with n face) p → SaysFace X (n - 1) (face ++ Line.On p ∷ [])
  said_on p c =
      let l = Line.On p in
      let exposed = exposed_points X (face_axis (n - 1)) (face_sense (n - 1)) in
      let taken = filter_map on_point face in
      let g = last_group (patch_groups face) in
      let declared : 0 < count_of g = (let m = c.more in omega (arith, m)) in
      let o = open_patch_of (face_axis (n - 1)) exposed face w.patches declared in
      let h = o.has in
      let push = filter_map-push on_point face l p refl in
      let open_push = filter_map-push on_point g l p refl in
      let t = next_there exposed taken (filter_map on_point g) p c.next in
      let given = patch_on (face_axis (n - 1)) exposed taken (points_of (front_patches o.front)) (given_patch g) p h.taken h.given c.more c.next c.held in
      let more = group_more is_patch face l o.front g refl h.groups_are in
      let last = last_is (patch_groups (face ++ l ∷ [])) o.front (g ++ l ∷ []) more in
      let same = ap given_patch (sym last) ∙ given_point face p declared in
      record {
        number = w.number;
        lines = w.lines ++ l ∷ [];
        head = ap (λ ls. ls ++ l ∷ []) w.head;
        once = subst (AllPairs (λ p q. p ≢ q)) (sym push) (apart_push exposed taken p w.once t.1);
        within = subst (λ ps. (p : Point) → Contains ps p → Contains exposed p) (sym push) (within_push exposed taken p w.within t.0);
        patches = SomePatch o.front (g ++ l ∷ []) (record {
          groups_are = more;
          full = h.full;
          shows = h.shows;
          given = subst (PatchSoFar (face_axis (n - 1)) exposed (points_of (front_patches o.front))) (sym same) given;
          taken = push ∙ ap (λ ps. ps ++ p ∷ []) h.taken ∙ append_assoc (points_of (front_patches o.front)) (filter_map on_point g) (p ∷ [])
              ∙ ap (λ ps. points_of (front_patches o.front) ++ ps) (sym open_push);
        });
      }

  said_off : (p : Point) (why : Refutation) → IsOffLine X (face_standing_with n face) p why → SaysFace X (n - 1) (face ++ Line.Off p why ∷ [])
  said_off p why c =
      let l = Line.Off p why in
      let exposed = exposed_points X (face_axis (n - 1)) (face_sense (n - 1)) in
      let taken = filter_map on_point face in
      let g = last_group (patch_groups face) in
      let some = touched_some exposed taken (filter_map on_point g) p c.next.touching in
      let declared : 0 < count_of g = (let m = c.points in omega (arith, m, some)) in
      let o = open_patch_of (face_axis (n - 1)) exposed face w.patches declared in
      let h = o.has in
      let push = filter_map-same on_point face l refl in
      let open_push = filter_map-same on_point g l refl in
      let given = patch_off (face_axis (n - 1)) exposed (points_of (front_patches o.front)) (given_patch g) p why h.given c.points c.refuted in
      let more = group_more is_patch face l o.front g refl h.groups_are in
      let last = last_is (patch_groups (face ++ l ∷ [])) o.front (g ++ l ∷ []) more in
      let same = ap given_patch (sym last) ∙ given_refused face p why declared in
      record {
        number = w.number;
        lines = w.lines ++ l ∷ [];
        head = ap (λ ls. ls ++ l ∷ []) w.head;
        once = subst (AllPairs (λ p q. p ≢ q)) (sym push) w.once;
        within = subst (λ ps. (p : Point) → Contains ps p → Contains exposed p) (sym push) w.within;
        patches = SomePatch o.front (g ++ l ∷ []) (record {
          groups_are = more;
          full = h.full;
          shows = h.shows;
          given = subst (PatchSoFar (face_axis (n - 1)) exposed (points_of (front_patches o.front))) (sym same) given;
          taken = push ∙ h.taken ∙ ap (λ ps. points_of (front_patches o.front) ++ ps) (sym open_push);
        });
      }

-- one more good line of the face that was begun last
pub said_more : (X : Picture) (n : ℕ) (face : List Line) (l : Line) → is_face l ≡ false → SaysFace X (n - 1) face → SurfaceClaim X (face_standing_with n face) l
    → SaysFace X (n - 1) (face ++ l ∷ [])
said_more X n face (Line.Face t sense k) e w c = cc
said_more X n face (Line.Patch k a mu) e w c = said_patch X n face w k a mu c
said_more X n face (Line.On p) e w c = said_on X n face w p c
said_more X n face (Line.Off p why) e w c = said_off X n face w p why c
said_more X n face l e w c = absurd c

-- a face that is full is said whole, and its partition is shown
pub said_full : (X : Picture) (n : ℕ) (face : List Line) → SaysFace X (n - 1) face → FaceIsFull X (face_standing_with n face)
    → ((face_fact face).axis ≡ face_axis (n - 1)) × ((face_fact face).sense ≡ face_sense (n - 1)) × FaceShows X (face_fact face)
said_full X n face w full =
    let exposed = exposed_points X (face_axis (n - 1)) (face_sense (n - 1)) in
    let all = all_patches (face_axis (n - 1)) exposed face n w.patches full.patch in
    let points = all.taken in
    let partition = partition_of 3 X (face_axis (n - 1)) (face_sense (n - 1)) (front_patches (patch_groups face)) all.full
    (subst (AllPairs (λ p q. p ≢ q)) points w.once) (subst (λ ps. (p : Point) → Contains ps p → Contains exposed p) points w.within)
    (ap length (sym points) ∙ full.all) in
    let shows = all.shows in
    subst (λ f. ((face_fact f).axis ≡ face_axis (n - 1)) × ((face_fact f).sense ≡ face_sense (n - 1)) × FaceShows X (face_fact f)) (sym w.head) (
      refl,
      refl,
      subst (λ f. FaceShows X (record { axis = face_axis (n - 1); sense = face_sense (n - 1); patches = map patch_fact (patch_groups f) })) w.head
          (record { partition = partition; refused = All-map (PatchShows (face_axis (n - 1))) patch_fact (patch_groups face) shows }),
    )
