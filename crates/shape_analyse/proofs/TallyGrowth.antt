-- How the numbers of a picture grow: by a contour with its cover, and by a face.
-- Laws of the definitions of `Tallies`, over plain variables.
use Rattle.std.proofs.Common.{◌≡◌, ℕ, zero, suc, ◌+◌, List, [], ◌∷◌, ◌++◌, Some, length, take, ap, sym, subst, ◌∙◌, arith}
use Rattle.std.specs.Prelude.{slice_get}
use Rattle.std.specs.List.{range_with_len}
use Rattle.std.proofs.lemmas.List.Sums.{sum_by_push}
use Rattle.std.proofs.lemmas.List.FromFn.{map-range_with_len_more}
use Rattle.std.proofs.lemmas.List.{map-id}
use Rattle.std.proofs.lemmas.Slice.Zip.{all_zipped_more}
use Rattle.shape_terms.proofs.ListPushes.{take_next}
use Rattle.shape_terms.specs.Pictures.{Picture, object_points}
use Rattle.shape_terms.specs.Thinning.{Rule}
use Rattle.shape_terms.specs.Shelves.{Named, rules_of}
use Rattle.shape_rules.specs.Ruled.{rules_on}
use Rattle.shape_terms.specs.Traces.{Contour}
use Rattle.shape_terms.specs.Covers.{Stretch, IsCover}
use Rattle.shape_terms.specs.Parts.{Counts}
use Rattle.shape_thin.specs.Runs.{Run}
use Rattle.shape_analyse.specs.declared.tally.Tally.{Tally}
use Rattle.shape_analyse.specs.Finding.{IsThinnedBy}
use Rattle.shape_analyse.specs.Tallies.{HasSegments, HaveCovers, IsExtentOf, HasThinning, IsTallyOf, exposed_in, exposed_count}

pub covers_more : (contours : List Contour) (k m n : ℕ) (c : Contour) → slice_get contours k ≡ Some c → HaveCovers (take k contours) m → HasSegments c n
    → HaveCovers (take (k + 1) contours) (m + n)
covers_more contours k m n c there have more =
    let e : k + 1 ≡ suc k = omega arith in
    let all : HaveCovers (take k contours ++ c ∷ []) (m + n) = record {
      covers = have.covers ++ more.0 ∷ [];
      each = all_zipped_more (λ (c : Contour) (cover : List Stretch). IsCover c.points cover) (take k contours) have.covers c more.0 have.each more.1;
      segments_are = omega (arith, have.segments_are, more.2, sum_by_push length have.covers more.0);
    } in
    rw (e, ← take_next contours k c there) all

range_push : (k : ℕ) → range_with_len 0 (k + 1) ≡ range_with_len 0 k ++ k ∷ []
range_push k = sym (map-id (range_with_len 0 (k + 1))) ∙ map-range_with_len_more (λ n. n) 0 k k (omega arith)
    ∙ ap (λ ns. ns ++ k ∷ []) (map-id (range_with_len 0 k))

pub exposed_more : (X : Picture) (k : ℕ) → exposed_count X (k + 1) ≡ exposed_count X k + exposed_in X k
exposed_more X k = rw (range_push k) (sum_by_push (exposed_in X) (range_with_len 0 k) k)

-- the rule in a place of a shelf is the one that stands there
pub rule_at : {R : Type 0} (means : R → Rule) (shelf : List (Named R)) (i : ℕ) (r : R) (rule : Rule) → slice_get (rules_of shelf) i ≡ Some r
    → slice_get (rules_of (rules_on means shelf)) i ≡ Some rule → means r ≡ rule
rule_at means [] i r rule a b = cc
rule_at means (e ∷ es) zero r rule a b =
    let same : e.rule ≡ r = cc in
    let told : means e.rule ≡ rule = cc in
    sym (ap means same) ∙ told
rule_at means (e ∷ es) (suc i) r rule a b = rule_at means es i r rule a b

-- a thinning tells how many events it has and how many points it leaves
pub has_thinning : (rule : Rule) (X : Picture) (run : Run) (n kept : ℕ) → IsThinnedBy rule X run → n ≡ length run.events
    → kept ≡ length (object_points run.left) → HasThinning rule X n kept
has_thinning rule X run n kept t e k =
    record { events = run.events; stage = t.stage; thinning = t.thinning; n_is = e; kept_are = k ∙ ap (λ Y. length (object_points Y)) (sym t.left) }

-- the numbers of a picture by a rule are those of the same picture by the same rule
pub tally_of : (Y X : Picture) (by rule : Rule) (t : Tally) → Y ≡ X → by ≡ rule → Counts Y t.points t.parts.object t.parts.background → IsExtentOf Y t.extent
    → HasThinning by Y t.events t.kept → IsTallyOf X rule t
tally_of Y X by rule t same ruled counts extent thinning =
    subst (λ Z. IsTallyOf Z rule t) same (record { counts = counts; extent = extent; thinning = subst (λ r. HasThinning r Y t.events t.kept) ruled thinning })
