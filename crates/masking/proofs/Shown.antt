-- What a run wrote that makes a mask of a report that holds of a picture.
-- The laws of the bytes stand in `PbmSpelled`, `LevelLaws`, `SquareLaws` and `ThicknessLaws`.
use Rattle.std.proofs.Common.{◌≡◌, inl, inr, ℕ, ◌*◌, ◌<◌, refl, sym, ap, ◌∙◌, subst, arith, List, [], ◌∷◌, ◌++◌, length, get_or, map, pos}
use Rattle.std.specs.Prelude.{slice_get, Some}
use Rattle.std.proofs.lemmas.List.{append-nil}
use Rattle.std.proofs.lemmas.Option.{slice_get-get_or}
use Rattle.shape_terms.specs.Points.{AreSides, box_count}
use Rattle.shape_terms.specs.Pictures.{Picture}
use Rattle.shape_terms.specs.Thinning.{opening_stage}
use Rattle.shape_desk.specs.Desk.{DeskState}
use Rattle.report_terms.specs.Subjects.{Subject}
use Rattle.report_terms.specs.Lines.{Line, text_of}
use Rattle.report_terms.specs.ThinningLines.{events_of}
use Rattle.report_terms.specs.Sections.{Section, lines_of}
use Rattle.report_terms.specs.Holds.{Holds, GivesRule}
use Rattle.report_terms.proofs.HeadingFirst.{gives_rule}
use Rattle.report_lines.specs.Reports.{Space}
use Rattle.report_lines.specs.Said.{said}
use Rattle.report_lines.specs.Tells.{StandsIn, AreSquares, Tells}
use Rattle.report_lines.proofs.Holding.{lines_in_order}
use Rattle.report_lines.proofs.LeftTold.{leaves}
use Rattle.report_lines.proofs.OneReading.{one_reading}
use Rattle.report_lines.proofs.Telling.{holding_tells}
use Rattle.report_lines.specs.Made.{IsSpace, exactly}
use Rattle.report_lines.specs.Runs.{Ran}
use Rattle.report_lines.specs.Complete.{FileIs}
use Rattle.report_lines.specs.declared.outcome.Outcome.TheVariants.{Done}
use Rattle.report_lines.proofs.Written.{writes_of}
use Rattle.masking.specs.Pictures.{squared_diameters}
use Rattle.masking.specs.Levels.{IsLevel, AreLevels, AreDepths, number_at}
use Rattle.masking.specs.Masks.{points_mask, distances_mask, mask_bytes}
use Rattle.masking.specs.Shown.{Spell, ShowDepths, ShowDiameters, ShowLeft, Show, WritesShown}
use Rattle.masking.specs.declared.mask.Mask.{Mask}
use Rattle.masking.specs.declared.mask.Mask.TheVariants.{Skeleton, Object, Distances, Squares, Thickness}
use Rattle.masking.proofs.PbmSpelled.{picture_spelled, volume_spelled}
use Rattle.masking.proofs.LevelLaws.{low_levels, grey_levels, no_level}
use Rattle.masking.proofs.SquareLaws.{squares_shown}
use Rattle.masking.proofs.ThicknessLaws.{diameters_shown}

-- ---- points

pub points_shown : (s : Space) → IsSpace s → (Y : Picture) → StandsIn s Y → Spell s.axes Y (points_mask s.axes Y)
points_shown s (inl e) Y stands = subst (λ (u : Space). StandsIn u Y → Spell u.axes Y (points_mask u.axes Y)) (sym e) (picture_spelled Y) stands
points_shown s (inr e) Y stands = subst (λ (u : Space). StandsIn u Y → Spell u.axes Y (points_mask u.axes Y)) (sym e) (λ t. volume_spelled Y t.picture.filled)
    stands

-- ---- distances

module _ (number : ℕ → ℕ → ℕ) (X : Picture) (squares bytes : List ℕ) (are : AreSquares X squares) (levels : AreLevels number squares bytes) where
  square_at : (i : ℕ) → i < box_count X.sides → slice_get squares i ≡ Some (get_or squares i 0)
  square_at i l = slice_get-get_or squares i 0 (omega (arith, l, are.all))

  depths_of : AreDepths number X bytes
  depths_of = record {
    as_many = levels.as_many ∙ ap (λ n. 2 * n) are.all;
    object = λ i l t. let n = get_or squares i 0 in (n, are.object i n (square_at i l) t, levels.each i n (square_at i l));
    background = λ i l f.
        let n = get_or squares i 0 in
        let none : n ≡ 0 = are.background i n (square_at i l) f in
        no_level (number_at number bytes i) (subst (λ k. IsLevel k (number_at number bytes i)) none (levels.each i n (square_at i l)));
  }

pub depths_shown : (s : Space) → IsSpace s → (X : Picture) (squares : List ℕ) → AreSquares X squares
    → ShowDepths s.axes X (distances_mask s.axes X.sides squares)
depths_shown s (inl e) X squares are =
    let g = grey_levels X.sides squares in
    subst (λ (u : Space). ShowDepths u.axes X (distances_mask u.axes X.sides squares)) (sym e) (g.0, g.1, depths_of _ X squares g.0 are g.2)
depths_shown s (inr e) X squares are =
    subst (λ (u : Space). ShowDepths u.axes X (distances_mask u.axes X.sides squares)) (sym e) (depths_of _ X squares _ are (low_levels squares))

-- ---- a report that holds

module _ (s : Space) (known : IsSpace s) (X : Subject) (text : List ℕ) (stands : StandsIn s X.picture) (holds : Holds X text) (tells : Tells s X text) where
  -- the text names the rule that its lines name
  named : GivesRule text tells.names.heading.rule
  named =
      let all = holds.0 ++ Line.End ∷ [] in
      let b = holds.1 in
      let same : tells.lines ≡ all = one_reading s text tells.lines all tells.report (lines_in_order s X text holds.0 b stands.picture.axes stands.box) in
      let first = subst (λ ls. lines_of Section.Heading ls ≡ Line.Shape tells.names.heading ∷ []) same tells.names.first_is in
      gives_rule X all text tells.names.heading tells.names.heading.rule b.good first refl (b.split ∙ append-nil (text_of all))

  -- what is left stands in the box
  left_stands : StandsIn s tells.stage.left
  left_stands =
      let l = leaves tells.rule X.picture (events_of tells.lines) (opening_stage tells.rule X.picture) tells.stage tells.thinning.0 stands.picture.filled in
      record {
        picture = record { axes = ap length l.sides ∙ stands.picture.axes; filled = l.filled };
        box = subst (λ n. AreSides s.greatest (map pos n)) (sym l.sides) stands.box;
      }

  left_shown : ShowLeft s.axes X text (points_mask s.axes (said tells.lines).left)
  left_shown = record {
    name = tells.names.heading.rule;
    named = named;
    rule = tells.rule;
    on_shelf = tells.names.on_shelf;
    events = events_of tells.lines;
    stage = tells.stage;
    thinning = tells.thinning;
    spelled = subst (λ Y. Spell s.axes tells.stage.left (points_mask s.axes Y)) (sym tells.left) (points_shown s known tells.stage.left left_stands);
  }

  shown : (mask : Mask) → Show mask s.axes X text (mask_bytes mask s.axes (said tells.lines))
  shown Skeleton = left_shown
  shown Object = subst (λ Y. Spell s.axes X.picture (points_mask s.axes Y)) (sym tells.object) (points_shown s known X.picture stands)
  shown Distances =
      subst (λ (Y : Picture). ShowDepths s.axes X.picture (distances_mask s.axes Y.sides (said tells.lines).squares)) (sym tells.object)
      (depths_shown s known X.picture (said tells.lines).squares tells.squares)
  shown Squares = squares_shown s known X.picture stands (said tells.lines).squares tells.squares
  shown Thickness =
      let squares = (said tells.lines).squares in
      subst (λ (Y : Picture). ShowDiameters s.axes X.picture (distances_mask s.axes Y.sides (squared_diameters Y squares))) (sym tells.object)
      (diameters_shown s known X.picture stands squares tells.squares)

pub masks_shown : (mask : Mask) (s : Space) (X : Subject) (name text : List ℕ) (old new : DeskState) → IsSpace s → StandsIn s X.picture → Holds X text
    → FileIs old.files name (λ bytes. bytes ≡ text) → Ran (exactly (mask_bytes mask)) name old new Done
    → WritesShown mask s.axes X text old new
masks_shown mask s X name text old new known stands holds file ran =
    let tells = holding_tells s X text holds stands in
    let w = writes_of (exactly (mask_bytes mask)) s name text tells.lines old new known tells.report file ran in
    record { bytes = w.bytes; shown = subst (Show mask s.axes X text) (sym w.made) (shown s known X text stands holds tells mask); puts = w.puts }
