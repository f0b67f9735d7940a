-- Columns that tell the same of a component have the same cells in its row.
-- Lists of bytes alone.
use Rattle.std.proofs.Common.{◌≡◌, ℕ, ◌*◌, Bool, true, false, List, ◌++◌, refl, ap, get_or}
use Rattle.std.specs.Prelude.{IsTrue, codes, Option, Some, None}
use Rattle.measure_terms.specs.Texts as Texts
use Rattle.measure_terms.specs.Texts.{Columns}
use Rattle.measure_terms.specs.Rounding.{mean}
use Rattle.measure_terms.specs.HullSizes.{HullSize}
use Rattle.measure_terms.specs.Borders.{Border}
use Rattle.measure_terms.specs.Objects.{object_bounds, thousandths}
use Rattle.bordering.specs.OneMore.{no_bounds}
use Rattle.measure_report.specs.HullColumns.{no_hull}
use Rattle.measure_report.specs.RatioColumns.{ratio_cells, sizes_at}
use Rattle.measure_terms.specs.Minkowski.{Minkowski}
use Rattle.measuring.specs.Spaced.{spacing_told}
use Rattle.measuring.specs.declared.spacing.Spacing.{Spacing}
use Rattle.measure_report.specs.FurtherColumns.{where_asked, group_columns, solid_columns, tells_distances}
use Rattle.measure_report.specs.MinkowskiColumns.{no_minkowski, minkowski_cells, spaced_cells, space_columns}
use Rattle.measure_report.specs.FeretColumns.{feret_cells}
use Rattle.measure_report.specs.MomentColumns.{flat_cells, solid_cells, moment_columns}
use Rattle.measure_report.specs.ThicknessColumns.{cells_where_told, thickness_columns}
use Rattle.measure_report.specs.Further.{Further}
use Rattle.measure_report.specs.declared.groups.Groups.{Groups}
use Rattle.measure_report.proofs.FurtherOnce.{SameEntries}

-- columns with the same cells in a row have the same cells there where they are asked for
asked_cells : (asked : Bool) (some other : Columns) (j : ℕ) → (IsTrue asked → some.cells j ≡ other.cells j)
    → (where_asked asked some).cells j ≡ (where_asked asked other).cells j
asked_cells true some other j h = h refl
asked_cells false some other j h = refl

asked_names : (asked : Bool) (some other : Columns) → some.names ≡ other.names → (where_asked asked some).names ≡ (where_asked asked other).names
asked_names true some other h = h
asked_names false some other h = refl

pub flat_groups : (g : Groups) (f h : Further) (j : ℕ) → SameEntries g 2 f h j → (group_columns g 2 f).cells j ≡ (group_columns g 2 h).cells j
flat_groups g f h j e =
    let moments = asked_cells g.moments (moment_columns 2 f.moments f.ellipses) (moment_columns 2 h.moments h.ellipses) j
    (λ asked. (let m = e.moments asked in let n = e.ellipses asked refl in λ z. flat_cells (m z) (n z))) in
    let thickness = asked_cells g.thickness (thickness_columns true f.thicknesses) (thickness_columns true h.thicknesses) j
    (λ asked. ap (cells_where_told true) (e.thicknesses asked)) in
    λ z. moments z ++ thickness z

pub solid_groups : (g : Groups) (f h : Further) (j : ℕ) → SameEntries g 3 f h j → (group_columns g 3 f).cells j ≡ (group_columns g 3 h).cells j
solid_groups g f h j e =
    let moments = asked_cells g.moments (moment_columns 3 f.moments f.ellipses) (moment_columns 3 h.moments h.ellipses) j
    (λ asked. ap solid_cells (e.moments asked)) in
    let thickness = asked_cells g.thickness (thickness_columns (tells_distances g 3) f.thicknesses) (thickness_columns (tells_distances g 3) h.thicknesses) j
    (λ asked. ap (cells_where_told (tells_distances g 3)) (e.thicknesses asked)) in
    λ z. moments z ++ thickness z

-- the cells of Euler numbers, surfaces and volumes
same_space : (o : Option Spacing) (areas : List ℕ) (ms ns : List Minkowski) (j : ℕ) → get_or ms j no_minkowski ≡ get_or ns j no_minkowski
    → (space_columns o areas ms).cells j ≡ (space_columns o areas ns).cells j
same_space None areas ms ns j e = ap (minkowski_cells true) e
same_space (Some s) areas ms ns j e = ap (spaced_cells (spacing_told s) (get_or areas j 0)) e

space_names : (o : Option Spacing) (areas : List ℕ) (ms ns : List Minkowski) → (space_columns o areas ms).names ≡ (space_columns o areas ns).names
space_names None areas ms ns = refl
space_names (Some s) areas ms ns = refl

pub same_solid : (g : Groups) (areas : List ℕ) (f h : Further) (j : ℕ) → SameEntries g 3 f h j
    → (solid_columns g areas f).cells j ≡ (solid_columns g areas h).cells j
same_solid g areas f h j e =
    let groups = solid_groups g f h j e in
    let m = same_space g.spacing areas f.minkowski h.minkowski j e.minkowski in
    let d = e.ferets true in
    λ z. m z ++ (feret_cells true (d z) ++ groups z)

-- the names do not depend on what is told
group_names : (g : Groups) (d : ℕ) (f h : Further) → (moment_columns d f.moments f.ellipses).names ≡ (moment_columns d h.moments h.ellipses).names
    → (group_columns g d f).names ≡ (group_columns g d h).names
group_names g d f h e =
    let moments = asked_names g.moments (moment_columns d f.moments f.ellipses) (moment_columns d h.moments h.ellipses) e in
    let thickness = asked_names g.thickness (thickness_columns (tells_distances g d) f.thicknesses) (thickness_columns (tells_distances g d) h.thicknesses) refl
    in
    λ z. moments z ++ thickness z

pub flat_names : (g : Groups) (f h : Further) → (group_columns g 2 f).names ≡ (group_columns g 2 h).names
flat_names g f h = group_names g 2 f h refl

pub solid_names : (g : Groups) (areas : List ℕ) (f h : Further) → (solid_columns g areas f).names ≡ (solid_columns g areas h).names
solid_names g areas f h = (
    let n = group_names g 3 f h refl in
    let m = space_names g.spacing areas f.minkowski h.minkowski in
    λ z. m z ++ (codes ",feret,from_x,from_y,from_z,to_x,to_y,to_z" ++ n z))

-- ---- ratios

-- the cells of ratios, where hulls are the same, and borders are where lengths are told
pub same_ratios : (told : Bool) (areas : List ℕ) (hulls others : List HullSize) (sides labels : List ℕ) (n : ℕ) (bs cs : List Border) (j : ℕ)
    → get_or hulls j no_hull ≡ get_or others j no_hull → (told ≡ true → bs ≡ cs)
    → ratio_cells told (sizes_at areas hulls (object_bounds sides labels n bs) j) ≡ ratio_cells told (sizes_at areas others (object_bounds sides labels n cs) j)
same_ratios true areas hulls others sides labels n bs cs j e h =
    let same = h refl in
    λ z. ratio_cells true
    (record {
      area = get_or areas j 0;
      double_area = (e z).double_area;
      border =
          thousandths (get_or (object_bounds sides labels n (same z)) j no_bounds).border;
    })
same_ratios false areas hulls others sides labels n bs cs j e h = λ z. Texts.thousandths (mean (2 * get_or areas j 0) (e z).double_area) ++ codes ","
