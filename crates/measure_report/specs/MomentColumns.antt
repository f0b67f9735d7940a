-- The columns of second moments: the sums of the coordinates of an object's points and of their products, and in the plane the axes of its ellipse.
-- Sums are whole; axes are spelled in pixels, with three digits behind the point, and the direction as a whole vector with twice its angle.
use Rattle.std.specs.Prelude.{◌≡◌, ℕ, ◌<◌, ◌≤◌, ◌==◌, if◌then◌else◌, List, ◌++◌, codes, pos, slice_index_or}
use Rattle.measure_terms.specs.Moments.{Moments}
use Rattle.measure_terms.specs.Ellipse.{Ellipse, IsEllipse}
use Rattle.measure_terms.specs.Texts.{Columns, whole, signed, thousandths}

-- ---- ellipses of objects

-- the ellipse of no object
abbrev pub no_ellipse : Ellipse
no_ellipse = record { major = 0; minor = 0; double_x = pos 0; double_y = pos 0 }

-- the ellipse of an object, and zeros where it has no point
pub record IsEllipseOf (m : Moments) (e : Ellipse) : Type 0 where
  pub some : 1 ≤ m.count → IsEllipse m e
  pub none : m.count ≡ 0 → e ≡ no_ellipse

-- the moments of no object, for a row without one
abbrev pub no_moments : Moments
no_moments = record { count = 0; x = 0; y = 0; z = 0; xx = 0; xy = 0; yy = 0; xz = 0; yz = 0; zz = 0 }

-- the ellipses of the first n objects with these moments
pub record AreEllipses (n : ℕ) (ms : List Moments) (es : List Ellipse) : Type 0 where
  pub each : (k : ℕ) → k < n → IsEllipseOf (slice_index_or ms k no_moments) (slice_index_or es k no_ellipse)

-- ---- cells

-- the sums of the coordinates of the plane
abbrev pub plane_sums : Moments → List ℕ
plane_sums m = whole m.x ++ whole m.y

-- the sums of the products of two of them
abbrev pub plane_products : Moments → List ℕ
plane_products m = whole m.xx ++ (whole m.xy ++ whole m.yy)

-- the sums of the products with z
abbrev pub space_products : Moments → List ℕ
space_products m = whole m.xz ++ (whole m.yz ++ whole m.zz)

-- an ellipse
abbrev pub ellipse_cells : Ellipse → List ℕ
ellipse_cells e = thousandths e.major ++ (thousandths e.minor ++ (signed e.double_x ++ signed e.double_y))

-- those of an object of the plane
abbrev pub flat_cells : Moments → Ellipse → List ℕ
flat_cells m e = plane_sums m ++ (plane_products m ++ ellipse_cells e)

-- those of an object of space
abbrev pub solid_cells : Moments → List ℕ
solid_cells m = plane_sums m ++ (whole m.z ++ (plane_products m ++ space_products m))

-- the columns of flat objects with these moments and ellipses
abbrev pub flat_moment_columns : List Moments → List Ellipse → Columns
flat_moment_columns ms es = record {
  names = codes ",sum_x,sum_y,sum_xx,sum_xy,sum_yy,major,minor,axis_x,axis_y";
  cells = λ i. flat_cells (slice_index_or ms i no_moments) (slice_index_or es i no_ellipse);
}

-- the columns of objects of space with these moments
abbrev pub solid_moment_columns : List Moments → Columns
solid_moment_columns ms = record {
  names = codes ",sum_x,sum_y,sum_z,sum_xx,sum_xy,sum_yy,sum_xz,sum_yz,sum_zz";
  cells = λ i. solid_cells (slice_index_or ms i no_moments);
}

-- those of objects of a space with d axes
abbrev pub moment_columns : (d : ℕ) → List Moments → List Ellipse → Columns
moment_columns d ms es = if d == 2 then flat_moment_columns ms es else solid_moment_columns ms
