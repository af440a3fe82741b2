-- The ends of merging regions.
use Rattle.std.specs.Prelude.{◌≡◌, ℕ, pos, ◌+ℤ◌, ◌-ℤ◌}
use Rattle.std.specs.Int.{int_min, int_max}
use Rattle.cts_geom.specs.declared.regions.Region.{Region}

-- The four ends of a region: those of what two rectangles share, each widened by its length.
pub record HasEnds (a : Region) (ea : ℕ) (b : Region) (eb : ℕ) (region : Region) : Type 0 where
  pub u1 : region.u1 ≡ int_max (a.u1 -ℤ pos ea) (b.u1 -ℤ pos eb)
  pub u2 : region.u2 ≡ int_min (a.u2 +ℤ pos ea) (b.u2 +ℤ pos eb)
  pub v1 : region.v1 ≡ int_max (a.v1 -ℤ pos ea) (b.v1 -ℤ pos eb)
  pub v2 : region.v2 ≡ int_min (a.v2 +ℤ pos ea) (b.v2 +ℤ pos eb)
