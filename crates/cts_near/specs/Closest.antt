-- The closest two of some parts.
use Rattle.std.specs.Prelude.{◌≡◌, ℕ, ◌<◌, ◌≤◌, List, Contains}
use Rattle.cts_geom.specs.Regions.{gap_of}
use Rattle.cts_near.specs.Parts.{Part}

-- how far apart two parts are: the gap of their regions, in nm
abbrev pub gap_between : Part → Part → ℕ
gap_between a b = gap_of a.side.region b.side.region

-- (gap, first name, second name) comes before another such triple, or is equal to it
pub record IsNoLater (gap first second gap' first' second' : ℕ) : Type 0 where
  pub by_gap : gap ≤ gap'
  pub by_first : gap' ≡ gap → first ≤ first'
  pub by_second : gap' ≡ gap → first' ≡ first → second ≤ second'

-- Of all pairs of parts, the lesser name first, these two are least by the gap of their regions, then by the name of the
-- first, then by that of the second.
pub record AreClosest (parts : List Part) (a b : Part) : Type 0 where
  pub first : Contains parts a
  pub second : Contains parts b
  pub in_order : a.name < b.name
  pub no_later : (p q : Part) → Contains parts p → Contains parts q → p.name < q.name
      → IsNoLater (gap_between a b) a.name b.name (gap_between p q) p.name q.name
