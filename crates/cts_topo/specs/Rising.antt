-- Some pins of a list, in their order along an axis.
use Rattle.std.specs.Prelude.{◌≡◌, ◌-◌, ◌<◌, ◌≤◌, Bool, true, List, length, slice_index_or, All, AllPairs, Contains}
use Rattle.cts_topo.specs.declared.pin.Pin.{Pin}
use Rattle.cts_topo.specs.Topology.{is_before}

-- pins of a list, and no more of them than it has
pub record AreFresh (pins fresh : List Pin) : Type 0 where
  pub inside : All (Contains pins) fresh
  pub few : length fresh ≤ length pins

-- each of these pins stands in the list and comes before all later ones along the axis
pub record Rises (wide : Bool) (pins some : List Pin) : Type 0 where
  pub inside : All (Contains pins) some
  pub rising : AllPairs (λ p q. is_before wide p q ≡ true) some

-- the last of some pins, if there is one, comes before this pin along the axis
abbrev pub IsNext : Bool → List Pin → Pin → Type 0
IsNext wide some pin = (d : Pin) → 0 < length some → is_before wide (slice_index_or some (length some - 1) d) pin ≡ true
