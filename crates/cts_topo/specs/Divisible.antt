-- Pins as the division keeps them: sorted along both axes, and their two parts sorted alike.
use Rattle.std.specs.Prelude.{ℕ, ◌<◌, Bool, not, List, take, drop, length}
use Rattle.std.specs.List.Sorted.{IsSortedBy}
use Rattle.cts_units.specs.Ids.{HasDistinctIds}
use Rattle.cts_topo.specs.declared.pin.Pin.{Pin}
use Rattle.cts_topo.specs.Shuffled.{Shuffled}
use Rattle.cts_topo.specs.Topology.{is_before, left_part, right_part}

-- some pins with distinct ids in two lists, sorted along the axis that `wide` names and across it
pub record IsDivisible (wide : Bool) (along across : List Pin) : Type 0 where
  pub some : 0 < length along
  pub distinct : HasDistinctIds (λ p. p.id) along
  pub sorted_along : IsSortedBy (is_before wide) along
  pub sorted_across : IsSortedBy (is_before (not wide)) across
  pub same : Shuffled along across

-- At this place both lists are parted in two: the pins of the left part, and those of the right one. Each part is
-- sorted as the whole is.
pub record AreHalves (wide : Bool) (along across : List Pin) (half : ℕ) : Type 0 where
  pub left_is : Shuffled (left_part along) (take half along)
  pub right_is : Shuffled (right_part along) (drop half along)
  pub left : IsDivisible wide (take half along) (take half across)
  pub right : IsDivisible wide (drop half along) (drop half across)
