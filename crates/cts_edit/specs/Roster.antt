-- How a roster keeps its sinks: slots in the order of the sinks, some of which are vacant, and a map from each id to its slot.
use Rattle.std.specs.Prelude.{◌≡◌, ℕ, pos, Bool, true, not, nat_eq, List, length, slice_get, Some}
use Rattle.std.specs.List.{filter}
use Rattle.std.specs.Ordering.{nat_cmp}
use Rattle.std.specs.BTreeMap.{BTreeMap, get}
use Rattle.cts_units.specs.declared.params.Sink.{Sink}

-- the greatest number of 32 bits, which is the id of no sink, marks a vacant slot
abbrev pub is_present : Sink → Bool
is_present slot = not (nat_eq slot.id 4294967295)

-- what stands there then
abbrev pub vacancy : Sink
vacancy = record { id = 4294967295; x = pos 0; y = pos 0; cap = 0; offset = 0 }

-- the sinks in their order
abbrev pub present : List Sink → List Sink
present slots = filter is_present slots

-- a sink with this id stands in this slot
pub record StandsAt (slots : List Sink) (id place : ℕ) : Type 0 where
  pub sink : Sink
  pub slot : slice_get slots place ≡ Some sink
  pub is_there : is_present sink ≡ true
  pub same : sink.id ≡ id

-- the map has the slot of each sink, and no other ids
pub record IsRoster (slots : List Sink) (places : BTreeMap ℕ ℕ) (number : ℕ) : Type 0 where
  pub count : number ≡ length (present slots)
  pub named : (place : ℕ) (sink : Sink) → slice_get slots place ≡ Some sink → is_present sink ≡ true → get nat_cmp places sink.id ≡ Some place
  pub found : (id place : ℕ) → get nat_cmp places id ≡ Some place → StandsAt slots id place
