-- How sinks in a list are found by their ids.
use Rattle.std.specs.Prelude.{◌≡◌, ℕ, List, is_some}
use Rattle.std.specs.Ordering.{nat_cmp}
use Rattle.std.specs.BTreeMap.{BTreeMap, get}
use Rattle.cts_units.specs.declared.params.Sink.{Sink}
use Rattle.cts_edit.specs.Edits.{has_id}

-- The map has the ids of the sinks, and no others. The places that it tells are where to look first.
pub record IsIndexed (sinks : List Sink) (places : BTreeMap ℕ ℕ) : Type 0 where
  pub there : (id : ℕ) → is_some (get nat_cmp places id) ≡ has_id id sinks
