-- What the rule on sinks keeps of the leaves that it has passed.
use Rattle.std.specs.Prelude.{◌≡◌, ◌==◌, ℕ, Bool, List, map}
use Rattle.std.specs.List.{list_any}
use Rattle.cts_geom.specs.declared.points.Spot.{Spot}
use Rattle.cts_geom.specs.Points.{spot_at}
use Rattle.cts_units.specs.declared.params.Sink.{Sink}
use Rattle.cts_tree.specs.declared.nodes.NodeKind.{NodeKind}
use Rattle.cts_tree.specs.declared.nodes.NodeKind.TheVariants.{Leaf, Pair}
use Rattle.cts_tree.specs.declared.nodes.TreeNode.{TreeNode}
use Rattle.cts_elmore.specs.Sound.{leaf_ids}
use Rattle.cts_check.specs.Told.{place_of_id}

-- which sinks have a leaf among these nodes
abbrev pub marks_of : List Sink → List TreeNode → List Bool
marks_of sinks nodes = map (λ sink. list_any (λ id. id == sink.id) (leaf_ids nodes)) sinks

-- a leaf names the sink that has its id, by its place
abbrev pub NamesById : List Sink → NodeKind → Type 0
NamesById sinks (Leaf id sink) = sink ≡ place_of_id sinks id
NamesById sinks (Pair left right buffer) = Unit {0}

-- the sink has this id, and lies at this place
pub record StandsAt (sink : Sink) (id : ℕ) (place : Spot) : Type 0 where
  pub id_is : sink.id ≡ id
  pub place_is : place ≡ spot_at sink.x sink.y
