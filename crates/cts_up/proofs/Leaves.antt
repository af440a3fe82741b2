-- The leaves of a tree over sinks.
use Rattle.std.proofs.Common.{◌≡◌, List, Option, Some, None, refl, subst}
use Rattle.std.specs.List.{All}
use Rattle.std.specs.Option.{MatchOption}
use Rattle.std.proofs.lemmas.Option.{slice_get_within, get_or_from_slice_get}
use Rattle.cts_units.specs.declared.params.Sink.{Sink}
use Rattle.cts_topo.specs.declared.shape.ShapeNode.{ShapeNode}
use Rattle.cts_topo.specs.declared.shape.ShapeNode.TheVariants.{Leaf, Pair}
use Rattle.cts_merge.specs.declared.side.Finished.{Finished}
use Rattle.cts_merge.specs.Merge.{IsLeaf}
use Rattle.cts_up.specs.Plan.{sink_of}

-- the sink of a finished leaf
pub record LeafOf (sinks : List Sink) (n : ShapeNode) (f : Finished) : Type 0 where
  pub sink : Sink
  pub named : sink_of sinks n ≡ Some sink
  pub leaf : IsLeaf sink f

pub leaf_of : (sinks : List Sink) (n : ShapeNode) (f : Finished) → MatchOption (sink_of sinks n) ⊥ (λ sink. IsLeaf sink f)
    → LeafOf sinks n f
leaf_of sinks n f is = by_sink (sink_of sinks n) refl is
  where
    by_sink : (o : Option Sink) → sink_of sinks n ≡ o → MatchOption o ⊥ (λ sink. IsLeaf sink f) → LeafOf sinks n f
    by_sink None e leaf = absurd leaf
    by_sink (Some sink) e leaf = record { sink = sink; named = e; leaf = leaf }

-- what holds of all sinks holds of a leaf's
pub sink_has : (P : Sink → Type 0) (sinks : List Sink) (n : ShapeNode) (sink : Sink) → All P sinks
    → sink_of sinks n ≡ Some sink → P sink
sink_has P sinks (Leaf s) sink all named =
    subst P (get_or_from_slice_get sinks s sink sink named) (all s sink (slice_get_within sinks s sink named))
sink_has P sinks (Pair l r) sink all named = cc
