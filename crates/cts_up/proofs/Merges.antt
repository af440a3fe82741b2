-- How many merges a pass over a shape makes: one for each node that is no leaf.
use Rattle.std.proofs.Common.{◌≡◌, ℕ, ◌+◌, ◌<◌, ◌≤◌, ◌^◌, List, take, length, ap, arith, take_all}
use Rattle.cts_units.specs.declared.params.Sink.{Sink}
use Rattle.cts_topo.specs.declared.shape.ShapeNode.{ShapeNode}
use Rattle.cts_topo.specs.Shape.{leaf_sinks, IsShapeOver}
use Rattle.cts_topo.proofs.Counts.{length-leaf_sinks, length-shape, leaves_of_front}
use Rattle.cts_up.specs.Sinks.{AreSinksInRange}

-- the nodes of a shape over sinks, and the merges after the first k of them
module _ (sinks : List Sink) (nodes : List ShapeNode) (ok : IsShapeOver (length sinks) nodes) where
  pub some_sink : 0 < length sinks
  some_sink = omega (arith, length-shape (length sinks) nodes ok)

  pub number_fits : AreSinksInRange sinks → (k : ℕ) → k < length nodes → k < 2 ^ 32
  number_fits are k h = omega (arith, length-shape (length sinks) nodes ok, are.few)

  pub merges_at_most : (before after k : ℕ) → k ≤ length nodes → after + length (leaf_sinks (take k nodes)) ≡ before + k
      → after + 1 ≤ before + length sinks
  merges_at_most before after k h made =
      omega (
        arith,
        length-shape (length sinks) nodes ok,
        length-leaf_sinks (length sinks) nodes ok,
        leaves_of_front nodes k,
      )

  pub merges_all : (before after k : ℕ) → k ≡ length nodes → after + length (leaf_sinks (take k nodes)) ≡ before + k
      → after + 1 ≡ before + length sinks
  merges_all before after k h made =
      let all : length (leaf_sinks (take k nodes)) ≡ length (leaf_sinks nodes) =
      ap (λ ns. length (leaf_sinks ns)) (take_all k nodes (omega arith)) in
      omega (arith, length-shape (length sinks) nodes ok, length-leaf_sinks (length sinks) nodes ok, all)
