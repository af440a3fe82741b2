-- The balance of a placed tree: upward over the routes, each pair's two wires get the lengths by which the delays of its
-- two sides differ least, where a leaf begins with twice the offset that its sink wants. Buffers stay as they were chosen
-- before, whatever the loads are now.
-- After the exact zero-skew merge of Tsay; whole lengths over given routes are this project's own rule.
use Rattle.std.specs.Prelude.{◌≡◌, ℕ, ◌+◌, ◌*◌, ◌<◌, ◌≤◌, ◌⊎◌, max, min, List, slice_get, Option, None, MatchOption}
use Rattle.cts_units.specs.declared.params.Sink.{Sink}
use Rattle.cts_units.specs.declared.params.Wire.{Wire}
use Rattle.cts_units.specs.declared.params.Params.{Params}
use Rattle.cts_units.specs.Choice.{added_delay_of, seen_load_of}
use Rattle.cts_units.specs.Delay.{wire_delay_of}
use Rattle.cts_units.specs.Limits.{max_delay, max_length, max_load}
use Rattle.cts_merge.specs.LeastPair.{IsLeastPair, Covers}
use Rattle.cts_postorder.specs.BinaryTree.{BinaryTree, tip, fork, label}
use Rattle.cts_tree.specs.declared.nodes.NodeKind.{NodeKind}
use Rattle.cts_tree.specs.declared.nodes.NodeKind.TheVariants.{Leaf, Pair}
use Rattle.cts_tree.specs.declared.nodes.TreeNode.{TreeNode}
use Rattle.cts_tree.specs.Nodes.{buffer_of}
use Rattle.cts_instance.specs.declared.parts.Parts.{Parts}
use Rattle.cts_embed.specs.declared.node.NodeBalance.{NodeBalance}

-- the greatest delay of a node through a wire of a length above it
abbrev pub delay_through : Wire → NodeBalance → ℕ → ℕ
delay_through wire node len = node.greatest + wire_delay_of wire.r wire.c len node.load

-- the least pair of lengths of the wires to two children over routes of the lengths la and lb
abbrev pub IsWirePair : Wire → NodeBalance → ℕ → NodeBalance → ℕ → ℕ → ℕ → Type 0
IsWirePair wire a la b lb xa xb = IsLeastPair (delay_through wire a) (delay_through wire b) (Covers la lb) xa xb

-- the load of a pair before its buffer, and its greatest delay before it
abbrev pub load_below : Wire → NodeBalance → NodeBalance → ℕ → ℕ → ℕ
load_below wire a b xa xb = a.load + b.load + wire.c * (xa + xb)

abbrev pub delay_below : Wire → NodeBalance → NodeBalance → ℕ → ℕ → ℕ
delay_below wire a b xa xb = max (delay_through wire a xa) (delay_through wire b xb)

-- the same of least delays
abbrev pub least_through : Wire → NodeBalance → ℕ → ℕ
least_through wire node len = node.least + wire_delay_of wire.r wire.c len node.load

abbrev pub least_below : Wire → NodeBalance → NodeBalance → ℕ → ℕ → ℕ
least_below wire a b xa xb = min (least_through wire a xa) (least_through wire b xb)

-- a leaf: twice the sink's offset as greatest and as least delay, since delays are doubled, and the sink's capacitance
pub record IsLeafBalance (sink : Sink) (leaf : NodeBalance) : Type 0 where
  pub greatest : leaf.greatest ≡ 2 * sink.offset
  pub least : leaf.least ≡ 2 * sink.offset
  pub load : leaf.load ≡ sink.cap
  pub left_wire : leaf.left_wire ≡ 0
  pub right_wire : leaf.right_wire ≡ 0
  pub total : leaf.wires ≡ 0

-- A pair with this buffer, over two children and the routes to them, that is within the limits: its load before the buffer
-- is within them, its greatest delay after it.
pub record IsPairBalance (params : Params) (buffer : Option ℕ) (a : NodeBalance) (la : ℕ) (b : NodeBalance) (lb : ℕ)
    (pair : NodeBalance) : Type 0 where
  pub wires : IsWirePair params.wire a la b lb pair.left_wire pair.right_wire
  pub load : pair.load
      ≡ seen_load_of params.library buffer (load_below params.wire a b pair.left_wire pair.right_wire)
  pub greatest : pair.greatest
      ≡ delay_below params.wire a b pair.left_wire pair.right_wire
      + added_delay_of params.library buffer (load_below params.wire a b pair.left_wire pair.right_wire)
  pub least : pair.least
      ≡ least_below params.wire a b pair.left_wire pair.right_wire
      + added_delay_of params.library buffer (load_below params.wire a b pair.left_wire pair.right_wire)
  pub total : pair.wires ≡ a.wires + b.wires + pair.left_wire + pair.right_wire
  pub left_within : pair.left_wire ≤ max_length
  pub right_within : pair.right_wire ≤ max_length
  pub load_within : load_below params.wire a b pair.left_wire pair.right_wire ≤ max_load
  pub greatest_within : pair.greatest ≤ max_delay

-- beyond: with the least pair of lengths a wire is over the limit, or the load before the buffer, or the greatest delay
-- after it
pub record IsPairBeyond (params : Params) (buffer : Option ℕ) (a : NodeBalance) (la : ℕ) (b : NodeBalance) (lb : ℕ)
    : Type 0 where
  pub xa : ℕ
  pub xb : ℕ
  pub wires : IsWirePair params.wire a la b lb xa xb
  pub over : (max_length < xa) ⊎ ((max_length < xb) ⊎ ((max_load < load_below params.wire a b xa xb)
      ⊎ (max_delay < delay_below params.wire a b xa xb + added_delay_of params.library buffer (load_below params.wire a b xa xb))))

-- the sink that a leaf names, and none at a pair
abbrev pub sink_of : List Sink → NodeKind → Option Sink
sink_of sinks (Leaf id sink) = slice_get sinks sink
sink_of sinks (Pair left right buffer) = None

-- What the balance makes of a tree's root: of a leaf what its sink gives, of a pair what its two children give over the
-- routes to them, the left one first.
unfoldable pub IsBalance : Params → List Sink → BinaryTree TreeNode → NodeBalance → Type 0
IsBalance params sinks (tip n) node = MatchOption (sink_of sinks n.kind) ⊥ (λ sink. IsLeafBalance sink node)
IsBalance params sinks (fork l r n) node =
    (a : NodeBalance) × (b : NodeBalance) × IsBalance params sinks l a × IsBalance params sinks r b
    × IsPairBalance params (buffer_of n.kind) a (label l).route.length b (label r).route.length node

-- a pair is beyond: both its children are balanced, and the pair is over the limits
unfoldable pub IsBeyondBalance : Params → List Sink → BinaryTree TreeNode → Type 0
IsBeyondBalance params sinks (tip n) = ⊥
IsBeyondBalance params sinks (fork l r n) =
    (a : NodeBalance) × (b : NodeBalance) × IsBalance params sinks l a × IsBalance params sinks r b
    × IsPairBeyond params (buffer_of n.kind) a (label l).route.length b (label r).route.length

-- the load of the source: the root's, and that of a wire of this length above it
abbrev pub source_load_of : Wire → NodeBalance → ℕ → ℕ
source_load_of wire root len = root.load + wire.c * len

-- The limits that are asked of the root alone, with a wire of this length from the source: that of the wire, that of the
-- source's load, and that of the greatest delay with the source's and the wire's own.
pub record IsRootWithin (parts : Parts) (len : ℕ) (root : NodeBalance) : Type 0 where
  pub wire : len ≤ max_length
  pub load : source_load_of parts.params.wire root len ≤ max_load
  pub delay : 2 * parts.source_r * source_load_of parts.params.wire root len + delay_through parts.params.wire root len ≤ max_delay
