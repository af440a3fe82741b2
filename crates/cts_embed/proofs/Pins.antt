-- The pins of the leaves, as the balance reads them.
use Rattle.std.proofs.Common.{◌≡◌, ℕ, ◌+◌, ◌<◌, ◌≤◌, List, ◌∷◌, drop, length, get_or, IfSome, sym, ap, ◌∙◌, arith}
use Rattle.std.specs.List.{All}
use Rattle.cts_units.specs.declared.params.Sink.{Sink}
use Rattle.cts_instance.specs.declared.parts.Parts.{Parts}
use Rattle.cts_instance.specs.Validity.{IsSink, IsValid}
use Rattle.cts_tree.specs.declared.nodes.NodeKind.{NodeKind}
use Rattle.cts_tree.specs.declared.nodes.NodeKind.TheVariants.{Leaf, Pair}
use Rattle.cts_tree.specs.declared.nodes.TreeNode.{TreeNode}
use Rattle.cts_tree.specs.Nodes.{leaf_sink}
use Rattle.cts_elmore.specs.declared.pin_list.Pin.{Pin}
use Rattle.cts_elmore.specs.Loads.{pin_of, leaf_pins}
use Rattle.cts_elmore.proofs.LeafPins.{sink_pin, sink_pin_is, taken_leaf}
use Rattle.cts_embed.specs.Fitting.{Fits, NamesWithin}
use Rattle.cts_embed.proofs.OfLeaves.{IsSmallSink}
use Rattle.cts_embed.proofs.Steps.{leaf_names}

-- the leaves of a placed tree name sinks of the instance
sink_within : (sinks buffers : ℕ) (kind : NodeKind) → NamesWithin sinks buffers kind
    → IfSome (leaf_sink kind) (λ sink. sink < sinks)
unfolding NamesWithin
sink_within sinks buffers (Leaf id sink) names = names
sink_within sinks buffers (Pair left right buffer) names = tt

pub sinks_within : (parts : Parts) (nodes : List TreeNode) → Fits parts nodes
    → All (λ node. IfSome (leaf_sink node.kind) (λ sink. sink < length parts.sinks)) nodes
sinks_within parts nodes fits k d h =
    sink_within (length parts.sinks) (length parts.params.library) (get_or nodes k d).kind (fits.names k d h)

-- A leaf at number k takes the next of the pins that are left.
module _ (parts : Parts) (nodes : List TreeNode) (fits : Fits parts nodes) (k : ℕ) (e : TreeNode) (h : k < length nodes)
    (pins : List Pin) (are : pins ≡ leaf_pins parts (drop k nodes)) (id s : ℕ) (is : (get_or nodes k e).kind ≡ Leaf id s) where
  within : s < length parts.sinks
  within = leaf_names (length parts.sinks) (length parts.params.library) id s (get_or nodes k e).kind is (fits.names k e h)

  left : pins ≡ sink_pin parts (get_or nodes k e) ∷ leaf_pins parts (drop (k + 1) nodes)
  left = taken_leaf parts nodes k e h pins are id s is within

  pub some_left : 1 ≤ length pins
  some_left = omega (arith, ap length left)

  module _ (pin : Pin) (rest : List Pin) (taken : pins ≡ pin ∷ rest) where
    same : pin ∷ rest ≡ sink_pin parts (get_or nodes k e) ∷ leaf_pins parts (drop (k + 1) nodes)
    same = sym taken ∙ left

    pub pin_taken : (d : Sink) → pin_of (get_or parts.sinks s d) ≡ pin
    pin_taken d =
        let all : pin ∷ rest ≡ sink_pin parts (get_or nodes k e) ∷ leaf_pins parts (drop (k + 1) nodes) = same in
        let first : sink_pin parts (get_or nodes k e) ≡ pin = cc in
        sym (sink_pin_is parts (get_or nodes k e) id s is d within) ∙ first

    pub pins_left : rest ≡ leaf_pins parts (drop (k + 1) nodes)
    pins_left =
        let all : pin ∷ rest ≡ sink_pin parts (get_or nodes k e) ∷ leaf_pins parts (drop (k + 1) nodes) = same in cc

-- the sinks of a valid instance are within the limits
pub sinks_small : (parts : Parts) → IsValid parts → All IsSmallSink parts.sinks
sinks_small parts valid k d h =
    let sink : IsSink parts.version parts.die _ = valid.sinks k d h in (sink.cap, sink.offset)
