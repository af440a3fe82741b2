-- Where no sink wants an offset, arrivals are delays.
use Rattle.std.proofs.Common.{◌≡◌, get_or, slice_get, Option, Some, None, [], refl, subst, arith}
use Rattle.std.specs.Option.{option_map_or, option_and_then}
use Rattle.std.specs.List.{All}
use Rattle.std.proofs.lemmas.Option.{slice_get_within, get_or_from_slice_get}
use Rattle.cts_units.specs.declared.params.Sink.{Sink}
use Rattle.cts_postorder.specs.BinaryTree.{BinaryTree, tip, fork}
use Rattle.cts_postorder.specs.Occurrence.{tips}
use Rattle.cts_tree.specs.declared.nodes.NodeKind.{NodeKind}
use Rattle.cts_tree.specs.declared.nodes.NodeKind.TheVariants.{Leaf, Pair}
use Rattle.cts_tree.specs.declared.nodes.TreeNode.{TreeNode}
use Rattle.cts_tree.specs.Nodes.{leaf_sink}
use Rattle.cts_instance.specs.declared.parts.Parts.{Parts}
use Rattle.cts_elmore.specs.Loads.{sink_offset, offset_at}
use Rattle.cts_elmore.specs.Delays.{delay_at}
use Rattle.cts_elmore.specs.Skew.{arrival_at, leaf_arrivals, leaf_delays}
use Rattle.cts_elmore.specs.Laws.{ArrivalsAreDelays}
use Rattle.cts_elmore.proofs.Numbers.{map_same}

module _ (i : Parts) (none : All (λ (sink : Sink). sink.offset ≡ 0) i.sinks) where
  no_offset : (sink : Option Sink) → ((s : Sink) → sink ≡ Some s → s.offset ≡ 0) → option_map_or (λ (s : Sink). s.offset) sink 0 ≡ 0
  no_offset None is = refl
  no_offset (Some s) is = is s refl

  sink_wants_none : (n : TreeNode) → sink_offset i n ≡ 0
  sink_wants_none n = by_kind n.kind
    where
      by_kind : (k : NodeKind) → option_map_or (λ (s : Sink). s.offset) (option_and_then (slice_get i.sinks) (leaf_sink k)) 0 ≡ 0
      by_kind (Pair left right buffer) = refl
      by_kind (Leaf id sink) =
          no_offset (slice_get i.sinks sink) (λ s found.
          subst (λ (x : Sink). x.offset ≡ 0) (get_or_from_slice_get i.sinks sink s s found)
          (none sink s (slice_get_within i.sinks sink s found)))

  none_wanted : (t : BinaryTree TreeNode) → offset_at i t ≡ 0
  none_wanted (tip n) = sink_wants_none n
  none_wanted (fork l r n) = refl

  arrivals_are_delays_in : (root : BinaryTree TreeNode) → leaf_arrivals i root ≡ leaf_delays i root
  arrivals_are_delays_in root =
      map_same (arrival_at i root) (delay_at i root) (tips [] root)
      (λ k d h. omega (arith, none_wanted (get_or (tips [] root) k d).here))

pub arrivals_are_delays_lem : ArrivalsAreDelays
arrivals_are_delays_lem i root none = arrivals_are_delays_in i none root
