-- Every valid instance has a synthesis, over each shape of its sinks.
use Rattle.std.proofs.Common.{inl, inr, List, length}
use Rattle.cts_topo.specs.declared.shape.ShapeNode.{ShapeNode}
use Rattle.cts_topo.specs.Shape.{IsShapeOver}
use Rattle.cts_topo.specs.Topology.{shape_of}
use Rattle.cts_tree.specs.declared.nodes.TreeNode.{TreeNode}
use Rattle.cts_instance.specs.declared.parts.Parts.{Parts}
use Rattle.cts_instance.specs.Validity.{IsValid}
use Rattle.cts_merge.specs.declared.side.Finished.{Finished}
use Rattle.cts_up.specs.Plan.{IsPlan}
use Rattle.cts_up.proofs.Exists.{plan_or_beyond}
use Rattle.cts_up.proofs.Unique.{plan_not_beyond}
use Rattle.cts_embed.specs.PlacedTree.{IsPlacedTree}
use Rattle.cts_embed.proofs.BalanceExists.{balanced_or_beyond}
use Rattle.cts_embed.proofs.PlacedFits.{placed_fits, placed_post_order}
use Rattle.cts_embed.proofs.PlacesExist.{plan_placed_or_cut}
use Rattle.cts_plain.specs.Synthesis.{Synthesis, made, beyond, cut, IsSynthesisOver}
use Rattle.cts_plain.specs.Laws.{SynthesisExists, InstancesHaveOneSynthesis, BeyondHasOneReason}
use Rattle.cts_plain.proofs.Unique.{synthesis_one}
use Rattle.cts_plain.proofs.Valid.{shape_over}

module _ (i : Parts) (shape : List ShapeNode) (valid : IsValid i) (over : IsShapeOver (length i.sinks) shape) where
  abbrev Some : Type 0
  Some = (synthesis : Synthesis) × IsSynthesisOver i shape synthesis

  over_placed : (plan : List Finished) → IsPlan i.params i.sinks shape plan → (placed : List TreeNode) → IsPlacedTree i shape placed → Some
  over_placed plan is_plan placed is_placed =
      elim (balanced_or_beyond i placed valid.params.wire (placed_post_order i shape placed is_placed over.post_order)
      (placed_fits i shape placed is_placed valid over)) [
        | inl tree ↦ (
          made tree.0,
          record { plan = plan; is_plan = is_plan; placed = placed; is_placed = is_placed; is_balanced = tree.1 },
        )
        | inr least ↦ (
          beyond least.0,
          inr (record { plan = plan; is_plan = is_plan; placed = placed; is_placed = is_placed; is_beyond = least.1 }),
        )
      ]

  over_plan : (plan : List Finished) → IsPlan i.params i.sinks shape plan → Some
  over_plan plan is_plan =
      elim (plan_placed_or_cut i shape plan valid over.post_order is_plan) [
        | inl placed ↦ over_placed plan is_plan placed.0 placed.1
        | inr greatest ↦ (cut greatest.0, record { plan = plan; is_plan = is_plan; is_cut = greatest.1 })
      ]

  synthesis_over : Some
  synthesis_over =
      elim (plan_or_beyond i.params i.sinks shape valid.params.wire over) [
        | inl plan ↦ over_plan plan.0 plan.1
        | inr least ↦ (beyond least.0, inl least.1)
      ]

pub synthesis_exists : SynthesisExists
synthesis_exists i shape valid over = synthesis_over i shape valid over

pub instance_synthesis : InstancesHaveOneSynthesis
instance_synthesis i valid =
    let over : IsShapeOver (length i.sinks) (shape_of i.sinks) = shape_over i valid in
    let some = synthesis_over i (shape_of i.sinks) valid over in
    (some.0, some.1, λ other is. synthesis_one i (shape_of i.sinks) other some.0 over is some.1)

pub one_reason : BeyondHasOneReason
one_reason i shape j k in_plan in_balance = plan_not_beyond i.params i.sinks shape in_balance.plan j in_balance.is_plan in_plan
