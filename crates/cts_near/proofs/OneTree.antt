-- An instance comes to one thing over its nearest-pair topology, and a tree is sound.
use Rattle.std.proofs.Common.{◌≡◌, ℕ, List, length, ap, sym, subst, ◌∙◌}
use Rattle.cts_instance.specs.declared.parts.Parts.{Parts}
use Rattle.cts_instance.specs.Validity.{IsValid}
use Rattle.cts_topo.specs.declared.shape.ShapeNode.{ShapeNode}
use Rattle.cts_topo.specs.Shape.{IsShapeOver}
use Rattle.cts_near.specs.Near.{whole, beyond}
use Rattle.cts_near.specs.NearShape.{IsNearShape, IsNearBeyond, nodes_of}
use Rattle.cts_near.proofs.One.{near_one}
use Rattle.cts_near.proofs.Covers.{names_each_sink}
use Rattle.cts_plain.specs.Synthesis.{Synthesis, IsSynthesisOver}
use Rattle.cts_plain.proofs.Sound.{trees_sound}
use Rattle.cts_plain.proofs.Unique.{synthesis_one}
use Rattle.cts_near.specs.Synthesis.{NearSynthesis, at_step, over, ComesNear, IsSynthesisNear}
use Rattle.cts_near.specs.Laws.{NearSynthesesAreOne, NearTreesAreSound}

module _ (i : Parts) (valid : IsValid i) where
  -- its shape has each of its sinks
  pub near_over : (shape : List ShapeNode) → IsNearShape i.params i.sinks shape → IsShapeOver (length i.sinks) shape
  near_over shape near = names_each_sink i.params i.sinks shape valid.ids near

  shapes_same : (a b : List ShapeNode) → IsNearShape i.params i.sinks a → IsNearShape i.params i.sinks b → a ≡ b
  shapes_same a b p q =
      let same : whole p.tree ≡ whole q.tree = near_one i.params i.sinks (whole p.tree) (whole q.tree) valid.ids p.near q.near in
      let tree : p.tree ≡ q.tree = cc in
      p.spelled ∙ ap nodes_of tree ∙ sym q.spelled

  pub synthesis_near_one : (a b : Synthesis) → IsSynthesisNear i a → IsSynthesisNear i b → a ≡ b
  synthesis_near_one a b p q =
      let same : p.shape ≡ q.shape = shapes_same p.shape q.shape p.near q.near in
      synthesis_one i q.shape a b (near_over q.shape q.near) (subst (λ shape. IsSynthesisOver i shape a) same p.over) q.over

  not_both : (step : ℕ) (s : Synthesis) → IsNearBeyond i.params i.sinks step → ¬ IsSynthesisNear i s
  not_both step s p q =
      let same : beyond step ≡ whole q.near.tree = near_one i.params i.sinks (beyond step) (whole q.near.tree) valid.ids p q.near.near in
      cc

  one : (a b : NearSynthesis) → ComesNear i a → ComesNear i b → a ≡ b
  one (at_step k) (at_step l) p q =
      let same : beyond k ≡ beyond l = near_one i.params i.sinks (beyond k) (beyond l) valid.ids p q in
      let steps : k ≡ l = cc in
      ap at_step steps
  one (at_step k) (over s) p q = absurd (not_both k s p q)
  one (over s) (at_step k) p q = absurd (not_both k s q p)
  one (over s) (over t) p q = ap over (synthesis_near_one s t p q)

pub near_syntheses_one : NearSynthesesAreOne
near_syntheses_one i a b valid p q = one i valid a b p q

pub near_trees_sound : NearTreesAreSound
near_trees_sound i tree valid is = trees_sound i is.shape tree valid (near_over i valid is.shape is.near) is.over
