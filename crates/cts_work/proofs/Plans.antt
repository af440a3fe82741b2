-- Plans in parts.
use Rattle.std.proofs.Common.{◌≡◌, ℕ, ◌+◌, ◌<◌, ◌≤◌, List, [], ◌∷◌, ◌++◌, drop, take, length, get_or, sym, ap, ◌∙◌, subst, arith, length-append}
use Rattle.std.proofs.lemmas.List.{drop_more, drop_all, flat_map_more, take_more}
use Rattle.std.proofs.lemmas.List.Concat.{get_or-flat_map}
use Rattle.std.proofs.lemmas.List.Folds.{length-flat_map-take}
use Rattle.std.proofs.lemmas.Slice.Zip.{AllZip-long}
use Rattle.cts_postorder.specs.BinaryTree.{tip}
use Rattle.cts_postorder.specs.PostOrder.{trees_of}
use Rattle.cts_postorder.proofs.Growth.{length-trees_of}
use Rattle.cts_postorder.proofs.Zips.{all_zip-at}
use Rattle.cts_topo.specs.Shape.{children}
use Rattle.cts_topo.specs.declared.shape.ShapeNode.{ShapeNode}
use Rattle.cts_topo.specs.declared.shape.ShapeNode.TheVariants.{Leaf}
use Rattle.cts_units.specs.declared.params.Sink.{Sink}
use Rattle.cts_units.specs.declared.params.Params.{Params}
use Rattle.cts_merge.specs.declared.side.Finished.{Finished}
use Rattle.cts_up.specs.Plan.{IsFinished, IsPlan}
use Rattle.cts_work.specs.declared.plan.PlanPart.{PlanPart}
use Rattle.cts_work.specs.Built.{tree_at}
use Rattle.cts_work.specs.Work.{AreFinished}
use Rattle.cts_work.specs.Plans.{joined}

-- the nodes of a part
abbrev nodes_in : PlanPart → List Finished
nodes_in part = part.nodes.items

-- a part more
pub joined-push : (parts : List PlanPart) (part : PlanPart) → joined (parts ++ part ∷ []) ≡ joined parts ++ part.nodes.items
joined-push parts part = sym (flat_map_more nodes_in [] parts part)

-- the next part and those after it
pub joined-next : (parts : List PlanPart) (k : ℕ) (d : PlanPart) → k < length parts
    → joined (drop k parts) ≡ (get_or parts k d).nodes.items ++ joined (drop (k + 1) parts)
joined-next parts k d h = ap joined (drop_more parts k d h)

pub joined-past : (parts : List PlanPart) (k : ℕ) → length parts ≤ k → joined (drop k parts) ≡ []
joined-past parts k h = ap joined (drop_all k parts h)

-- the nodes of the parts before the next one, and of it
pub joined-upto : (parts : List PlanPart) (k : ℕ) (d : PlanPart) → k < length parts
    → joined (take (k + 1) parts) ≡ joined (take k parts) ++ (get_or parts k d).nodes.items
joined-upto parts k d h = ap joined (take_more parts k d h) ∙ joined-push (take k parts) (get_or parts k d)

pub length-joined-upto : (parts : List PlanPart) (k : ℕ) (d : PlanPart) → k < length parts
    → length (joined (take (k + 1) parts)) ≡ length (joined (take k parts)) + length (get_or parts k d).nodes.items
length-joined-upto parts k d h = ap length (joined-upto parts k d h) ∙ length-append (joined (take k parts)) (get_or parts k d).nodes.items

-- a part is no longer than what is left of all
pub part_within : (parts : List PlanPart) (k : ℕ) (d : PlanPart) → k < length parts
    → length (joined (take k parts)) + length (get_or parts k d).nodes.items ≤ length (joined parts)
part_within parts k d h = length-flat_map-take nodes_in parts k d h

-- what the nodes of a plan are
module _ (params : Params) (sinks : List Sink) (nodes : List ShapeNode) where
  pub made_plan : (fs : List Finished) → IsPlan params sinks nodes fs → (length fs ≡ length nodes) × AreFinished params sinks nodes 0 fs
  made_plan fs plan =
      let trees = trees_of children nodes in
      let long = AllZip-long (IsFinished params sinks) trees fs plan in (
        omega (arith, long, length-trees_of children nodes),
        record {
          each = λ i d h.
              let here : i ≡ 0 + i = omega arith in
              subst (λ j. IsFinished params sinks (tree_at nodes j) (get_or fs i d)) here
              (all_zip-at (IsFinished params sinks) trees fs i (tip (Leaf 0)) d plan (omega (arith, long, h)));
        },
      )

  -- each part has what its nodes are
  pub part_made : (parts : List PlanPart) (k : ℕ) (e : PlanPart) → k < length parts → AreFinished params sinks nodes 0 (joined parts)
      → AreFinished params sinks nodes (length (joined (take k parts))) (get_or parts k e).nodes.items
  part_made parts k e h made = record {
    each = λ i d w.
        let n = length (joined (take k parts)) in
        let here : 0 + (n + i) ≡ n + i = omega arith in
        subst (λ j. IsFinished params sinks (tree_at nodes j) (get_or (get_or parts k e).nodes.items i d)) here
        (subst (IsFinished params sinks (tree_at nodes (0 + (n + i)))) (get_or-flat_map nodes_in parts k i e d h w)
        (made.each (n + i) d (omega (arith, w, part_within parts k e h))));
  }
