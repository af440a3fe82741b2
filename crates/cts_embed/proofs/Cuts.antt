-- Where the next node downward is cut, its number is the greatest.
use Rattle.std.proofs.Common.{◌≡◌, ℕ, ◌+◌, ◌-◌, ◌<◌, ◌≤◌, List, [], ◌∷◌, ◌++◌, map, drop, length, get_or, sym, subst, arith}
use Rattle.std.specs.List.{All, AllZip}
use Rattle.std.proofs.lemmas.List.{get_or_default}
use Rattle.cts_geom.specs.declared.points.Spot.{Spot}
use Rattle.cts_postorder.specs.BinaryTree.{tip}
use Rattle.cts_postorder.specs.PostOrder.{IsPostOrder}
use Rattle.cts_postorder.specs.Occurrence.{Occurrence, occurrences_of}
use Rattle.cts_postorder.proofs.Failures.{greatest_failure}
use Rattle.cts_postorder.proofs.Lists.{length-occurrences_of}
use Rattle.cts_instance.specs.declared.parts.Parts.{Parts}
use Rattle.cts_topo.specs.declared.shape.ShapeNode.{ShapeNode}
use Rattle.cts_topo.specs.Shape.{children}
use Rattle.cts_merge.specs.declared.side.Finished.{Finished}
use Rattle.cts_up.specs.Plan.{IsPlan}
use Rattle.cts_tree.specs.declared.nodes.TreeNode.{TreeNode}
use Rattle.cts_embed.specs.PlacedTree.{IsCutFrom, IsCutNode, IsPlacedNode, IsGreatestCut}
use Rattle.cts_embed.proofs.Starts.{AreStarts, cut_here}
use Rattle.cts_embed.proofs.OnePlace.{none_cut}

pub greatest_cut : (parts : Parts) (nodes : List ShapeNode) (ok : IsPostOrder (map children nodes)) (number : ℕ) (some : 0 < number)
    (within : number ≤ length nodes) (starts : List Spot) (handed : AreStarts parts nodes number starts) (rest : List Spot) (from : Spot)
    (starts_are : starts ≡ rest ++ from ∷ []) (plan : List Finished) (all : IsPlan parts.params parts.sinks nodes plan) (e : ShapeNode)
    (f : Finished) (f_is : f ≡ get_or plan (number - 1) f) (placed : List TreeNode)
    → AllZip (IsPlacedNode parts) (drop number (occurrences_of children nodes)) placed
    → IsCutFrom parts (get_or nodes (number - 1) e) f from → IsGreatestCut parts nodes (number - 1)
greatest_cut parts nodes ok number some within starts handed rest from starts_are plan all e f f_is placed before cut =
    let os : List (Occurrence ShapeNode) = occurrences_of children nodes in
    let none : Occurrence ShapeNode = record { above = []; here = tip e } in
    let o : Occurrence ShapeNode = get_or os (number - 1) none in
    let next : number - 1 + 1 ≡ number = omega arith in
    greatest_failure children nodes (IsCutNode parts) ok (number - 1) o (omega arith)
    (get_or_default os (number - 1) o none (omega (arith, length-occurrences_of children nodes ok)))
    (cut_here parts nodes ok number some within starts handed rest from starts_are plan all e f f_is none cut)
    (subst (λ n. All (λ x. ¬ IsCutNode parts x) (drop n os)) (sym next) (none_cut parts (drop number os) placed before))
