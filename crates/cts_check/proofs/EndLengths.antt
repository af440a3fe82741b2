-- There is an upper end for each node.
use Rattle.std.proofs.Common.{◌≡◌, List, [], ◌∷◌, map, length, refl, ◌∙◌, arith}
use Rattle.std.specs.List.{AllZip}
use Rattle.cts_geom.specs.declared.points.Half.{Half}
use Rattle.cts_postorder.specs.PostOrder.{IsPostOrder}
use Rattle.cts_postorder.specs.Occurrence.{occurrences_of}
use Rattle.cts_postorder.proofs.Lists.{length-occurrences_of}
use Rattle.cts_tree.specs.declared.nodes.TreeNode.{TreeNode}
use Rattle.cts_tree.specs.Nodes.{tree_children}
use Rattle.cts_instance.specs.declared.parts.Parts.{Parts}
use Rattle.cts_check.specs.Ways.{IsUpperEnd, AreUpperEnds}

pub zip_length : {A B : Type 0} (R : A → B → Type 0) (xs : List A) (ys : List B) → AllZip R xs ys → length ys ≡ length xs
zip_length R [] [] all = refl
zip_length R [] (y ∷ ys) all = absurd all
zip_length R (x ∷ xs) [] all = absurd all
zip_length R (x ∷ xs) (y ∷ ys) all = omega (arith, zip_length R xs ys (all.1))

pub end_each : (i : Parts) (nodes : List TreeNode) → IsPostOrder (map tree_children nodes) → (ends : List Half) → AreUpperEnds i nodes ends
    → length ends ≡ length nodes
end_each i nodes ok ends are =
    zip_length (IsUpperEnd i) (occurrences_of tree_children nodes) ends are ∙ length-occurrences_of tree_children nodes ok
