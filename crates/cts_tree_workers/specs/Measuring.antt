-- The two parts of a tree, and what the pass downward over both of them comes to.
use Rattle.std.specs.Prelude.{◌↔◌, List, [], ◌∷◌, ◌++◌, length, All, IsTrue}
use Rattle.std.specs.List.{AllZip}
use Rattle.cts_postorder.specs.BinaryTree.{BinaryTree, tip, fork, subtrees}
use Rattle.cts_postorder.specs.Cut.{IsCut}
use Rattle.cts_postorder.specs.Occurrence.{occurrences}
use Rattle.cts_tree.specs.declared.nodes.TreeNode.{TreeNode}
use Rattle.cts_tree.specs.Nodes.{children_from, tree_children}
use Rattle.cts_instance.specs.declared.parts.Parts.{Parts}
use Rattle.cts_elmore.specs.declared.figures.NodeFigure.{NodeFigure}
use Rattle.cts_elmore.specs.declared.descent.Met.{Met}
use Rattle.cts_elmore.specs.Figures.{IsNodeFigure, IsFigureInRange}
use Rattle.cts_elmore.specs.Limits.{MeetsLoadAt, MeetsSlewAt, MeetsLoadLimit, MeetsSlewLimit}
use Rattle.cts_elmore.specs.Subtrees.{IsKnownBelow}
use Rattle.cts_tree_workers.specs.declared.split.Split.{Split}

-- the nodes of a tree's two parts are these
pub record IsSplit (parts : Split) : Type 0 where
  pub node : TreeNode
  pub cut : IsCut tree_children (children_from (length parts.front.now)) parts.nodes.now parts.front.now parts.back.now node

-- what is known from below of the nodes of both parts
abbrev pub AreKnownParts : Parts → List NodeFigure → BinaryTree TreeNode → Type 0
AreKnownParts i figures (tip n) = ⊥
AreKnownParts i figures (fork l r n) = AllZip (IsKnownBelow i) (subtrees l ++ subtrees r) figures

-- What the pass downward comes to over both parts of a whole tree.
pub record AreDescended (i : Parts) (l r root : BinaryTree TreeNode) (figures : List NodeFigure) (met : Met) : Type 0 where
  pub each_node : AllZip (IsNodeFigure i root) (occurrences (root ∷ []) l ++ occurrences (root ∷ []) r) figures
  pub in_range : All IsFigureInRange figures
  pub load_met : IsTrue met.load_met ↔ All (MeetsLoadAt i) (subtrees l ++ subtrees r)
  pub slew_met : IsTrue met.slew_met ↔ All (MeetsSlewAt i root) (occurrences (root ∷ []) l ++ occurrences (root ∷ []) r)

abbrev pub ArePartsDescended : Parts → List NodeFigure → Met → BinaryTree TreeNode → Type 0
ArePartsDescended i figures met (tip n) = ⊥
ArePartsDescended i figures met (fork l r n) = AreDescended i l r (fork l r n) figures met

-- and over all of it, from the source
pub record IsWholeDescent (i : Parts) (figures : List NodeFigure) (met : Met) (root : BinaryTree TreeNode) : Type 0 where
  pub each_node : AllZip (IsNodeFigure i root) (occurrences [] root) figures
  pub in_range : All IsFigureInRange figures
  pub load_met : IsTrue met.load_met ↔ MeetsLoadLimit i root
  pub slew_met : IsTrue met.slew_met ↔ MeetsSlewLimit i root
