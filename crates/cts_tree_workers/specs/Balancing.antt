-- The balance of a placed tree as a pass by halves: what it asks for, what its halves are, and what it comes to.
use Rattle.std.specs.Prelude.{◌≡◌, ℕ, ◌+◌, ◌-◌, ◌≤◌, List, [], ◌∷◌, ◌++◌, map, length, set, slice_get, slice_index_or, Option, Result, IfOk, IfErr}
use Rattle.std.specs.List.{All}
use Rattle.std.specs.Option.{option_map_or}
use Rattle.cts_units.specs.declared.params.Params.{Params}
use Rattle.cts_postorder.specs.Cut.{IsCut}
use Rattle.cts_postorder.specs.PostOrder.{IsPostOrder, NamesFrom}
use Rattle.cts_tree.specs.declared.nodes.NodeKind.TheVariants.{Pair}
use Rattle.cts_tree.specs.declared.nodes.TreeNode.{TreeNode}
use Rattle.cts_tree.specs.Nodes.{children_from, tree_children}
use Rattle.cts_instance.specs.declared.parts.Parts.{Parts}
use Rattle.cts_elmore.specs.declared.pin_list.Pin.{Pin}
use Rattle.cts_elmore.specs.Loads.{leaf_pins}
use Rattle.cts_embed.specs.declared.node.NodeBalance.{NodeBalance}
use Rattle.cts_embed.specs.declared.end.BalanceEnd.{BalanceEnd}
use Rattle.cts_embed.specs.declared.end.BalanceEnd.TheVariants.{Beyond}
use Rattle.cts_embed.specs.Balance.{IsPairBalance, IsPairBeyond}
use Rattle.cts_embed.specs.BalancedTree.{IsBalancedStretch, IsStretchBalance}
use Rattle.cts_embed.specs.Ends.{StretchEnds}
use Rattle.cts_embed.specs.Fitting.{Fits}
use Rattle.cts_embed.specs.Range.{IsInRange}
use Rattle.cts_tree_workers.specs.declared.balance.Balance.{Balance}
use Rattle.cts_tree_workers.specs.declared.balance.PlacedPart.{PlacedPart}

-- a part of a placed tree whose first node has this number, and the pins of its leaves
pub record IsPart (parts : Parts) (first : ℕ) (nodes : List TreeNode) (pins : List Pin) : Type 0 where
  pub few : first + length nodes ≤ 131071
  pub post_order : IsPostOrder (map (children_from first) nodes)
  pub numbered : All (NamesFrom tree_children first) nodes
  pub fits : Fits parts nodes
  pub pins_are : pins ≡ leaf_pins parts nodes

-- a part with its wires, and the balance of its root
pub record IsBalancedPart (parts : Parts) (first : ℕ) (placed nodes : List TreeNode) (balance : NodeBalance) : Type 0 where
  pub balanced : IsStretchBalance parts first placed balance
  pub in_range : IsInRange balance
  pub wired : IsBalancedStretch parts first placed nodes

-- the part can be balanced: its nodes are these
abbrev pub IsReady : Balance → PlacedPart → List TreeNode → Type 0
IsReady work part nodes = IsPart work.instance.now part.first nodes part.pins.now

-- two parts are the halves of a third one, over whose root this buffer stands
pub record AreCut (work : Balance) (part : PlacedPart) (fronts backs own : List TreeNode) (front back : PlacedPart)
    (buffer : Option ℕ) : Type 0 where
  pub node : TreeNode
  pub left : ℕ
  pub right : ℕ
  pub cut : IsCut (children_from part.first) (children_from back.first) (fronts ++ backs ++ own) fronts backs node
  pub own_is : own ≡ node ∷ []
  pub kind : node.kind ≡ Pair left right buffer
  pub whole : IsReady work part (fronts ++ backs ++ own)
  pub front_first : front.first ≡ part.first
  pub back_first : back.first ≡ part.first + length fronts

-- the part is balanced, or how its balance ends
pub record IsBalancedBy (work : Balance) (part : PlacedPart) (placed nodes : List TreeNode) (end : Result NodeBalance BalanceEnd)
    : Type 0 where
  pub balanced : IfOk end (IsBalancedPart work.instance.now part.first placed nodes)
  pub ends : IfErr end (StretchEnds work.instance.now part.first placed)

-- the same nodes, of which the last one has a wire of this length
abbrev pub IsLastWired : List TreeNode → ℕ → List TreeNode → Type 0
IsLastWired nodes len wired =
    (e : TreeNode) → wired ≡ set nodes (length nodes - 1) (record (slice_index_or nodes (length nodes - 1) e) { wire = len })

-- the length of the route to the last of these nodes
abbrev pub last_route : List TreeNode → ℕ
last_route nodes = option_map_or (λ (node : TreeNode). node.route.length) (slice_get nodes (length nodes - 1)) 0

-- The pair over two parts, of which these are the balances, is balanced, and the wires of the parts' roots are set.
pub record AreWired (params : Params) (buffer : Option ℕ) (front back : List TreeNode) (a b : NodeBalance)
    (wired_front wired_back : List TreeNode) (root : NodeBalance) : Type 0 where
  pub pair : IsPairBalance params buffer a (last_route front) b (last_route back) root
  pub front_wired : IsLastWired front root.left_wire wired_front
  pub back_wired : IsLastWired back root.right_wire wired_back

-- the pair over two parts is beyond, and told by this number
abbrev pub IsRootOver : Params → Option ℕ → List TreeNode → List TreeNode → NodeBalance → NodeBalance → ℕ → BalanceEnd → Type 0
IsRootOver params buffer front back a b number end =
    (end ≡ Beyond number) × IsPairBeyond params buffer a (last_route front) b (last_route back)
