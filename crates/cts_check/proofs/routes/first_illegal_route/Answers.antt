use Rattle.std.proofs.Common.{◌≡◌, ◌↔◌, Bool, pos, List, IsTrue, sym, subst, below_more, arith}
use Rattle.std.proofs.lemmas.Slice.Zip.{AllZip-long}
use Rattle.cts_geom.specs.declared.bounds.Die.{Die}
use Rattle.cts_geom.specs.declared.points.Half.{Half}
use Rattle.cts_geom.specs.Points.{point_of}
use Rattle.cts_block.specs.declared.blocks.Block.{Block}
use Rattle.cts_postorder.specs.Occurrence.{occurrences_of}
use Rattle.cts_postorder.proofs.Lists.{length-occurrences_of}
use Rattle.cts_tree.specs.declared.nodes.TreeNode.{TreeNode}
use Rattle.cts_tree.specs.Nodes.{tree_children}
use Rattle.cts_instance.specs.declared.parts.Parts.{Parts}
use Rattle.cts_elmore.specs.Sound.{IsLegalRoute}
use Rattle.cts_check.specs.Ranges.{IsInRange}
use Rattle.cts_check.specs.Rules.{MeetsRoute}
use Rattle.cts_check.specs.Ways.{IsUpperEnd}
use Rattle.cts_check.proofs.NodesAt.{rule_met, meets, met}
use Rattle.cts_check.proofs.SeenSpots.{spot_in_range}
use Rattle.cts_check.proofs.routes.first_illegal_route.Goals as goal

pub bounds-ends-number : goal.bounds-ends-number
bounds-ends-number c =
    omega (
      arith,
      c.loop-number-test.true,
      AllZip-long (IsUpperEnd c.args.instance.now) (occurrences_of tree_children c.args.nodes.now) c.args.ends.now c.requires.ends,
      length-occurrences_of tree_children c.args.nodes.now c.requires.post_order,
    )

pub halves-requires : goal.halves-requires
halves-requires c =
    let node_in_range : IsInRange c.index-nodes-number.result =
    subst IsInRange (sym c.index-nodes-number.is)
    (c.requires.in_range c.loop-number.number c.index-nodes-number.result c.loop-number-test.true) in
    spot_in_range c.index-nodes-number.result.place node_in_range.place

-- the route of a node is legal between a point and its place
abbrev IsLegal : Parts → Half → TreeNode → Type 0
IsLegal i end node = IsLegalRoute i.blocks i.die end (point_of node.place) node.route

-- what is told of the instance's own die and blocks
legal_is : (i : Parts) (end : Half) (node : TreeNode) (blocks : List Block) (die : Die) (to : Half) (told : Bool)
    → blocks ≡ i.blocks → die ≡ i.die → to ≡ point_of node.place → (IsTrue told ↔ IsLegalRoute blocks die end to node.route)
    → IsTrue told ↔ IsLegal i end node
legal_is i end node blocks die to told same_blocks same_die same_place is =
    subst (λ b. IsTrue told ↔ IsLegalRoute b i.die end (point_of node.place) node.route) same_blocks
    (subst (λ d. IsTrue told ↔ IsLegalRoute blocks d end (point_of node.place) node.route) same_die
    (subst (λ p. IsTrue told ↔ IsLegalRoute blocks die end p node.route) same_place is))

none : Half
none = record { x = pos 0; y = pos 0 }

pub returns-then-not-is_legal_route : goal.returns-then-not-is_legal_route
unfolding none
returns-then-not-is_legal_route c =
    let i : Parts = c.args.instance.now in (
      (λ meets.
          let legal = met i c.args.nodes.now c.requires.post_order (IsLegal i) c.args.ends.now c.requires.ends c.loop-number.number
          c.loop-number-test.true c.index-nodes-number.result c.index-nodes-number.is none meets in
          let is = legal_is i _ c.index-nodes-number.result c.blocks-2.result.now c.die-die.result c.halves.result c.is_legal_route.result
          c.blocks-2.ensures.part c.die-die.ensures.part c.halves.ensures.point
          (c.is_legal_route.ensures c.blocks-2.result.now c.in_ok-walls.ensures) in
          let yes = is.1 legal in let no = c.if-not-is_legal_route.true in cc),
      c.loop-number.invariant,
    )

pub loop-number-preserved : goal.loop-number-preserved
unfolding none
loop-number-preserved c =
    let i : Parts = c.args.instance.now in
    let is = legal_is i _ c.index-nodes-number.result c.blocks-2.result.now c.die-die.result c.halves.result c.is_legal_route.result
    c.blocks-2.ensures.part c.die-die.ensures.part c.halves.ensures.point
    (c.is_legal_route.ensures c.blocks-2.result.now c.in_ok-walls.ensures) in
    below_more (MeetsRoute i c.args.nodes.now) c.loop-number.number c.loop-number.invariant
    (meets i c.args.nodes.now c.requires.post_order (IsLegal i) c.args.ends.now c.requires.ends c.loop-number.number
    c.loop-number-test.true c.index-nodes-number.result c.index-nodes-number.is none (is.0 c.if-not-is_legal_route.false))

pub returns : goal.returns
returns c =
    rule_met c.args.instance.now c.args.nodes.now c.requires.post_order (IsLegal c.args.instance.now)
    (λ k within. c.loop-number.invariant k (omega (arith, within, c.loop-number-test.false)))
