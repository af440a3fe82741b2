use Rattle.std.proofs.Common.{ℕ, ◌*◌, ◌<◌, ◌≤◌, inl, inr, pos, below_more, arith}
use Rattle.std.proofs.lemmas.Bool.{cases_lt}
use Rattle.cts_geom.specs.declared.points.Half.{Half}
use Rattle.cts_geom.specs.Points.{point_of}
use Rattle.cts_tree.specs.declared.nodes.TreeNode.{TreeNode}
use Rattle.cts_tree.specs.Path.{points_along, path_length}
use Rattle.cts_check.specs.Rules.{MeetsShort}
use Rattle.cts_check.proofs.NodesAt.{rule_met, meets, met}
use Rattle.cts_check.proofs.wires.first_short_wire.Goals as goal

-- the wire of a node is no shorter than its route from a point
abbrev IsLong : Half → TreeNode → Type 0
IsLong end node = path_length (points_along end node.route.corners (point_of node.place)) ≤ 2 * node.wire

long_enough : (wire way : ℕ) → ¬ (wire < way) → way ≤ wire
long_enough wire way not_short = elim (cases_lt wire way) [ inl short ↦ absurd (not_short short) | inr long ↦ long ]

none : Half
none = record { x = pos 0; y = pos 0 }

pub returns-then-is_short : goal.returns-then-is_short
unfolding none
returns-then-is_short c = λ i ok are. (
  (λ long.
      let is_long = met i c.args.nodes.now ok IsLong c.args.ends.now are c.loop-number.number c.loop-number-test.true c.index-nodes-number.result
      c.index-nodes-number.is none long in
      let short = c.is_short.ensures.0 c.if-is_short.true in omega (arith, is_long, short)),
  c.loop-number.invariant i ok are,
)

pub loop-number-preserved : goal.loop-number-preserved
unfolding none
loop-number-preserved c = λ i ok are.
    below_more (MeetsShort i c.args.nodes.now) c.loop-number.number (c.loop-number.invariant i ok are)
    (meets i c.args.nodes.now ok IsLong c.args.ends.now are c.loop-number.number c.loop-number-test.true c.index-nodes-number.result
    c.index-nodes-number.is none (long_enough _ _ (λ short. let yes = c.is_short.ensures.1 short in let no = c.if-is_short.false in cc)))

pub returns : goal.returns
returns c = λ i ok are.
    rule_met i c.args.nodes.now ok IsLong (λ k within. c.loop-number.invariant i ok are k (omega (arith, within, c.loop-number-test.false)))
