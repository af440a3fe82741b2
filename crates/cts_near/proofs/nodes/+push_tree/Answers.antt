use Rattle.std.proofs.Common.{◌≡◌, ◌+◌, ◌-◌, ◌++◌, length, sym, ap, ◌∙◌, arith}
use Rattle.cts_postorder.specs.BinaryTree.{labels, size}
use Rattle.cts_near.specs.Forest.{tree_at}
use Rattle.cts_near.specs.NearShape.{numbered}
use Rattle.cts_near.proofs.Trees.{tree_at-leaf}
use Rattle.cts_near.proofs.Written.{JoinsTwo, joins_two, longer_by, nodes_some, written_pair, written_leaf}
use Rattle.cts_near.proofs.nodes.+push_tree.Goals as goal

pub push_tree-requires : goal.push_tree-requires
push_tree-requires t c =
    let two : JoinsTwo c.args.joins.now c.args.join c.in-Pair.left c.in-Pair.right (length c.args.nodes.now.items) =
    joins_two c.args.joins.now c.args.join c.in-Pair.left c.in-Pair.right (length c.args.nodes.now.items) _ c.requires.earlier
    c.requires.join c.in-Pair.is c.requires.room in (
      omega (arith, two.left_less, c.decreases),
      (omega (arith, two.left_less, c.requires.join), (c.requires.earlier, omega (arith, two.room))),
    )

pub overflow_sub-left : goal.overflow_sub-left
overflow_sub-left t c =
    let one : length c.push_tree.new.nodes.items ≡ length c.args.nodes.now.items + size (numbered 0 (tree_at c.args.joins.now c.in-Pair.left)) =
    longer_by c.args.nodes.now.items (tree_at c.args.joins.now c.in-Pair.left) c.push_tree.new.nodes.items c.in_ok-push_tree-in-Pair.ensures in
    let some = nodes_some 0 (tree_at c.args.joins.now c.in-Pair.left) in
    let long : c.len.result ≡ length c.push_tree.new.nodes.items = c.len.ensures ∙ c.push_tree.new.nodes.ok.0 in
    omega arith

pub overflow_cast-left : goal.overflow_cast-left
overflow_cast-left t c =
    let two : JoinsTwo c.args.joins.now c.args.join c.in-Pair.left c.in-Pair.right (length c.args.nodes.now.items) =
    joins_two c.args.joins.now c.args.join c.in-Pair.left c.in-Pair.right (length c.args.nodes.now.items) _ c.requires.earlier
    c.requires.join c.in-Pair.is c.requires.room in
    let one : length c.push_tree.new.nodes.items ≡ length c.args.nodes.now.items + size (numbered 0 (tree_at c.args.joins.now c.in-Pair.left)) =
    longer_by c.args.nodes.now.items (tree_at c.args.joins.now c.in-Pair.left) c.push_tree.new.nodes.items c.in_ok-push_tree-in-Pair.ensures in
    let some = nodes_some 0 (tree_at c.args.joins.now c.in-Pair.left) in
    let long : c.len.result ≡ length c.push_tree.new.nodes.items = c.len.ensures ∙ c.push_tree.new.nodes.ok.0 in
    omega (arith, two.room)

pub push_tree-requires-in-Pair : goal.push_tree-requires-in-Pair
push_tree-requires-in-Pair t c =
    let two : JoinsTwo c.args.joins.now c.args.join c.in-Pair.left c.in-Pair.right (length c.args.nodes.now.items) =
    joins_two c.args.joins.now c.args.join c.in-Pair.left c.in-Pair.right (length c.args.nodes.now.items) _ c.requires.earlier
    c.requires.join c.in-Pair.is c.requires.room in
    let one : length c.push_tree.new.nodes.items ≡ length c.args.nodes.now.items + size (numbered 0 (tree_at c.args.joins.now c.in-Pair.left)) =
    longer_by c.args.nodes.now.items (tree_at c.args.joins.now c.in-Pair.left) c.push_tree.new.nodes.items c.in_ok-push_tree-in-Pair.ensures in
    let some = nodes_some 0 (tree_at c.args.joins.now c.in-Pair.left) in
    let long : c.len.result ≡ length c.push_tree.new.nodes.items = c.len.ensures ∙ c.push_tree.new.nodes.ok.0 in (
      omega (arith, two.right_less, c.decreases),
      (omega (arith, two.right_less, c.requires.join), (c.requires.earlier, omega (arith, two.room, one))),
    )

pub overflow_sub-right : goal.overflow_sub-right
overflow_sub-right t c =
    let next : length c.push_tree-in-Pair.new.nodes.items ≡ length c.push_tree.new.nodes.items + size (numbered 0 (tree_at c.args.joins.now c.in-Pair.right)) =
    longer_by c.push_tree.new.nodes.items (tree_at c.args.joins.now c.in-Pair.right) c.push_tree-in-Pair.new.nodes.items c.in_ok-push_tree-in-Pair-2.ensures in
    let more = nodes_some 0 (tree_at c.args.joins.now c.in-Pair.right) in
    let far : c.len-in-Pair.result ≡ length c.push_tree-in-Pair.new.nodes.items = c.len-in-Pair.ensures ∙ c.push_tree-in-Pair.new.nodes.ok.0 in
    omega arith

pub overflow_cast-right : goal.overflow_cast-right
overflow_cast-right t c =
    let two : JoinsTwo c.args.joins.now c.args.join c.in-Pair.left c.in-Pair.right (length c.args.nodes.now.items) =
    joins_two c.args.joins.now c.args.join c.in-Pair.left c.in-Pair.right (length c.args.nodes.now.items) _ c.requires.earlier
    c.requires.join c.in-Pair.is c.requires.room in
    let one : length c.push_tree.new.nodes.items ≡ length c.args.nodes.now.items + size (numbered 0 (tree_at c.args.joins.now c.in-Pair.left)) =
    longer_by c.args.nodes.now.items (tree_at c.args.joins.now c.in-Pair.left) c.push_tree.new.nodes.items c.in_ok-push_tree-in-Pair.ensures in
    let some = nodes_some 0 (tree_at c.args.joins.now c.in-Pair.left) in
    let long : c.len.result ≡ length c.push_tree.new.nodes.items = c.len.ensures ∙ c.push_tree.new.nodes.ok.0 in
    let next : length c.push_tree-in-Pair.new.nodes.items ≡ length c.push_tree.new.nodes.items + size (numbered 0 (tree_at c.args.joins.now c.in-Pair.right)) =
    longer_by c.push_tree.new.nodes.items (tree_at c.args.joins.now c.in-Pair.right) c.push_tree-in-Pair.new.nodes.items c.in_ok-push_tree-in-Pair-2.ensures in
    let more = nodes_some 0 (tree_at c.args.joins.now c.in-Pair.right) in
    let far : c.len-in-Pair.result ≡ length c.push_tree-in-Pair.new.nodes.items = c.len-in-Pair.ensures ∙ c.push_tree-in-Pair.new.nodes.ok.0 in
    omega (arith, two.room)

pub returns-in_ok-push-in-Leaf : goal.returns-in_ok-push-in-Leaf
returns-in_ok-push-in-Leaf t c =
    c.in_ok-push-in-Leaf.ensures.items ∙ written_leaf c.args.nodes.now.items c.in-Leaf.sink
    ∙ ap (λ tree. c.args.nodes.now.items ++ labels (numbered (length c.args.nodes.now.items) tree))
    (sym (tree_at-leaf c.args.joins.now c.args.join c.in-Leaf.sink _ c.requires.join c.in-Leaf.is))

pub returns-in_ok-push-in-Pair : goal.returns-in_ok-push-in-Pair
returns-in_ok-push-in-Pair t c =
    let two : JoinsTwo c.args.joins.now c.args.join c.in-Pair.left c.in-Pair.right (length c.args.nodes.now.items) =
    joins_two c.args.joins.now c.args.join c.in-Pair.left c.in-Pair.right (length c.args.nodes.now.items) _ c.requires.earlier
    c.requires.join c.in-Pair.is c.requires.room in
    let one : length c.push_tree.new.nodes.items ≡ length c.args.nodes.now.items + size (numbered 0 (tree_at c.args.joins.now c.in-Pair.left)) =
    longer_by c.args.nodes.now.items (tree_at c.args.joins.now c.in-Pair.left) c.push_tree.new.nodes.items c.in_ok-push_tree-in-Pair.ensures in
    let some = nodes_some 0 (tree_at c.args.joins.now c.in-Pair.left) in
    let long : c.len.result ≡ length c.push_tree.new.nodes.items = c.len.ensures ∙ c.push_tree.new.nodes.ok.0 in
    let next : length c.push_tree-in-Pair.new.nodes.items ≡ length c.push_tree.new.nodes.items + size (numbered 0 (tree_at c.args.joins.now c.in-Pair.right)) =
    longer_by c.push_tree.new.nodes.items (tree_at c.args.joins.now c.in-Pair.right) c.push_tree-in-Pair.new.nodes.items c.in_ok-push_tree-in-Pair-2.ensures in
    let more = nodes_some 0 (tree_at c.args.joins.now c.in-Pair.right) in
    let far : c.len-in-Pair.result ≡ length c.push_tree-in-Pair.new.nodes.items = c.len-in-Pair.ensures ∙ c.push_tree-in-Pair.new.nodes.ok.0 in
    c.in_ok-push-in-Pair.ensures.items
    ∙ written_pair c.args.nodes.now.items c.push_tree.new.nodes.items c.push_tree-in-Pair.new.nodes.items
    (tree_at c.args.joins.now c.in-Pair.left) (tree_at c.args.joins.now c.in-Pair.right) _ _
    c.in_ok-push_tree-in-Pair.ensures c.in_ok-push_tree-in-Pair-2.ensures (ap (λ n. n - 1) long) (ap (λ n. n - 1) far)
    ∙ ap (λ tree. c.args.nodes.now.items ++ labels (numbered (length c.args.nodes.now.items) tree)) (sym two.tree)
