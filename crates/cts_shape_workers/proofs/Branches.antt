-- A tree whose root is placed is cut in its two parts, and what their nodes and ends are makes those of the whole.
use Rattle.std.proofs.Common.{◌≡◌, ℕ, ◌+◌, ◌-◌, ◌≤◌, List, ◌++◌, set, take, drop, length, get_or, Result, Ok, Err, refl, sym, subst, arith}
use Rattle.std.proofs.lemmas.List.{length-take-le, length-drop}
use Rattle.cts_topo.specs.declared.shape.ShapeNode.TheVariants.{Leaf, Pair}
use Rattle.cts_tree.specs.declared.nodes.TreeNode.{TreeNode}
use Rattle.cts_embed.specs.declared.end.EmbedEnd.{EmbedEnd}
use Rattle.cts_embed.specs.Stretches.{ArePlaced, IsPlacedAt, StretchEnds}
use Rattle.cts_embed.proofs.Stretches.{begins_before, right_next, left_stretch, right_stretch, in_order, left_ready, right_ready, placed_joined, placed_leaf, placed_pair, ends_in_back, ends_in_front, ends_below}
use Rattle.cts_shape_workers.specs.declared.placing.Branch.{Branch}
use Rattle.cts_shape_workers.specs.declared.placing.Placing.{Placing}
use Rattle.cts_shape_workers.specs.Placing.{AreBranches, ArePlacedBy, CanBePlaced, HasRoom, IsPrepared}

module _ (work : Placing) (part : Branch) where
  pub begins : CanBePlaced work part → part.first ≤ part.root
  begins can = begins_before work.nodes.now part.first part.root can.stretch

  -- the parts of a pair
  pub parts_are : CanBePlaced work part → (left right : ℕ) → get_or work.nodes.now part.root (Leaf 0) ≡ Pair left right
      → (node : TreeNode) → IsPlacedAt work.instance.now work.nodes.now part.root node
      → AreBranches work part node (record { first = part.first; root = left; from = node.place })
      (record { first = left + 1; root = right; from = node.place })
  parts_are can left right is node placed = record {
    placed = placed;
    left_first = refl;
    right_first = refl;
    right_root = right_next work.instance.now work.nodes.now work.sites.now part.root part.from can.ready part.first left right (Leaf 0) is
        can.stretch node placed;
    order = in_order work.instance.now work.nodes.now work.sites.now part.root part.from can.ready part.first left right (Leaf 0) is
        can.stretch node placed;
    left_placeable = record {
      ready = left_ready work.instance.now work.nodes.now work.sites.now part.root part.from can.ready part.first left right (Leaf 0) is
          can.stretch node placed;
      stretch = left_stretch work.instance.now work.nodes.now work.sites.now part.root part.from can.ready part.first left right (Leaf 0) is
          can.stretch node placed;
    };
    right_placeable = record {
      ready = right_ready work.instance.now work.nodes.now work.sites.now part.root part.from can.ready part.first left right (Leaf 0) is
          can.stretch node placed;
      stretch = right_stretch work.instance.now work.nodes.now work.sites.now part.root part.from can.ready part.first left right (Leaf 0) is
          can.stretch node placed;
    };
  }

  module _ (left right : Branch) (node : TreeNode) (are : AreBranches work part node left right) where
    abbrev middle : ℕ
    middle = left.root + 1 - part.first

    abbrev last : ℕ
    last = part.root - part.first

    -- each part has its own room
    pub left_room : IsPrepared work → (front : List TreeNode) → length front ≡ left.root + 1 - part.first → HasRoom work left front
    left_room prepared front long = record {
      prepared = prepared;
      placeable = are.left_placeable;
      places = omega (arith, long, are.left_first, are.order.0);
    }

    pub right_room : IsPrepared work → (back : List TreeNode)
        → length back ≡ part.root - part.first - (left.root + 1 - part.first) → HasRoom work right back
    right_room prepared back long = record {
      prepared = prepared;
      placeable = are.right_placeable;
      places = omega (arith, long, are.right_first, are.order.0, are.order.1, are.right_root);
    }

    module _ (room : List TreeNode) (has : HasRoom work part room) where
      below_long : length (take last room) ≡ last
      below_long = length-take-le last room (omega (arith, has.places))

      pub left_cut : HasRoom work left (take (left.root + 1 - part.first) (take (part.root - part.first) room))
      left_cut =
          left_room has.prepared (take middle (take last room))
          (length-take-le middle (take last room) (omega (arith, below_long, are.order.0, are.order.1, are.right_root)))

      pub right_cut : HasRoom work right (drop (left.root + 1 - part.first) (take (part.root - part.first) room))
      right_cut =
          right_room has.prepared (drop middle (take last room)) (omega (arith, length-drop middle (take last room), below_long))

      pub one_left : length (drop (part.root - part.first) room) ≡ 1
      one_left = omega (arith, length-drop last room, has.places, begins has.placeable)

    -- both parts are placed, and the root
    pub both_placed : (x y : Unit {0}) (front back own : List TreeNode) → length own ≡ 1 → ArePlacedBy work left front (Ok x)
        → ArePlacedBy work right back (Ok y) → ArePlacedBy work part (front ++ back ++ set own 0 node) (Ok x)
    both_placed x y front back own one l r = record {
      placed = placed_pair work.instance.now work.nodes.now part.first right.root part.root (front ++ back) own node are.right_root one
          (placed_joined work.instance.now work.nodes.now part.first left.root right.first right.root front back are.right_first
          (subst (λ k. ArePlaced work.instance.now work.nodes.now k left.root front) are.left_first l.placed) r.placed)
          are.placed;
      ends = tt;
    }

    ended : (end : EmbedEnd) → StretchEnds work.instance.now work.nodes.now part.first right.root end → (room : List TreeNode)
        → ArePlacedBy work part room (Err end)
    ended end ends room = record {
      placed = tt;
      ends = ends_below work.instance.now work.nodes.now part.first right.root part.root node end are.right_root are.placed ends;
    }

    -- a node of the right part is cut
    pub right_ended : (back : List TreeNode) (end : EmbedEnd) → ArePlacedBy work right back (Err end) → (room : List TreeNode)
        → ArePlacedBy work part room (Err end)
    right_ended back end r =
        ended end
        (ends_in_back work.instance.now work.nodes.now part.first right.first right.root end
        (omega (arith, are.right_first, are.order.0)) r.ends)

    -- or one of the left part, where none is of the right one
    pub left_ended : (y : Unit {0}) (front back : List TreeNode) (end : EmbedEnd) → ArePlacedBy work left front (Err end)
        → ArePlacedBy work right back (Ok y) → (room : List TreeNode) → ArePlacedBy work part room (Err end)
    left_ended y front back end l r =
        ended end
        (ends_in_front work.instance.now work.nodes.now part.first left.root right.first right.root back end are.right_first
        (omega (arith, are.order.1)) r.placed
        (subst (λ k. StretchEnds work.instance.now work.nodes.now k left.root end) are.left_first l.ends))

    -- what the left part comes to, the whole comes to, where the right one is placed
    pub told_last : (end : Result (Unit {0}) EmbedEnd) (y : Unit {0}) (front back own : List TreeNode) → length own ≡ 1
        → ArePlacedBy work left front end → ArePlacedBy work right back (Ok y) → ArePlacedBy work part (front ++ back ++ set own 0 node) end
    told_last (Ok x) y front back own one l r = both_placed x y front back own one l r
    told_last (Err end) y front back own one l r = left_ended y front back end l r (front ++ back ++ set own 0 node)

  -- the root alone is cut
  pub root_ended : CanBePlaced work part → (end : EmbedEnd) → StretchEnds work.instance.now work.nodes.now part.root part.root end
      → (room : List TreeNode) → ArePlacedBy work part room (Err end)
  root_ended can end ends room = record {
    placed = tt;
    ends = ends_in_back work.instance.now work.nodes.now part.first part.root part.root end (begins can) ends;
  }

  -- a leaf is placed
  pub leaf_placed : (node : TreeNode) → part.root ≡ part.first → (below own : List TreeNode) → length below ≡ part.root - part.first
      → length own ≡ 1 → IsPlacedAt work.instance.now work.nodes.now part.root node
      → ArePlacedBy work part (below ++ set own 0 node) (Ok tt)
  leaf_placed node same below own none one placed = record {
    placed = placed_leaf work.instance.now work.nodes.now part.first part.root below own node (sym same) none one placed;
    ends = tt;
  }
