-- Where repeaters stand on the trunk, the wire from the source to the root: at the multiples of a step, wherever a buffer may.
use Rattle.std.specs.Prelude.{ℕ, ◌-◌, ◌*◌, ◌/◌, Bool, not, ◌&&◌, pos, ◌*ℤ◌, int_lt, int_le, List, [], map, filter}
use Rattle.std.specs.List.{list_any, range_with_len}
use Rattle.cts_geom.specs.declared.points.Half.{Half}
use Rattle.cts_geom.specs.declared.bounds.Die.{Die}
use Rattle.cts_geom.specs.Points.{point_of}
use Rattle.cts_block.specs.declared.blocks.Block.{Block}
use Rattle.cts_tree.specs.declared.nodes.TreeNode.{TreeNode}
use Rattle.cts_tree.specs.Path.{points_along}
use Rattle.cts_instance.specs.declared.parts.Parts.{Parts}
use Rattle.cts_elmore.specs.Sound.{upper_end}
use Rattle.cts_trunk.specs.Way.{point_along}

-- whether a point in half nm lies strictly inside a block
abbrev pub is_inside : Half → Block → Bool
is_inside at block =
    (int_lt (pos 2 *ℤ block.x1) at.x && int_lt at.x (pos 2 *ℤ block.x2))
    && (int_lt (pos 2 *ℤ block.y1) at.y && int_lt at.y (pos 2 *ℤ block.y2))

-- whether it lies in the closed die
abbrev pub is_in_die : Die → Half → Bool
is_in_die die at =
    (int_le (pos 2 *ℤ die.x1) at.x && int_le at.x (pos 2 *ℤ die.x2))
    && (int_le (pos 2 *ℤ die.y1) at.y && int_le at.y (pos 2 *ℤ die.y2))

-- whether a buffer may stand there
abbrev pub is_free : List Block → Die → Half → Bool
is_free blocks die at = is_in_die die at && not (list_any (is_inside at) blocks)

-- the multiples of a step, from the first to the one of this number, that pass a test
abbrev pub chosen : (ℕ → Bool) → ℕ → ℕ → List ℕ
chosen test step count = filter test (map (λ m. m * step) (range_with_len 1 count))

-- the way of the trunk, from the source to the node at the root
abbrev pub trunk_way : Parts → TreeNode → List Half
trunk_way i root = points_along (upper_end i []) root.route.corners (point_of root.place)

-- whether a buffer may stand on a way at this distance from its start, in half nm
unfoldable pub is_free_at : List Block → Die → List Half → ℕ → Bool
is_free_at blocks die way d = is_free blocks die (point_along way d)

-- the lengths from the source in nm, below the wire's length, at which repeaters stand
unfoldable pub stands : Parts → TreeNode → ℕ → List ℕ
stands i root step = chosen (λ s. is_free_at i.blocks i.die (trunk_way i root) (2 * s)) step ((root.wire - 1) / step)
