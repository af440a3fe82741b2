-- The rules of the lines of an instance, as tests.
use Rattle.std.specs.Prelude.{ℕ, ◌+◌, ◌^◌, Bool, true, false, not, ◌&&◌, ◌||◌, nat_eq, nat_le, nat_lt, ℤ, pos, int_le, int_lt, List}
use Rattle.std.specs.List.{list_all}
use Rattle.cts_geom.specs.declared.bounds.Die.{Die}
use Rattle.cts_units.specs.declared.params.Sink.{Sink}
use Rattle.cts_units.specs.declared.params.Wire.{Wire}
use Rattle.cts_units.specs.declared.params.Buffer.{Buffer}
use Rattle.cts_units.specs.Limits.{max_id, max_coordinate, max_capacitance}
use Rattle.cts_block.specs.declared.blocks.Block.{Block}
use Rattle.cts_block.specs.declared.blocks.Kind.{Kind}
use Rattle.cts_block.specs.declared.blocks.Kind.TheVariants.{Buffer as of_buffers, All as of_all}
use Rattle.cts_block.specs.FreePoints.{stops_wires}
use Rattle.cts_instance.specs.declared.counts.BlockCounts.{BlockCounts}
use Rattle.cts_instance.specs.declared.version.Version.{Version}
use Rattle.cts_instance.specs.declared.version.Version.TheVariants.{One, Two}

-- the most blocks of kind Buffer, of kind All, and of both
abbrev pub max_buffer_blocks : ℕ
max_buffer_blocks = 4096

abbrev pub max_all_blocks : ℕ
max_all_blocks = 64

abbrev pub max_blocks : ℕ
max_blocks = max_buffer_blocks + max_all_blocks

-- from low to high, both included
unfoldable pub is_between : ℤ → ℤ → ℤ → Bool
is_between low high z = int_le low z && int_le z high

-- between low and high, both excluded
unfoldable pub is_strictly_between : ℤ → ℤ → ℤ → Bool
is_strictly_between low high z = int_lt low z && int_lt z high

-- the point lies in the die or on its edges
unfoldable pub is_in_die : Die → ℤ → ℤ → Bool
is_in_die die x y = is_between die.x1 die.x2 x && is_between die.y1 die.y2 y

-- the point lies in the block and off its edges
unfoldable pub is_inside : Block → ℤ → ℤ → Bool
is_inside block x y = is_strictly_between block.x1 block.x2 x && is_strictly_between block.y1 block.y2 y

-- a side of the die is from 0 to 10^8 nm, and its ends are in order
unfoldable pub is_side : ℤ → ℤ → Bool
is_side low high = is_between (pos 0) high low && int_le high (pos max_coordinate)

unfoldable pub is_die : Die → Bool
is_die die = is_side die.x1 die.x2 && is_side die.y1 die.y2

-- numbers without a limit of their own are below 10^18 of their unit
abbrev pub is_bounded : ℕ → Bool
is_bounded n = nat_lt n (10 ^ 18)

-- from 1 to 10^6 each
unfoldable pub is_wire : Wire → Bool
is_wire wire = nat_le 1 wire.r && nat_le wire.r (10 ^ 6) && nat_le 1 wire.c && nat_le wire.c (10 ^ 6)

unfoldable pub is_limits : ℕ → ℕ → ℕ → Bool
is_limits insert_at load slew = is_bounded insert_at && is_bounded load && is_bounded slew

unfoldable pub is_buffer : Buffer → Bool
is_buffer buffer = nat_le buffer.cin max_capacitance && is_bounded buffer.rout && is_bounded buffer.intrinsic

-- in version 1 no sink wants an offset
unfoldable pub is_offset : Version → ℕ → Bool
is_offset One offset = nat_eq offset 0
is_offset Two offset = is_bounded offset

-- the id is at most 999,999,999, the capacitance at most 10^12 zF, and the offset one of the version
unfoldable pub is_sink : Version → Sink → Bool
is_sink version sink = nat_le sink.id max_id && nat_le sink.cap max_capacitance && is_offset version sink.offset

-- the corners are lower left and upper right
unfoldable pub is_upright : Block → Bool
is_upright block = int_le block.x1 block.x2 && int_le block.y1 block.y2

-- both corners lie in the die
unfoldable pub is_block_in_die : Die → Block → Bool
is_block_in_die die block = is_in_die die block.x1 block.y1 && is_in_die die block.x2 block.y2

-- a block that keeps buffers out alone
abbrev pub is_kind_buffer : Kind → Bool
is_kind_buffer of_buffers = true
is_kind_buffer of_all = false

-- the blocks before this one have left room for another of its kind
unfoldable pub has_room : BlockCounts → Kind → Bool
has_room counts of_buffers = nat_lt counts.buffer max_buffer_blocks
has_room counts of_all = nat_lt counts.all max_all_blocks

-- neither the source nor a sink is inside the block
unfoldable pub is_empty : ℤ → ℤ → List Sink → Block → Bool
is_empty x y sinks block =
    not (is_inside block x y) && list_all (λ sink. not (is_inside block sink.x sink.y)) sinks

-- a block that stops wires has nothing inside that the tree has to reach
unfoldable pub is_clear : ℤ → ℤ → List Sink → Block → Bool
is_clear x y sinks block = not (stops_wires block.kind) || is_empty x y sinks block
