-- The faults of the parts of an instance, in the order of the lines of its text: the die, the source, the wire,
-- the limits, the number of buffers, each buffer, the number of sinks, each sink, the number of blocks, each block.
-- A line may have several faults, in the order of its rules.
use Rattle.std.specs.Prelude.{◌≡◌, ℕ, ◌+◌, Bool, not, nat_le, nat_lt, nat_eq, ℤ, List, [], ◌∷◌, ◌++◌, length, map, count_by, Option, None, Some, if◌then◌else◌}
use Rattle.std.specs.List.{list_any}
use Rattle.std.specs.Option.{option_or}
use Rattle.cts_geom.specs.declared.bounds.Die.{Die}
use Rattle.cts_units.specs.declared.params.Sink.{Sink}
use Rattle.cts_units.specs.declared.params.Wire.{Wire}
use Rattle.cts_units.specs.declared.params.Buffer.{Buffer}
use Rattle.cts_units.specs.Limits.{max_sinks, max_buffers}
use Rattle.cts_block.specs.declared.blocks.Block.{Block}
use Rattle.cts_block.specs.declared.blocks.Kind.{Kind}
use Rattle.cts_block.specs.declared.blocks.Kind.TheVariants.{Buffer as of_buffers, All as of_all}
use Rattle.cts_block.specs.FreePoints.{stops_wires}
use Rattle.cts_instance.specs.declared.parts.Parts.{Parts}
use Rattle.cts_instance.specs.declared.counts.BlockCounts.{BlockCounts}
use Rattle.cts_instance.specs.declared.version.Version.{Version}
use Rattle.cts_instance.specs.declared.fault.Fault.{Fault}
use Rattle.cts_instance.specs.declared.fault.Fault.TheVariants.{NoSink, TwiceSink, Outside, InBlock, Range, TooMany}
use Rattle.cts_instance.specs.declared.fault.CheckEnd.{CheckEnd}
use Rattle.cts_instance.specs.declared.fault.CheckEnd.TheVariants.{Fault as told, NoMemory as out_of_memory}
use Rattle.cts_instance.specs.declared.fault.Item.TheVariants as item
use Rattle.cts_instance.specs.Tests.{is_die, is_in_die, is_bounded, is_wire, is_limits, is_buffer, is_sink, is_upright, is_block_in_die, has_room, is_clear, is_kind_buffer, max_blocks}

-- a rule of a line: where it is broken, its fault, else what the later rules say
abbrev pub unless : Bool → Fault → Option Fault → Option Fault
unless holds fault later = if holds then later else Some fault

-- the fault of the first line, and else that of the later lines
infixl 4 ◌or◌
abbrev pub ◌or◌ : Option Fault → Option Fault → Option Fault
first or later = option_or first later

-- the first fault of a list of lines, each line asked with the lines before it
unfoldable pub first_of : {A : Type 0} → (List A → A → Option Fault) → List A → List A → Option Fault
first_of ask before [] = None
first_of ask before (line ∷ later) = ask before line or first_of ask (before ++ line ∷ []) later

unfoldable pub die_fault : Die → Option Fault
die_fault die = unless (is_die die) (Range item.Die) None

unfoldable pub source_fault : Die → ℤ → ℤ → ℕ → Option Fault
source_fault die x y r =
    unless (is_bounded r) (Range item.Source) (unless (is_in_die die x y) (Outside item.Source) None)

unfoldable pub wire_fault : Wire → Option Fault
wire_fault wire = unless (is_wire wire) (Range item.Wire) None

unfoldable pub limits_fault : ℕ → ℕ → ℕ → Option Fault
limits_fault insert_at load slew = unless (is_limits insert_at load slew) (Range item.Limits) None

-- a line that says how many buffers follow
unfoldable pub buffer_count_fault : ℕ → Option Fault
buffer_count_fault count = unless (nat_le count max_buffers) (TooMany item.Buffers) None

unfoldable pub buffer_fault : ℕ → Buffer → Option Fault
buffer_fault number buffer = unless (is_buffer buffer) (Range (item.Buffer number)) None

-- a line that says how many sinks follow
unfoldable pub sink_count_fault : ℕ → Option Fault
sink_count_fault count = unless (nat_lt 0 count) NoSink (unless (nat_le count max_sinks) (TooMany item.Sinks) None)

-- ids are those of the sinks before this one, in order
unfoldable pub sink_fault : Version → Die → List ℕ → Sink → Option Fault
sink_fault version die ids sink =
    unless (is_sink version sink) (Range (item.Sink (length ids))) (
    unless (not (list_any (nat_eq sink.id) ids)) (TwiceSink sink.id) (
    unless (is_in_die die sink.x sink.y) (Outside (item.Sink (length ids))) None))

-- a line that says how many blocks follow
unfoldable pub block_count_fault : ℕ → Option Fault
block_count_fault count = unless (nat_le count max_blocks) (TooMany item.Blocks) None

-- counts are those of the blocks before this one, and (x, y) is the place of the source
unfoldable pub block_fault : Die → ℤ → ℤ → List Sink → BlockCounts → Block → Option Fault
block_fault die x y sinks counts block =
    let here = item.Block (counts.buffer + counts.all) in
    unless (is_upright block) (Range here) (
    unless (is_block_in_die die block) (Outside here) (
    unless (has_room counts block.kind) (TooMany here) (
    unless (is_clear x y sinks block) (InBlock here) None)))

-- how many blocks there are of each kind
unfoldable pub counts_of : List Block → BlockCounts
counts_of blocks = record {
  buffer = count_by (λ block. is_kind_buffer block.kind) blocks;
  all = count_by (λ block. stops_wires block.kind) blocks;
}

-- the counts after one more block of this kind
unfoldable pub counts_with : BlockCounts → Kind → BlockCounts
counts_with counts of_buffers = record counts { buffer = counts.buffer + 1 }
counts_with counts of_all = record counts { all = counts.all + 1 }

-- the fault of a line among those of its list, given the lines before it
unfoldable pub buffer_line : List Buffer → Buffer → Option Fault
buffer_line before buffer = buffer_fault (length before) buffer

unfoldable pub sink_line : Version → Die → List Sink → Sink → Option Fault
sink_line version die before sink = sink_fault version die (map (λ s. s.id) before) sink

unfoldable pub block_line : Die → ℤ → ℤ → List Sink → List Block → Block → Option Fault
block_line die x y sinks before block = block_fault die x y sinks (counts_of before) block

-- the line with the number of buffers, and the lines of the buffers
unfoldable pub buffers_fault : List Buffer → Option Fault
buffers_fault buffers = buffer_count_fault (length buffers) or first_of buffer_line [] buffers

unfoldable pub sinks_fault : Version → Die → List Sink → Option Fault
sinks_fault version die sinks = sink_count_fault (length sinks) or first_of (sink_line version die) [] sinks

unfoldable pub blocks_fault : Die → ℤ → ℤ → List Sink → List Block → Option Fault
blocks_fault die x y sinks blocks =
    block_count_fault (length blocks) or first_of (block_line die x y sinks) [] blocks

unfoldable pub first_fault : Parts → Option Fault
first_fault parts =
    die_fault parts.die
    or source_fault parts.die parts.source_x parts.source_y parts.source_r
    or wire_fault parts.params.wire
    or limits_fault parts.params.insert_at parts.load_limit parts.slew_limit
    or buffers_fault parts.params.library
    or sinks_fault parts.version parts.die parts.sinks
    or blocks_fault parts.die parts.source_x parts.source_y parts.sinks parts.blocks

-- a check of parts with this first fault may end so: with that fault, or for want of memory
abbrev pub Ends : Option Fault → CheckEnd → Type 0
Ends first (told fault) = first ≡ Some fault
Ends first out_of_memory = Unit {0}
