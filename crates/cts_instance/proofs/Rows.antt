-- Faults that no text can spell, worked by hand: numbers below 0, numbers of 10^18 and more, and blocks past the last.
use Rattle.std.proofs.Common.{◌≡◌, ℕ, ◌-◌, ◌^◌, [], None, Some, pos, negsuc, refl}
use Rattle.cts_geom.specs.declared.bounds.Die.{Die}
use Rattle.cts_units.specs.declared.params.Sink.{Sink}
use Rattle.cts_block.specs.declared.blocks.Block.{Block}
use Rattle.cts_block.specs.declared.blocks.Kind.TheVariants as kind
use Rattle.cts_instance.specs.declared.fault.Fault.TheVariants.{Outside, Range, TooMany}
use Rattle.cts_instance.specs.declared.fault.Item.TheVariants as item
use Rattle.cts_instance.specs.declared.version.Version.TheVariants.{One, Two}
use Rattle.cts_instance.specs.FirstFault.{block_fault, buffer_fault, die_fault, limits_fault, sink_fault, source_fault}
use Rattle.cts_instance.specs.Tests.{has_room, is_between, is_block_in_die, is_buffer, is_clear, is_die, is_in_die, is_limits, is_offset, is_side, is_sink, is_upright}

die_west_of_0 : die_fault (record { x1 = negsuc 0; y1 = pos 0; x2 = pos 5; y2 = pos 5 }) ≡ Some (Range item.Die)
unfolding die_fault is_die is_side is_between
die_west_of_0 = refl

die_south_of_0 : die_fault (record { x1 = pos 0; y1 = negsuc 0; x2 = pos 5; y2 = pos 5 }) ≡ Some (Range item.Die)
unfolding die_fault is_die is_side is_between
die_south_of_0 = refl

abbrev die : Die
die = record { x1 = pos 10; y1 = pos 20; x2 = pos 110; y2 = pos 220 }

source_below_0 : source_fault die (negsuc 49) (pos 100) 0 ≡ Some (Outside item.Source)
unfolding source_fault is_in_die is_between
source_below_0 = refl

source_too_strong : source_fault die (pos 50) (pos 100) (10 ^ 18) ≡ Some (Range item.Source)
unfolding source_fault
source_too_strong = refl

-- the resistance comes before the place
source_with_both : source_fault die (negsuc 49) (pos 100) (10 ^ 18) ≡ Some (Range item.Source)
unfolding source_fault
source_with_both = refl

great_threshold : limits_fault (10 ^ 18) 0 0 ≡ Some (Range item.Limits)
unfolding limits_fault is_limits
great_threshold = refl

great_load : limits_fault 0 (10 ^ 18) 0 ≡ Some (Range item.Limits)
unfolding limits_fault is_limits
great_load = refl

great_slew : limits_fault 0 0 (10 ^ 18) ≡ Some (Range item.Limits)
unfolding limits_fault is_limits
great_slew = refl

great_resistance : buffer_fault 3 (record { cin = 0; rout = 10 ^ 18; intrinsic = 0 }) ≡ Some (Range (item.Buffer 3))
unfolding buffer_fault is_buffer
great_resistance = refl

great_delay : buffer_fault 3 (record { cin = 0; rout = 0; intrinsic = 10 ^ 18 }) ≡ Some (Range (item.Buffer 3))
unfolding buffer_fault is_buffer
great_delay = refl

-- offsets of a sink, in both versions
abbrev wanting : ℕ → Sink
wanting offset = record { id = 1; x = pos 50; y = pos 100; cap = 5; offset = offset }

offset_in_version_1 : sink_fault One die [] (wanting 1) ≡ Some (Range (item.Sink 0))
unfolding sink_fault is_sink is_offset
offset_in_version_1 = refl

no_offset_in_version_1 : sink_fault One die [] (wanting 0) ≡ None
unfolding sink_fault is_sink is_offset is_in_die is_between
no_offset_in_version_1 = refl

greatest_offset : sink_fault Two die [] (wanting (10 ^ 18 - 1)) ≡ None
unfolding sink_fault is_sink is_offset is_in_die is_between
greatest_offset = refl

great_offset : sink_fault Two die [] (wanting (10 ^ 18)) ≡ Some (Range (item.Sink 0))
unfolding sink_fault is_sink is_offset
great_offset = refl

-- a block on the west edge, of either kind
abbrev edge_of_buffers : Block
edge_of_buffers = record { kind = kind.Buffer; x1 = pos 10; y1 = pos 20; x2 = pos 10; y2 = pos 220 }

abbrev edge_of_all : Block
edge_of_all = record { kind = kind.All; x1 = pos 10; y1 = pos 20; x2 = pos 10; y2 = pos 220 }

last_of_buffers : block_fault die (pos 30) (pos 40) [] (record { buffer = 4095; all = 64 }) edge_of_buffers ≡ None
unfolding block_fault is_upright is_block_in_die is_in_die is_between has_room is_clear
last_of_buffers = refl

full_of_buffers : block_fault die (pos 30) (pos 40) [] (record { buffer = 4096; all = 63 }) edge_of_buffers ≡ Some (TooMany (item.Block 4159))
unfolding block_fault is_upright is_block_in_die is_in_die is_between has_room
full_of_buffers = refl

full_of_all : block_fault die (pos 30) (pos 40) [] (record { buffer = 4095; all = 64 }) edge_of_all ≡ Some (TooMany (item.Block 4159))
unfolding block_fault is_upright is_block_in_die is_in_die is_between has_room
full_of_all = refl
