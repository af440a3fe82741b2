-- What a valid instance is.
use Rattle.std.specs.Prelude.{◌≡◌, ℕ, ◌^◌, ◌≤◌, ◌<◌, ℤ, pos, ◌≤ℤ◌, List, length, All, count_by}
use Rattle.cts_geom.specs.declared.bounds.Die.{Die}
use Rattle.cts_units.specs.declared.params.Sink.{Sink}
use Rattle.cts_units.specs.Ids.{HasDistinctIds}
use Rattle.cts_units.specs.Limits.{IsParams, max_id, max_sinks, max_coordinate, max_capacitance}
use Rattle.cts_block.specs.declared.blocks.Block.{Block}
use Rattle.cts_block.specs.FreePoints.{StopsWires, stops_wires}
use Rattle.cts_instance.specs.declared.parts.Parts.{Parts}
use Rattle.cts_instance.specs.declared.version.Version.{Version}
use Rattle.cts_instance.specs.declared.version.Version.TheVariants.{One}
use Rattle.cts_block.specs.Places.{IsInDie, IsInside}
use Rattle.cts_instance.specs.Tests.{is_kind_buffer, max_blocks, max_buffer_blocks, max_all_blocks}

-- the corners are from 0 to 10^8 nm, lower left and upper right
pub record IsDie (die : Die) : Type 0 where
  pub x_low : pos 0 ≤ℤ die.x1
  pub x_order : die.x1 ≤ℤ die.x2
  pub x_high : die.x2 ≤ℤ pos max_coordinate
  pub y_low : pos 0 ≤ℤ die.y1
  pub y_order : die.y1 ≤ℤ die.y2
  pub y_high : die.y2 ≤ℤ pos max_coordinate

-- numbers without a limit of their own are below 10^18 of their unit
abbrev pub IsBounded : ℕ → Type 0
IsBounded n = n < 10 ^ 18

-- a sink of an instance of this version: in version 1 none wants an offset
pub record IsSink (version : Version) (die : Die) (sink : Sink) : Type 0 where
  pub id : sink.id ≤ max_id
  pub cap : sink.cap ≤ max_capacitance
  pub offset : IsBounded sink.offset
  pub no_offset : version ≡ One → sink.offset ≡ 0
  pub in_die : IsInDie die sink.x sink.y

-- the corners are lower left and upper right, and both lie in the die
pub record IsBlock (die : Die) (block : Block) : Type 0 where
  pub x_order : block.x1 ≤ℤ block.x2
  pub y_order : block.y1 ≤ℤ block.y2
  pub from : IsInDie die block.x1 block.y1
  pub to : IsInDie die block.x2 block.y2

-- a block that stops wires has no point inside that the tree has to reach
pub record IsClear (x y : ℤ) (sinks : List Sink) (block : Block) : Type 0 where
  pub of_source : StopsWires block.kind → ¬ IsInside block x y
  pub of_sinks : StopsWires block.kind → All (λ sink. ¬ IsInside block sink.x sink.y) sinks

pub record IsValid (parts : Parts) : Type 0 where
  pub die : IsDie parts.die
  pub source_r : IsBounded parts.source_r
  pub source : IsInDie parts.die parts.source_x parts.source_y
  pub params : IsParams parts.params
  pub load_limit : IsBounded parts.load_limit
  pub slew_limit : IsBounded parts.slew_limit
  pub some_sink : 1 ≤ length parts.sinks
  pub sink_count : length parts.sinks ≤ max_sinks
  pub sinks : All (IsSink parts.version parts.die) parts.sinks
  pub ids : HasDistinctIds (λ s. s.id) parts.sinks
  pub blocks : All (IsBlock parts.die) parts.blocks
  pub block_count : length parts.blocks ≤ max_blocks
  pub buffer_blocks : count_by (λ block. is_kind_buffer block.kind) parts.blocks ≤ max_buffer_blocks
  pub all_blocks : count_by (λ block. stops_wires block.kind) parts.blocks ≤ max_all_blocks
  pub clear : All (IsClear parts.source_x parts.source_y parts.sinks) parts.blocks

-- the parts with these sinks in the place of their own
abbrev pub with_sinks : Parts → List Sink → Parts
with_sinks parts sinks = record parts { sinks = sinks }
