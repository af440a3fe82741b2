-- A whole instance, line by line, and what may follow it.
use Rattle.std.specs.Prelude.{◌≡◌, ℕ, List, [], ◌∷◌, drop, if◌then◌else◌, None, Result, Ok, Err}
use Rattle.cts_instance.specs.declared.parts.Parts.{Parts}
use Rattle.cts_instance.specs.FirstFault.{die_fault, source_fault, wire_fault, limits_fault, buffers_fault, sinks_fault, blocks_fault}
use Rattle.cts_read.specs.declared.read.Head.{Head}
use Rattle.cts_read.specs.declared.read.Lists.{Lists}
use Rattle.cts_read.specs.declared.stop.Cause.TheVariants.{NotAscii, Word}
use Rattle.cts_read.specs.declared.stop.ReadStop.{ReadStop}
use Rattle.cts_read.specs.declared.stop.ReadStop.TheVariants.{Refused, NoMemory}
use Rattle.cts_read.specs.Place.{Place}
use Rattle.cts_read.specs.Lines.{is_printable}
use Rattle.cts_read.specs.Grammar.{◌>>=◌, Left, Refusal, at_line, item_at, left_of, line_at}
use Rattle.cts_read.specs.Header.{die_of, limits_of, source_of, version_of, wire_of}
use Rattle.cts_read.specs.Items.{block_count_of, block_of, buffer_count_of, buffer_of, end_of, list_at, sink_count_of, sink_of}

-- the line `end`, and its number
unfoldable pub end_at : Left → Result (ℕ × Left) Refusal
end_at left = do
  next ← line_at left
  _ ← at_line (next.0.0) (end_of (next.0.1))
  Ok (next.0.0, next.1)

-- the lines before the lists
unfoldable pub head_at : Left → Result (Head × Left) Refusal
head_at left = do
  version ← item_at version_of left
  die ← item_at die_of version.1
  source ← item_at (source_of die.0) die.1
  wire ← item_at wire_of source.1
  limits ← item_at limits_of wire.1
  Ok (record { version = version.0; die = die.0; source = source.0; wire = wire.0; limits = limits.0 }, limits.1)

-- the lists, each after its count
unfoldable pub lists_at : Head → Left → Result (Lists × Left) Refusal
lists_at head left = do
  buffer_count ← item_at buffer_count_of left
  buffers ← list_at buffer_of buffer_count.0 [] buffer_count.1
  sink_count ← item_at sink_count_of buffers.1
  sinks ← list_at (sink_of head.version head.die) sink_count.0 [] sink_count.1
  block_count ← item_at block_count_of sinks.1
  blocks ← list_at (block_of head.die head.source.x head.source.y sinks.0) block_count.0 [] block_count.1
  Ok (record { buffers = buffers.0; sinks = sinks.0; blocks = blocks.0 }, blocks.1)

-- none of the lines before the lists has a fault
pub record IsSoundHead (head : Head) : Type 0 where
  pub die : die_fault head.die ≡ None
  pub source : source_fault head.die head.source.x head.source.y head.source.r ≡ None
  pub wire : wire_fault head.wire ≡ None
  pub limits : limits_fault head.limits.insert_at head.limits.load head.limits.slew ≡ None

-- none of the lines of the lists has a fault
pub record IsSoundLists (head : Head) (lists : Lists) : Type 0 where
  pub buffers : buffers_fault lists.buffers ≡ None
  pub sinks : sinks_fault head.version head.die lists.sinks ≡ None
  pub blocks : blocks_fault head.die head.source.x head.source.y lists.sinks lists.blocks ≡ None

-- the parts of an instance that these lines are
abbrev pub parts_of : Head → Lists → Parts
parts_of head lists = record {
  version = head.version;
  die = head.die;
  source_x = head.source.x;
  source_y = head.source.y;
  source_r = head.source.r;
  params = record { wire = head.wire; library = lists.buffers; insert_at = head.limits.insert_at };
  load_limit = head.limits.load;
  slew_limit = head.limits.slew;
  sinks = lists.sinks;
  blocks = lists.blocks;
}

-- an instance, the number of its last line, and the lines left after it; or the first line that offends, with its first cause
unfoldable pub instance_at : Left → Result ((Parts × ℕ) × Left) Refusal
instance_at left = do
  head ← head_at left
  lists ← lists_at head.0 head.1
  end ← end_at lists.1
  Ok ((parts_of head.0 lists.0, end.0), end.1)

-- nothing but skipped lines may be left
unfoldable pub rest_of : List (ℕ × List ℕ) → Result Unit Refusal
rest_of [] = Ok tt
rest_of (next ∷ others) = Err (next.0, if is_printable next.1 then Word else NotAscii)

-- the place after so many bytes of a text, and so many lines
abbrev pub place_at : List ℕ → ℕ → ℕ → Place
place_at text used line = record { text = text; rest = drop used text; line = line }

-- the instance at the front of a text
unfoldable pub instance_of : List ℕ → Result ((Parts × ℕ) × Left) Refusal
instance_of text = instance_at (left_of (record { text = text; rest = text; line = 0 }))

-- what was answered is what the lines left say; memory can't run out
abbrev pub Rests : Result Unit ReadStop → Result Unit Refusal → Type 0
Rests (Ok _) read = read ≡ Ok tt
Rests (Err (Refused line cause)) read = read ≡ Err (line, cause)
Rests (Err NoMemory) read = ⊥
