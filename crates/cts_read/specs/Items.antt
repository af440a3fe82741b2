-- The lists of an instance: how many lines each has, what each line holds, or its first cause.
use Rattle.std.specs.Prelude.{ℕ, ◌-◌, ◌^◌, min, zero, suc, ℤ, pos, List, [], ◌∷◌, ◌++◌, if◌then◌else◌, codes, Result, Ok, Err}
use Rattle.std.specs.Str.{bytes_eq}
use Rattle.cts_geom.specs.declared.bounds.Die.{Die}
use Rattle.cts_units.specs.declared.params.Sink.{Sink}
use Rattle.cts_units.specs.declared.params.Buffer.{Buffer}
use Rattle.cts_block.specs.declared.blocks.Block.{Block}
use Rattle.cts_block.specs.declared.blocks.Kind.{Kind}
use Rattle.cts_block.specs.declared.blocks.Kind.TheVariants as kind
use Rattle.cts_instance.specs.declared.version.Version.{Version}
use Rattle.cts_instance.specs.declared.version.Version.TheVariants.{One, Two}
use Rattle.cts_instance.specs.FirstFault.{buffer_count_fault, sink_count_fault, block_count_fault, buffer_line, sink_line, block_line}
use Rattle.cts_read.specs.declared.stop.Cause.{Cause}
use Rattle.cts_read.specs.declared.stop.Cause.TheVariants.{Word}
use Rattle.cts_read.specs.Grammar.{◌>>=◌, Left, Refusal, fields_of, item_at, number_of, refuse}

-- a line `KEY N`, which says how many lines of a list follow
unfoldable pub count_of : List ℕ → List ℕ → Result ℕ Cause
count_of key line = do
  words ← fields_of key 1 line
  count ← number_of 0 words
  Ok count.0

unfoldable pub buffer_count_of : List ℕ → Result ℕ Cause
buffer_count_of line = do
  count ← count_of (codes "buffers") line
  _ ← refuse (buffer_count_fault count)
  Ok count

unfoldable pub sink_count_of : List ℕ → Result ℕ Cause
sink_count_of line = do
  count ← count_of (codes "sinks") line
  _ ← refuse (sink_count_fault count)
  Ok count

unfoldable pub block_count_of : List ℕ → Result ℕ Cause
block_count_of line = do
  count ← count_of (codes "blocks") line
  _ ← refuse (block_count_fault count)
  Ok count

-- `buffer CIN ROUT DELAY`, in zF, µΩ and 10^-27 s
unfoldable pub buffer_numbers : List ℕ → Result Buffer Cause
buffer_numbers line = do
  words ← fields_of (codes "buffer") 3 line
  cin ← number_of 6 words
  rout ← number_of 6 cin.1
  intrinsic ← number_of 15 rout.1
  Ok (record { cin = cin.0; rout = rout.0; intrinsic = intrinsic.0 })

-- how many words follow the first one of a sink's line
abbrev pub sink_word_count : Version → ℕ
sink_word_count One = 4
sink_word_count Two = 5

-- the offset of a sink, a word of version 2 alone, and the words after it
unfoldable pub offset_of : Version → List (List ℕ) → Result (ℕ × List (List ℕ)) Cause
offset_of One words = Ok (0, words)
offset_of Two words = number_of 15 words

-- `sink ID X Y CAP`, in nm and zF, and in version 2 `sink ID X Y CAP OFFSET`, the offset in 10^-27 s; an id that is past all
-- ids is as good as the last one, which is out of range too
unfoldable pub sink_numbers : Version → List ℕ → Result Sink Cause
sink_numbers version line = do
  words ← fields_of (codes "sink") (sink_word_count version) line
  id ← number_of 0 words
  x ← number_of 3 id.1
  y ← number_of 3 x.1
  cap ← number_of 6 y.1
  offset ← offset_of version cap.1
  Ok (record { id = min id.0 (2 ^ 32 - 1); x = pos x.0; y = pos y.0; cap = cap.0; offset = offset.0 })

-- the kind of a block, which is one of two words
unfoldable pub kind_of : List (List ℕ) → Result (Kind × List (List ℕ)) Cause
kind_of [] = Err Word
kind_of (w ∷ ws) =
    if bytes_eq w (codes "buffer") then Ok (kind.Buffer, ws) else (if bytes_eq w (codes "all") then Ok (kind.All, ws) else Err Word)

-- `block KIND X1 Y1 X2 Y2`, in nm
unfoldable pub block_numbers : List ℕ → Result Block Cause
block_numbers line = do
  words ← fields_of (codes "block") 5 line
  kind ← kind_of words
  x1 ← number_of 3 kind.1
  y1 ← number_of 3 x1.1
  x2 ← number_of 3 y1.1
  y2 ← number_of 3 x2.1
  Ok (record { kind = kind.0; x1 = pos x1.0; y1 = pos y1.0; x2 = pos x2.0; y2 = pos y2.0 })

-- `end`
unfoldable pub end_of : List ℕ → Result Unit Cause
end_of line = do
  _ ← fields_of (codes "end") 0 line
  Ok tt

-- a line of a list, after the lines of the list before it
unfoldable pub buffer_of : List Buffer → List ℕ → Result Buffer Cause
buffer_of before line = do
  buffer ← buffer_numbers line
  _ ← refuse (buffer_line before buffer)
  Ok buffer

unfoldable pub sink_of : Version → Die → List Sink → List ℕ → Result Sink Cause
sink_of version die before line = do
  sink ← sink_numbers version line
  _ ← refuse (sink_line version die before sink)
  Ok sink

unfoldable pub block_of : Die → ℤ → ℤ → List Sink → List Block → List ℕ → Result Block Cause
block_of die x y sinks before line = do
  block ← block_numbers line
  _ ← refuse (block_line die x y sinks before block)
  Ok block

-- so many lines of a list, after those before them
unfoldable pub list_at : {A : Type 0} → (List A → List ℕ → Result A Cause) → ℕ → List A → Left → Result (List A × Left) Refusal
list_at read zero before left = Ok (before, left)
list_at read (suc count) before left = do
  item ← item_at (read before) left
  list_at read count (before ++ item.0 ∷ []) item.1
