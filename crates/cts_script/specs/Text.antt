-- The canonical text of an instance: its lines in order, one space between two words, each number in its canonical form at
-- its places, and a line feed after each line.
use Rattle.std.specs.Prelude.{ℕ, unsigned_abs, ℤ, List, [], ◌∷◌, ◌++◌, length, map, codes}
use Rattle.std.specs.List.{flat_map, concat}
use Rattle.cts_num.specs.Decimal.{decimal_text}
use Rattle.cts_geom.specs.declared.bounds.Die.{Die}
use Rattle.cts_units.specs.declared.params.Sink.{Sink}
use Rattle.cts_units.specs.declared.params.Wire.{Wire}
use Rattle.cts_units.specs.declared.params.Buffer.{Buffer}
use Rattle.cts_block.specs.declared.blocks.Block.{Block}
use Rattle.cts_block.specs.declared.blocks.Kind.{Kind}
use Rattle.cts_block.specs.declared.blocks.Kind.TheVariants as kind
use Rattle.cts_instance.specs.declared.parts.Parts.{Parts}
use Rattle.cts_instance.specs.declared.version.Version.{Version}
use Rattle.cts_instance.specs.declared.version.Version.TheVariants.{One, Two}

-- a word after a space
abbrev pub after_space : List ℕ → List ℕ
after_space word = 32 ∷ word

-- the line of a first word and the words after it
unfoldable pub line_of : List ℕ → List (List ℕ) → List ℕ
line_of key words = key ++ flat_map after_space words ++ codes "\n"

-- a coordinate of a valid instance, which is not below 0, in nm as µm
abbrev pub coordinate : ℤ → List ℕ
coordinate z = decimal_text 3 (unsigned_abs z)

abbrev pub version_word : Version → List ℕ
version_word One = codes "1"
version_word Two = codes "2"

abbrev pub version_line : Version → List ℕ
version_line version = line_of (codes "cts") (version_word version ∷ [])

-- a line that says how many lines of a list follow
abbrev pub count_line : List ℕ → ℕ → List ℕ
count_line key count = line_of key (decimal_text 0 count ∷ [])

unfoldable pub die_line : Die → List ℕ
die_line die =
    line_of (codes "die") (coordinate die.x1 ∷ coordinate die.y1 ∷ coordinate die.x2 ∷ coordinate die.y2 ∷ [])

-- the place of the source, and its resistance in µΩ as Ω
unfoldable pub source_line : ℤ → ℤ → ℕ → List ℕ
source_line x y r = line_of (codes "source") (coordinate x ∷ coordinate y ∷ decimal_text 6 r ∷ [])

-- µΩ and zF per nm, as Ω and fF per µm
unfoldable pub wire_line : Wire → List ℕ
wire_line wire = line_of (codes "wire") (decimal_text 3 wire.r ∷ decimal_text 3 wire.c ∷ [])

-- zF as fF, and 10^-27 s as ps
unfoldable pub limits_line : ℕ → ℕ → ℕ → List ℕ
limits_line insert_at load slew =
    line_of (codes "limits") (decimal_text 6 insert_at ∷ decimal_text 6 load ∷ decimal_text 15 slew ∷ [])

unfoldable pub buffer_line : Buffer → List ℕ
buffer_line buffer =
    line_of (codes "buffer") (decimal_text 6 buffer.cin ∷ decimal_text 6 buffer.rout ∷ decimal_text 15 buffer.intrinsic ∷ [])

-- the offset of a sink, in 10^-27 s as ps, which version 2 alone spells
abbrev pub offset_words : Version → ℕ → List (List ℕ)
offset_words One offset = []
offset_words Two offset = decimal_text 15 offset ∷ []

abbrev pub sink_words : Version → Sink → List (List ℕ)
sink_words version sink =
    decimal_text 0 sink.id ∷ coordinate sink.x ∷ coordinate sink.y ∷ decimal_text 6 sink.cap ∷ offset_words version sink.offset

unfoldable pub sink_line : Version → Sink → List ℕ
sink_line version sink = line_of (codes "sink") (sink_words version sink)

abbrev pub kind_word : Kind → List ℕ
kind_word kind.Buffer = codes "buffer"
kind_word kind.All = codes "all"

unfoldable pub block_line : Block → List ℕ
block_line block =
    line_of (codes "block")
    (kind_word block.kind ∷ coordinate block.x1 ∷ coordinate block.y1 ∷ coordinate block.x2 ∷ coordinate block.y2 ∷ [])

abbrev pub end_line : List ℕ
end_line = line_of (codes "end") []

-- the lines of a list, after the line with their number
abbrev pub list_lines : {A : Type 0} → List ℕ → (A → List ℕ) → List A → List (List ℕ)
list_lines key line items = count_line key (length items) ∷ map line items

-- the lines before the lists
unfoldable pub head_lines : Parts → List (List ℕ)
head_lines parts =
    version_line parts.version
    ∷ die_line parts.die
    ∷ source_line parts.source_x parts.source_y parts.source_r
    ∷ wire_line parts.params.wire
    ∷ limits_line parts.params.insert_at parts.load_limit parts.slew_limit
    ∷ []

unfoldable pub instance_lines : Parts → List (List ℕ)
instance_lines parts =
    head_lines parts
    ++ list_lines (codes "buffers") buffer_line parts.params.library
    ++ list_lines (codes "sinks") (sink_line parts.version) parts.sinks
    ++ list_lines (codes "blocks") block_line parts.blocks
    ++ end_line ∷ []

abbrev pub instance_text : Parts → List ℕ
instance_text parts = concat (instance_lines parts)
