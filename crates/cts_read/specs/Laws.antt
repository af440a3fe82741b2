-- What the definitions of this crate say of whole texts.
use Rattle.std.specs.Prelude.{◌≡◌, ℕ, ◌+◌, ◌<◌, ◌≤◌, List, length, take, Err}
use Rattle.cts_io.specs.Lines.{lines_of}
use Rattle.cts_read.specs.declared.stop.Cause.{Cause}
use Rattle.cts_read.specs.Whole.{instance_of}

-- a line that is refused is one of the text, or the one that is missing after its last
abbrev pub RefusedLineIsWithin : Type 0
RefusedLineIsWithin =
    (text : List ℕ) (line : ℕ) (cause : Cause) → instance_of text ≡ Err (line, cause)
    → (0 < line) × (line ≤ length (lines_of text) + 1)

-- a refusal goes by the lines up to the one that is refused, and by nothing after it
abbrev pub RefusalGoesByFront : Type 0
RefusalGoesByFront =
    (text other : List ℕ) (line : ℕ) (cause : Cause) → line ≤ length (lines_of text) → line ≤ length (lines_of other)
    → take line (lines_of text) ≡ take line (lines_of other) → instance_of text ≡ Err (line, cause)
    → instance_of other ≡ Err (line, cause)
