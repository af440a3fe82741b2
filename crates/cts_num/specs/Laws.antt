-- Laws on decimal texts.
use Rattle.std.specs.Prelude.{◌≡◌, ℕ, ◌^◌, ◌<◌, List, Result, Ok}
use Rattle.cts_num.specs.declared.read.DecimalFault.{DecimalFault}
use Rattle.cts_num.specs.Decimal.{decimal_text}
use Rattle.cts_num.specs.Reading.{IsDecimal, IsReading, reading_of}

-- a text writes one value at most
abbrev pub ValueIsUnique : Type 0
ValueIsUnique = (text : List ℕ) (places v w : ℕ) → IsDecimal text places v → IsDecimal text places w → v ≡ w

-- a text has one reading at most
abbrev pub ReadingIsUnique : Type 0
ReadingIsUnique = (text : List ℕ) (places : ℕ) (r s : Result ℕ DecimalFault) → IsReading text places r → IsReading text places s → r ≡ s

-- every text has a reading, and `reading_of` gives it
abbrev pub ReadingIsComputed : Type 0
ReadingIsComputed = (text : List ℕ) (places : ℕ) → IsReading text places (reading_of text places)

-- the canonical text of a value writes that value
abbrev pub DecimalIsReadBack : Type 0
DecimalIsReadBack = (places value : ℕ) → IsDecimal (decimal_text places value) places value

-- read at the places at which it was written, the canonical text of a value below the limit gives
-- that value
abbrev pub WrittenIsRead : Type 0
WrittenIsRead = (places value : ℕ) → value < 10 ^ 18 → reading_of (decimal_text places value) places ≡ Ok value
