-- What the notes say of an input that is refused.
use Rattle.std.specs.Prelude.{ℕ, List, ◌++◌, codes}
use Rattle.cts_num.specs.Decimal.{decimal_text}
use Rattle.cts_num.specs.declared.read.DecimalFault.{DecimalFault}
use Rattle.cts_num.specs.declared.read.DecimalFault.TheVariants.{Empty, BadByte, TooFine, TooGreat}
use Rattle.cts_instance.specs.declared.fault.Fault.{Fault}
use Rattle.cts_instance.specs.declared.fault.Fault.TheVariants.{NoSink, TwiceSink, Outside, InBlock, Range, TooMany}
use Rattle.cts_read.specs.declared.stop.Cause.{Cause}
use Rattle.cts_read.specs.declared.stop.Cause.TheVariants as cause

-- a number, and the words before it
unfoldable pub numbered : List ℕ → ℕ → List ℕ
numbered before number = before ++ decimal_text 0 number

-- places in a word are counted in bytes from 0
unfoldable pub number_words : DecimalFault → List ℕ
number_words Empty = codes "number without digits"
number_words (BadByte at) = numbered (codes "bad byte in number at ") at
number_words (TooFine at) = numbered (codes "number too fine at ") at
number_words TooGreat = codes "number too great"

unfoldable pub fault_words : Fault → List ℕ
fault_words NoSink = codes "no sink"
fault_words (TwiceSink id) = numbered (codes "sink ") id ++ codes " twice"
fault_words (Outside item) = codes "outside the die"
fault_words (InBlock item) = codes "source or sink in block"
fault_words (Range item) = codes "out of range"
fault_words (TooMany item) = codes "too many"

unfoldable pub cause_words : Cause → List ℕ
cause_words cause.NotAscii = codes "not ascii"
cause_words cause.Word = codes "unexpected word"
cause_words cause.Count = codes "wrong count of words"
cause_words (cause.Number fault) = number_words fault
cause_words cause.Missing = codes "missing"
cause_words (cause.Fault fault) = fault_words fault

-- the note of an input whose line offends
unfoldable pub refusal_note : ℕ → Cause → List ℕ
refusal_note line cause = numbered (codes "refused: line ") line ++ codes ": " ++ cause_words cause ++ codes "\n"

abbrev pub too_long_note : List ℕ
too_long_note = codes "refused: input longer than 67108864 bytes\n"
