use Rattle.std.proofs.Common.{Ok}
use Rattle.cts_num.specs.Decimal.{decimal_text}
use Rattle.cts_num.specs.Reading.{reading_of}
use Rattle.cts_num.proofs.Computed.{reading_of_is}
use Rattle.cts_num.proofs.Readings.{reading_is_unique}
use Rattle.cts_num.proofs.Spelling.{decimal_is_read_back}
use Rattle.cts_num.proofs.laws.written_is_read.Goals as goal

pub returns : goal.returns
returns c = λ places value less.
    let text = decimal_text places value in
    reading_is_unique text places (reading_of text places) (Ok value) (reading_of_is text places) (decimal_is_read_back places value, less)
