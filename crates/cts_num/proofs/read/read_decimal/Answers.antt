use Rattle.std.proofs.Common.{Ok, Err}
use Rattle.cts_num.specs.declared.read.DecimalFault.TheVariants.{Empty, BadByte, TooFine, TooGreat}
use Rattle.cts_num.specs.Reading.{reading_of}
use Rattle.cts_num.proofs.Computed.{reading_of_is}
use Rattle.cts_num.proofs.Readings.{reading_is, reading_is_unique}
use Rattle.cts_num.proofs.read.read_decimal.Goals as goal

pub returns-clause-ok : goal.returns-clause-ok
returns-clause-ok c = λ value. reading_is c.args.text.now c.args.places c.read_any.result (Ok value) c.read_any.ensures

pub returns-clause-empty : goal.returns-clause-empty
returns-clause-empty c = reading_is c.args.text.now c.args.places c.read_any.result (Err Empty) c.read_any.ensures

pub returns-clause-bad_byte : goal.returns-clause-bad_byte
returns-clause-bad_byte c = λ at. reading_is c.args.text.now c.args.places c.read_any.result (Err (BadByte at)) c.read_any.ensures

pub returns-clause-too_fine : goal.returns-clause-too_fine
returns-clause-too_fine c = λ at. reading_is c.args.text.now c.args.places c.read_any.result (Err (TooFine at)) c.read_any.ensures

pub returns-clause-too_great : goal.returns-clause-too_great
returns-clause-too_great c = reading_is c.args.text.now c.args.places c.read_any.result (Err TooGreat) c.read_any.ensures

pub returns-clause-same : goal.returns-clause-same
returns-clause-same c =
    let text = c.args.text.now in
    reading_is_unique text c.args.places c.read_any.result (reading_of text c.args.places) c.read_any.ensures (reading_of_is text c.args.places)
