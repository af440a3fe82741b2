use Rattle.std.proofs.Common.{arith}
use Rattle.cts_num.proofs.Lengths.{length-decimal_text}
use Rattle.cts_num.proofs.Texts.{parts_fit}
use Rattle.cts_num.proofs.write.decimal.Goals as goal

pub write_ending-requires-clause-room : goal.write_ending-requires-clause-room
write_ending-requires-clause-room c =
    omega (arith, length-decimal_text c.args.places c.args.value, parts_fit c.args.places c.args.value c.requires.places c.requires.value)
