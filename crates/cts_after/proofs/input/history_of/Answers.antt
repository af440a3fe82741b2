use Rattle.std.proofs.Common.{subst}
use Rattle.cts_history.specs.Readings.{IsReading}
use Rattle.cts_after.proofs.input.history_of.Goals as goal

pub returns-in-History-clause-opens : goal.returns-in-History-clause-opens
returns-in-History-clause-opens c = subst (λ reading. IsReading c.args.bytes.now reading) c.in-History.is c.in_ok-entries.ensures

pub returns-in-History-clause-within : goal.returns-in-History-clause-within
returns-in-History-clause-within c =
    let opens = subst (λ reading. IsReading c.args.bytes.now reading) c.in-History.is c.in_ok-entries.ensures in
    λ k d inside. (opens.fits.each k d inside).edit

pub returns-in-NotHistory-clause-explained : goal.returns-in-NotHistory-clause-explained
returns-in-NotHistory-clause-explained c = subst (λ reading. IsReading c.args.bytes.now reading) c.in-NotHistory.is c.in_ok-entries.ensures
