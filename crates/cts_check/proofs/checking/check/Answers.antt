use Rattle.cts_check.proofs.checking.check.Goals as goal

pub returns : goal.returns
returns g c = c.verdict_on.ensures c.args.bytes.now c.in_ok-reading.ensures.told
