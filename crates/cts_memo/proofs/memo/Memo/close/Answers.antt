use Rattle.std.proofs.Common.{length, ap, arith}
use Rattle.cts_memo.specs.Keys.{entries_of}
use Rattle.cts_memo.proofs.memo.Memo.close.Goals as goal

pub returns-in-Ok-clause-made : goal.returns-in-Ok-clause-made
returns-in-Ok-clause-made c =
    omega (arith, c.in-Ok.ensures.made.1, ap (λ l. length (entries_of l)) c.args.self.empty)
