use Rattle.cts_memo.proofs.Sent.{memo_sync}
use Rattle.cts_memo.proofs.laws.memo_is_shared.Goals as goal

pub returns : goal.returns
returns c = memo_sync
