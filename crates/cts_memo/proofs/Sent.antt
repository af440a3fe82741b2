-- A table may go to another thread, and threads may share a memo.
use denote.Param.Send.{IsSend, IsSync, sendable}
use Rattle.std.proofs.Crossing.{crosses}
use Rattle.atomic_table.proofs.shared.Shared.TheSendSync as shared
use Rattle.atomic_table.proofs.send_lease.SendLease.TheSendSync as lease
use Rattle.cts_memo.specs.contracts.table.Table as table
use Rattle.cts_memo.specs.contracts.memo.Memo as memo

pub table_send : IsSend table.the_row
table_send = search (crosses, sendable) depth 60 fits 20000

pub memo_sync : IsSync memo.the_row
memo_sync = search (crosses, shared.the_sync, lease.the_sync, table_send, sendable) depth 60 fits 20000
