-- Threads may share a deal, and a hand may go to another thread.
use denote.Param.Send.{IsSend, IsSync, sendable}
use Rattle.std.proofs.Crossing.{crosses}
use Rattle.atomic_table.proofs.shared.Shared.TheSendSync as shared
use Rattle.atomic_table.proofs.shared.Seat.TheSendSync as seat
pub use Rattle.atomic_table.proofs.shared.Seat.TheSendSync.{the_send as seat_send}
use Rattle.atomic_table.proofs.send_lease.SendLease.TheSendSync as lease
use Rattle.cts_deal.specs.contracts.deal.Deal as deal
use Rattle.cts_deal.specs.contracts.deal.Hand as hand

pub deal_sync : IsSync deal.the_row
deal_sync = search (crosses, shared.the_sync, lease.the_sync, sendable) depth 60 fits 20000

pub hand_send : IsSend hand.the_row
hand_send = search (crosses, seat.the_send, sendable) depth 60 fits 20000
