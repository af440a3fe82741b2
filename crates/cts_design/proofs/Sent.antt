-- A design may go to another thread, and threads may share its turn.
use denote.Param.Send.{IsSend, sendable}
use Rattle.std.proofs.Crossing.{crosses}
use Rattle.std.proofs.MapsCrossing.{crosses as maps}
use Rattle.atomic_table.proofs.shared.Shared.TheSendSync as shared
use Rattle.atomic_table.proofs.send_lease.SendLease.TheSendSync as lease
use Rattle.cts_design.specs.contracts.design.Design as design
use Rattle.cts_design.specs.Laws.{DesignIsShared}

pub design_send : IsSend design.the_row
design_send = search (crosses, maps, sendable) depth 60 fits 20000

pub design_shared : DesignIsShared
design_shared = search (crosses, maps, shared.the_sync, lease.the_sync, design_send, sendable) depth 60 fits 20000
