-- What workers leave may go to another thread.
use denote.Param.Send.{IsSend, sendable}
use Rattle.std.proofs.Crossing.{crosses}
use Rattle.cts_deal.proofs.Sent.{seat_send}
use Rattle.cts_work.specs.contracts.workers.Done as done
use Rattle.cts_work.specs.contracts.workers.Shift as shift

pub done_send : IsSend done.the_row
done_send = search (crosses, sendable) depth 60 fits 20000

pub shift_send : IsSend shift.the_row
shift_send = search (crosses, done_send, seat_send, sendable) depth 60 fits 20000
