-- What callers leave may go to another thread.
use denote.Struct.Declared.{shape}
use denote.Param.Send.{IsSend, recorded_send, struct_send, sendable}
use Rattle.std.proofs.Crossing.{crosses}
use Rattle.cts_session.proofs.Sent.{hands_field_send}
use Rattle.cts_history.specs.contracts.reply.Reply as reply
use Rattle.cts_callers.specs.contracts.callers.Served as served

pub reply_send : IsSend reply.the_row
reply_send = search (crosses, sendable) depth 60 fits 20000

served_field_send : IsSend (served.the_field).row
served_field_send = struct_send (shape served.the_type) (search (crosses, reply_send, sendable) depth 60 fits 20000, (hands_field_send, tt))

pub served_send : IsSend served.the_row
served_send =
    let fields = served_field_send in
    search (recorded_send, fields)
