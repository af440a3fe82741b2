-- Threads may share a desk, and hands and sessions may go to another thread.
use mir.Syntax.{w32}
use denote.Plain.{UInt}
use denote.Ref.{NamedLft, ShrRef}
use denote.Struct.Declared.{shape}
use denote.Param.Send.{IsSend, IsSync, recorded_send, recorded_sync, shr_send, struct_send, struct_sync, view_send, sendable}
use Rattle.std.proofs.Crossing.{crosses}
use Rattle.std.proofs.MapsCrossing.{crosses as maps}
use Rattle.atomic_table.proofs.shared.Seat.TheSendSync as seat
use Rattle.atomic_table.proofs.shared.Shared.TheSendSync as shared
use Rattle.atomic_table.proofs.send_lease.SendLease.TheSendSync as lease
use Rattle.cts_turn.specs.contracts.turn.Pass as pass
use Rattle.cts_turn.specs.contracts.turn.Turn as turn
use Rattle.cts_instance.specs.contracts.instance.Instance as instance
use Rattle.cts_memo.specs.contracts.entry.MemoCall as memo_call
use Rattle.cts_memo.specs.contracts.entry.MemoEntry as memo_entry
use Rattle.cts_memo.specs.contracts.entry.MemoReply as memo_reply
use Rattle.cts_memo.specs.contracts.memo.Memo as memo
use Rattle.cts_memo.specs.contracts.table.Table as table
use Rattle.cts_memo.proofs.Sent.{table_send}
use Rattle.cts_edit.specs.contracts.edit.Entry as entry
use Rattle.cts_design.specs.contracts.call.DesignCall as call
use Rattle.cts_design.specs.contracts.call.DesignReply as reply
use Rattle.cts_design.specs.contracts.design.Design as design
use Rattle.cts_design.specs.contracts.design.DesignObject.TheImpl as design_rules
use Rattle.cts_design.proofs.Sent.{design_send}
use Rattle.cts_session.specs.contracts.desk.Desk as desk
use Rattle.cts_session.specs.contracts.desk.Hands as hands
use Rattle.cts_session.specs.contracts.session.Session as session
use Rattle.cts_session.specs.contracts.session.Session.TheInside as inside

instance_sync : IsSync (instance.the_field).row
instance_sync = search (crosses, sendable) depth 60 fits 20000

memo_sync : IsSync (memo.the_field).row
memo_sync = search (crosses, shared.the_sync, lease.the_sync, table_send, sendable) depth 60 fits 20000

design_sync : IsSync (turn.the_field design.the_row entry.the_row call.the_row reply.the_row design_rules.ghosts).row
design_sync = search (crosses, maps, shared.the_sync, lease.the_sync, design_send, sendable) depth 60 fits 20000

pub desk_sync : IsSync desk.the_row
desk_sync =
    let fields = struct_sync (shape desk.the_type) (instance_sync, (memo_sync, (design_sync, tt))) in
    search (recorded_sync, fields)

memo_pass_send : IsSend (pass.the_field table.the_row memo_entry.the_row memo_call.the_row memo_reply.the_row).row
memo_pass_send = search (crosses, seat.the_send, table_send, sendable) depth 60 fits 20000

design_pass_send : IsSend (pass.the_field design.the_row entry.the_row call.the_row reply.the_row).row
design_pass_send = search (crosses, seat.the_send, design_send, sendable) depth 60 fits 20000

pub hands_field_send : IsSend (hands.the_field).row
hands_field_send = struct_send (shape hands.the_type) (memo_pass_send, (design_pass_send, tt))

pub hands_send : IsSend hands.the_row
hands_send =
    let fields = hands_field_send in
    search (recorded_send, fields)

desk_ref_send : (κ : NamedLft) → IsSend (ShrRef κ.mir κ.lft desk.the_row)
desk_ref_send κ = shr_send κ.mir κ.lft desk.the_row desk_sync

number_send : IsSend (UInt w32)
number_send = search sendable depth 20

inside_send : (κ : NamedLft) → IsSend (inside.the_row κ)
inside_send κ =
    let fields = struct_send (shape (inside.the_type κ)) (desk_ref_send κ, (hands_field_send, (number_send, (search (crosses, maps, sendable) depth 60 fits 20000, (search (crosses, maps, sendable) depth 60 fits 20000, tt))))) in
    search (recorded_send, fields)

pub session_send : (κ : NamedLft) → IsSend (session.the_row κ)
session_send κ =
    let fields = inside_send κ in
    search (view_send, fields)
