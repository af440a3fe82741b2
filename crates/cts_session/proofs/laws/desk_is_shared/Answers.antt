use Rattle.cts_session.proofs.Sent.{desk_sync, hands_send, session_send}
use Rattle.cts_session.proofs.laws.desk_is_shared.Goals as goal

pub returns : goal.returns
returns c = record { desk = desk_sync; hands = hands_send; sessions = session_send }
