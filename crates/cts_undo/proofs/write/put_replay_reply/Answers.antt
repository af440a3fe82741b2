use Rattle.cts_history.specs.History.{reply_line}
use Rattle.cts_undo.specs.ReplayText.{replay_line}
use Rattle.cts_undo.proofs.write.put_replay_reply.Goals as goal

pub returns-in-Answered : goal.returns-in-Answered
unfolding replay_line reply_line
returns-in-Answered g c = rw c.in-Answered.is c.put_reply.ensures

pub returns-in-Undone : goal.returns-in-Undone
unfolding replay_line
returns-in-Undone g c = rw c.in-Undone.is c.put_moved.ensures

pub returns-in-Redone : goal.returns-in-Redone
unfolding replay_line
returns-in-Redone g c = rw c.in-Redone.is c.put_moved-in-Redone.ensures

pub returns-in-Nothing : goal.returns-in-Nothing
unfolding replay_line
returns-in-Nothing g c = rw c.in-Nothing.is c.put_moved-in-Nothing.ensures
