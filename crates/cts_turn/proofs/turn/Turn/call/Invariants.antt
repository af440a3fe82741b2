use Rattle.cts_turn.proofs.Calls.{told_in}
use Rattle.cts_turn.proofs.turn.Turn.call.Given as goal

-- what the object tells after its call
abbrev pub ghosts-record : goal.ghosts-record
ghosts-record g a = record { list = told_in g.O.Object.told a.seat.now.me.1 }
