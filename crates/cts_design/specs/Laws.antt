-- What threads may do with a design.
use Rattle.std.specs.Thread.{IsSync}
use Rattle.cts_turn.specs.contracts.turn.Turn as turn
use Rattle.cts_edit.specs.contracts.edit.Entry as entry
use Rattle.cts_design.specs.contracts.call.DesignCall as call
use Rattle.cts_design.specs.contracts.call.DesignReply as reply
use Rattle.cts_design.specs.contracts.design.Design as design
use Rattle.cts_design.specs.contracts.design.DesignObject.TheImpl.{ghosts}

-- threads may share the turn of a design
abbrev pub DesignIsShared : Type 0
DesignIsShared = IsSync (turn.the_row design.the_row entry.the_row call.the_row reply.the_row ghosts)
