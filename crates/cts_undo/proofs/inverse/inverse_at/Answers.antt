use Rattle.cts_undo.proofs.Backs.{add_back, remove_back, move_back, cap_back}
use Rattle.cts_undo.proofs.inverse.inverse_at.Goals as goal

pub returns-in-Add-clause-back : goal.returns-in-Add-clause-back
returns-in-Add-clause-back c = add_back c.args.edit c.in-Add.id c.in-Add.x c.in-Add.y c.in-Add.cap c.args.sinks.now c.args.place c.in-Add.is c.requires.place

pub returns-in-Remove-clause-back : goal.returns-in-Remove-clause-back
returns-in-Remove-clause-back c =
    (remove_back c.args.edit c.in-Remove.id c.args.sinks.now c.args.place c.sink_at.result c.in-Remove.is c.requires.distinct c.requires.place c.sink_at.ensures).0

pub returns-in-Remove-clause-fits : goal.returns-in-Remove-clause-fits
returns-in-Remove-clause-fits c =
    (remove_back c.args.edit c.in-Remove.id c.args.sinks.now c.args.place c.sink_at.result c.in-Remove.is c.requires.distinct c.requires.place c.sink_at.ensures).1

pub returns-in-Move-clause-back : goal.returns-in-Move-clause-back
returns-in-Move-clause-back c =
    (move_back c.args.edit c.in-Move.id c.in-Move.x c.in-Move.y c.args.sinks.now c.args.place c.sink_at-in-Move.result c.in-Move.is c.requires.distinct c.requires.place c.sink_at-in-Move.ensures).0

pub returns-in-Move-clause-fits : goal.returns-in-Move-clause-fits
returns-in-Move-clause-fits c =
    (move_back c.args.edit c.in-Move.id c.in-Move.x c.in-Move.y c.args.sinks.now c.args.place c.sink_at-in-Move.result c.in-Move.is c.requires.distinct c.requires.place c.sink_at-in-Move.ensures).1

pub returns-in-SetCap-clause-back : goal.returns-in-SetCap-clause-back
returns-in-SetCap-clause-back c =
    (cap_back c.args.edit c.in-SetCap.id c.in-SetCap.cap c.args.sinks.now c.args.place c.sink_at-in-SetCap.result c.in-SetCap.is c.requires.distinct c.requires.place c.sink_at-in-SetCap.ensures).0

pub returns-in-SetCap-clause-fits : goal.returns-in-SetCap-clause-fits
returns-in-SetCap-clause-fits c =
    (cap_back c.args.edit c.in-SetCap.id c.in-SetCap.cap c.args.sinks.now c.args.place c.sink_at-in-SetCap.result c.in-SetCap.is c.requires.distinct c.requires.place c.sink_at-in-SetCap.ensures).1
