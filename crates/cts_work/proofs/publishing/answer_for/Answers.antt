use Rattle.cts_turn.specs.Passes.{seen_by}
use Rattle.cts_work.proofs.Nodes.{stands_still}
use Rattle.cts_work.proofs.Numbered.{found_holds}
use Rattle.cts_work.proofs.publishing.answer_for.Goals as goal

pub returns-clause-holds : goal.returns-clause-holds
returns-clause-holds g c = found_holds (seen_by c.ask.new.pass) c.args.key c.ask.result c.ask.ensures.found

pub returns-then-is_new-clause-pass : goal.returns-then-is_new-clause-pass
returns-then-is_new-clause-pass g c = stands_still c.args.memo.now c.args.pass.now c.requires.own
