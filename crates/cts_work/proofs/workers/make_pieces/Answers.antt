use Rattle.std.proofs.Common.{length}
use Rattle.std.proofs.lemmas.Result.{IfOk-weaker}
use Rattle.cts_deal.specs.Hands.{drawn_by}
use Rattle.cts_work.specs.Done.{numbers_of}
use Rattle.cts_work.proofs.Drawn.{once}
use Rattle.cts_work.proofs.workers.make_pieces.Goals as goal

pub returns-clause-once : goal.returns-clause-once
returns-clause-once g c =
    IfOk-weaker c.run_workers-done.result.done _ _
    (λ d covers. once (length c.args.pieces.now) (drawn_by c.run_workers-done.result.hand) (numbers_of d.items) c.close.ensures.dealt covers)
    c.run_workers-done.ensures.drawn
