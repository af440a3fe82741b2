use Rattle.std.proofs.Common.{subst, sym}
use Rattle.cts_turn.specs.Passes.{seen_by}
use Rattle.cts_memo.specs.Replies.{IsFound}
use Rattle.cts_memo.proofs.Endings.{absent_answer}
use Rattle.cts_memo.proofs.memo.Memo.ask.Goals as goal

pub returns-clause-found : goal.returns-clause-found
returns-clause-found g c =
    let answer = c.in-Asked.ensures.answer in
    subst (λ l. IsFound l c.args.key c.in-Asked.answer) (sym answer.after) answer.allowed

pub returns-clause-absent : goal.returns-clause-absent
returns-clause-absent g c =
    let answer = c.in-Asked.ensures.answer in
    absent_answer (seen_by c.call.new.pass) c.args.key c.in-Asked.answer
    (subst (λ l. IsFound l c.args.key c.in-Asked.answer) (sym answer.after) answer.allowed)
