use Rattle.std.proofs.Common.{◌≡◌, ◌+◌, ◌%◌, ◌∙◌, set, arith, length-set}
use Rattle.std.proofs.lemmas.List.{set_comm, drop-set, take-set-le}
use Rattle.cts_num.proofs.Tables.{PAIRS_at}
use Rattle.cts_num.proofs.write.write_pair.Goals as goal

pub returns-clause-before : goal.returns-clause-before
returns-clause-before c =
    let at = c.args.at in
    let buf = c.args.buffer.now in
    take-set-le at (set buf at _) (at + 1) _ (omega arith) ∙ take-set-le at buf at _ (omega arith)

pub returns-clause-written : goal.returns-clause-written
returns-clause-written c =
    let p = PAIRS_at c.args.pair c.requires.pair in
    let at = c.args.at in
    let buf = c.args.buffer.now in
    let e : at + 1 + 1 ≡ at + 2 = omega arith in
    rw (p.0, p.1, set_comm buf at (at + 1) _ _ (λ x. omega arith), drop-set (set buf (at + 1) (48 + c.args.pair % 10)) at _ (omega (arith, length-set buf (at + 1) (48 + c.args.pair % 10))), drop-set buf (at + 1) _ (omega arith), e)
