use Rattle.std.proofs.Common.{ℕ, List, drop, subst}
use Rattle.std.proofs.lemmas.Result.{err_from_is_err_and}
use Rattle.cts_history.specs.Opening.{Opens}
use Rattle.cts_after.specs.After.{ExplainsRest}
use Rattle.cts_after.proofs.Inputs.{rest_refused, rest_taken}
use Rattle.cts_after.proofs.input.read_both.Goals as goal

pub returns-in_err-history-clause-explained : goal.returns-in_err-history-clause-explained
returns-in_err-history-clause-explained c =
    let p = err_from_is_err_and c.from_residual-in_err-history.result c.from_residual-in_err-history.ensures.1 in
    rw (p.1, p.2)
    (rest_refused c.args.bytes.now c.in_ok-instance.instance (drop c.in_ok-instance.used c.args.bytes.now) c.in_err-history.field-0.0
    c.in_ok-instance.ensures.spells
    (subst (λ (rest : List ℕ). ExplainsRest rest c.in_err-history.field-0.0)
    (rest_taken c.in_ok-instance.used c.args.bytes.now) c.in_err-history.ensures.explained))

pub returns-clause-spells : goal.returns-clause-spells
returns-clause-spells c = record {
  rest = drop c.in_ok-instance.used c.args.bytes.now;
  front = c.in_ok-instance.ensures.spells;
  opens = subst (λ (rest : List ℕ). Opens rest c.in_ok-history.history.items)
      (rest_taken c.in_ok-instance.used c.args.bytes.now) c.in_ok-history.ensures.opens;
}

pub returns-clause-within : goal.returns-clause-within
returns-clause-within c = c.in_ok-history.ensures.within
