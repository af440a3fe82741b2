use Rattle.std.proofs.Common.{length, subst, sym, ap, ◌∙◌}
use Rattle.std.specs.Int.Digits.{AllBelowBase}
use Rattle.cts_num.proofs.RunNumbers.{coupled_tens, length-coupled, pairs_are}
use Rattle.cts_num.proofs.runs.pairs.Goals as goal

pub returns-clause-lanes : goal.returns-clause-lanes
returns-clause-lanes c = pairs_are 8 c.args.values c.requires.long c.requires.digits

pub returns-clause-long : goal.returns-clause-long
returns-clause-long c = ap length (pairs_are 8 c.args.values c.requires.long c.requires.digits) ∙ length-coupled 8 10 c.args.values c.requires.long

pub returns-clause-bound : goal.returns-clause-bound
returns-clause-bound c = subst (AllBelowBase 100) (sym (pairs_are 8 c.args.values c.requires.long c.requires.digits)) (coupled_tens c.args.values c.requires.digits)
