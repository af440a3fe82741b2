use Rattle.std.proofs.Common.{refl, subst}
use Rattle.cts_plain.specs.Totals.{AreTotalsOver}
use Rattle.cts_session.proofs.finish.TotalsAloneFinish.finish.Goals as goal

pub returns-clause-makes : goal.returns-clause-makes
returns-clause-makes c = record {
  version = refl;
  totals = subst (λ s. AreTotalsOver c.args.instance.now s c.in_ok-totals.totals) c.requires.shape c.in_ok-totals.ensures.totals;
}
