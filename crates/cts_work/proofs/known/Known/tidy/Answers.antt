use Rattle.std.proofs.Common.{sym, ◌∙◌, All, subst}
use Rattle.cts_work.specs.Built.{IsNoted}
use Rattle.cts_work.specs.Known.{picked}
use Rattle.cts_work.proofs.Noted.{noted_picked}
use Rattle.cts_work.proofs.known.Known.tidy.Goals as goal

pub returns-clause-known : goal.returns-clause-known
returns-clause-known c seen known =
    subst (All (IsNoted seen)) (sym (c.refill.ensures ∙ c.in_ok-own.ensures ∙ (λ z. picked (c.deref.ensures.value z) c.args.tree.now)))
    (noted_picked seen c.args.self.now.nodes.items c.args.tree.now known)
