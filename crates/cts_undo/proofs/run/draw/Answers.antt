use Rattle.std.proofs.Common.{◌≡◌, refl, subst}
use Rattle.cts_instance.specs.Validity.{with_sinks}
use Rattle.cts_edit.specs.Edits.{after}
use Rattle.cts_undo.proofs.Drawing.{drawn}
use Rattle.cts_undo.proofs.run.draw.Goals as goal

pub returns-in-Ok-clause-reply : goal.returns-in-Ok-clause-reply
returns-in-Ok-clause-reply g c = (
  refl,
  c.requires.version,
  drawn c.args.book.now.base c.args.book.now.done c.args.version c.in_ok-now.now c.requires.version
      (subst (λ i. c.in_ok-now.now ≡ with_sinks i (after i.sinks c.args.book.now.done)) c.requires.instance c.in_ok-now.ensures.version)
      _ c.in-Ok.figures c.in-Ok.ensures.tree c.in-Ok.ensures.figures,
)
