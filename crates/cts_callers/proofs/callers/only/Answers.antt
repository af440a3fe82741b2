use Rattle.std.proofs.Common.{◌∷◌, ◌++◌, [], ap, ◌∙◌}
use Rattle.cts_callers.proofs.callers.only.Goals as goal

pub returns : goal.returns
returns c = (c.in_ok-replies.field-0, c.in_ok-replies.was, c.in_ok-push.ensures.items ∙ ap (λ l. l ++ c.in_ok-replies.field-0 ∷ []) c.new-all.ensures.items)
