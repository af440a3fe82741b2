use Rattle.std.proofs.Common.{◌≡◌, ℕ, length, Some, Vec, rules, sym, ap, ◌∙◌}
use Rattle.std.specs.Global.{Global}
use Rattle.cts_notes.proofs.Wording.{front_taken, seen_at}
use Rattle.cts_notes.proofs.words.MemArgumentsArguments.argument.Goals as goal

pub returns-clause-copied : goal.returns-clause-copied
returns-clause-copied c =
    let lookup = c.in-Some.ensures.lookup in
    let same : c.copy_from_slice.new.self ≡ c.in-Some.argument.now.items = search rules in
    let long : c.len-count.result ≡ length c.copy_from_slice.new.self = search rules in
    seen_at (λ (argument : Vec ℕ Global). argument.items) c.self.inside.arguments.items c.deref.result.now c.args.self.now c.args.number
    c.in-Some.argument.now c.deref.ensures.value c.self.view_is lookup.3.0 lookup.1
    ∙ ap Some (sym (front_taken _ _ _ long ∙ same))
