use Rattle.std.proofs.Common.{◌≡◌, ◌-◌, ◌++◌, ◌∷◌, [], List, length, take, reverse, ap, ◌∙◌, arith}
use Rattle.cts_report_reader.proofs.StackLists.{pair_after}
use Rattle.cts_report_reader.proofs.node.push_pair.Goals as goal

pub returns : goal.returns
returns c =
    let size : c.saturating_sub.result ≡ length c.args.stack.now.items - 2 = omega (arith, c.args.stack.now.ok.0) in
    let front : c.truncate.new.self.items ≡ take (length c.args.stack.now.items - 2) c.args.stack.now.items =
    c.truncate.ensures.items ∙ ap (λ n. take n c.args.stack.now.items) size in
    ap reverse c.in_ok-push.ensures.items ∙ ap (λ (s : List _). reverse (s ++ c.args.number ∷ [])) front ∙ pair_after c.args.stack.now.items c.args.number
