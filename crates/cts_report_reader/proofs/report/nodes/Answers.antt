use Rattle.std.proofs.Common.{◌≡◌, ◌<◌, ◌+◌, ◌-◌, ◌∷◌, [], List, Ok, Option, IfSome, Bor, length, reverse, All, Vec, Global, sym, ap, ap₂, ◌∙◌, subst, arith, length-append}
use Rattle.std.proofs.lemmas.List.Elements.{All-nil, All-push}
use Rattle.cts_num.specs.declared.error.NoMemory.{NoMemory}
use Rattle.cts_postorder.specs.Stack.{stack_after}
use Rattle.cts_report_reader.specs.declared.node.ReportNode.{ReportNode}
use Rattle.cts_report_reader.specs.Bounds.{printed_children}
use Rattle.cts_report_reader.specs.NodeLine.{node_at}
use Rattle.cts_report_reader.specs.Nodes.{IsSeenNode, seen_node, seen_nodes}
use Rattle.cts_report_reader.specs.Seen.{fronted_lines, FindsIn}
use Rattle.cts_report_reader.specs.Whole.{nodes_at}
use Rattle.cts_report_reader.proofs.NodeLoops.{nodes_begin, nodes_step, nodes_none, nodes_done, found_lines, missed_line}
use Rattle.cts_report_reader.proofs.PairReads.{err_passes, err_finds_lines}
use Rattle.cts_report_reader.proofs.report.nodes.Goals as goal

pub loop-number-init : goal.loop-number-init
loop-number-init c =
    let items = c.in_ok-items.ensures.items in
    let stack = c.new-stack.ensures.items in
    record {
      found = ap₂ (λ (ns : List ReportNode) (s : List _). fronted_lines (seen_nodes ns) (nodes_at c.args.form (c.args.count - 0) 0 (reverse s) c.args.bytes.now)) items stack
          ∙ nodes_begin c.args.form c.args.count c.args.bytes.now;
      seen = subst (All IsSeenNode) (sym items) (All-nil IsSeenNode);
      long = ap length items;
    }

pub loop-number-preserved : goal.loop-number-preserved
loop-number-preserved c =
    let l = c.loop-number in
    let lt : l.number < c.args.count = c.loop-number-test.true in
    let pushed = c.in_ok-push.ensures.items in
    let slice = c.as_slice.ensures.value in
    let h = ap (λ (s : List _). fronted_lines (seen_nodes l.items.items) (nodes_at c.args.form (c.args.count - l.number) l.number (reverse s) l.rest.now)) slice ∙ l.invariant.found in
    let after = c.in_ok-stack_node.ensures ∙ ap (λ (s : List _). stack_after (printed_children (seen_node c.in-Some.next)) (reverse s) l.number) (sym slice) in
    let found = subst (λ (o : Option (ReportNode × Bor (List _))). FindsIn {E = NoMemory} seen_node (Ok o) (node_at c.args.form l.number (reverse c.as_slice.result.now) (c.args.count - l.number - 1) l.rest.now)) c.in-Some.is c.in_ok-next.ensures.found in
    let seen = subst (λ (o : Option (ReportNode × Bor (List _))). IfSome o (λ x. IsSeenNode x.0)) c.in-Some.is c.in_ok-next.ensures.seen in
    record {
      found = ap (λ ns. fronted_lines (seen_nodes ns) (nodes_at c.args.form (c.args.count - (l.number + 1)) (l.number + 1) (reverse c.stack_node.new.stack.items) c.in-Some.after.now)) pushed
          ∙ nodes_step c.args.form c.args.count l.number (reverse c.as_slice.result.now) (reverse c.stack_node.new.stack.items) l.items.items _ l.rest.now c.in-Some.next c.in-Some.after lt h found after;
      seen = subst (All IsSeenNode) (sym pushed) (All-push IsSeenNode l.items.items c.in-Some.next l.invariant.seen seen);
      long = omega (arith, ap length pushed, length-append l.items.items (c.in-Some.next ∷ []), l.invariant.long);
    }

pub returns-in_default-clause-found : goal.returns-in_default-clause-found
returns-in_default-clause-found c =
    let l = c.loop-number in
    let lt : l.number < c.args.count = c.loop-number-test.true in
    let slice = c.as_slice.ensures.value in
    let h = ap (λ (s : List _). fronted_lines (seen_nodes l.items.items) (nodes_at c.args.form (c.args.count - l.number) l.number (reverse s) l.rest.now)) slice ∙ l.invariant.found in
    let found = subst (λ (o : Option (ReportNode × Bor (List _))). FindsIn {E = NoMemory} seen_node (Ok o) (node_at c.args.form l.number (reverse c.as_slice.result.now) (c.args.count - l.number - 1) l.rest.now)) c.in_default.is c.in_ok-next.ensures.found in
    missed_line (λ (ns : Vec ReportNode Global). seen_nodes ns.items) (l.number + 3) _
    (nodes_none c.args.form c.args.count l.number (reverse c.as_slice.result.now) (seen_nodes l.items.items) _ l.rest.now lt h found)

pub returns-clause-found : goal.returns-clause-found
returns-clause-found c =
    let l = c.loop-number in
    let e : l.number ≡ c.args.count = omega arith in
    found_lines (λ (ns : Vec ReportNode Global). seen_nodes ns.items) l.items l.rest _
    (nodes_done c.args.form c.args.count l.number (reverse l.stack.items) (seen_nodes l.items.items) _ l.rest.now e l.invariant.found)

pub overflow_sub-todo : goal.overflow_sub-todo
overflow_sub-todo c = omega arith

pub overflow_sub-todo-in-loop-number : goal.overflow_sub-todo-in-loop-number
overflow_sub-todo-in-loop-number c = omega arith

pub overflow_cast-todo : goal.overflow_cast-todo
overflow_cast-todo c = omega arith

pub node-requires : goal.node-requires
node-requires c = c.requires.buffers

pub overflow_add-result : goal.overflow_add-result
overflow_add-result c = omega arith

pub returns-in_err-items-clause-found : goal.returns-in_err-items-clause-found
returns-in_err-items-clause-found c = err_finds_lines (λ (ns : Vec ReportNode Global). seen_nodes ns.items) c.from_residual.result _ c.from_residual.ensures.0

pub returns-in_err-items-clause-seen : goal.returns-in_err-items-clause-seen
returns-in_err-items-clause-seen c = err_passes _ c.from_residual.result c.from_residual.ensures.0

pub returns-in_err-items-clause-long : goal.returns-in_err-items-clause-long
returns-in_err-items-clause-long c = err_passes _ c.from_residual.result c.from_residual.ensures.0

pub returns-in_err-next-clause-found : goal.returns-in_err-next-clause-found
returns-in_err-next-clause-found c = err_finds_lines (λ (ns : Vec ReportNode Global). seen_nodes ns.items) c.from_residual-in_err-next.result _ c.from_residual-in_err-next.ensures.0

pub returns-in_err-next-clause-seen : goal.returns-in_err-next-clause-seen
returns-in_err-next-clause-seen c = err_passes _ c.from_residual-in_err-next.result c.from_residual-in_err-next.ensures.0

pub returns-in_err-next-clause-long : goal.returns-in_err-next-clause-long
returns-in_err-next-clause-long c = err_passes _ c.from_residual-in_err-next.result c.from_residual-in_err-next.ensures.0

pub returns-in_err-stack_node-clause-found : goal.returns-in_err-stack_node-clause-found
returns-in_err-stack_node-clause-found c = err_finds_lines (λ (ns : Vec ReportNode Global). seen_nodes ns.items) c.from_residual-in_err-stack_node.result _ c.from_residual-in_err-stack_node.ensures.0

pub returns-in_err-stack_node-clause-seen : goal.returns-in_err-stack_node-clause-seen
returns-in_err-stack_node-clause-seen c = err_passes _ c.from_residual-in_err-stack_node.result c.from_residual-in_err-stack_node.ensures.0

pub returns-in_err-stack_node-clause-long : goal.returns-in_err-stack_node-clause-long
returns-in_err-stack_node-clause-long c = err_passes _ c.from_residual-in_err-stack_node.result c.from_residual-in_err-stack_node.ensures.0

pub returns-in_err-push-clause-found : goal.returns-in_err-push-clause-found
returns-in_err-push-clause-found c = err_finds_lines (λ (ns : Vec ReportNode Global). seen_nodes ns.items) c.from_residual-in_err-push.result _ c.from_residual-in_err-push.ensures.0

pub returns-in_err-push-clause-seen : goal.returns-in_err-push-clause-seen
returns-in_err-push-clause-seen c = err_passes _ c.from_residual-in_err-push.result c.from_residual-in_err-push.ensures.0

pub returns-in_err-push-clause-long : goal.returns-in_err-push-clause-long
returns-in_err-push-clause-long c = err_passes _ c.from_residual-in_err-push.result c.from_residual-in_err-push.ensures.0

pub returns-clause-seen : goal.returns-clause-seen
returns-clause-seen c = c.loop-number.invariant.seen

pub returns-clause-long : goal.returns-clause-long
returns-clause-long c = omega arith
