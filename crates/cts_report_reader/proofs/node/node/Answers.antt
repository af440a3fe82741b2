use Rattle.std.proofs.Common.{◌≡◌, ℕ, reverse, List, Ok, Option, Bor, IfSome, sym, subst, ◌∙◌, arith}
use Rattle.cts_num.specs.declared.error.NoMemory.{NoMemory}
use Rattle.cts_report_reader.specs.declared.node.ReportNode.{ReportNode}
use Rattle.cts_report_reader.specs.NodeLine.{node_rest_at}
use Rattle.cts_report_reader.specs.Nodes.{IsSeenNode, seen_node}
use Rattle.cts_report_reader.specs.Seen.{FindsIn}
use Rattle.cts_report_reader.specs.Words.{same}
use Rattle.cts_report_reader.proofs.NodeReads.{node_unlabelled, node_other, node_nothing, node_apart, node_there}
use Rattle.cts_report_reader.proofs.PairReads.{err_passes, err_finds, nothing_in, found_in}
use Rattle.cts_report_reader.proofs.PointLoops.{finds_in_none, finds_in_some}
use Rattle.cts_report_reader.proofs.TotalReads.{found_is, nothing_is}
use Rattle.cts_report_reader.proofs.node.node.Goals as goal

pub labelled-requires : goal.labelled-requires
labelled-requires c = omega arith

pub returns-in_default-clause-found : goal.returns-in_default-clause-found
returns-in_default-clause-found c =
    finds_in_none seen_node _
    (node_unlabelled c.args.form c.args.number (reverse c.args.stack.now) c.args.todo c.args.bytes.now (nothing_is same _ c.in_default.ensures.found))

pub returns-then-found-from-clause-found : goal.returns-then-found-from-clause-found
returns-then-found-from-clause-found c =
    finds_in_none seen_node _
    (node_other c.args.form c.args.number (reverse c.args.stack.now) c.args.todo c.args.bytes.now c.in-Some.found c.in-Some.rest.now
    (found_is same c.in-Some.found c.in-Some.rest _ c.in-Some.ensures.found) (λ e. c.if-found-from.true (e ∙ sym c.from.ensures)))

pub node_rest-requires : goal.node_rest-requires
node_rest-requires c = c.requires

pub returns-in_default-2-clause-found : goal.returns-in_default-2-clause-found
returns-in_default-2-clause-found c =
    let found = subst (λ (o : Option (ReportNode × Bor (List ℕ))). FindsIn {E = NoMemory} seen_node (Ok o) (node_rest_at c.args.form c.in-Some.rest.now)) c.in_default-2.is c.in_ok-node.ensures.found in
    let number : c.in-Some.found ≡ c.args.number = omega arith in
    finds_in_none seen_node _
    (node_nothing c.args.form c.args.number (reverse c.args.stack.now) c.args.todo c.args.bytes.now c.in-Some.found c.in-Some.rest.now
    (found_is same c.in-Some.found c.in-Some.rest _ c.in-Some.ensures.found) number (nothing_in seen_node _ found))

pub returns-then-joins-clause-found : goal.returns-then-joins-clause-found
returns-then-joins-clause-found c =
    let found = subst (λ (o : Option (ReportNode × Bor (List ℕ))). FindsIn {E = NoMemory} seen_node (Ok o) (node_rest_at c.args.form c.in-Some.rest.now)) c.in-Some-2.is c.in_ok-node.ensures.found in
    let number : c.in-Some.found ≡ c.args.number = omega arith in
    finds_in_some seen_node c.in-Some-2.node c.in-Some-2.rest _
    (node_there c.args.form c.args.number (reverse c.args.stack.now) c.args.todo c.args.bytes.now c.in-Some.found c.in-Some.rest.now
    (found_is same c.in-Some.found c.in-Some.rest _ c.in-Some.ensures.found) number (seen_node c.in-Some-2.node) c.in-Some-2.rest.now
    (found_in seen_node c.in-Some-2.node c.in-Some-2.rest _ found) (sym c.joins.ensures ∙ c.if-joins.true))

pub returns-then-joins-clause-seen : goal.returns-then-joins-clause-seen
returns-then-joins-clause-seen c =
    subst (λ (o : Option (ReportNode × Bor (List ℕ))). IfSome o (λ x. IsSeenNode x.0)) c.in-Some-2.is c.in_ok-node.ensures.seen

pub returns-clause-found : goal.returns-clause-found
returns-clause-found c =
    let found = subst (λ (o : Option (ReportNode × Bor (List ℕ))). FindsIn {E = NoMemory} seen_node (Ok o) (node_rest_at c.args.form c.in-Some.rest.now)) c.in-Some-2.is c.in_ok-node.ensures.found in
    let number : c.in-Some.found ≡ c.args.number = omega arith in
    finds_in_none seen_node _
    (node_apart c.args.form c.args.number (reverse c.args.stack.now) c.args.todo c.args.bytes.now c.in-Some.found c.in-Some.rest.now
    (found_is same c.in-Some.found c.in-Some.rest _ c.in-Some.ensures.found) number (seen_node c.in-Some-2.node) c.in-Some-2.rest.now
    (found_in seen_node c.in-Some-2.node c.in-Some-2.rest _ found) (sym c.joins.ensures ∙ c.if-joins.false))

pub returns-in_err-node-clause-found : goal.returns-in_err-node-clause-found
returns-in_err-node-clause-found c = err_finds seen_node c.from_residual.result _ c.from_residual.ensures.0

pub returns-in_err-node-clause-seen : goal.returns-in_err-node-clause-seen
returns-in_err-node-clause-seen c = err_passes _ c.from_residual.result c.from_residual.ensures.0
