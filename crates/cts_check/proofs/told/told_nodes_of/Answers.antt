use Rattle.std.proofs.Common.{◌≢◌, ◌++◌, ◌∷◌, [], map, sym, ap, subst, ◌∙◌, arith}
use Rattle.std.proofs.lemmas.List.{take_all, get_or-set_other}
use Rattle.std.proofs.lemmas.Simd.{map-map}
use Rattle.cts_report_reader.specs.Nodes.{seen_node}
use Rattle.cts_check.specs.Places.{FindsSinks}
use Rattle.cts_check.specs.Told.{told_node}
use Rattle.cts_check.proofs.ToldNodes.{claims_kept, told_more}
use Rattle.cts_check.proofs.told.told_nodes_of.Goals as goal

pub returns-in_err-push-clause-claims : goal.returns-in_err-push-clause-claims
returns-in_err-push-clause-claims c =
    let l = c.loop-node in
    claims_kept l.nodes c.args.nodes.now l.node-index c.told_node.new.node c.node-item.result c.told_node.ensures.claim l.invariant.claims

pub loop-node-preserved : goal.loop-node-preserved
loop-node-preserved c =
    let l = c.loop-node in
    let nodes = c.args.nodes.now in
    let item = c.node-item.result in
    let same = l.invariant.rest l.node-index item (omega arith) in
    let keys = subst (FindsSinks c.args.sinks.now) (sym c.as_slice.ensures.value) c.in_ok-ids.ensures in
    record {
      tree = c.in_ok-push.ensures.items ∙ ap (λ ts. ts ++ c.told_node.result ∷ []) l.invariant.tree
          ∙ told_more c.args.sinks.now nodes l.node-index item c.told_node.result (omega (arith, c.loop-node-test.true, l.auto.nodes))
          (c.told_node.ensures.told c.args.sinks.now keys ∙ ap (λ n. told_node c.args.sinks.now (seen_node n)) same);
      claims = claims_kept l.nodes nodes l.node-index c.told_node.new.node item c.told_node.ensures.claim l.invariant.claims;
      rest = λ k d more.
          let other : k ≢ l.node-index = omega (arith, more) in
          get_or-set_other l.nodes l.node-index k c.told_node.new.node d other ∙ l.invariant.rest k d (omega (arith, more));
    }

pub returns-clause-tree : goal.returns-clause-tree
returns-clause-tree c =
    let l = c.loop-node in
    let nodes = c.args.nodes.now in
    l.invariant.tree ∙ ap (map (λ node. told_node c.args.sinks.now (seen_node node))) (take_all l.node-index nodes (omega (arith, c.loop-node-test.false, l.auto.nodes)))
    ∙ sym (map-map (told_node c.args.sinks.now) seen_node nodes)
