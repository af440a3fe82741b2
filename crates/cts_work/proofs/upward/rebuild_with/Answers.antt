use Rattle.std.proofs.Common.{length, map, sym, ap, subst, ◌∙◌}
use Rattle.std.proofs.lemmas.Simd.{map-map}
use Rattle.cts_up.specs.Sites.{site_of}
use Rattle.cts_turn.specs.Passes.{seen_by}
use Rattle.cts_work.specs.declared.node.Built.{Built}
use Rattle.cts_work.specs.Known.{picked}
use Rattle.cts_work.specs.Last.{AreKeyed}
use Rattle.cts_work.proofs.Misses.{fewer_missing}
use Rattle.cts_work.proofs.Nodes.{goes_further}
use Rattle.cts_work.proofs.Taken.{stands_stays}
use Rattle.cts_work.proofs.upward.rebuild_with.Goals as goal

pub build_over-requires-clause-last : goal.build_over-requires-clause-last
build_over-requires-clause-last g c κs within =
    stands_stays c.args.past.now.known.nodes.items c.listen.new.self.nodes.items c.args.past.now.last c.listen.ensures.more c.requires.kept.last

pub keep_tree-requires-clause-long : goal.keep_tree-requires-clause-long
keep_tree-requires-clause-long g c = c.in-Ok.ensures.long ∙ sym (ap length c.nodes-nodes.ensures.nodes)

pub keep_tree-requires-clause-keyed : goal.keep_tree-requires-clause-keyed
keep_tree-requires-clause-keyed g c whole =
    subst (λ ns. AreKeyed c.args.sinks.now ns (picked c.build_over.new.known.nodes.items c.in-Ok.tree.places.items)) (sym c.nodes-nodes.ensures.nodes)
    (c.in-Ok.ensures.keyed whole)

pub returns-in-Ok-clause-sites : goal.returns-in-Ok-clause-sites
returns-in-Ok-clause-sites g c =
    let nodes = picked c.build_over.new.known.nodes.items c.in-Ok.tree.places.items in (
      map (λ (b : Built). b.finished) nodes,
      c.in-Ok.ensures.plan,
      c.keep_tree.ensures.sites ∙ c.in-Ok.ensures.sites ∙ sym (map-map site_of (λ (b : Built). b.finished) nodes),
    )

pub returns-in-Ok-clause-kept : goal.returns-in-Ok-clause-kept
returns-in-Ok-clause-kept g c = c.keep_tree.ensures.known (seen_by c.build_over.new.pass) c.build_over.ensures.noted

pub returns-in-Err-clause-kept : goal.returns-in-Err-clause-kept
returns-in-Err-clause-kept g c =
    c.keep_no_tree.ensures (seen_by c.build_over.new.pass) (record { known = c.build_over.ensures.noted; last = c.build_over.ensures.last })

pub returns-in-Ok-clause-merges : goal.returns-in-Ok-clause-merges
returns-in-Ok-clause-merges g c =
    fewer_missing (seen_by c.args.pass.now) (seen_by c.listen.new.pass) c.args.sinks.now c.args.shape.now c.args.steps.now c.build_over.new.steps
    c.listen.ensures.pass.goes_on c.build_over.ensures.merges

pub returns-in-Err-clause-merges : goal.returns-in-Err-clause-merges
returns-in-Err-clause-merges g c =
    fewer_missing (seen_by c.args.pass.now) (seen_by c.listen.new.pass) c.args.sinks.now c.args.shape.now c.args.steps.now c.build_over.new.steps
    c.listen.ensures.pass.goes_on c.build_over.ensures.merges

pub returns-in-Ok-clause-goes_on : goal.returns-in-Ok-clause-goes_on
returns-in-Ok-clause-goes_on g c =
    (goes_further c.args.memo.now c.args.pass.now c.listen.new.pass c.build_over.new.pass c.listen.ensures.pass c.build_over.ensures.pass).goes_on

pub returns-in-Err-clause-goes_on : goal.returns-in-Err-clause-goes_on
returns-in-Err-clause-goes_on g c =
    (goes_further c.args.memo.now c.args.pass.now c.listen.new.pass c.build_over.new.pass c.listen.ensures.pass c.build_over.ensures.pass).goes_on
