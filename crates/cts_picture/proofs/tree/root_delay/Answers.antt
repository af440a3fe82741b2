use Rattle.std.proofs.Common.{subst, sym}
use Rattle.cts_picture.specs.Drawable.{IsDrawableNode}
use Rattle.cts_picture.proofs.Found.{no_root, root_found}
use Rattle.cts_picture.proofs.tree.root_delay.Goals as goal

pub returns-in-Some-clause-same : goal.returns-in-Some-clause-same
returns-in-Some-clause-same c =
    let found = c.in-Some.ensures.lookup in
    root_found c.args.nodes.now c.saturating_sub.result c.in-Some.root.now c.saturating_sub.ensures (found.3.0) (found.1)

pub returns-in-Some-clause-short : goal.returns-in-Some-clause-short
returns-in-Some-clause-short c =
    let found = c.in-Some.ensures.lookup in
    let root : IsDrawableNode c.in-Some.root.now =
    subst IsDrawableNode (sym (found.1)) (c.requires c.saturating_sub.result c.in-Some.root.now (found.3.0)) in
    root.delay

pub returns-in-None-clause-same : goal.returns-in-None-clause-same
returns-in-None-clause-same c =
    let found = c.in-None.ensures.lookup in
    no_root c.args.nodes.now c.saturating_sub.result c.saturating_sub.ensures (found.3)
