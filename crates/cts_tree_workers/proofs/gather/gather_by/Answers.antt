-- A whole tree is the part that begins at the number 0.
use Rattle.std.proofs.Common.{arith}
use Rattle.std.proofs.lemmas.Result.{IfOk-at_ok}
use Rattle.cts_postorder.proofs.Stretches.{all_from_start}
use Rattle.cts_tree.specs.Nodes.{tree_children}
use Rattle.cts_tree_workers.specs.Gathering.{AreKnownFrom, IsSubtreeFrom}
use Rattle.cts_tree_workers.proofs.Gathering.{pairs_within, order_from_start, root_from_start, known_from_start}
use Rattle.cts_tree_workers.proofs.gather.gather_by.Goals as goal

pub by_halves-requires-clause-ready : goal.by_halves-requires-clause-ready
by_halves-requires-clause-ready g c κs within = record {
  post_order = order_from_start c.args.nodes.now c.requires.post_order;
  numbered = all_from_start tree_children c.args.nodes.now;
  few = omega (arith, c.requires.fits.few);
  fits = c.requires.fits;
  within = pairs_within c.args.instance.now c.args.nodes.now c.requires.within;
  pins_are = c.requires.pins;
  places = c.requires.room;
}

pub drive_within-requires-clause-root : goal.drive_within-requires-clause-root
drive_within-requires-clause-root g c =
    root_from_start c.args.instance.now c.args.nodes.now c.in_ok-root.root
    (IfOk-at_ok (IsSubtreeFrom c.args.instance.now 0 c.args.nodes.now) c.in_ok-root.was c.by_halves.ensures.root)

pub returns-clause-root : goal.returns-clause-root
returns-clause-root g c =
    root_from_start c.args.instance.now c.args.nodes.now c.in_ok-root.root
    (IfOk-at_ok (IsSubtreeFrom c.args.instance.now 0 c.args.nodes.now) c.in_ok-root.was c.by_halves.ensures.root)

pub returns-clause-known : goal.returns-clause-known
returns-clause-known g c =
    known_from_start c.args.instance.now c.args.nodes.now c.by_halves.new.room
    (IfOk-at_ok (λ _. AreKnownFrom c.args.instance.now 0 c.args.nodes.now c.by_halves.new.room) c.in_ok-root.was c.by_halves.ensures.known)
