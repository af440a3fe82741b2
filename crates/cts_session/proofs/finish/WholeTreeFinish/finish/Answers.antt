use Rattle.std.proofs.Common.{refl, subst}
use Rattle.cts_plain.specs.Synthesis.{IsSynthesisOver, made}
use Rattle.cts_session.proofs.finish.WholeTreeFinish.finish.Goals as goal

pub returns-clause-makes : goal.returns-clause-makes
returns-clause-makes c = record {
  version = refl;
  valid = c.requires.valid;
  tree = subst (λ s. IsSynthesisOver c.args.instance.now s (made c.in_ok-tree.tree)) c.requires.shape c.in_ok-tree.ensures.tree;
  figures = c.in_ok-tree.ensures.figures;
  sound = c.in_ok-tree.ensures.sound;
  one_each = c.in_ok-tree.ensures.one_each;
  in_range = c.in_ok-tree.ensures.in_range;
  in_die = c.in_ok-tree.ensures.in_die;
}
