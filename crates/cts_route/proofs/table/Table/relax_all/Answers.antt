use Rattle.std.proofs.Common.{inl, inr, ◌∙◌}
use Rattle.cts_route.specs.Search.{total}
use Rattle.cts_route.proofs.Sweeps.{on_false, on_true, from_none, from_some, not_longer, shorter_by_one, settled_all}
use Rattle.cts_route.proofs.table.Table.relax_all.Goals as goal

pub returns-then-north-clause-labels : goal.returns-then-north-clause-labels
returns-then-north-clause-labels c = c.relax-4.ensures.labels

pub returns-then-north-clause-goal : goal.returns-then-north-clause-goal
returns-then-north-clause-goal c = c.relax-4.ensures.goal ∙ c.relax-3.ensures.goal ∙ c.relax-2.ensures.goal ∙ c.relax.ensures.goal

pub returns-then-north-clause-shorter : goal.returns-then-north-clause-shorter
returns-then-north-clause-shorter c =
    on_true _ _ (λ _.
    shorter_by_one (total c.args.self.now.labels.items) (total c.relax.new.self.labels.items) (total c.relax-2.new.self.labels.items)
    (total c.relax-3.new.self.labels.items) (total c.relax-4.new.self.labels.items)
    (not_longer c.relax.result _ _ c.relax.ensures.shorter c.relax.ensures.kept)
    (not_longer c.relax-2.result _ _ c.relax-2.ensures.shorter c.relax-2.ensures.kept)
    (not_longer c.relax-3.result _ _ c.relax-3.ensures.shorter c.relax-3.ensures.kept)
    (not_longer c.relax-4.result _ _ c.relax-4.ensures.shorter c.relax-4.ensures.kept)
    (elim c.if-north.either [
      | inl east ↦ inl (from_some c.relax.result c.is_some-east.result _ c.is_some-east.ensures east c.relax.ensures.shorter)
      | inr others ↦ elim others [
        | inl west ↦ inr (inl (from_some c.relax-2.result c.is_some-west.result _ c.is_some-west.ensures west.1 c.relax-2.ensures.shorter))
        | inr north ↦ inr (inr (inl (from_some c.relax-3.result c.is_some-north.result _ c.is_some-north.ensures north.2 c.relax-3.ensures.shorter)))
      ]
    ]))

pub returns-else-north-clause-settled : goal.returns-else-north-clause-settled
returns-else-north-clause-settled c =
    on_false c.is_some-south.result _ (λ e.
    settled_all c.args.graph.now c.args.from c.args.self.now.labels.items c.relax.new.self.labels.items
    c.relax-2.new.self.labels.items c.relax-3.new.self.labels.items
    (from_none c.relax.result c.is_some-east.result _ c.is_some-east.ensures c.if-north.false.0 c.relax.ensures.kept)
    (from_none c.relax-2.result c.is_some-west.result _ c.is_some-west.ensures c.if-north.false.1 c.relax-2.ensures.kept)
    (from_none c.relax-3.result c.is_some-north.result _ c.is_some-north.ensures c.if-north.false.2 c.relax-3.ensures.kept)
    (from_none c.relax.result c.is_some-east.result _ c.is_some-east.ensures c.if-north.false.0 c.relax.ensures.settled)
    (from_none c.relax-2.result c.is_some-west.result _ c.is_some-west.ensures c.if-north.false.1 c.relax-2.ensures.settled)
    (from_none c.relax-3.result c.is_some-north.result _ c.is_some-north.ensures c.if-north.false.2 c.relax-3.ensures.settled)
    (from_none c.relax-4.result c.is_some-south.result _ c.is_some-south.ensures e c.relax-4.ensures.settled))

pub returns-else-north-clause-labels : goal.returns-else-north-clause-labels
returns-else-north-clause-labels c = c.relax-4.ensures.labels

pub returns-else-north-clause-goal : goal.returns-else-north-clause-goal
returns-else-north-clause-goal c = c.relax-4.ensures.goal ∙ c.relax-3.ensures.goal ∙ c.relax-2.ensures.goal ∙ c.relax.ensures.goal

pub returns-else-north-clause-kept : goal.returns-else-north-clause-kept
returns-else-north-clause-kept c =
    on_false c.is_some-south.result _ (λ e.
    from_none c.relax-4.result c.is_some-south.result _ c.is_some-south.ensures e c.relax-4.ensures.kept
    ∙ from_none c.relax-3.result c.is_some-north.result _ c.is_some-north.ensures c.if-north.false.2 c.relax-3.ensures.kept
    ∙ from_none c.relax-2.result c.is_some-west.result _ c.is_some-west.ensures c.if-north.false.1 c.relax-2.ensures.kept
    ∙ from_none c.relax.result c.is_some-east.result _ c.is_some-east.ensures c.if-north.false.0 c.relax.ensures.kept)

pub returns-else-north-clause-shorter : goal.returns-else-north-clause-shorter
returns-else-north-clause-shorter c =
    on_true c.is_some-south.result _ (λ e.
    shorter_by_one (total c.args.self.now.labels.items) (total c.relax.new.self.labels.items) (total c.relax-2.new.self.labels.items)
    (total c.relax-3.new.self.labels.items) (total c.relax-4.new.self.labels.items)
    (not_longer c.relax.result _ _ c.relax.ensures.shorter c.relax.ensures.kept)
    (not_longer c.relax-2.result _ _ c.relax-2.ensures.shorter c.relax-2.ensures.kept)
    (not_longer c.relax-3.result _ _ c.relax-3.ensures.shorter c.relax-3.ensures.kept)
    (not_longer c.relax-4.result _ _ c.relax-4.ensures.shorter c.relax-4.ensures.kept)
    (inr (inr (inr (from_some c.relax-4.result c.is_some-south.result _ c.is_some-south.ensures e c.relax-4.ensures.shorter)))))
