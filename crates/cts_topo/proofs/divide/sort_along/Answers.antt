-- Each call of the closure compares by the order of pins, so the sort is by it.
use Rattle.std.proofs.Common.{true, false, sym, subst, rules}
use Rattle.std.specs.List.Sorted.{IsSortedBy}
use Rattle.std.proofs.lemmas.List.Sorted.{answers_always}
use Rattle.cts_topo.specs.Topology.{is_before}
use Rattle.cts_topo.proofs.Orders.{pins_weak}
use Rattle.cts_topo.proofs.divide.sort_along.Goals as goal

pub returns-then-wide-clause-sorted : goal.returns-then-wide-clause-sorted
returns-then-wide-clause-sorted c =
    subst (λ b. IsSortedBy (is_before b) c.sort_unstable_by.new.self.items) (sym c.if-wide.true)
    (c.sort_unstable_by.ensures.sorted (is_before true) (pins_weak true) (answers_always _ _ _ (λ f a r g h. search rules)))

pub returns-else-wide-clause-sorted : goal.returns-else-wide-clause-sorted
returns-else-wide-clause-sorted c =
    subst (λ b. IsSortedBy (is_before b) c.sort_unstable_by-else-wide.new.self.items) (sym c.if-wide.false)
    (c.sort_unstable_by-else-wide.ensures.sorted (is_before false) (pins_weak false) (answers_always _ _ _ (λ f a r g h. search rules)))
