use Rattle.cts_instance.proofs.IdLemmas.{none_ordered}
use Rattle.cts_instance.proofs.ids.SinkIds.with_capacity.Goals as goal

pub invariant_of-result : goal.invariant_of-result
invariant_of-result c = none_ordered _ _ c.in_ok-with_capacity.ensures.items c.new.ensures.empty
