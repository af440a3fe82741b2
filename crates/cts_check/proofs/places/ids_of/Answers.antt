use Rattle.std.proofs.Common.{rules}
use Rattle.std.proofs.lemmas.List.Sorted.{IsNonDecreasingBy-from_sort_by_key}
use Rattle.cts_check.specs.declared.places.NamedSink.{NamedSink}
use Rattle.cts_check.proofs.Named.{named_sorted}
use Rattle.cts_check.proofs.places.ids_of.Goals as goal

pub returns : goal.returns
returns c = record {
  distinct = c.requires.ids;
  named = named_sorted c.args.sinks.now c.in_ok-ids.ids.items _ c.sort_unstable_by_key.ensures.permutation c.in_ok-ids.ensures;
  rise = IsNonDecreasingBy-from_sort_by_key (λ (n : NamedSink). n.id) _ c.sort_unstable_by_key.ensures.sorted (λ a r q k. search rules);
}
