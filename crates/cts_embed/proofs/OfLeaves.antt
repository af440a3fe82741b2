-- The leaves of placed trees.
use Rattle.std.proofs.Common.{◌≡◌, ◌^◌, ◌<◌, ◌≤◌, List, Option, Some, None, refl, subst}
use Rattle.std.specs.List.{All}
use Rattle.std.specs.Option.{MatchOption}
use Rattle.std.proofs.lemmas.Option.{slice_get_within, get_or_from_slice_get}
use Rattle.cts_units.specs.declared.params.Sink.{Sink}
use Rattle.cts_tree.specs.declared.nodes.NodeKind.{NodeKind}
use Rattle.cts_tree.specs.declared.nodes.NodeKind.TheVariants.{Leaf, Pair}
use Rattle.cts_embed.specs.Balance.{sink_of}

-- a capacitance and an offset within the limits of an instance
abbrev pub IsSmallSink : Sink → Type 0
IsSmallSink sink = (sink.cap ≤ 10 ^ 12) × (sink.offset < 10 ^ 18)

-- the sink of a leaf, with what is said of it
pub record SinkOf (sinks : List Sink) (kind : NodeKind) (P : Sink → Type 0) : Type 0 where
  pub sink : Sink
  pub named : sink_of sinks kind ≡ Some sink
  pub has : P sink

pub sink_found : (sinks : List Sink) (kind : NodeKind) (P : Sink → Type 0) → MatchOption (sink_of sinks kind) ⊥ P → SinkOf sinks kind P
sink_found sinks kind P is = by_sink (sink_of sinks kind) refl is
  where
    by_sink : (o : Option Sink) → sink_of sinks kind ≡ o → MatchOption o ⊥ P → SinkOf sinks kind P
    by_sink None e has = absurd has
    by_sink (Some sink) e has = record { sink = sink; named = e; has = has }

-- what holds of all sinks holds of a leaf's
pub sink_has : (P : Sink → Type 0) (sinks : List Sink) (kind : NodeKind) (sink : Sink) → All P sinks
    → sink_of sinks kind ≡ Some sink → P sink
sink_has P sinks (Leaf id s) sink all named =
    subst P (get_or_from_slice_get sinks s sink sink named) (all s sink (slice_get_within sinks s sink named))
sink_has P sinks (Pair l r b) sink all named = cc
