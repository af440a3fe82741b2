-- Sinks by their ids: a list in which the place of a sink is found.
use Rattle.std.specs.Prelude.{◌≡◌, List, length, slice_get, All, Some}
use Rattle.std.specs.List.{Contains}
use Rattle.std.specs.List.Sorted.{IsNonDecreasingBy}
use Rattle.cts_units.specs.Ids.{HasDistinctIds}
use Rattle.cts_units.specs.declared.params.Sink.{Sink}
use Rattle.cts_check.specs.declared.places.NamedSink.{NamedSink}

-- the sink at this place has this id
pub record Names (sinks : List Sink) (named : NamedSink) : Type 0 where
  pub sink : Sink
  pub there : slice_get sinks named.place ≡ Some sink
  pub id_is : sink.id ≡ named.id

-- each sink is named, and nothing else
pub record AreNamed (sinks : List Sink) (ids : List NamedSink) : Type 0 where
  pub long : length ids ≡ length sinks
  pub sound : All (Names sinks) ids
  pub complete : (named : NamedSink) → Names sinks named → Contains ids named

-- the sinks are named in rising order of their ids, no two of which are one
pub record FindsSinks (sinks : List Sink) (ids : List NamedSink) : Type 0 where
  pub distinct : HasDistinctIds (λ (s : Sink). s.id) sinks
  pub named : AreNamed sinks ids
  pub rise : IsNonDecreasingBy (λ (n : NamedSink). n.id) ids
