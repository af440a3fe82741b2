-- What the upward pass makes of a sink, and of two sides: the least pair, the merging region, the buffer choice, or beyond.
use Rattle.std.specs.Prelude.{◌≡◌, ℕ, ◌+◌, ◌*◌, ◌<◌, ◌≤◌, max, Option, None, ◌↔◌, ◌⊎◌, Result, IfOk, IfErr}
use Rattle.cts_geom.specs.declared.points.Spot.{Spot}
use Rattle.cts_geom.specs.Points.{spot_at}
use Rattle.cts_geom.specs.Regions.{ContainsSpot, IsMeet, gap_of}
use Rattle.cts_units.specs.declared.params.Sink.{Sink}
use Rattle.cts_units.specs.declared.params.Wire.{Wire}
use Rattle.cts_units.specs.declared.params.Params.{Params}
use Rattle.cts_units.specs.Choice.{IsBufferChoice, added_delay_of, seen_load_of}
use Rattle.cts_units.specs.Limits.{max_length, max_load, max_delay}
use Rattle.cts_merge.specs.declared.side.Side.{Side}
use Rattle.cts_merge.specs.declared.side.Finished.{Finished}
use Rattle.cts_merge.specs.declared.side.Beyond.{Beyond}
use Rattle.cts_merge.specs.LeastPair.{IsLeastPair, Spans}
use Rattle.cts_merge.specs.Side.{IsSideInRange, delay_through}

-- a leaf: twice the sink's offset as greatest delay, both in 10^-27 s, its capacitance, its one point, and no wires or
-- buffer below it
pub record IsLeaf (sink : Sink) (leaf : Finished) : Type 0 where
  pub greatest : leaf.side.greatest ≡ 2 * sink.offset
  pub load : leaf.side.load ≡ sink.cap
  pub region : (p : Spot) → ContainsSpot leaf.side.region p ↔ (p ≡ spot_at sink.x sink.y)
  pub ea : leaf.ea ≡ 0
  pub eb : leaf.eb ≡ 0
  pub buffer : leaf.buffer ≡ None

-- the least pair of lengths of two sides, over the gap of their regions
abbrev pub IsMergePair : Wire → Side → Side → ℕ → ℕ → Type 0
IsMergePair wire a b ea eb =
    IsLeastPair (delay_through wire a) (delay_through wire b) (Spans (gap_of a.region b.region)) ea eb

-- the load of a pair before its buffer: its sides and its two wires
abbrev pub pair_load_of : Wire → Side → Side → ℕ → ℕ → ℕ
pair_load_of wire a b ea eb = a.load + b.load + wire.c * (ea + eb)

-- the greatest delay of a pair before its buffer
abbrev pub pair_delay_of : Wire → Side → Side → ℕ → ℕ → ℕ
pair_delay_of wire a b ea eb = max (delay_through wire a ea) (delay_through wire b eb)

-- A pair that is within the limits: its load before the buffer is within them, its greatest delay after it.
pub record IsMerged (params : Params) (a b : Side) (pair : Finished) : Type 0 where
  pub least : IsMergePair params.wire a b pair.ea pair.eb
  pub region : IsMeet a.region pair.ea b.region pair.eb pair.side.region
  pub buffer : IsBufferChoice params (pair_load_of params.wire a b pair.ea pair.eb) pair.buffer
  pub load : pair.side.load
      ≡ seen_load_of params.library pair.buffer (pair_load_of params.wire a b pair.ea pair.eb)
  pub greatest : pair.side.greatest
      ≡ pair_delay_of params.wire a b pair.ea pair.eb
      + added_delay_of params.library pair.buffer (pair_load_of params.wire a b pair.ea pair.eb)
  pub ea_within : pair.ea ≤ max_length
  pub eb_within : pair.eb ≤ max_length
  pub load_within : pair_load_of params.wire a b pair.ea pair.eb ≤ max_load
  pub greatest_within : pair.side.greatest ≤ max_delay

-- the greatest delay of a pair of these lengths is above the limit, with the buffer that the pair takes
pub record IsTooSlow (params : Params) (a b : Side) (ea eb : ℕ) : Type 0 where
  pub buffer : Option ℕ
  pub choice : IsBufferChoice params (pair_load_of params.wire a b ea eb) buffer
  pub over : max_delay
      < pair_delay_of params.wire a b ea eb + added_delay_of params.library buffer (pair_load_of params.wire a b ea eb)

-- Beyond, upward: the least pair has a wire over the limit, or a load before the buffer, or a greatest delay after it.
pub record IsBeyond (params : Params) (a b : Side) : Type 0 where
  pub ea : ℕ
  pub eb : ℕ
  pub least : IsMergePair params.wire a b ea eb
  pub over : (max_length < ea) ⊎ ((max_length < eb)
      ⊎ ((max_load < pair_load_of params.wire a b ea eb) ⊎ IsTooSlow params a b ea eb))

-- how the merge of two sides ends: with their pair, whose numbers are in range, or beyond
pub record Merges (params : Params) (a b : Side) (result : Result Finished Beyond) : Type 0 where
  pub merged : IfOk result (λ pair. IsMerged params a b pair)
  pub in_range : IfOk result (λ pair. IsSideInRange pair.side)
  pub beyond : IfErr result (λ _. IsBeyond params a b)
