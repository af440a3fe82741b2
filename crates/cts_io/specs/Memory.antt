-- What contracts see of the source and the sink in memory.
use Rattle.std.specs.Prelude.{ℕ, List}

pub record SourceState : Type 0 where
  pub left : List ℕ  -- the bytes still to come
  pub failing : List ℕ  -- the numbers, from 0, of the calls that fail
  pub most : ℕ  -- the most bytes that a read gives
  pub calls : ℕ  -- how many reads were made
  pub faults : ℕ  -- how many of them failed

pub record SinkState : Type 0 where
  pub held : List ℕ  -- the bytes taken so far
  pub room : ℕ  -- how many more bytes there is room for
  pub failing : List ℕ  -- the numbers, from 0, of the calls that fail
  pub most : ℕ  -- the most bytes that a write takes
  pub calls : ℕ  -- how many writes were made
  pub faults : ℕ  -- how many of them failed
