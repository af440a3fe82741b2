-- What contracts see of a buffer before a sink.
use Rattle.std.specs.Prelude.{ℕ, Bool, false, List, []}

pub record Pending : Type 0 where
  pub waiting : List ℕ  -- the bytes that wait for the next write
  pub written : ℕ  -- how many bytes the sink has taken, a count that stands still at 2^64 - 1
  pub failed : Bool  -- the sink has failed, and nothing goes to it any more

-- a new buffer
abbrev pub fresh : Pending
fresh = record { waiting = []; written = 0; failed = false }
