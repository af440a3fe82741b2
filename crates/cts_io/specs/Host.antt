-- What contracts see of a reader or a writer of std as a source or a sink.
use Rattle.std.specs.Prelude.{ℕ}

pub record HostState (D : Type 0) : Type 0 where
  pub device : D  -- the reader or the writer, whose bytes std's own words tell
  pub faults : ℕ  -- how many of its calls failed
