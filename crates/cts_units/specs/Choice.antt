-- Which buffer a pair of wires takes, and what it does to the delay below it and the load above it.
use Rattle.std.specs.Prelude.{◌≡◌, ℕ, ◌<◌, ◌≤◌, List, [], Option, Some, None, ◌⊎◌, slice_get, MatchOption}
use Rattle.std.specs.Option.{option_map_or}
use Rattle.cts_units.specs.declared.params.Buffer.{Buffer}
use Rattle.cts_units.specs.declared.params.Params.{Params}
use Rattle.cts_units.specs.Delay.{buffer_delay_of}

-- The buffer at this index has the least delay at the load, and of those with that delay the least index.
pub record IsLeastBuffer (library : List Buffer) (load index : ℕ) : Type 0 where
  pub buffer : Buffer
  pub found : slice_get library index ≡ Some buffer
  pub least : (k : ℕ) (other : Buffer) → slice_get library k ≡ Some other
      → buffer_delay_of buffer load ≤ buffer_delay_of other load
  pub first : (k : ℕ) (other : Buffer) → slice_get library k ≡ Some other
      → buffer_delay_of other load ≡ buffer_delay_of buffer load → index ≤ k

-- The buffer choice: none exactly where the load is at most the threshold or the library is empty.
abbrev pub IsBufferChoice : Params → ℕ → Option ℕ → Type 0
IsBufferChoice params load choice =
    MatchOption choice
    ((load ≤ params.insert_at) ⊎ (params.library ≡ []))
    (λ index. (params.insert_at < load) × IsLeastBuffer params.library load index)

-- the delay that the buffer at a node adds, nothing where the node has none
abbrev pub added_delay_of : List Buffer → Option ℕ → ℕ → ℕ
added_delay_of library None load = 0
added_delay_of library (Some index) load = option_map_or (λ buffer. buffer_delay_of buffer load) (slice_get library index) 0

-- the load that is seen from above a node: that of its buffer's input, else its own
abbrev pub seen_load_of : List Buffer → Option ℕ → ℕ → ℕ
seen_load_of library None load = load
seen_load_of library (Some index) load = option_map_or (λ buffer. buffer.cin) (slice_get library index) load
