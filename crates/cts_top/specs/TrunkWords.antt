-- The words after `trunk`: a step along the trunk, and the index of a buffer in the library.
use Rattle.std.specs.Prelude.{◌≡◌, ℕ, ◌<◌, ◌≤◌, ◌^◌, List, Ok}
use Rattle.cts_num.specs.Reading.{reading_of}

-- a word is this step in nm: a length in µm with at most 3 places
pub record IsStep (word : List ℕ) (step : ℕ) : Type 0 where
  pub read : reading_of word 3 ≡ Ok step
  pub some : 1 ≤ step
  pub within : step < 2 ^ 31

-- a word is the index of a buffer that a library may have: of 16 buffers at most, counted from 0
pub record IsBufferIndex (word : List ℕ) (index : ℕ) : Type 0 where
  pub read : reading_of word 0 ≡ Ok index
  pub within : index ≤ 15
