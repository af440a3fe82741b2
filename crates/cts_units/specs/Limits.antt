-- The limits of an instance and of its tree. A value that is equal to its limit is within it.
use Rattle.std.specs.Prelude.{ℕ, ◌-◌, ◌^◌, ◌<◌, ◌≤◌, length, All}
use Rattle.cts_units.specs.declared.params.Wire.{Wire}
use Rattle.cts_units.specs.declared.params.Buffer.{Buffer}
use Rattle.cts_units.specs.declared.params.Params.{Params}

-- the greatest id of a sink
abbrev pub max_id : ℕ
max_id = 999999999

-- the most sinks of an instance
abbrev pub max_sinks : ℕ
max_sinks = 65536

-- the most buffers of a library
abbrev pub max_buffers : ℕ
max_buffers = 16

-- the greatest coordinate, in nm
abbrev pub max_coordinate : ℕ
max_coordinate = 10 ^ 8

-- the greatest input capacitance of a sink or a buffer, in zF
abbrev pub max_capacitance : ℕ
max_capacitance = 10 ^ 12

-- the greatest length of one wire, in nm
abbrev pub max_length : ℕ
max_length = 2 ^ 31 - 1

-- the greatest load at one point, in zF
abbrev pub max_load : ℕ
max_load = 2 ^ 56

-- the greatest doubled delay, in 10^-27 s
abbrev pub max_delay : ℕ
max_delay = 2 ^ 104

-- a wire's resistance and capacitance per nm are from 1 to 10^6 each
pub record IsWire (wire : Wire) : Type 0 where
  pub r_low : 1 ≤ wire.r
  pub r_high : wire.r ≤ 10 ^ 6
  pub c_low : 1 ≤ wire.c
  pub c_high : wire.c ≤ 10 ^ 6

pub record IsBuffer (buffer : Buffer) : Type 0 where
  pub cin : buffer.cin ≤ max_capacitance
  pub rout : buffer.rout < 10 ^ 18
  pub intrinsic : buffer.intrinsic < 10 ^ 18

-- the parameters of an instance: its wire, and a library of at most 16 buffers
pub record IsParams (params : Params) : Type 0 where
  pub wire : IsWire params.wire
  pub count : length params.library ≤ max_buffers
  pub buffers : All IsBuffer params.library
  pub insert_at : params.insert_at < 10 ^ 18
