-- What the sums along the trunk come to, wire by wire.
use Rattle.std.specs.Prelude.{◌≡◌, ℕ, zero, suc, ◌+◌, ◌*◌, ◌^◌, ◌<◌, ◌≤◌, List, map, length, slice_index_or, All}
use Rattle.cts_units.specs.declared.params.Buffer.{Buffer}
use Rattle.cts_units.specs.Limits.{IsWire, IsBuffer, max_length, max_load, max_delay}
use Rattle.cts_instance.specs.declared.parts.Parts.{Parts}
use Rattle.cts_trunk.specs.declared.places.Stand.{Stand}
use Rattle.cts_trunk.specs.declared.sums.Drive.{Drive}
use Rattle.cts_trunk.specs.declared.sums.Reach.{Reach}
use Rattle.cts_trunk.specs.declared.trunk.TrunkEnd.{TrunkEnd}
use Rattle.cts_trunk.specs.declared.trunk.TrunkEnd.TheVariants.{Buffer as NoBuffer, Many, Beyond, NoMemory}
use Rattle.cts_trunk.specs.Extended.{Span, spans, load_on, delay_on, stage_on}

-- the lengths from the source at which repeaters stand
abbrev pub cuts_of : List Stand → List ℕ
cuts_of stands = map (λ (stand : Stand). stand.length) stands

-- the wires of the trunk
abbrev pub wires_of : Drive → List Stand → List Span
wires_of drive stands = spans drive.repeater.cin drive.root_seen 0 (cuts_of stands) drive.root_at

-- what drives the trunk is within the limits, and so is the load of the whole trunk
pub record IsDriveInRange (drive : Drive) : Type 0 where
  pub wire : IsWire drive.wire
  pub repeater : IsBuffer drive.repeater
  pub source : drive.source_r < 10 ^ 18
  pub short : drive.root_at ≤ max_length
  pub light : drive.root_seen + drive.wire.c * drive.root_at ≤ max_load

-- the source and the wire are those of the instance
pub record IsDriveOf (i : Parts) (drive : Drive) : Type 0 where
  pub wire_is : drive.wire ≡ i.params.wire
  pub source_is : drive.source_r ≡ i.source_r

-- the source as a driver: a buffer without input load and intrinsic delay
abbrev pub source_buffer : ℕ → Buffer
source_buffer resistance = record { cin = 0; rout = resistance; intrinsic = 0 }

-- repeaters stand before the root
abbrev pub StandBefore : ℕ → List Stand → Type 0
StandBefore root_at stands = All (λ stand. stand.length ≤ root_at) stands

-- the load, the delay and the stage of a wire
pub record IsReach (i : Parts) (repeater : Buffer) (trunk : List Span) (k : ℕ) (reach : Reach) : Type 0 where
  pub load : reach.load ≡ load_on i repeater trunk k
  pub delay : reach.delay ≡ delay_on i repeater trunk k
  pub stage : reach.stage ≡ stage_on i repeater trunk k
  pub stage_le : reach.stage ≤ reach.delay

-- the delay above a wire: none above the first
abbrev pub IsBefore : Parts → Buffer → List Span → ℕ → ℕ → Type 0
IsBefore i repeater trunk zero before = before ≡ 0
IsBefore i repeater trunk (suc k) before = before ≡ delay_on i repeater trunk k

-- those of the first wires, each within the limit
pub record AreReaches (i : Parts) (repeater : Buffer) (trunk : List Span) (count : ℕ) (reaches : List Reach) : Type 0 where
  pub long : length reaches ≡ count
  pub each_wire : (k : ℕ) (d : Reach) → k < count → IsReach i repeater trunk k (slice_index_or reaches k d)
  pub each_within : (k : ℕ) (d : Reach) → k < count → (slice_index_or reaches k d).delay ≤ max_delay

-- the delay at the root is over the limit, or memory ran out
abbrev pub EndsSums : Parts → Buffer → List Span → ℕ → TrunkEnd → Type 0
EndsSums i repeater trunk last Beyond = max_delay < delay_on i repeater trunk last
EndsSums i repeater trunk last NoMemory = Unit {0}
EndsSums i repeater trunk last NoBuffer = ⊥
EndsSums i repeater trunk last Many = ⊥
