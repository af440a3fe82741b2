-- A trunk with repeaters, put together from the places, from what the wires come to, and from the figures of the tree.
use Rattle.std.specs.Prelude.{pos, ◌≡◌, ℕ, ◌+◌, ◌-◌, ◌*◌, ◌<◌, ◌≤◌, ◌↔◌, List, length, take, slice_index_or, All, IsTrue}
use Rattle.cts_units.specs.Delay.{slew_of}
use Rattle.cts_units.specs.Limits.{max_delay}
use Rattle.cts_tree.specs.declared.nodes.TreeNode.{TreeNode}
use Rattle.cts_instance.specs.declared.parts.Parts.{Parts}
use Rattle.cts_elmore.specs.declared.figures.Figures.{Figures}
use Rattle.cts_trunk.specs.declared.places.Stand.{Stand}
use Rattle.cts_trunk.specs.declared.sums.Reach.{Reach}
use Rattle.cts_trunk.specs.declared.trunk.Repeater.{Repeater}
use Rattle.cts_trunk.specs.declared.trunk.Trunk.{Trunk}
use Rattle.cts_trunk.specs.declared.trunk.TrunkEnd.{TrunkEnd}
use Rattle.cts_trunk.specs.declared.trunk.TrunkEnd.TheVariants.{Buffer as NoBuffer, Many, Beyond, NoMemory}
use Rattle.cts_trunk.specs.Met.{LoadsAreMet, SlewsAreMet}

-- the repeater at a place, at the lower end of one wire and the upper end of the next
abbrev pub repeater_of : Stand → Reach → Reach → Repeater
repeater_of stand above below = record {
  place = stand.place;
  length = stand.length;
  load = below.load;
  delay = above.delay;
  stage = above.stage;
}

-- what lists of places and of reaches give past their ends
abbrev pub nowhere : Stand
nowhere = record { place = record { u = pos 0; v = pos 0 }; length = 0 }

abbrev pub unreached : Reach
unreached = record { load = 0; delay = 0; stage = 0 }

pub record AreRepeaters (stands : List Stand) (reaches : List Reach) (repeaters : List Repeater) : Type 0 where
  pub long : length repeaters ≡ length stands
  pub each_stand : (k : ℕ) (d : Repeater) → k < length stands
      → slice_index_or repeaters k d
      ≡ repeater_of (slice_index_or stands k nowhere) (slice_index_or reaches k unreached) (slice_index_or reaches (k + 1) unreached)

-- the delays of the leaves go with the root's, from `old` on
pub record IsAssembled (first last : Reach) (old : ℕ) (figures : Figures) (trunk : Trunk) : Type 0 where
  pub source_load : trunk.source_load ≡ first.load
  pub root_delay : trunk.root_delay ≡ last.delay
  pub root_stage : trunk.root_stage ≡ last.stage
  pub greatest : trunk.greatest ≡ last.delay + (figures.greatest - old)
  pub least : trunk.least ≡ last.delay + (figures.least - old)
  pub skew_is : trunk.skew ≡ figures.skew

-- the trunk with repeaters at these places, whose wires come to this, where the root's delay and its stage were `old`
pub record IsTrunkWith (i : Parts) (nodes : List TreeNode) (figures : Figures) (stands : List Stand) (reaches : List Reach)
    (old : ℕ) (trunk : Trunk) : Type 0 where
  pub repeaters : AreRepeaters stands reaches trunk.repeaters
  pub values : IsAssembled (slice_index_or reaches 0 unreached) (slice_index_or reaches (length stands) unreached) old figures trunk
  pub within : (slice_index_or reaches (length stands) unreached).delay + (figures.arrival_greatest - old) ≤ max_delay
  pub load_met : IsTrue trunk.load_met
      ↔ (All (λ reach. reach.load ≤ i.load_limit) reaches × LoadsAreMet i.load_limit nodes figures.nodes)
  pub slew_met : IsTrue trunk.slew_met
      ↔ (All (λ reach. slew_of reach.stage ≤ 10 * i.slew_limit) (take (length stands) reaches)
      × SlewsAreMet i.slew_limit old (slice_index_or reaches (length stands) unreached).stage nodes figures.nodes)

-- the greatest arrival is over the limit, or memory ran out
abbrev pub EndsWith : Figures → List Stand → List Reach → ℕ → TrunkEnd → Type 0
EndsWith figures stands reaches old Beyond =
    max_delay < (slice_index_or reaches (length stands) unreached).delay + (figures.arrival_greatest - old)
EndsWith figures stands reaches old NoMemory = Unit {0}
EndsWith figures stands reaches old NoBuffer = ⊥
EndsWith figures stands reaches old Many = ⊥

-- the greatest and the least delay of a leaf, and the greatest arrival, are not below the root's delay
pub record IsRootBefore (old : ℕ) (figures : Figures) : Type 0 where
  pub greatest : old ≤ figures.greatest
  pub least : old ≤ figures.least
  pub arrival : old ≤ figures.arrival_greatest
