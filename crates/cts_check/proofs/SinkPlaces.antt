-- Where sinks stand, and what a mark says.
use Rattle.std.proofs.Common.{◌≡◌, ℕ, ◌<◌, Bool, true, false, List, length, get_or, slice_get, Option, Some, IsTrue, refl, sym, ap, subst, ◌∙◌, arith}
use Rattle.std.proofs.lemmas.Int.{ints}
use Rattle.std.proofs.lemmas.Option.{slice_get_within, get_or_from_slice_get, slice_get-get_or}
use Rattle.cts_geom.specs.Coordinate.{IsCoordinate}
use Rattle.cts_units.specs.declared.params.Sink.{Sink}
use Rattle.cts_instance.specs.declared.parts.Parts.{Parts}
use Rattle.cts_instance.specs.Validity.{IsSink, IsValid}

module _ (i : Parts) (valid : IsValid i) (s : ℕ) (sink : Sink) (found : slice_get i.sinks s ≡ Some sink) where
  is_sink : IsSink i.version i.die sink
  is_sink =
      subst (IsSink i.version i.die) (get_or_from_slice_get i.sinks s sink sink found) (valid.sinks s sink (slice_get_within i.sinks s sink found))

  pub x_in_range : IsCoordinate sink.x
  x_in_range = record {
    low = grind (arith, ints, is_sink.in_die.west, valid.die.x_low);
    high = grind (arith, ints, is_sink.in_die.east, valid.die.x_high);
  }

  pub y_in_range : IsCoordinate sink.y
  y_in_range = record {
    low = grind (arith, ints, is_sink.in_die.south, valid.die.y_low);
    high = grind (arith, ints, is_sink.in_die.north, valid.die.y_high);
  }

-- a look-up in a list that is the instance's
pub found_in : (sinks part : List Sink) (s : ℕ) (o r : Option Sink) → part ≡ sinks → o ≡ slice_get part s → o ≡ r → slice_get sinks s ≡ r
found_in sinks part s o r same is found = ap (λ qs. slice_get qs s) (sym same) ∙ sym is ∙ found

-- what a mark says
pub mark_is : (marks : List Bool) (s : ℕ) (b : Bool) → s < length marks → b ≡ get_or marks s b → slice_get marks s ≡ Some b
mark_is marks s b within is = slice_get-get_or marks s b within ∙ ap Some (sym is)

pub is_true : (b : Bool) → IsTrue b → b ≡ true
is_true true h = refl
is_true false h = cc

pub never : (b : Bool) → IsTrue b → b ≡ false → ⊥
never true h e = absurd cc
never false h e = cc
