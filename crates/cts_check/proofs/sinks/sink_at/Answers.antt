use Rattle.std.proofs.Common.{◌≡◌, ◌<◌, ◌≤◌, ℕ, List, length, Option, Some, None, Bor, refl, sym, ◌∙◌, slice_get}
use Rattle.std.specs.List.{HoldsAt}
use Rattle.std.specs.Option.{MatchOption, option_copied}
use Rattle.std.proofs.lemmas.Option.{slice_get_past, slice_get_read}
use Rattle.cts_units.specs.declared.params.Sink.{Sink}
use Rattle.cts_check.proofs.sinks.sink_at.Goals as goal

read : (found : Option (Bor Sink)) (sinks : List Sink) (place : ℕ)
    → MatchOption found (length sinks ≤ place) (λ sink. (place < length sinks) × HoldsAt (λ y. sink.now ≡ y) sinks place)
    → option_copied found ≡ slice_get sinks place
read None sinks place past = sym (slice_get_past sinks place past)
read (Some sink) sinks place there = sym (slice_get_read sinks (length sinks) place sink.now refl (there.0) (there.1 sink.now))

pub returns : goal.returns
returns c = c.copied.ensures ∙ read c.get.result c.args.sinks.now c.args.place (c.get.ensures.lookup.3)
