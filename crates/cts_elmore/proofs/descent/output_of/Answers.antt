use Rattle.std.proofs.Common.{◌≡◌, ◌*◌, ◌<◌, ℕ, List, length, get_or, slice_get, Option, Some, IfSome, sym, ap, subst, ◌∙◌, arith}
use Rattle.std.specs.Option.{option_map_or}
use Rattle.std.proofs.lemmas.Option.{slice_get-get_or}
use Rattle.cts_units.specs.declared.params.Buffer.{Buffer}
use Rattle.cts_units.specs.Delay.{buffer_delay_of}
use Rattle.cts_units.specs.Choice.{added_delay_of}
use Rattle.cts_elmore.specs.Outputs.{stage_after}
use Rattle.cts_elmore.proofs.descent.output_of.Goals as goal

-- the value past the end of the library
abbrev none : Buffer
none = record { cin = 0; rout = 0; intrinsic = 0 }

-- the delay that the buffer of an index adds, and the stage that it begins
at_buffer : (library : List Buffer) (buffer : Option ℕ) (index load stage : ℕ) → buffer ≡ Some index
    → IfSome buffer (λ i. i < length library)
    → (buffer_delay_of (get_or library index none) load ≡ added_delay_of library buffer load)
    × (2 * (get_or library index none).rout * load ≡ stage_after library buffer load stage)
at_buffer library buffer index load stage is named =
    let within : index < length library = subst (λ o. IfSome o (λ i. i < length library)) is named in
    let found : slice_get library index ≡ Some (get_or library index none) = slice_get-get_or library index none within in (
      sym (ap (λ o. added_delay_of library o load) is ∙ ap (λ (o : Option Buffer). option_map_or (λ (b : Buffer). buffer_delay_of b load) o 0) found),
      sym (ap (λ o. stage_after library o load stage) is ∙ ap (λ (o : Option Buffer). option_map_or (λ (b : Buffer). 2 * b.rout * load) o stage) found),
    )

pub overflow_add-result : goal.overflow_add-result
overflow_add-result c = omega arith

pub returns-in-Some-clause-output : goal.returns-in-Some-clause-output
returns-in-Some-clause-output c =
    let at = at_buffer c.args.library.now c.args.buffer c.in-Some.index c.args.here.now.below c.args.here.now.stage c.in-Some.is c.requires.buffer in
    let added = at.0 in
    let stage = at.1 in
    record { delay = cc; stage = cc }

pub returns-in-Some-clause-delay : goal.returns-in-Some-clause-delay
returns-in-Some-clause-delay c = omega arith

pub returns-in-Some-clause-stage : goal.returns-in-Some-clause-stage
returns-in-Some-clause-stage c = omega arith

pub returns-in-None-clause-output : goal.returns-in-None-clause-output
returns-in-None-clause-output c = record {
  delay = omega (arith, ap (λ o. added_delay_of c.args.library.now o c.args.here.now.below) c.in-None.is);
  stage = sym (ap (λ o. stage_after c.args.library.now o c.args.here.now.below c.args.here.now.stage) c.in-None.is);
}

pub returns-in-None-clause-delay : goal.returns-in-None-clause-delay
returns-in-None-clause-delay c = omega arith

pub returns-in-None-clause-stage : goal.returns-in-None-clause-stage
returns-in-None-clause-stage c = omega arith
