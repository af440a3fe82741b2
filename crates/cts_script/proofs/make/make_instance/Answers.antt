use Rattle.std.proofs.Common.{ap, ◌∙◌}
use Rattle.cts_script.specs.Generator.{parts_with}
use Rattle.cts_script.proofs.Valid.{no_fault}
use Rattle.cts_script.proofs.make.make_instance.Goals as goal

pub of-requires-2 : goal.of-requires-2
of-requires-2 c =
    no_fault c.args.seed c.args.sinks c.in_ok-parts.parts
    (c.in_ok-parts.ensures ∙ ap parts_with (c.of.ensures ∙ c.in_ok-sinks.ensures))
    c.requires.seed c.requires.some c.requires.sinks
