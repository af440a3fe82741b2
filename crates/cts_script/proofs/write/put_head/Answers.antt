use Rattle.std.proofs.Common.{rules, w64}
use Rattle.std.specs.Prelude.{FitsSigned}
use Rattle.std.proofs.lemmas.Int.{to_z-of_z}
use Rattle.cts_io.proofs.Chains.{◌▸◌, puts_nothing}
use Rattle.cts_script.specs.Text.{head_lines, line_of}
use Rattle.cts_script.proofs.write.put_head.Goals as goal

pub returns : goal.returns
unfolding head_lines line_of
returns g c =
    let x : FitsSigned w64 c.source_x.result = search rules in
    let y : FitsSigned w64 c.source_y.result = search rules in
    let lines =
    c.put_version.ensures ▸ (c.put_die.ensures ▸ (c.put_source.ensures ▸ (c.put_wire.ensures ▸ (c.put_limits.ensures ▸ puts_nothing _ _)))) in
    let passed = simp to_z-of_z at lines in
    simp (
      c.version.ensures.part,
      c.die.ensures.part,
      c.source_x.ensures.part,
      c.source_y.ensures.part,
      c.source_r.ensures.part,
      c.params.ensures.part,
      c.params-2.ensures.part,
      c.load_limit.ensures.part,
      c.slew_limit.ensures.part,
    )
    at passed
