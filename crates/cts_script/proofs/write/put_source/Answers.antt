use Rattle.std.proofs.Common.{rules, w64}
use Rattle.std.specs.Prelude.{FitsSigned}
use Rattle.std.proofs.lemmas.Int.{to_z-of_z}
use Rattle.cts_io.proofs.Chains.{◌▸◌, puts_nothing}
use Rattle.cts_script.specs.Text.{source_line, line_of}
use Rattle.cts_script.proofs.write.put_source.Goals as goal

pub returns : goal.returns
unfolding source_line line_of
returns g c =
    let x : FitsSigned w64 c.args.x = search rules in
    let y : FitsSigned w64 c.args.y = search rules in
    let line = c.put.ensures ▸ (c.put_coordinate.ensures ▸ (c.put_coordinate-2.ensures ▸ (c.put_number.ensures ▸ puts_nothing _ _))) ▸ c.put-2.ensures in
    simp to_z-of_z at line
