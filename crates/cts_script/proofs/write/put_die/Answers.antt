use Rattle.std.proofs.Common.{rules, w64}
use Rattle.std.specs.Prelude.{FitsSigned}
use Rattle.std.proofs.lemmas.Int.{to_z-of_z}
use Rattle.cts_io.proofs.Chains.{◌▸◌, puts_nothing}
use Rattle.cts_script.specs.Text.{die_line, line_of}
use Rattle.cts_script.proofs.write.put_die.Goals as goal

pub returns : goal.returns
unfolding die_line line_of
returns g c =
    let x1 : FitsSigned w64 c.args.die.x1 = search rules in
    let y1 : FitsSigned w64 c.args.die.y1 = search rules in
    let x2 : FitsSigned w64 c.args.die.x2 = search rules in
    let y2 : FitsSigned w64 c.args.die.y2 = search rules in
    let line = c.put.ensures ▸ (c.put_coordinate.ensures ▸ (c.put_coordinate-2.ensures ▸ (c.put_coordinate-3.ensures ▸ (c.put_coordinate-4.ensures ▸ puts_nothing _ _)))) ▸ c.put-2.ensures in
    simp to_z-of_z at line
