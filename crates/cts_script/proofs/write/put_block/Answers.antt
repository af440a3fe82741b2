use Rattle.std.proofs.Common.{rules, w64}
use Rattle.std.specs.Prelude.{FitsSigned}
use Rattle.std.proofs.lemmas.Int.{to_z-of_z}
use Rattle.cts_io.proofs.Chains.{◌▸◌, puts_nothing}
use Rattle.cts_script.specs.Text.{block_line, line_of}
use Rattle.cts_script.proofs.write.put_block.Goals as goal

pub returns : goal.returns
unfolding block_line line_of
returns g c =
    let x1 : FitsSigned w64 c.args.block.now.x1 = search rules in
    let y1 : FitsSigned w64 c.args.block.now.y1 = search rules in
    let x2 : FitsSigned w64 c.args.block.now.x2 = search rules in
    let y2 : FitsSigned w64 c.args.block.now.y2 = search rules in
    let line = c.put.ensures ▸ (c.put_kind.ensures ▸ (c.put_coordinate.ensures ▸ (c.put_coordinate-2.ensures ▸ (c.put_coordinate-3.ensures ▸ (c.put_coordinate-4.ensures ▸ puts_nothing _ _))))) ▸ c.put-2.ensures in
    simp to_z-of_z at line
