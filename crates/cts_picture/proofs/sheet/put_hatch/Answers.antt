use Rattle.std.proofs.Common.{ℕ, ◌*◌, ◌^◌, ◌≤◌, Fits, w64, arith}
use Rattle.cts_io.proofs.Chains.{◌▸◌}
use Rattle.cts_picture.specs.Sheet.{hatch_text}
use Rattle.cts_picture.proofs.sheet.put_hatch.Goals as goal

five_fits : (n : ℕ) → n ≤ 10 ^ 8 → Fits w64 (5 * n)
five_fits n h = omega arith

pub overflow_mul-line : goal.overflow_mul-line
overflow_mul-line g c = five_fits c.args.line c.requires

pub overflow_mul-line-2 : goal.overflow_mul-line-2
overflow_mul-line-2 g c = five_fits c.args.line c.requires

pub returns : goal.returns
unfolding hatch_text
returns g c =
    c.put_coordinate.ensures ▸ c.put_coordinate-2.ensures ▸ c.put.ensures
