use Rattle.std.proofs.Common.{ℕ, ◌*◌, ◌^◌, ◌≤◌, Fits, w64, arith}
use Rattle.cts_io.proofs.Chains.{◌▸◌}
use Rattle.cts_picture.specs.Sheet.{bar_text}
use Rattle.cts_picture.proofs.sheet.put_bar.Goals as goal

two_fits : (n : ℕ) → n ≤ 10 ^ 8 → Fits w64 (2 * n)
two_fits n h = omega arith

twelve_fits : (n : ℕ) → n ≤ 10 ^ 8 → Fits w64 (12 * n)
twelve_fits n h = omega arith

pub overflow_mul-frame : goal.overflow_mul-frame
overflow_mul-frame g c = twelve_fits c.args.frame.now.line c.requires.line_high

pub overflow_mul-frame-2 : goal.overflow_mul-frame-2
overflow_mul-frame-2 g c = two_fits c.args.frame.now.line c.requires.line_high

pub returns : goal.returns
unfolding bar_text
returns g c =
    c.put_coordinate.ensures ▸ c.put_coordinate-2.ensures ▸ c.put_coordinate-3.ensures ▸ c.put_coordinate-4.ensures
    ▸ c.put_coordinate-5.ensures ▸ c.put.ensures
