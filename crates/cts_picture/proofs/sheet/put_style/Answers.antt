use Rattle.std.proofs.Common.{ℕ, ◌*◌, ◌^◌, ◌≤◌, Fits, w64, arith}
use Rattle.cts_io.proofs.Chains.{◌▸◌}
use Rattle.cts_picture.specs.Sheet.{style_text}
use Rattle.cts_picture.proofs.sheet.put_style.Goals as goal

two_fits : (n : ℕ) → n ≤ 10 ^ 10 → Fits w64 (2 * n)
two_fits n h = omega arith

three_fits : (n : ℕ) → n ≤ 10 ^ 10 → Fits w64 (3 * n)
three_fits n h = omega arith

four_fits : (n : ℕ) → n ≤ 10 ^ 10 → Fits w64 (4 * n)
four_fits n h = omega arith

pub overflow_mul-stroke : goal.overflow_mul-stroke
overflow_mul-stroke g c = four_fits c.args.stroke c.requires

pub overflow_mul-stroke-2 : goal.overflow_mul-stroke-2
overflow_mul-stroke-2 g c = three_fits c.args.stroke c.requires

pub overflow_mul-stroke-3 : goal.overflow_mul-stroke-3
overflow_mul-stroke-3 g c = two_fits c.args.stroke c.requires

pub overflow_mul-stroke-4 : goal.overflow_mul-stroke-4
overflow_mul-stroke-4 g c = four_fits c.args.stroke c.requires

pub overflow_mul-stroke-5 : goal.overflow_mul-stroke-5
overflow_mul-stroke-5 g c = two_fits c.args.stroke c.requires

pub returns : goal.returns
unfolding style_text
returns g c =
    c.put.ensures ▸ c.put-2.ensures ▸ c.put_coordinate.ensures ▸ c.put_coordinate-2.ensures ▸ c.put_coordinate-3.ensures
    ▸ c.put_coordinate-4.ensures ▸ c.put_coordinate-5.ensures ▸ c.put-3.ensures
