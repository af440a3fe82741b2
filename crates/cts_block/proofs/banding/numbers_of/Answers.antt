use Rattle.std.proofs.Common.{◌*◌, ◌≤◌, ◌^◌, arith}
use Rattle.std.proofs.Math.Nat.{mul-le-mul_left}
use Rattle.std.proofs.lemmas.Int.{ints}
use Rattle.cts_block.proofs.banding.numbers_of.Goals as goal

pub overflow_add-result : goal.overflow_add-result
overflow_add-result c =
    let bands = c.args.bands.now in
    let product : bands.size * c.args.band ≤ 2 ^ 43 =
    let within : c.args.band ≤ bands.count = omega arith in
    omega (arith, mul-le-mul_left bands.size within)
    in
    omega (arith, ints, product)

pub overflow_sub-result : goal.overflow_sub-result
overflow_sub-result c =
    let bands = c.args.bands.now in
    let product : bands.size * c.args.band ≤ 2 ^ 43 =
    let within : c.args.band ≤ bands.count = omega arith in
    omega (arith, mul-le-mul_left bands.size within)
    in
    omega (arith, ints, product)

pub returns-clause-low : goal.returns-clause-low
returns-clause-low c =
    let bands = c.args.bands.now in
    let product : bands.size * c.args.band ≤ 2 ^ 43 =
    let within : c.args.band ≤ bands.count = omega arith in
    omega (arith, mul-le-mul_left bands.size within)
    in
    omega (arith, ints, product)

pub returns-clause-high : goal.returns-clause-high
returns-clause-high c =
    let bands = c.args.bands.now in
    let product : bands.size * c.args.band ≤ 2 ^ 43 =
    let within : c.args.band ≤ bands.count = omega arith in
    omega (arith, mul-le-mul_left bands.size within)
    in
    omega (arith, ints, product)
