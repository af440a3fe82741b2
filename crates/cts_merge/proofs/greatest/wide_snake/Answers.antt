-- The length that the root gives is within the delay, and the greatest that is.
use Rattle.std.proofs.Common.{refl}
use Rattle.cts_merge.proofs.Longest.{longest_fits, longest_greatest}
use Rattle.cts_merge.proofs.greatest.wide_snake.Goals as goal

pub returns-clause-fits : goal.returns-clause-fits
returns-clause-fits c =
    longest_fits c.args.r c.args.c c.args.load c.args.delta c.square.result c.isqrt-root.result _
    c.requires.c_low c.square.ensures.value c.isqrt-root.ensures refl

pub returns-clause-greatest : goal.returns-clause-greatest
returns-clause-greatest c = λ x fits.
    longest_greatest c.args.r c.args.c c.args.load c.args.delta c.square.result c.isqrt-root.result _ x
    c.requires.r_low c.requires.c_low c.square.ensures.value c.isqrt-root.ensures refl fits
