use Rattle.cts_route.proofs.Frames.{around_ends}
use Rattle.cts_route.proofs.frame.Frame.around.Goals as goal

pub returns : goal.returns
returns c =
    around_ends c.args.from c.args.to c.halves.result c.halves-2.result c.span.result.0 c.span.result.1 c.requires.from c.requires.to
    c.halves.ensures.point c.halves-2.ensures.point c.span.ensures
