use Rattle.std.proofs.Common.{◌≤ℤ◌, sym, ◌∙◌, arith}
use Rattle.std.proofs.lemmas.Int.{ints}
use Rattle.cts_block.proofs.edges.exposed.Goals as goal

pub returns-then-top-bottom-clause-whole : goal.returns-then-top-bottom-clause-whole
returns-then-top-bottom-clause-whole g c = λ q free on.
    let above : c.rise-bottom.result.y ≤ℤ q.y = c.rise-bottom.ensures.first q free on.column on.low in
    let below : q.y ≤ℤ c.fall-top.result.y = c.fall-top.ensures.first q free (on.column ∙ sym c.args.segment.vertical) on.high in
    absurd (omega (arith, ints, above, below))

pub returns-clause-whole : goal.returns-clause-whole
returns-clause-whole g c = λ q free on.
    let low : c.rise-bottom.result.y ≤ℤ q.y = c.rise-bottom.ensures.first q free on.column on.low in
    let high : q.y ≤ℤ c.fall-top.result.y = c.fall-top.ensures.first q free (on.column ∙ sym c.args.segment.vertical) on.high in
    search (ints, low, high)
