use Rattle.std.proofs.Common.{◌≡◌, true, false, sym, ap, ◌∙◌}
use Rattle.cts_io.specs.Pending.{Pending}
use Rattle.cts_io.proofs.Given.{finishes_all, finishes_part}
use Rattle.cts_io.proofs.buffer.SinkBuffer.finish.Goals as goal

pub returns-then-self : goal.returns-then-self
returns-then-self g c =
    let seen = sym c.self.view_is in
    let failed : c.send.new.self.failed ≡ true = ap (λ (p : Pending). p.failed) seen ∙ c.if-self.true in
    let written : c.self.inside.written ≡ c.send.new.self.written = ap (λ (p : Pending). p.written) c.self.view_is in
    finishes_part _ _ _ _ c.send.ensures.given failed written

pub returns-else-self : goal.returns-else-self
returns-else-self g c =
    let seen = sym c.self.view_is in
    let failed : c.send.new.self.failed ≡ false = ap (λ (p : Pending). p.failed) seen ∙ c.if-self.false in
    finishes_all _ _ _ c.send.ensures.given c.send.ensures.none failed
