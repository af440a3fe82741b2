use Rattle.std.proofs.Common.{◌≡◌, [], take, ap, ◌∙◌, refl}
use Rattle.cts_io.specs.Pending.{Pending}
use Rattle.cts_io.proofs.Given.{puts_passed}
use Rattle.cts_io.proofs.buffer.SinkBuffer.pass.Goals as goal

pub returns : goal.returns
returns g c =
    let none : take c.self.inside.len c.self.inside.bytes ≡ [] = ap (λ (p : Pending). p.waiting) c.self.view_is ∙ c.requires in
    puts_passed _ _ _ c.args.self.now _ c.args.piece.now c.hand_over.new.written c.hand_over.new.failed c.requires (rw (← c.self.view_is) c.hand_over.ensures) (rw none refl)
