-- The rooms have a place for each node of the shape.
use Rattle.std.proofs.Common.{rules, ◌≡◌, ℕ, ◌-◌, ◌*◌, length, subst, arith}
use Rattle.cts_topo.specs.Shape.{IsShapeOver}
use Rattle.cts_topo.proofs.Counts.{length-shape}
use Rattle.cts_tree_workers.specs.Rooms.{AreFor}
use Rattle.cts_tree_workers.proofs.synthesis.shape_by.Goals as goal

pub returns-clause-rooms : goal.returns-clause-rooms
returns-clause-rooms g c =
    let count : ℕ = 2 * length c.args.sinks.now - 1 in
    let rooms : AreFor count c.in_ok-rooms-2.field-0 = search rules in
    let over : IsShapeOver (length c.args.sinks.now) c.in_ok-shape.field-0 = search rules in
    let long : count ≡ length c.in_ok-shape.field-0 =
    omega (arith, length-shape (length c.args.sinks.now) c.in_ok-shape.field-0 over, c.requires.some) in
    subst (λ n. AreFor n c.in_ok-rooms-2.field-0) long rooms
