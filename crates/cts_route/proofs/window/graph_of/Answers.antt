use Rattle.std.proofs.Common.{◌≡◌, ℕ, ◌*◌, List, length, refl, sym, ap, subst, arith}
use Rattle.cts_route.specs.declared.wall.Wall.{Wall}
use Rattle.cts_route.specs.Windows.{IsGraphOf, IsGraphUpTo, AreWallsBeside}
use Rattle.cts_route.proofs.Steps.{no_steps, graph_steps, graph_is}
use Rattle.cts_route.proofs.Cells.{few_cells}
use Rattle.cts_route.proofs.Ahead.{leads_ahead}
use Rattle.cts_route.proofs.Beside.{beside_from_between}
use Rattle.cts_route.proofs.window.graph_of.Goals as goal

steps : (c : goal.After-drop-near-2) → IsGraphOf c.args.walls.now c.args.xs.now c.args.ys.now c.loop-column.graph
steps c =
    let all : c.loop-column.column ≡ length c.args.xs.now = (let up = c.loop-column.auto.column-end in let done = c.loop-column-test.false in omega (arith, up, done)) in
    graph_steps c.args.walls.now c.args.xs.now c.args.ys.now c.loop-column.graph (c.loop-column.column * length c.args.ys.now)
    (ap (λ k. k * length c.args.ys.now) all) c.loop-column.invariant.height c.loop-column.invariant.easts c.loop-column.invariant.norths

pub returns-clause-graph : goal.returns-clause-graph
returns-clause-graph c = graph_is c.args.walls.now c.args.xs.now c.args.ys.now c.loop-column.graph c.requires.xs c.requires.ys (steps c)

pub returns-clause-ahead : goal.returns-clause-ahead
returns-clause-ahead c = leads_ahead c.args.walls.now c.args.xs.now c.args.ys.now c.loop-column.graph c.requires.xs c.requires.ys (steps c)

pub loop-column-preserved : goal.loop-column-preserved
loop-column-preserved c =
    let near : AreWallsBeside c.args.walls.now c.args.xs.now c.loop-column.column c.as_slice.result.now =
    subst (λ (ws : List Wall). AreWallsBeside c.args.walls.now c.args.xs.now c.loop-column.column ws) (sym c.as_slice.ensures.value)
    (beside_from_between c.args.walls.now c.gather_between.new.near.items c.args.xs.now c.loop-column.column c.span_of.result.0 c.span_of.result.1
    c.requires.xs.ascending c.span_of.ensures c.in_ok-gather_between.ensures) in
    subst (λ (n : ℕ). IsGraphUpTo c.args.walls.now c.args.xs.now c.args.ys.now n c.push_column.new.graph) (omega arith)
    (c.in_ok-push_column.ensures c.args.walls.now near c.loop-column.invariant)

pub overflow_mul-cells : goal.overflow_mul-cells
overflow_mul-cells c = let few = few_cells (length c.args.xs.now) (length c.args.ys.now) c.requires.xs.count c.requires.ys.count in omega (arith, few)

pub loop-column-init : goal.loop-column-init
loop-column-init c =
    no_steps c.args.walls.now c.args.xs.now c.args.ys.now
    (record { east = c.in_ok-with_capacity.field-0; north = c.in_ok-with_capacity-2.field-0; height = length c.args.ys.now })
    refl c.in_ok-with_capacity.ensures.items c.in_ok-with_capacity-2.ensures.items
