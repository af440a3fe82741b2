use Rattle.std.proofs.Common.{ℕ, ◌+◌, ◌*◌, length, refl, subst, arith}
use Rattle.cts_route.specs.declared.graph.Graph.{Graph}
use Rattle.cts_route.specs.Windows.{IsGraphUpTo}
use Rattle.cts_route.proofs.Beside.{one_more_point}
use Rattle.cts_route.proofs.Cells.{few_cells, cell_inside}
use Rattle.cts_route.proofs.window.push_column.Goals as goal

pub loop-row-preserved : goal.loop-row-preserved
loop-row-preserved c = λ walls are before.
    let after : Graph = record { east = c.push.new.self; north = c.push-in-loop-row.new.self; height = c.loop-row.graph.height } in
    let first : ℕ = c.args.column * length c.args.ys.now in
    let more : IsGraphUpTo walls c.args.xs.now c.args.ys.now ((first + c.loop-row.row) + 1) after =
    one_more_point walls c.args.near.now c.args.xs.now c.args.ys.now c.args.column first c.loop-row.row
    (first + c.loop-row.row) c.east_length.result c.north_length.result c.loop-row.graph after
    c.requires.xs c.requires.ys are refl c.loop-row-test.true refl (c.loop-row.invariant walls are before)
    c.in_ok-push.ensures.items c.in_ok-push-2.ensures.items refl c.east_length.ensures c.north_length.ensures in
    subst (λ (n : ℕ). IsGraphUpTo walls c.args.xs.now c.args.ys.now n after) (omega arith) more

pub overflow_mul-first : goal.overflow_mul-first
overflow_mul-first c = let few = few_cells c.args.column (length c.args.ys.now) (omega arith) c.requires.ys.count in omega (arith, few)

pub overflow_add-cell : goal.overflow_add-cell
overflow_add-cell c = let few = few_cells c.args.column (length c.args.ys.now) (omega arith) c.requires.ys.count in omega (arith, few)

pub east_length-requires-clause-cell : goal.east_length-requires-clause-cell
east_length-requires-clause-cell c = cell_inside c.args.column c.loop-row.row (length c.args.xs.now) (length c.args.ys.now) c.requires.column c.loop-row-test.true

pub north_length-requires-clause-cell : goal.north_length-requires-clause-cell
north_length-requires-clause-cell c = cell_inside c.args.column c.loop-row.row (length c.args.xs.now) (length c.args.ys.now) c.requires.column c.loop-row-test.true

pub returns : goal.returns
returns c = λ walls are before.
    subst (λ (n : ℕ). IsGraphUpTo walls c.args.xs.now c.args.ys.now (c.args.column * length c.args.ys.now + n) c.loop-row.graph)
    (let up = c.loop-row.auto.row-end in let done = c.loop-row-test.false in omega (arith, up, done)) (c.loop-row.invariant walls are before)
