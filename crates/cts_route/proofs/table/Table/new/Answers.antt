use Rattle.std.proofs.Common.{◌≡◌, ◌-◌, ◌^◌, length, set, replicate, rules, arith, ap}
use Rattle.cts_route.proofs.Falls.{first_labels}
use Rattle.cts_route.proofs.table.Table.new.Goals as goal

pub returns-clause-labels : goal.returns-clause-labels
returns-clause-labels c =
    let items : c.in_ok-labels.labels.items ≡ replicate (length c.args.graph.now.east.items) (2 ^ 64 - 1) = search (rules, c.in_ok-labels.ensures.items_if_clones_equal, c.len.ensures) in
    first_labels c.args.graph.now c.args.goal _ (omega arith) (ap (λ ls. set ls c.args.goal 0) items)

pub index_mut-requires : goal.index_mut-requires
index_mut-requires c = let len = c.in_ok-labels.ensures.len in omega (arith, len)
