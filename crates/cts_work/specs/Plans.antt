-- Plans in parts.
use Rattle.std.specs.Prelude.{List, ◌++◌, flat_map}
use Rattle.cts_merge.specs.declared.side.Finished.{Finished}
use Rattle.cts_work.specs.declared.making.Made.{Made}
use Rattle.cts_work.specs.declared.plan.Plan.{Plan}
use Rattle.cts_work.specs.declared.plan.PlanPart.{PlanPart}

-- the nodes of some parts, one after another
abbrev pub joined : List PlanPart → List Finished
joined parts = flat_map (λ part. part.nodes.items) parts

-- the nodes of a plan, by number
abbrev pub nodes_of : Plan → List Finished
nodes_of plan = joined plan.parts.items

-- the nodes that are made, one after another
abbrev pub made_of : Made → List Finished
made_of made = joined made.parts.now ++ made.part.now
