use Rattle.cts_route.proofs.grid.Grid.search.Goals as goal

pub windows-init : goal.windows-init
windows-init c = c.around-frame.ensures

pub search_in-requires-clause-frame : goal.search_in-requires-clause-frame
search_in-requires-clause-frame c = c.windows.invariant

pub windows-preserved : goal.windows-preserved
windows-preserved c = c.search_in.ensures.frame
