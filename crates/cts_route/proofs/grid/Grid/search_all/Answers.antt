use Rattle.cts_route.proofs.Frames.{whole_frame, whole_shut}
use Rattle.cts_route.proofs.grid.Grid.search_all.Goals as goal

pub view-requires-clause-frame : goal.view-requires-clause-frame
view-requires-clause-frame c = whole_frame c.args.from c.args.to c.whole.result c.whole.ensures c.requires.from c.requires.to

pub returns-clause-route : goal.returns-clause-route
returns-clause-route c =
    c.route.ensures.route c.args.self.now c.args.from c.args.to c.whole.result
    (record {
      grid_is = c.requires.grid;
      from_in = c.requires.from;
      to_in = c.requires.to;
      view_is = c.in_ok-view.ensures;
      shut = whole_shut c.whole.result c.in_ok-view.view c.whole.ensures;
    })

pub returns-clause-cut : goal.returns-clause-cut
returns-clause-cut c = λ e.
    c.route.ensures.cut e c.args.self.now c.args.from c.args.to c.whole.result
    (record {
      grid_is = c.requires.grid;
      from_in = c.requires.from;
      to_in = c.requires.to;
      view_is = c.in_ok-view.ensures;
      shut = whole_shut c.whole.result c.in_ok-view.view c.whole.ensures;
    })
