use Rattle.std.proofs.Common.{◌≡◌, Option, Result, Ok, Err, refl, sym, ap, ◌∙◌}
use Rattle.std.specs.Result.{IsErrAnd}
use Rattle.cts_tree.specs.declared.route.Route.{Route}
use Rattle.cts_route.specs.declared.end.RouteEnd.{RouteEnd}
use Rattle.cts_route.specs.declared.end.RouteEnd.TheVariants.{Cut}
use Rattle.cts_route.proofs.Frames.{wider_frame, sides_shut}
use Rattle.cts_route.proofs.grid.Grid.search_in.Goals as goal

-- the same end of another call
cut_again : (r : Result (Option Route) RouteEnd) (end' : RouteEnd) (s : Result Route RouteEnd) → IsErrAnd r (λ given. given ≡ end') → r ≡ Err Cut → s ≡ Err end' → s ≡ Err Cut
cut_again (Ok x) end' s gives cut same = cc
cut_again (Err given) end' s gives cut same = let is : end' ≡ Cut = (let first : given ≡ Cut = cc in sym gives ∙ first) in same ∙ ap Err is

pub returns-in_err-route-clause-cut : goal.returns-in_err-route-clause-cut
returns-in_err-route-clause-cut c = λ e.
    c.in_err-route.ensures.cut (cut_again c.from_residual-in_err-route.result c.in_err-route.field-0.0 _ c.from_residual-in_err-route.ensures.1 e refl) c.args.self.now c.args.from c.args.to c.args.frame.now
    (record {
      grid_is = c.requires.grid;
      from_in = c.requires.from;
      to_in = c.requires.to;
      view_is = c.in_ok-view.ensures;
      shut = sides_shut c.args.frame.now c.in_ok-view.view c.open_sides-open.result c.open_sides-open.ensures c.if-are_none.ensures;
    })

pub returns-then-are_none-clause-route : goal.returns-then-are_none-clause-route
returns-then-are_none-clause-route c =
    c.in_ok-route.ensures.route c.args.self.now c.args.from c.args.to c.args.frame.now
    (record {
      grid_is = c.requires.grid;
      from_in = c.requires.from;
      to_in = c.requires.to;
      view_is = c.in_ok-view.ensures;
      shut = sides_shut c.args.frame.now c.in_ok-view.view c.open_sides-open.result c.open_sides-open.ensures c.if-are_none.ensures;
    })

pub returns-clause-frame : goal.returns-clause-frame
returns-clause-frame c = wider_frame c.args.from c.args.to c.args.frame.now c.widened.result c.widened.ensures c.requires.frame
