use Rattle.std.proofs.Common.{ℤ, List, ◌∷◌, w64, FitsSigned, refl, sym, ◌∙◌, subst, rules}
use Rattle.std.proofs.lemmas.Int.{to_z-of_z}
use Rattle.cts_geom.specs.Points.{point_of}
use Rattle.cts_route.specs.declared.wall.Wall.{Wall}
use Rattle.cts_route.specs.LineLists.{AreLinesBetween}
use Rattle.cts_route.specs.Walks.{LeadsAhead}
use Rattle.cts_route.specs.Windows.{AreShortLines, IsGraphOf}
use Rattle.cts_route.proofs.GridLines.{same_between, short_lines, few_more, read_between}
use Rattle.cts_route.proofs.grid.Grid.window.Goals as goal

pub lines_between-requires : goal.lines_between-requires
lines_between-requires c =
    let sx : FitsSigned w64 c.halves-start.result.x = search rules in
    let gx : FitsSigned w64 c.halves-goal.result.x = search rules in
    let lx : FitsSigned w64 c.args.frame.now.low.x = search rules in
    let hx : FitsSigned w64 c.args.frame.now.high.x = search rules in
    record {
      first = read_between _ _ _ (point_of c.args.from).x lx sx hx c.halves-start.ensures.x c.requires.frame.from_in.west c.requires.frame.from_in.east;
      second = read_between _ _ _ (point_of c.args.to).x lx gx hx c.halves-goal.ensures.x c.requires.frame.to_in.west c.requires.frame.to_in.east;
    }

pub lines_between-requires-2 : goal.lines_between-requires-2
lines_between-requires-2 c =
    let sy : FitsSigned w64 c.halves-start.result.y = search rules in
    let gy : FitsSigned w64 c.halves-goal.result.y = search rules in
    let ly : FitsSigned w64 c.args.frame.now.low.y = search rules in
    let hy : FitsSigned w64 c.args.frame.now.high.y = search rules in
    record {
      first = read_between _ _ _ (point_of c.args.from).y ly sy hy c.halves-start.ensures.y c.requires.frame.from_in.south c.requires.frame.from_in.north;
      second = read_between _ _ _ (point_of c.args.to).y ly gy hy c.halves-goal.ensures.y c.requires.frame.to_in.south c.requires.frame.to_in.north;
    }

pub graph_of-requires-clause-xs : goal.graph_of-requires-clause-xs
graph_of-requires-clause-xs c =
    let sx : FitsSigned w64 c.halves-start.result.x = search rules in
    let gx : FitsSigned w64 c.halves-goal.result.x = search rules in
    let lx : FitsSigned w64 c.args.frame.now.low.x = search rules in
    let hx : FitsSigned w64 c.args.frame.now.high.x = search rules in
    let xs : AreLinesBetween ((point_of c.args.from).x ∷ (point_of c.args.to).x ∷ c.args.self.now.xs.items) c.args.frame.now.low.x c.args.frame.now.high.x c.in_ok-xs.xs.items =
    same_between _ _ _ _ _ _ _ _ _ _ _ _ c.in_ok-xs.ensures
    (to_z-of_z w64 c.halves-start.result.x sx ∙ c.halves-start.ensures.x) (to_z-of_z w64 c.halves-goal.result.x gx ∙ c.halves-goal.ensures.x)
    c.as_slice.ensures.value (to_z-of_z w64 c.args.frame.now.low.x lx) (to_z-of_z w64 c.args.frame.now.high.x hx) refl in
    subst AreShortLines (sym c.as_slice-4.ensures.value)
    (short_lines ((point_of c.args.from).x ∷ (point_of c.args.to).x ∷ c.args.self.now.xs.items) c.in_ok-xs.xs.items c.args.frame.now.low.x c.args.frame.now.high.x
    c.requires.frame.near.west c.requires.frame.near.east xs (few_more (point_of c.args.from).x (point_of c.args.to).x c.args.self.now.xs.items c.requires.grid.few_x))

pub graph_of-requires-clause-ys : goal.graph_of-requires-clause-ys
graph_of-requires-clause-ys c =
    let sy : FitsSigned w64 c.halves-start.result.y = search rules in
    let gy : FitsSigned w64 c.halves-goal.result.y = search rules in
    let ly : FitsSigned w64 c.args.frame.now.low.y = search rules in
    let hy : FitsSigned w64 c.args.frame.now.high.y = search rules in
    let ys : AreLinesBetween ((point_of c.args.from).y ∷ (point_of c.args.to).y ∷ c.args.self.now.ys.items) c.args.frame.now.low.y c.args.frame.now.high.y c.in_ok-ys.ys.items =
    same_between _ _ _ _ _ _ _ _ _ _ _ _ c.in_ok-ys.ensures
    (to_z-of_z w64 c.halves-start.result.y sy ∙ c.halves-start.ensures.y) (to_z-of_z w64 c.halves-goal.result.y gy ∙ c.halves-goal.ensures.y)
    c.as_slice-2.ensures.value (to_z-of_z w64 c.args.frame.now.low.y ly) (to_z-of_z w64 c.args.frame.now.high.y hy) refl in
    subst AreShortLines (sym c.as_slice-5.ensures.value)
    (short_lines ((point_of c.args.from).y ∷ (point_of c.args.to).y ∷ c.args.self.now.ys.items) c.in_ok-ys.ys.items c.args.frame.now.low.y c.args.frame.now.high.y
    c.requires.frame.near.south c.requires.frame.near.north ys (few_more (point_of c.args.from).y (point_of c.args.to).y c.args.self.now.ys.items c.requires.grid.few_y))

pub returns : goal.returns
returns c =
    let sx : FitsSigned w64 c.halves-start.result.x = search rules in
    let gx : FitsSigned w64 c.halves-goal.result.x = search rules in
    let lx : FitsSigned w64 c.args.frame.now.low.x = search rules in
    let hx : FitsSigned w64 c.args.frame.now.high.x = search rules in
    let xs : AreLinesBetween ((point_of c.args.from).x ∷ (point_of c.args.to).x ∷ c.args.self.now.xs.items) c.args.frame.now.low.x c.args.frame.now.high.x c.in_ok-xs.xs.items =
    same_between _ _ _ _ _ _ _ _ _ _ _ _ c.in_ok-xs.ensures
    (to_z-of_z w64 c.halves-start.result.x sx ∙ c.halves-start.ensures.x) (to_z-of_z w64 c.halves-goal.result.x gx ∙ c.halves-goal.ensures.x)
    c.as_slice.ensures.value (to_z-of_z w64 c.args.frame.now.low.x lx) (to_z-of_z w64 c.args.frame.now.high.x hx) refl in
    let sy : FitsSigned w64 c.halves-start.result.y = search rules in
    let gy : FitsSigned w64 c.halves-goal.result.y = search rules in
    let ly : FitsSigned w64 c.args.frame.now.low.y = search rules in
    let hy : FitsSigned w64 c.args.frame.now.high.y = search rules in
    let ys : AreLinesBetween ((point_of c.args.from).y ∷ (point_of c.args.to).y ∷ c.args.self.now.ys.items) c.args.frame.now.low.y c.args.frame.now.high.y c.in_ok-ys.ys.items =
    same_between _ _ _ _ _ _ _ _ _ _ _ _ c.in_ok-ys.ensures
    (to_z-of_z w64 c.halves-start.result.y sy ∙ c.halves-start.ensures.y) (to_z-of_z w64 c.halves-goal.result.y gy ∙ c.halves-goal.ensures.y)
    c.as_slice-2.ensures.value (to_z-of_z w64 c.args.frame.now.low.y ly) (to_z-of_z w64 c.args.frame.now.high.y hy) refl in
    let steps : IsGraphOf c.args.self.now.walls.items c.in_ok-xs.xs.items c.in_ok-ys.ys.items c.in_ok-graph.graph =
    subst (λ (ws : List Wall). IsGraphOf ws c.in_ok-xs.xs.items c.in_ok-ys.ys.items c.in_ok-graph.graph) c.as_slice-3.ensures.value
    (subst (λ (ls : List ℤ). IsGraphOf c.as_slice-3.result.now ls c.in_ok-ys.ys.items c.in_ok-graph.graph) c.as_slice-4.ensures.value
    (subst (λ (ls : List ℤ). IsGraphOf c.as_slice-3.result.now c.as_slice-4.result.now ls c.in_ok-graph.graph) c.as_slice-5.ensures.value c.in_ok-graph.ensures.steps)) in
    record {
      is = record {
        short_x = short_lines ((point_of c.args.from).x ∷ (point_of c.args.to).x ∷ c.args.self.now.xs.items) c.in_ok-xs.xs.items c.args.frame.now.low.x c.args.frame.now.high.x
            c.requires.frame.near.west c.requires.frame.near.east xs (few_more (point_of c.args.from).x (point_of c.args.to).x c.args.self.now.xs.items c.requires.grid.few_x);
        short_y = short_lines ((point_of c.args.from).y ∷ (point_of c.args.to).y ∷ c.args.self.now.ys.items) c.in_ok-ys.ys.items c.args.frame.now.low.y c.args.frame.now.high.y
            c.requires.frame.near.south c.requires.frame.near.north ys (few_more (point_of c.args.from).y (point_of c.args.to).y c.args.self.now.ys.items c.requires.grid.few_y);
        graph = c.in_ok-graph.ensures.graph;
        cells = steps.easts;
        ahead = subst (λ (ls : List ℤ). LeadsAhead ls c.in_ok-ys.ys.items c.in_ok-graph.graph) c.as_slice-4.ensures.value
            (subst (λ (ls : List ℤ). LeadsAhead c.as_slice-4.result.now ls c.in_ok-graph.graph) c.as_slice-5.ensures.value c.in_ok-graph.ensures.ahead);
      };
      xs = xs;
      ys = ys;
      steps = steps;
    }
