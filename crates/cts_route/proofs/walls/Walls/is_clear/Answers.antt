use Rattle.std.proofs.Common.{List, sym, subst}
use Rattle.cts_route.specs.declared.wall.Wall.{Wall}
use Rattle.cts_route.specs.Walls.{MissesWalls}
use Rattle.cts_route.proofs.Searches.{clear_from_misses, misses_from_clear}
use Rattle.cts_route.proofs.walls.Walls.is_clear.Goals as goal

pub returns : goal.returns
returns c = λ blocks keeps.
    let walls : List Wall = c.args.self.now.walls.items in
    let Misses : List Wall → Type 0 = λ ws. MissesWalls ws c.args.p c.args.q in (
      (λ test. clear_from_misses blocks walls c.args.p c.args.q keeps (subst Misses c.as_slice.ensures.value (c.is_clear.ensures.0 test))),
      (λ clear. c.is_clear.ensures.1 (subst Misses (sym c.as_slice.ensures.value) (misses_from_clear blocks walls c.args.p c.args.q keeps clear))),
    )
