use Rattle.std.proofs.Common.{◌≡◌, ℕ, ◌<◌, List, Option, Some, None, arith}
use Rattle.std.specs.Option.{IfSome, IfNone}
use Rattle.cts_route.specs.declared.direction.Direction.{Direction}
use Rattle.cts_route.specs.declared.direction.Direction.TheVariants.{East, West, North, South}
use Rattle.cts_route.specs.declared.graph.Graph.{Graph}
use Rattle.cts_route.specs.declared.table.Fall.{Fall}
use Rattle.cts_route.specs.Grid.{rank}
use Rattle.cts_route.specs.Search.{IsFall, HasNoFall, IsFirstFall}
use Rattle.cts_route.proofs.Falls.{first_from, before_east, before_west, before_north, before_south, all_directions, no_fall_at_goal}
use Rattle.cts_route.proofs.table.Table.first_fall.Goals as goal

last_fall : (graph : Graph) (labels : List ℕ) (c : ℕ) (r : Option Fall) → IfSome r (λ f. IsFall graph labels f.direction c f.to f.len)
    → IfSome r (λ f. f.direction ≡ South) → ((other : Direction) → rank other < rank South → HasNoFall graph labels other c)
    → IfSome r (λ f. IsFirstFall graph labels f.direction c f.to f.len)
last_fall graph labels c None fall same none = tt
last_fall graph labels c (Some f) fall same none = first_from graph labels South f.direction c f.to f.len fall same none

no_last : {A X Y : Type 0} (r : Option A) → IfNone r X → (X → Y) → IfNone r Y
no_last None x f = f x
no_last (Some a) x f = tt

pub returns-in-Some-clause-some : goal.returns-in-Some-clause-some
returns-in-Some-clause-some c =
    first_from c.args.graph.now c.args.self.now.labels.items East c.in-Some.fall.direction c.args.from c.in-Some.fall.to c.in-Some.fall.len
    c.in-Some.ensures.some c.in-Some.ensures.direction (before_east (λ d. HasNoFall c.args.graph.now c.args.self.now.labels.items d c.args.from))

pub returns-in-Some-fall-clause-some : goal.returns-in-Some-fall-clause-some
returns-in-Some-fall-clause-some c =
    first_from c.args.graph.now c.args.self.now.labels.items West c.in-Some-fall.fall.direction c.args.from c.in-Some-fall.fall.to c.in-Some-fall.fall.len
    c.in-Some-fall.ensures.some c.in-Some-fall.ensures.direction
    (before_west (λ d. HasNoFall c.args.graph.now c.args.self.now.labels.items d c.args.from) c.in_default.ensures.none)

pub returns-in-Some-fall-2-clause-some : goal.returns-in-Some-fall-2-clause-some
returns-in-Some-fall-2-clause-some c =
    first_from c.args.graph.now c.args.self.now.labels.items North c.in-Some-fall-2.fall.direction c.args.from c.in-Some-fall-2.fall.to c.in-Some-fall-2.fall.len
    c.in-Some-fall-2.ensures.some c.in-Some-fall-2.ensures.direction
    (before_north (λ d. HasNoFall c.args.graph.now c.args.self.now.labels.items d c.args.from) c.in_default.ensures.none c.in_default-fall.ensures.none)

pub returns-clause-some : goal.returns-clause-some
returns-clause-some c =
    last_fall c.args.graph.now c.args.self.now.labels.items c.args.from c.fall-4.result c.fall-4.ensures.some c.fall-4.ensures.direction
    (before_south (λ d. HasNoFall c.args.graph.now c.args.self.now.labels.items d c.args.from)
    c.in_default.ensures.none c.in_default-fall.ensures.none c.in_default-fall-2.ensures.none)

pub returns-clause-none : goal.returns-clause-none
returns-clause-none c =
    no_last c.fall-4.result c.fall-4.ensures.none
    (λ south. no_fall_at_goal c.args.graph.now c.args.self.now.goal c.args.self.now.labels.items c.args.from c.requires.labels (omega arith)
    c.requires.reached
    (all_directions (λ d. HasNoFall c.args.graph.now c.args.self.now.labels.items d c.args.from)
    c.in_default.ensures.none c.in_default-fall.ensures.none c.in_default-fall-2.ensures.none south))
