-- What the places of a tree need of its plan.
use Rattle.std.specs.Prelude.{◌≡◌, List, map}
use Rattle.cts_units.specs.declared.params.Sink.{Sink}
use Rattle.cts_units.specs.declared.params.Params.{Params}
use Rattle.cts_topo.specs.declared.shape.ShapeNode.{ShapeNode}
use Rattle.cts_merge.specs.declared.side.Finished.{Finished}
use Rattle.cts_up.specs.declared.site.Site.{Site}
use Rattle.cts_up.specs.Plan.{IsPlan}

-- where a finished node may stand, and its buffer
abbrev pub site_of : Finished → Site
site_of f = record { region = f.side.region; buffer = f.buffer }

-- the sites of a shape are those of its plan
abbrev pub AreSites : Params → List Sink → List ShapeNode → List Site → Type 0
AreSites params sinks nodes sites = (plan : List Finished) × IsPlan params sinks nodes plan × (sites ≡ map site_of plan)
