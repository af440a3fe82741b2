use Rattle.std.proofs.Common.{◌≡◌, Bool, sym, subst}
use Rattle.std.specs.Option.{is_some}
use Rattle.cts_geom.specs.declared.points.Spot.{Spot}
use Rattle.cts_geom.specs.Regions.{IsNearest}
use Rattle.cts_block.specs.FreeMap.{Floorplan}
use Rattle.cts_block.specs.NearestFree.{IsNearestFree}
use Rattle.cts_instance.specs.declared.parts.Parts.{Parts}
use Rattle.cts_merge.specs.declared.side.Finished.{Finished}
use Rattle.cts_up.specs.declared.site.Site.{Site}
use Rattle.cts_up.specs.Sites.{site_of}
use Rattle.cts_embed.specs.Places.{IsPairPlace}
use Rattle.cts_embed.specs.Prepared.{IsFreeMapOf}
use Rattle.cts_embed.proofs.Stands.{free_in_range}
use Rattle.cts_embed.proofs.placing.pair_place.Goals as goal

-- the free point of a map that is nearest to the first place of a site is the place of the pair that has the site
place_is : (parts : Parts) (finished : Finished) (free : Floorplan) (site : Site) (from first place : Spot) (buffered : Bool)
    → IsFreeMapOf parts free → site_of finished ≡ site → IsNearest site.region from first → buffered ≡ is_some site.buffer
    → IsNearestFree free.blocks free.die buffered first place → IsPairPlace parts finished from place
place_is parts finished free site from first place buffered map is nearest asked moved =
    let as_asked : IsNearestFree free.blocks free.die (is_some site.buffer) first place =
    subst (λ b. IsNearestFree free.blocks free.die b first place) asked moved in
    let on_map : IsNearestFree parts.blocks parts.die (is_some site.buffer) first place =
    subst (λ die. IsNearestFree parts.blocks die (is_some site.buffer) first place) map.die
    (subst (λ blocks. IsNearestFree blocks free.die (is_some site.buffer) first place) map.blocks as_asked) in
    record {
      first = first;
      nearest = subst (λ (s : Site). IsNearest s.region from first) (sym is) nearest;
      moved = subst (λ (s : Site). IsNearestFree parts.blocks parts.die (is_some s.buffer) first place) (sym is) on_map;
    }

pub returns-clause-place : goal.returns-clause-place
returns-clause-place c parts finished map is =
    place_is parts finished c.args.free.now c.args.pair.now c.args.from c.nearest-first.result _ _ map is c.nearest-first.ensures.nearest
    (cc) c.nearest_free.ensures

pub returns-clause-in_range : goal.returns-clause-in_range
returns-clause-in_range c =
    free_in_range (c.requires.free.0) c.args.free.now (c.requires.free.1) _ c.nearest-first.result c.nearest_free.result c.nearest_free.ensures
