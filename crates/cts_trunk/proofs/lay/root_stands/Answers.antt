use Rattle.std.proofs.Common.{◌≡◌, ◌-◌, ◌/◌, ◌<◌, List, sym, subst, arith, rules}
use Rattle.cts_geom.specs.declared.points.Half.{Half}
use Rattle.cts_geom.specs.declared.bounds.Die.{Die}
use Rattle.cts_block.specs.declared.blocks.Block.{Block}
use Rattle.cts_trunk.specs.Places.{trunk_way}
use Rattle.cts_trunk.specs.Road.{IsRoad}
use Rattle.cts_trunk.proofs.Roads.{place_in_range, trunk_is_road, last_multiple}
use Rattle.cts_trunk.proofs.lay.root_stands.Goals as goal

pub trunk_way_of-requires : goal.trunk_way_of-requires
trunk_way_of-requires c =
    place_in_range c.args.instance.now c.die-die.ensures.valid c.args.root.now c.requires.legal

pub stands_along-requires-clause-road : goal.stands_along-requires-clause-road
stands_along-requires-clause-road c = λ some.
    let i = c.args.instance.now in
    let count : 0 < (c.args.root.now.wire - 1) / c.args.step = subst (λ n. 0 < n / c.args.step) c.saturating_sub.ensures some in
    let road : IsRoad i.blocks i.die (trunk_way i c.args.root.now) =
    trunk_is_road i c.die-die.ensures.valid c.args.root.now c.requires.legal c.requires.taut (omega (arith, c.requires.short))
    ((last_multiple c.args.root.now.wire c.args.step count).0) in
    let blocks : c.in_ok-map.map.blocks ≡ i.blocks = search rules in
    let die : c.in_ok-map.map.die ≡ i.die = search rules in
    let points : c.as_slice.result.now ≡ trunk_way i c.args.root.now = search rules in
    subst (λ (ps : List Half). IsRoad c.in_ok-map.map.blocks c.in_ok-map.map.die ps) (sym points)
    (subst (λ (d : Die). IsRoad c.in_ok-map.map.blocks d (trunk_way i c.args.root.now)) (sym die)
    (subst (λ (bs : List Block). IsRoad bs i.die (trunk_way i c.args.root.now)) (sym blocks) road))
