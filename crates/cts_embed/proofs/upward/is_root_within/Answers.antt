use Rattle.std.proofs.Common.{◌≡◌, ◌+◌, ◌*◌, ◌≤◌, ◌↔◌, ℕ, arith}
use Rattle.std.specs.Bool.{IsTrue}
use Rattle.std.proofs.lemmas.Bool.{le-leb, leb-true}
use lib.Dec.{leb}
use Rattle.cts_units.specs.declared.params.Params.{Params}
use Rattle.cts_units.specs.Limits.{max_delay, max_length, max_load}
use Rattle.cts_instance.specs.declared.parts.Parts.{Parts}
use Rattle.cts_embed.specs.declared.node.NodeBalance.{NodeBalance}
use Rattle.cts_embed.specs.Balance.{IsRootWithin, delay_through}
use Rattle.cts_embed.proofs.upward.is_root_within.Goals as goal

-- a wire and a load that are within the limits leave the delay to be tested
by_delay : (parts : Parts) (len : ℕ) (root : NodeBalance) (params : Params) (source through : ℕ) → params ≡ parts.params
    → source ≡ parts.source_r → through ≡ delay_through params.wire root len → len ≤ max_length
    → root.load + params.wire.c * len ≤ max_load
    → IsTrue (leb (2 * source * (root.load + params.wire.c * len) + through) max_delay) ↔ IsRootWithin parts len root
by_delay parts len root params source through params_are source_is through_is short light =
    let load : root.load + params.wire.c * len ≡ root.load + parts.params.wire.c * len = cc in
    let all : 2 * source * (root.load + params.wire.c * len) + through
    ≡ 2 * parts.source_r * (root.load + parts.params.wire.c * len) + delay_through parts.params.wire root len = cc in
    let sum : ℕ = 2 * source * (root.load + params.wire.c * len) + through in (
      λ passed. record { wire = short; load = omega (arith, load, light); delay = omega (arith, all, leb-true sum max_delay passed) },
      λ is. le-leb sum max_delay (omega (arith, all, is.delay)),
    )

pub returns : goal.returns
returns c =
    by_delay c.args.instance.now c.args.length c.args.root.now c.params-params.result.now c.source_r.result c.delay_through.result
    c.params-params.ensures.part c.source_r.ensures.part c.delay_through.ensures.value (omega arith) (omega arith)
