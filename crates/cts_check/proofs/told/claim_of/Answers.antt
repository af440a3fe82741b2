use Rattle.std.proofs.Common.{ℕ, Option, ap₂}
use Rattle.cts_check.specs.declared.told.Claim.{Claim}
use Rattle.cts_check.proofs.told.claim_of.Goals as goal

pub returns : goal.returns
returns c =
    let node = c.args.node.now in
    ap₂ (λ (r a : Option ℕ). let claim : Claim = record { load = node.load; residue = r; delay = node.delay; arrival = a; slew = node.slew } in claim)
    c.residue_of.ensures c.arrival_of.ensures
