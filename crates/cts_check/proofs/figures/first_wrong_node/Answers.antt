use Rattle.std.proofs.Common.{◌≡◌, ◌-◌, length, ap, subst, ◌∙◌, arith}
use Rattle.std.specs.List.{AllZip, range_with_len}
use Rattle.std.proofs.lemmas.List.{length-map}
use Rattle.rayon.specs.Numbers.{nat_range}
use Rattle.rayon.proofs.ToStd.{nat_range-All}
use Rattle.cts_check.specs.Claims.{CanBeCompared, IsClaimedAt, claim_seen, claims_seen}
use Rattle.cts_check.proofs.FirstTrue.{Tells, first_claim}
use Rattle.cts_check.proofs.figures.first_wrong_node.Goals as goal

pub position_first-requires-clause-items : goal.position_first-requires-clause-items
position_first-requires-clause-items g c =
    let ends = c.into_par_iter.ensures in
    let long = length-map c.args.nodes.now claim_seen in
    rw (ends.0, ends.1) (λ κs ls. nat_range-All (CanBeCompared (claims_seen c.args.nodes.now) c.args.figures.now) 0 (length c.args.nodes.now) (λ k low high. record {
      claimed = omega (arith, high, long);
      there = omega (arith, high, c.requires.one_each);
      in_range = λ d. c.requires.in_range k d (omega (arith, high, c.requires.one_each));
    }))

pub returns : goal.returns
returns g c =
    let done = c.position_first.ensures in
    let ends = c.into_par_iter.ensures in
    let claims = claims_seen c.args.nodes.now in
    let long = length-map c.args.nodes.now claim_seen in
    let whole : length c.args.nodes.now - 0 ≡ length claims = omega (arith, long) in
    let places = (λ i. nat_range (ends.0 i) (ends.1 i)) ∙ ap (range_with_len 0) whole in
    first_claim claims c.args.figures.now (done.1) (omega (arith, long, c.requires.few))
    (subst (λ l. AllZip (Tells (IsClaimedAt claims c.args.figures.now)) l (done.1)) (done.2 ∙ places) (done.3)) c.position_first.result (done.4)
