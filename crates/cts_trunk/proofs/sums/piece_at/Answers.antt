use Rattle.std.proofs.Common.{◌≡◌, ℕ, ◌<◌, ◌∷◌, length, get_or, slice_index_or, sym, ap, ◌∙◌, arith, pos}
use Rattle.std.proofs.lemmas.List.{length-map}
use Rattle.cts_trunk.specs.declared.places.Stand.{Stand}
use Rattle.cts_trunk.specs.Extended.{span}
use Rattle.cts_trunk.specs.TrunkSums.{cuts_of, wires_of}
use Rattle.cts_trunk.proofs.Spans.{at_repeater, at_root}
use Rattle.cts_trunk.proofs.Reaches.{cut_at}
use Rattle.cts_trunk.proofs.sums.piece_at.Goals as goal

-- what a list of places gives past its end
abbrev nowhere : Stand
nowhere = record { place = record { u = pos 0; v = pos 0 }; length = 0 }

pub returns-then-number-stands-clause-value : goal.returns-then-number-stands-clause-value
returns-then-number-stands-clause-value c =
    let drive = c.args.drive.now in
    let cuts = cuts_of c.args.stands.now in
    let k = c.args.number in
    let below : k < length cuts = omega (arith, c.if-number-stands.true, length-map c.args.stands.now (λ (s : Stand). s.length)) in
    let here = cut_at c.args.stands.now k nowhere c.if-number-stands.true in
    at_repeater drive.repeater.cin drive.root_seen 0 cuts drive.root_at k (span 0 0) below
    ∙ ap (λ (n : ℕ). span n drive.repeater.cin) (omega (arith, c.saturating_sub.ensures, c.upper_end-above.ensures, here))

pub returns-else-number-stands-clause-value : goal.returns-else-number-stands-clause-value
returns-else-number-stands-clause-value c =
    let drive = c.args.drive.now in
    let cuts = cuts_of c.args.stands.now in
    let last : length cuts ≡ c.args.number = omega (arith, c.if-number-stands.false, c.requires, length-map c.args.stands.now (λ (s : Stand). s.length)) in
    let above = ap (λ k. get_or (0 ∷ cuts) k 0) last in
    ap (λ k. slice_index_or (wires_of drive c.args.stands.now) k (span 0 0)) (sym last)
    ∙ at_root drive.repeater.cin drive.root_seen 0 cuts drive.root_at (span 0 0)
    ∙ ap (λ (n : ℕ). span n drive.root_seen) (omega (arith, c.saturating_sub-else-number-stands.ensures, c.upper_end-above.ensures, above))
