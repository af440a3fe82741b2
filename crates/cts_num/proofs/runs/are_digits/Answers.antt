use Rattle.std.proofs.Common.{ℕ, ◌%◌, ◌^◌, cond, leb, map, sym, ap, ◌∙◌, arith}
use Rattle.std.proofs.lemmas.Bool.{eqb-true}
use Rattle.std.proofs.lemmas.List.{length-map}
use Rattle.std.proofs.lemmas.Simd.{map-map, mask_l-mod, zip2_splat_left}
use lib.Lanes.{mask_l, top}
use Rattle.cts_num.proofs.RunNumbers.{small}
use Rattle.cts_num.proofs.runs.are_digits.Goals as goal

pub returns : goal.returns
returns c none =
    let values = c.args.values in
    let lanes = zip2_splat_left {Y = ℕ} (λ a b. cond (leb a b) 255 0) 10 16 values c.requires in
    let flags = map (λ x. top 7 (cond (leb 10 x) 255 0)) values in
    let mask = ap (λ l. mask_l (map (top 7) l) % 2 ^ 64) lanes ∙ ap (λ l. mask_l l % 2 ^ 64) (map-map (top 7) (λ x. cond (leb 10 x) 255 0) values)
    ∙ mask_l-mod flags 64 (omega (arith, c.requires, length-map values (λ x. top 7 (cond (leb 10 x) 255 0)))) in
    small values (sym mask ∙ eqb-true _ 0 none)
