use Rattle.std.proofs.Common.{◌*◌, ◌/◌, ◌%◌, ◌^◌, length, map, subst, sym, ap, ◌∙◌}
use Rattle.std.specs.Int.Digits.{AllBelowBase}
use lib.Lanes.{digits_l}
use Rattle.cts_num.proofs.RunNumbers.{coupled_hundreds, length-coupled, fours_are, pair_bytes}
use Rattle.cts_num.proofs.runs.fours.Goals as goal

pub returns-clause-lanes : goal.returns-clause-lanes
returns-clause-lanes c =
    ap (λ x. map (λ lane. lane * 6553601 % 2 ^ 32 / 65536) (digits_l (2 ^ 32) 4 x)) (pair_bytes c.args.pairs c.requires.long c.requires.pairs)
    ∙ fours_are 4 c.args.pairs c.requires.long c.requires.pairs

pub returns-clause-long : goal.returns-clause-long
returns-clause-long c = ap length (returns-clause-lanes c) ∙ length-coupled 4 100 c.args.pairs c.requires.long

pub returns-clause-bound : goal.returns-clause-bound
returns-clause-bound c = subst (AllBelowBase 10000) (sym (returns-clause-lanes c)) (coupled_hundreds c.args.pairs c.requires.pairs)
