use Rattle.cts_num.proofs.RunNumbers.{eights_are, lane_below}
use Rattle.cts_num.proofs.runs.eights.Goals as goal

pub eight-requires-clause-first : goal.eight-requires-clause-first
eight-requires-clause-first c = lane_below c.args.fours 0 c.requires.fours

pub eight-requires-clause-last : goal.eight-requires-clause-last
eight-requires-clause-last c = lane_below c.args.fours 1 c.requires.fours

pub eight-requires-2-clause-first : goal.eight-requires-2-clause-first
eight-requires-2-clause-first c = lane_below c.args.fours 2 c.requires.fours

pub eight-requires-2-clause-last : goal.eight-requires-2-clause-last
eight-requires-2-clause-last c = lane_below c.args.fours 3 c.requires.fours

pub returns-clause-numbers : goal.returns-clause-numbers
returns-clause-numbers c = rw (c.eight.ensures.number, c.eight-2.ensures.number) (eights_are c.args.fours c.requires.long)
