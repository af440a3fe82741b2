use Rattle.cts_top.specs.Verdict.{rule_words}
use Rattle.cts_top.proofs.verdict.put_rule.Goals as goal

pub returns-in-Sinks : goal.returns-in-Sinks
unfolding rule_words
returns-in-Sinks g c = rw c.in-Sinks.is c.put.ensures

pub returns-in-Route : goal.returns-in-Route
unfolding rule_words
returns-in-Route g c = rw c.in-Route.is c.put-in-Route.ensures

pub returns-in-Short : goal.returns-in-Short
unfolding rule_words
returns-in-Short g c = rw c.in-Short.is c.put-in-Short.ensures

pub returns-in-BufferBlocked : goal.returns-in-BufferBlocked
unfolding rule_words
returns-in-BufferBlocked g c = rw c.in-BufferBlocked.is c.put-in-BufferBlocked.ensures

pub returns-in-Limit : goal.returns-in-Limit
unfolding rule_words
returns-in-Limit g c = rw c.in-Limit.is c.put-in-Limit.ensures

pub returns-in-Figure : goal.returns-in-Figure
unfolding rule_words
returns-in-Figure g c = rw c.in-Figure.is c.put-in-Figure.ensures
