use Rattle.cts_io.proofs.Chains.{◌▸◌}
use Rattle.cts_top.specs.Verdict.{verdict_text}
use Rattle.cts_top.proofs.verdict.put_verdict.Goals as goal

pub returns-in-Yes : goal.returns-in-Yes
unfolding verdict_text
returns-in-Yes g c = rw c.in-Yes.is c.put.ensures

pub returns-in-NotText : goal.returns-in-NotText
unfolding verdict_text
returns-in-NotText g c = rw c.in-NotText.is (c.put_numbered.ensures ▸ c.put-in-NotText.ensures)

pub returns-in-Wrong : goal.returns-in-Wrong
unfolding verdict_text
returns-in-Wrong g c =
    rw c.in-Wrong.is (c.put-in-Wrong.ensures ▸ c.put_rule.ensures ▸ c.put_numbered-in-Wrong.ensures ▸ c.put-in-Wrong-2.ensures)
