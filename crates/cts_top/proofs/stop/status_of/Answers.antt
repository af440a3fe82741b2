use Rattle.std.proofs.Common.{refl}
use Rattle.cts_top.proofs.stop.status_of.Goals as goal

pub returns-in-Ok-Text : goal.returns-in-Ok-Text
returns-in-Ok-Text c = let told = rw c.in-Ok-Text.is at c.in-Ok-Text.field-0-is in rw (c.in-Ok-Text.is, told) refl

pub returns-in-Ok-No : goal.returns-in-Ok-No
returns-in-Ok-No c = let told = rw c.in-Ok-No.is at c.in-Ok-No.field-0-is in rw (c.in-Ok-No.is, told) refl

pub returns-in-Ok-NoTree : goal.returns-in-Ok-NoTree
returns-in-Ok-NoTree c = let told = rw c.in-Ok-NoTree.is at c.in-Ok-NoTree.field-0-is in rw (c.in-Ok-NoTree.is, told) refl

pub returns-in-Ok-NoTrunk : goal.returns-in-Ok-NoTrunk
returns-in-Ok-NoTrunk c = let told = rw c.in-Ok-NoTrunk.is at c.in-Ok-NoTrunk.field-0-is in rw (c.in-Ok-NoTrunk.is, told) refl
