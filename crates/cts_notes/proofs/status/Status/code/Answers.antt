use Rattle.std.proofs.Common.{refl}
use Rattle.cts_notes.proofs.status.Status.code.Goals as goal

pub returns-in-Done : goal.returns-in-Done
returns-in-Done c = rw c.in-Done.is refl

pub returns-in-No : goal.returns-in-No
returns-in-No c = rw c.in-No.is refl

pub returns-in-Words : goal.returns-in-Words
returns-in-Words c = rw c.in-Words.is refl

pub returns-in-Refused : goal.returns-in-Refused
returns-in-Refused c = rw c.in-Refused.is refl

pub returns-in-NoTree : goal.returns-in-NoTree
returns-in-NoTree c = rw c.in-NoTree.is refl

pub returns-in-ReadFault : goal.returns-in-ReadFault
returns-in-ReadFault c = rw c.in-ReadFault.is refl

pub returns-in-WriteFault : goal.returns-in-WriteFault
returns-in-WriteFault c = rw c.in-WriteFault.is refl

pub returns-in-NoMemory : goal.returns-in-NoMemory
returns-in-NoMemory c = rw c.in-NoMemory.is refl

pub returns-in-NoTrunk : goal.returns-in-NoTrunk
returns-in-NoTrunk c = rw c.in-NoTrunk.is refl
