use Rattle.std.proofs.Common.{refl}
use Rattle.cts_memo.proofs.table.TableObject.act.Goals as goal

pub returns-in-Ask-clause-reply : goal.returns-in-Ask-clause-reply
returns-in-Ask-clause-reply c = rw c.in-Ask.is c.find.ensures

pub returns-in-Ask-clause-told : goal.returns-in-Ask-clause-told
returns-in-Ask-clause-told c = rw c.in-Ask.is refl

pub publish-requires : goal.publish-requires
publish-requires c = rw c.in-Put.is at c.requires

pub returns-in-Put-clause-reply : goal.returns-in-Put-clause-reply
returns-in-Put-clause-reply c = rw c.in-Put.is c.publish.ensures.end

pub returns-in-Put-clause-told : goal.returns-in-Put-clause-told
returns-in-Put-clause-told c = rw c.in-Put.is c.publish.ensures.told
