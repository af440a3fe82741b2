use Rattle.cts_history.specs.History.{cause_words}
use Rattle.cts_history.proofs.reply_words.put_cause.Goals as goal

pub returns-in-Known : goal.returns-in-Known
unfolding cause_words
returns-in-Known g c = rw c.in-Known.is c.put_word.ensures

pub returns-in-Unknown : goal.returns-in-Unknown
unfolding cause_words
returns-in-Unknown g c = rw c.in-Unknown.is c.put_word-in-Unknown.ensures

pub returns-in-Outside : goal.returns-in-Outside
unfolding cause_words
returns-in-Outside g c = rw c.in-Outside.is c.put_word-in-Outside.ensures

pub returns-in-InBlock : goal.returns-in-InBlock
unfolding cause_words
returns-in-InBlock g c = rw c.in-InBlock.is c.put_word-in-InBlock.ensures

pub returns-in-Full : goal.returns-in-Full
unfolding cause_words
returns-in-Full g c = rw c.in-Full.is c.put_word-in-Full.ensures

pub returns-in-Last : goal.returns-in-Last
unfolding cause_words
returns-in-Last g c = rw c.in-Last.is c.put_word-in-Last.ensures

pub returns-in-Long : goal.returns-in-Long
unfolding cause_words
returns-in-Long g c = rw c.in-Long.is c.put_word-in-Long.ensures
