-- What sessions owe to threads.
use denote.Ref.{NamedLft}
use Rattle.std.specs.Thread.{IsSend, IsSync}
use Rattle.cts_session.specs.contracts.desk.Desk as desk
use Rattle.cts_session.specs.contracts.desk.Hands as hands
use Rattle.cts_session.specs.contracts.session.Session as session

-- threads may share a desk
abbrev pub DeskIsShared : Type 0
DeskIsShared = IsSync desk.the_row

-- hands may go to another thread
abbrev pub HandsAreSent : Type 0
HandsAreSent = IsSend hands.the_row

-- and so may sessions
abbrev pub SessionsAreSent : Type 0
SessionsAreSent = (κ : NamedLft) → IsSend (session.the_row κ)
