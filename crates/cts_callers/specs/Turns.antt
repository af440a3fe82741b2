-- What a session's calls leave, where a caller goes through its script.
use Rattle.std.specs.Prelude.{◌≡◌, ℕ, ◌+◌, ◌^◌, ◌<◌, ◌≤◌, List, [], ◌∷◌, ◌++◌, length, Some, Result, Ok, IfOk, Vec}
use Rattle.std.specs.Global.{Global}
use Rattle.cts_num.specs.declared.error.NoMemory.{NoMemory}
use Rattle.cts_session.specs.declared.desk.Desk.{Desk}
use Rattle.cts_session.specs.declared.desk.Hands.{Hands}
use Rattle.cts_callers.specs.declared.callers.Served.{Served}
use mathlib.Core.List.{IsPrefix}
use Rattle.cts_session.specs.Desks.{AreHandsOf, base_of, known_by}
use Rattle.cts_session.specs.Sessions.{AtDesk, edits_of}
use Rattle.cts_script.specs.declared.script.ScriptStep.{ScriptStep}
use Rattle.cts_history.specs.declared.reply.Reply.{Reply}
use Rattle.cts_history.specs.Legal.{AreAnswered, accepted, all_accepted, lists_of}
use Rattle.cts_history.specs.Replies.{IsReply, accepted_version, version_of}

-- Desk, number and shares are the same, and no less of the history is seen, to which so many edits were added.
pub record Keeps (old new : AtDesk) (made : ℕ) : Type 0 where
  pub desk : new.desk ≡ old.desk
  pub caller : new.caller ≡ old.caller
  pub edits : IsPrefix (edits_of old) (edits_of new)
  pub memo_share : (known_by new.hands).memo_share ≡ (known_by old.hands).memo_share
  pub design_share : (known_by new.hands).design_share ≡ (known_by old.hands).design_share
  pub count : (known_by new.hands).edits_made ≡ (known_by old.hands).edits_made + made

-- A step is answered at what the session has then seen, and tells that version, which is later than any before where the
-- step's edit made it.
pub record IsNext (old new : AtDesk) (step : ScriptStep) (reply : Reply) : Type 0 where
  pub keeps : Keeps old new (length (accepted (reply ∷ [])))
  pub right : IsReply (base_of old.desk) (edits_of new) old.caller step reply
  pub version : version_of reply ≡ length (edits_of new)
  pub later : (version : ℕ) → accepted_version reply ≡ Some version → length (edits_of old) < version

-- the list of one
abbrev pub IsOnly : Result (Vec Reply Global) NoMemory → Vec (Vec Reply Global) Global → Type 0
IsOnly replies all = (one : Vec Reply Global) × (replies ≡ Ok one) × (all.items ≡ one ∷ [])

-- the lists of some callers, and then those of others
abbrev pub AreTogether : Result (Vec (Vec Reply Global) Global) NoMemory → Result (Vec (Vec Reply Global) Global) NoMemory
    → Vec (Vec Reply Global) Global → Type 0
AreTogether first second all =
    (a : Vec (Vec Reply Global) Global) × (b : Vec (Vec Reply Global) Global) × (first ≡ Ok a) × (second ≡ Ok b)
    × (all.items ≡ a.items ++ b.items)

-- Callers with these scripts, numbered from `first` on, can begin: there is a part of both shares for each.
pub record AreReady (desk : Desk) (hands : Hands) (first : ℕ) (scripts : List (List ScriptStep)) : Type 0 where
  pub own : AreHandsOf desk hands
  pub some : 1 ≤ length scripts
  pub memo_share : length scripts ≤ (known_by hands).memo_share
  pub design_share : length scripts ≤ (known_by hands).design_share
  pub numbers : first + length scripts < 2 ^ 32

-- Hands have the same shares and have seen no less of the history, to which so many edits were added.
pub record HandsKeep (old new : Hands) (n : ℕ) : Type 0 where
  pub edits : IsPrefix (known_by old).edits (known_by new).edits
  pub memo_share : (known_by new).memo_share ≡ (known_by old).memo_share
  pub design_share : (known_by new).design_share ≡ (known_by old).design_share
  pub count : (known_by new).edits_made ≡ (known_by old).edits_made + n

-- Callers have gone through their scripts: all steps are answered at the history that their hands have then seen, unless
-- memory ran out.
pub record AreServed (desk : Desk) (hands : Hands) (first : ℕ) (scripts : List (List ScriptStep)) (served : Served) : Type 0 where
  pub own : AreHandsOf desk served.hands
  pub keeps : IfOk served.replies (λ r. HandsKeep hands served.hands (length (all_accepted (lists_of r.items))))
  pub answered : IfOk served.replies (λ r. AreAnswered (base_of desk) (known_by served.hands).edits first scripts (lists_of r.items))
