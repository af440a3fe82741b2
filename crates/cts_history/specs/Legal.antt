-- Legal histories: one list of accepted edits, and for each caller a reply to each of its steps.
use Rattle.std.specs.Prelude.{◌≡◌, ◌≢◌, ℕ, ◌+◌, ◌<◌, ◌≤◌, List, [], ◌∷◌, ◌++◌, map, length, filter_map, Some, AllPairs, Vec}
use Rattle.std.specs.Global.{Global}
use Rattle.std.specs.List.{AllZip}
use Rattle.cts_instance.specs.declared.parts.Parts.{Parts}
use Rattle.cts_edit.specs.declared.edit.Entry.{Entry}
use Rattle.cts_script.specs.declared.script.ScriptStep.{ScriptStep}
use Rattle.cts_history.specs.declared.reply.Reply.{Reply}
use Rattle.cts_history.specs.Replies.{IsReply, accepted_version, version_of}

-- a later reply of one caller tells no earlier version, and one that accepts tells a later one
pub record Follows (a b : Reply) : Type 0 where
  pub no_earlier : version_of a ≤ version_of b
  pub accepted_later : (version : ℕ) → accepted_version b ≡ Some version → version_of a < version

-- One caller's steps are answered: each in its place, and the versions rise.
pub record IsAnswered (base : Parts) (history : List Entry) (caller : ℕ) (steps : List ScriptStep) (replies : List Reply) : Type 0 where
  pub each : AllZip (IsReply base history caller) steps replies
  pub rise : AllPairs Follows replies

-- so are those of all callers, who are numbered on from this number
unfoldable pub AreAnswered : Parts → List Entry → ℕ → List (List ScriptStep) → List (List Reply) → Type 0
AreAnswered base history caller [] [] = Unit {0}
AreAnswered base history caller [] (replies ∷ others) = ⊥
AreAnswered base history caller (steps ∷ scripts) [] = ⊥
AreAnswered base history caller (steps ∷ scripts) (replies ∷ others) =
    IsAnswered base history caller steps replies × AreAnswered base history (caller + 1) scripts others

-- the lists of replies
abbrev pub lists_of : List (Vec Reply Global) → List (List Reply)
lists_of replies = map (λ r. r.items) replies

-- the versions that one caller's accepted edits made
abbrev pub accepted : List Reply → List ℕ
accepted replies = filter_map accepted_version replies

-- and those of all callers
abbrev pub all_accepted : List (List Reply) → List ℕ
all_accepted [] = []
all_accepted (replies ∷ others) = accepted replies ++ all_accepted others

-- Callers, numbered from 1, were answered by this history: all their steps are answered, and no two accepted edits made one
-- version, which are as many as the history has entries.
pub record IsLegal (base : Parts) (scripts : List (List ScriptStep)) (history : List Entry) (replies : List (List Reply)) : Type 0 where
  pub answered : AreAnswered base history 1 scripts replies
  pub count : length history ≡ length (all_accepted replies)
  pub distinct : AllPairs (λ a b. a ≢ b) (all_accepted replies)
