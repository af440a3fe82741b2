-- What legal histories mean, and that they can be printed.
use Rattle.std.specs.Prelude.{◌≡◌, ℕ, ◌+◌, nat_eq, List, [], ◌∷◌, ◌++◌, slice_get, Some, Contains, codes, length}
use Rattle.std.specs.List.{filter}
use mathlib.Core.List.{IsPrefix}
use Rattle.cts_instance.specs.declared.parts.Parts.{Parts}
use Rattle.cts_instance.specs.Validity.{IsValid}
use Rattle.cts_edit.specs.Sound.{IsSound}
use Rattle.cts_edit.specs.declared.edit.Entry.{Entry}
use Rattle.cts_edit.specs.declared.reply.EditReply.TheVariants.{Accepted, Refused, NoMemory}
use Rattle.cts_script.specs.declared.script.Act.{Act}
use Rattle.cts_script.specs.declared.script.Act.TheVariants.{Change, Draw}
use Rattle.cts_script.specs.declared.script.ScriptStep.{ScriptStep}
use Rattle.cts_history.specs.declared.reply.Reply.{Reply}
use Rattle.cts_history.specs.declared.reply.Reply.TheVariants.{Edited, Drew, NoTree}
use Rattle.cts_history.specs.Replies.{entry_of}
use Rattle.cts_history.specs.Legal.{AreAnswered, IsLegal, all_accepted}
use Rattle.cts_history.specs.History.{IsPrintable, entry_line, history_text, numbered}
use Rattle.cts_script.specs.Text.{count_line}
use Rattle.cts_history.specs.Opening.{IsHistory, Opens, OpensNone, title_line}

-- the edit of a step, where its reply says that it was accepted
unfoldable pub accepted_edit : ℕ → ℕ → Act → Reply → List Entry
accepted_edit caller line (Change edit) (Edited l (Accepted version)) = entry_of caller line edit ∷ []
accepted_edit caller line (Change edit) (Edited l (Refused cause version)) = []
accepted_edit caller line (Change edit) (Edited l NoMemory) = []
accepted_edit caller line (Change edit) (Drew l version skew wire) = []
accepted_edit caller line (Change edit) (NoTree l version end) = []
accepted_edit caller line Draw reply = []

-- the edits of a script that its replies say were accepted, in the script's order
unfoldable pub accepted_edits : ℕ → List ScriptStep → List Reply → List Entry
accepted_edits caller [] replies = []
accepted_edits caller (step ∷ steps) [] = []
accepted_edits caller (step ∷ steps) (reply ∷ replies) =
    accepted_edit caller step.line step.act reply ++ accepted_edits caller steps replies

-- the entries of one caller in a history
abbrev pub entries_by : ℕ → List Entry → List Entry
entries_by caller history = filter (λ entry. nat_eq entry.caller caller) history

-- replies that are right at a history are right at every history that begins with it
abbrev pub AnswersStay : Type 0
AnswersStay =
    (base : Parts) (history longer : List Entry) (caller : ℕ) (scripts : List (List ScriptStep)) (replies : List (List Reply))
    → IsPrefix history longer → AreAnswered base history caller scripts replies → AreAnswered base longer caller scripts replies

-- every version of a legal history is that of an accepted edit
abbrev pub EveryEntryIsAccepted : Type 0
EveryEntryIsAccepted =
    (base : Parts) (scripts : List (List ScriptStep)) (history : List Entry) (replies : List (List Reply))
    → IsLegal base scripts history replies
    → (n : ℕ) (entry : Entry) → slice_get history n ≡ Some entry → Contains (all_accepted replies) (n + 1)

-- Of each caller the history has its accepted edits, each once and in the order of its script. The n-th script, counted from
-- 0, is that of caller n + 1.
abbrev pub AcceptedStandOnce : Type 0
AcceptedStandOnce =
    (base : Parts) (scripts : List (List ScriptStep)) (history : List Entry) (replies : List (List Reply))
    → IsLegal base scripts history replies
    → (n : ℕ) (steps : List ScriptStep) (answers : List Reply) → slice_get scripts n ≡ Some steps → slice_get replies n ≡ Some answers
    → entries_by (n + 1) history ≡ accepted_edits (n + 1) steps answers

-- a legal history and its replies can be printed, where each edit is accepted by those before it
abbrev pub LegalHistoriesCanBePrinted : Type 0
LegalHistoriesCanBePrinted =
    (base : Parts) (scripts : List (List ScriptStep)) (history : List Entry) (replies : List (List Reply)) → IsValid base
    → IsSound base history → IsLegal base scripts history replies → IsPrintable history replies

-- bytes begin with one history at most
abbrev pub HistoryIsOne : Type 0
HistoryIsOne = (bytes : List ℕ) (history other : List Entry) → Opens bytes history → Opens bytes other → history ≡ other

-- and bytes that begin with none go wrong at one line
abbrev pub FirstLineIsOne : Type 0
FirstLineIsOne = (bytes : List ℕ) (line other : ℕ) → OpensNone bytes line → OpensNone bytes other → line ≡ other

-- the text of a history and of the replies to the callers begins with the history, whatever comes after it
abbrev pub HistoryTextsOpen : Type 0
HistoryTextsOpen =
    (history : List Entry) (replies : List (List Reply)) (more : List ℕ) → IsHistory history
    → Opens (history_text history replies ++ more) history

-- so does every text with the same lines up to the last entry
abbrev pub FrontsOpen : Type 0
FrontsOpen =
    (history : List Entry) (more : List ℕ) → IsHistory history
    → Opens (title_line ++ count_line (codes "history") (length history) ++ numbered entry_line 1 history ++ more) history
