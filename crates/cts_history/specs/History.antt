-- The text of a history and of the replies to the callers, up to what is told of the tree after the history: its lines in
-- order, one space between two words, each number in its canonical form at its places, and a line feed after each line.
use Rattle.std.specs.Prelude.{◌≢◌, ℕ, ◌+◌, ◌*◌, ◌^◌, ◌≤◌, List, [], ◌∷◌, ◌++◌, length, All, codes}
use Rattle.std.specs.List.{flat_map}
use Rattle.cts_num.specs.Decimal.{decimal_text}
use Rattle.cts_plain.specs.declared.end.NoTree.{NoTree as Why}
use Rattle.cts_plain.specs.declared.end.NoTree.TheVariants as why
use Rattle.cts_edit.specs.declared.edit.Edit.{Edit}
use Rattle.cts_edit.specs.declared.edit.EditCause.{EditCause}
use Rattle.cts_edit.specs.declared.edit.EditCause.TheVariants.{Known, Unknown, Outside, InBlock, Full, Last, Long}
use Rattle.cts_edit.specs.declared.edit.Entry.{Entry}
use Rattle.cts_edit.specs.declared.reply.EditReply.{EditReply}
use Rattle.cts_edit.specs.declared.reply.EditReply.TheVariants.{Accepted, Refused, NoMemory}
use Rattle.cts_edit.specs.Edits.{IsEdit}
use Rattle.cts_script.specs.declared.script.Act.TheVariants.{Change}
use Rattle.cts_script.specs.ScriptText.{act_words}
use Rattle.cts_script.specs.Text.{count_line, end_line, line_of}
use Rattle.cts_history.specs.declared.reply.Reply.{Reply}
use Rattle.cts_history.specs.declared.reply.Reply.TheVariants.{Edited, Drew, NoTree}

-- a whole number
abbrev pub whole : ℕ → List ℕ
whole number = decimal_text 0 number

-- a length in nm as µm
abbrev pub length_in_um : ℕ → List ℕ
length_in_um nm = decimal_text 3 nm

-- a doubled delay of 10^-27 s as ps
abbrev pub time : ℕ → List ℕ
time delay = decimal_text 16 (5 * delay)

-- an edit, in the words of a script
abbrev pub edit_words : Edit → List (List ℕ)
edit_words edit = act_words (Change edit)

-- an entry of the history, with the version that it made
unfoldable pub entry_line : ℕ → Entry → List ℕ
entry_line version entry =
    line_of (codes "entry")
    (whole version ∷ codes "caller" ∷ whole entry.caller ∷ codes "line" ∷ whole entry.line ∷ edit_words entry.edit)

unfoldable pub cause_words : EditCause → List ℕ
cause_words Known = codes "known"
cause_words Unknown = codes "unknown"
cause_words Outside = codes "outside"
cause_words InBlock = codes "in block"
cause_words Full = codes "full"
cause_words Last = codes "last"
cause_words Long = codes "long"

-- The reply to a change. Want of memory ends a run, so it is no reply and has no words.
abbrev pub changed_words : EditReply → List (List ℕ)
changed_words (Accepted version) = codes "accepted" ∷ whole version ∷ []
changed_words (Refused cause version) = codes "refused" ∷ cause_words cause ∷ codes "at" ∷ whole version ∷ []
changed_words NoMemory = []

-- the tree of a version, by its skew and its wire
abbrev pub tree_words : ℕ → ℕ → ℕ → List (List ℕ)
tree_words version skew wire =
    codes "tree" ∷ whole version ∷ codes "skew" ∷ time skew ∷ codes "wire" ∷ length_in_um wire ∷ []

-- why a version has no tree
abbrev pub no_tree_words : ℕ → Why → List (List ℕ)
no_tree_words version (why.Beyond node) = codes "no tree beyond at node" ∷ whole node ∷ codes "at" ∷ whole version ∷ []
no_tree_words version (why.Cut node) = codes "no tree cut at node" ∷ whole node ∷ codes "at" ∷ whole version ∷ []
no_tree_words version why.NoMemory = []

-- the line of the script, and the reply to it
abbrev pub reply_words : Reply → List (List ℕ)
reply_words (Edited line reply) = whole line ∷ changed_words reply
reply_words (Drew line version skew wire) = whole line ∷ tree_words version skew wire
reply_words (NoTree line version end) = whole line ∷ no_tree_words version end

unfoldable pub reply_line : Reply → List ℕ
reply_line reply = line_of (codes "line") (reply_words reply)

-- the replies to the caller of this number, after the line with how many they are
unfoldable pub caller_text : ℕ → List Reply → List ℕ
caller_text caller replies =
    line_of (codes "caller") (whole caller ∷ codes "replies" ∷ whole (length replies) ∷ []) ++ flat_map reply_line replies

-- the texts of some items, which are numbered from `number` on
unfoldable pub numbered : {A : Type 0} → (ℕ → A → List ℕ) → ℕ → List A → List ℕ
numbered text number [] = []
numbered text number (item ∷ items) = text number item ++ numbered text (number + 1) items

-- the entries by the versions that they made, and then the callers from 1 on, each with its replies
unfoldable pub history_text : List Entry → List (List Reply) → List ℕ
history_text history replies =
    line_of (codes "cts") (codes "edit" ∷ codes "1" ∷ [])
    ++ count_line (codes "history") (length history)
    ++ numbered entry_line 1 history
    ++ numbered caller_text 1 replies
    ++ end_line

-- A reply can be printed: it is no want of memory, and its skew has at most 38 digits in print.
abbrev pub IsPrintableReply : Reply → Type 0
IsPrintableReply (Edited line reply) = reply ≢ NoMemory
IsPrintableReply (Drew line version skew wire) = skew ≤ 10 ^ 37
IsPrintableReply (NoTree line version end) = end ≢ why.NoMemory

-- A history and replies can be printed; those of a legal run can.
pub record IsPrintable (history : List Entry) (replies : List (List Reply)) : Type 0 where
  pub edits : All (λ entry. IsEdit entry.edit) history
  pub each_reply : All (λ one. All IsPrintableReply one) replies
