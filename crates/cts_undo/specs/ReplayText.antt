-- The text of a replay: the changes that are done at its end by their versions, and the replies to the one caller.
use Rattle.std.specs.Prelude.{ℕ, List, [], ◌∷◌, ◌++◌, length, codes}
use Rattle.std.specs.List.{flat_map}
use Rattle.cts_edit.specs.declared.edit.Entry.{Entry}
use Rattle.cts_script.specs.Text.{count_line, end_line, line_of}
use Rattle.cts_history.specs.History.{IsPrintableReply, entry_line, numbered, reply_words, whole}
use Rattle.cts_undo.specs.declared.reply.ReplayReply.{ReplayReply}
use Rattle.cts_undo.specs.declared.reply.ReplayReply.TheVariants.{Answered, Undone, Redone, Nothing}

-- the line of the script, and the reply to it
abbrev pub replay_words : ReplayReply → List (List ℕ)
replay_words (Answered reply) = reply_words reply
replay_words (Undone line version) = whole line ∷ codes "undone" ∷ whole version ∷ []
replay_words (Redone line version) = whole line ∷ codes "redone" ∷ whole version ∷ []
replay_words (Nothing line version) = whole line ∷ codes "nothing at" ∷ whole version ∷ []

unfoldable pub replay_line : ReplayReply → List ℕ
replay_line reply = line_of (codes "line") (replay_words reply)

-- the replies, after the line with how many they are
unfoldable pub replies_text : List ReplayReply → List ℕ
replies_text replies =
    line_of (codes "caller") (whole 1 ∷ codes "replies" ∷ whole (length replies) ∷ []) ++ flat_map replay_line replies

unfoldable pub replay_text : List Entry → List ReplayReply → List ℕ
replay_text done replies =
    line_of (codes "cts") (codes "edit" ∷ codes "1" ∷ [])
    ++ count_line (codes "history") (length done)
    ++ numbered entry_line 1 done
    ++ replies_text replies
    ++ end_line

-- a reply can be printed
abbrev pub IsPrintableReplay : ReplayReply → Type 0
IsPrintableReplay (Answered reply) = IsPrintableReply reply
IsPrintableReplay (Undone line version) = Unit {0}
IsPrintableReplay (Redone line version) = Unit {0}
IsPrintableReplay (Nothing line version) = Unit {0}
