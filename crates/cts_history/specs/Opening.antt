-- The front of the text of a history, from its first line to its last entry, and which bytes begin with it.
use Rattle.std.specs.Prelude.{◌≡◌, ℕ, ◌+◌, ◌-◌, ◌^◌, ◌≤◌, List, [], ◌∷◌, ◌++◌, length, All, codes}
use Rattle.std.specs.List.{concat}
use Rattle.cts_edit.specs.declared.edit.Entry.{Entry}
use Rattle.cts_edit.specs.Edits.{IsEdit}
use Rattle.cts_script.specs.Text.{count_line, line_of}
use Rattle.cts_history.specs.History.{entry_line}
use Rattle.cts_report_reader.specs.Text.{Begins}

-- the entries, by the versions from this one on that they made
unfoldable pub entry_lines : ℕ → List Entry → List (List ℕ)
entry_lines version [] = []
entry_lines version (entry ∷ later) = entry_line version entry ∷ entry_lines (version + 1) later

abbrev pub title_line : List ℕ
title_line = line_of (codes "cts") (codes "edit" ∷ codes "1" ∷ [])

-- the title, the number of entries, and the entries
unfoldable pub opening_lines : List Entry → List (List ℕ)
opening_lines history = title_line ∷ count_line (codes "history") (length history) ∷ entry_lines 1 history

-- An entry can be written: its edit is within the limits, and the numbers of its caller and of its line have 32 bits.
pub record IsWritten (entry : Entry) : Type 0 where
  pub edit : IsEdit entry.edit
  pub caller : entry.caller ≤ 2 ^ 32 - 1
  pub line : entry.line ≤ 2 ^ 32 - 1

-- a history of so many entries as can be told, of any edits, whether they would be accepted or not
pub record IsHistory (history : List Entry) : Type 0 where
  pub few : length history ≤ 2 ^ 32 - 1
  pub each : All IsWritten history

-- The bytes begin with this history. What comes after its last entry may be anything.
pub record Opens (bytes : List ℕ) (history : List Entry) : Type 0 where
  pub fits : IsHistory history
  pub after : List ℕ
  pub text : bytes ≡ concat (opening_lines history) ++ after

-- The bytes begin with no history, and this is the first line with which none begins: those before it begin one. Lines are
-- counted from 1.
pub record OpensNone (bytes : List ℕ) (line : ℕ) : Type 0 where
  pub none : (history : List Entry) → ¬ Opens bytes history
  pub before : ℕ
  pub next : line ≡ before + 1
  pub begun : Begins IsHistory opening_lines bytes before
  pub ended : ¬ Begins IsHistory opening_lines bytes line
