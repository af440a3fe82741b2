-- A history read line by line.
use Rattle.std.specs.Prelude.{ℕ, zero, suc, ◌+◌, ◌-◌, ◌^◌, List, [], ◌∷◌, codes, Ok, pos, ◌==◌}
use Rattle.cts_edit.specs.declared.edit.Edit.{Edit}
use Rattle.cts_edit.specs.declared.edit.Edit.TheVariants.{Add, Remove, Move, SetCap}
use Rattle.cts_edit.specs.declared.edit.Entry.{Entry}
use Rattle.cts_report_reader.specs.Reader.{LinesReader, PartReader, ◌>>=◌}
use Rattle.cts_report_reader.specs.Whole.{line_at, mapped_lines}
use Rattle.cts_report_reader.specs.Words.{word_at, kept_if, labelled_at, bounded_at, both_at, mapped_at, first_of}

-- an id after a label
abbrev pub id_at : List ℕ → PartReader ℕ
id_at label = bounded_at label 0 999999999

-- a coordinate in nm
abbrev pub coordinate_at : PartReader ℕ
coordinate_at = bounded_at (codes " ") 3 (10 ^ 8)

-- a capacitance in zF
abbrev pub capacitance_at : PartReader ℕ
capacitance_at = bounded_at (codes " ") 6 (10 ^ 12)

-- the number of a caller or of a line
abbrev pub number_at : List ℕ → PartReader ℕ
number_at label = bounded_at label 0 (2 ^ 32 - 1)

abbrev pub add_of : ℕ × (ℕ × (ℕ × ℕ)) → Edit
add_of found = Add found.0 (pos found.1.0) (pos found.1.1.0) found.1.1.1

abbrev pub move_of : ℕ × (ℕ × ℕ) → Edit
move_of found = Move found.0 (pos found.1.0) (pos found.1.1)

abbrev pub cap_of : ℕ × ℕ → Edit
cap_of found = SetCap found.0 found.1

unfoldable pub add_at : PartReader Edit
add_at = mapped_at add_of (both_at (id_at (codes " add ")) (both_at coordinate_at (both_at coordinate_at capacitance_at)))

unfoldable pub remove_at : PartReader Edit
remove_at = mapped_at Remove (id_at (codes " remove "))

unfoldable pub move_at : PartReader Edit
move_at = mapped_at move_of (both_at (id_at (codes " move ")) (both_at coordinate_at coordinate_at))

unfoldable pub cap_at : PartReader Edit
cap_at = mapped_at cap_of (both_at (id_at (codes " cap ")) capacitance_at)

unfoldable pub edit_at : PartReader Edit
edit_at bytes = first_of (add_at bytes) (first_of (remove_at bytes) (first_of (move_at bytes) (cap_at bytes)))

-- what the line of an entry has after its version
abbrev pub EntryFound : Type 0
EntryFound = ℕ × (ℕ × (Edit × Unit))

abbrev pub entry_of : EntryFound → Entry
entry_of found = record { caller = found.0; line = found.1.0; edit = found.1.1.0 }

unfoldable pub entry_rest_at : PartReader Entry
entry_rest_at =
    mapped_at entry_of
    (both_at (number_at (codes " caller ")) (both_at (number_at (codes " line ")) (both_at edit_at (word_at (codes "\n")))))

-- the line of the entry that made this version
unfoldable pub entry_at : ℕ → PartReader Entry
entry_at version =
    mapped_at (λ (found : ℕ × Entry). found.1)
    (both_at (λ bytes. kept_if (λ found. found == version) (labelled_at (codes "entry ") 0 bytes)) entry_rest_at)

-- The lines of so many entries, of which the first made version k + 1. Two lines stand before those of all entries.
unfoldable pub entries_at : ℕ → ℕ → LinesReader (List Entry)
entries_at zero k bytes = Ok ([], bytes)
entries_at (suc todo) k bytes =
    line_at (k + 2) (entry_at (k + 1)) bytes
    >>= λ entry. mapped_lines (λ entries. entry.0 ∷ entries) (entries_at todo (k + 1)) entry.1

-- how many entries there are
unfoldable pub count_at : PartReader ℕ
count_at = mapped_at (λ (found : ℕ × Unit). found.0) (both_at (number_at (codes "history ")) (word_at (codes "\n")))

-- a history up to its last entry
unfoldable pub history_at : LinesReader (List Entry)
history_at bytes =
    line_at 0 (word_at (codes "cts edit 1\n")) bytes
    >>= λ title. line_at 1 count_at title.1
    >>= λ count. entries_at count.0 0 count.1
