-- A history up to its last entry.
use Rattle.std.proofs.Common.{◌≡◌, ℕ, ◌-◌, ◌^◌, ◌≤◌, List, [], ◌∷◌, ◌++◌, length, refl, ap, subst, arith, append_assoc, codes}
use Rattle.cts_edit.specs.declared.edit.Entry.{Entry}
use Rattle.cts_script.specs.Text.{count_line, line_of}
use Rattle.cts_report.specs.Lines.{labelled}
use Rattle.cts_report_reader.specs.Reader.{IsStop, IsAny, IsPart, IsPiece, ◌>>=◌}
use Rattle.cts_report_reader.specs.Whole.{line_at}
use Rattle.cts_report_reader.specs.Words.{word_at}
use Rattle.cts_report_reader.proofs.Pieces.{line_piece, bind_piece}
use Rattle.cts_report_reader.proofs.Labels.{word_part}
use Rattle.cts_report_reader.proofs.PointParts.{map_part, both_part}
use Rattle.cts_history.specs.Opening.{IsHistory, entry_lines, opening_lines, title_line}
use Rattle.cts_history.specs.Entries.{number_at, entries_at, count_at, history_at}
use Rattle.cts_history.proofs.EntryParts.{number_part}
use Rattle.cts_history.proofs.EntryPieces.{EntriesFit, entries_piece, some_entries}

title : List ℕ
title = codes "cts edit 1\n"

title_is : title ≡ title_line
unfolding title line_of
title_is = refl

-- the number of entries

pub number_line : ℕ → List ℕ
number_line count = count_line (codes "history") count

number_line_is : (count : ℕ) → number_line count ≡ labelled (codes "history ") 0 count ++ codes "\n"
unfolding number_line line_of labelled
number_line_is count = simp append_assoc refl

pub count_part : IsPart IsAny (λ count. count ≤ 2 ^ 32 - 1) number_line count_at
unfolding count_at
count_part =
    map_part IsAny (λ (c : ℕ × Unit {0}). (c.0 ≤ 2 ^ 32 - 1) × Unit {0}) (λ c. labelled (codes "history ") 0 c.0 ++ codes "\n") _
    (λ count. count ≤ 2 ^ 32 - 1) number_line (λ c. c.0) (λ count. (count, tt))
    (both_part IsStop (λ count. count ≤ 2 ^ 32 - 1) (labelled (codes "history ") 0) (number_at (codes "history ")) IsAny (λ (_ : Unit {0}). Unit {0}) (λ _. codes "\n") (word_at (codes "\n"))
    (number_part (codes "history ")) (word_part (codes "\n")) (λ b rest fits ends. refl))
    (λ c fits. (fits.0, number_line_is c.0)) (λ count fits. ((fits, tt), refl))

-- the number and the entries

counted_lines : List Entry → List (List ℕ)
counted_lines history = number_line (length history) ∷ entry_lines 1 history

to_history : (count : ℕ) (history : List Entry) → count ≤ 2 ^ 32 - 1 → EntriesFit count history → IsHistory history
to_history count history few h = record { few = omega (arith, few, h.long); each = h.each }

counted_piece : IsPiece IsHistory counted_lines 1 (λ bytes. line_at 1 count_at bytes >>= λ count. entries_at count.0 0 count.1)
unfolding counted_lines
counted_piece =
    bind_piece (λ count. count ≤ 2 ^ 32 - 1) (λ count. number_line count ∷ []) (line_at 1 count_at) 1 1 2
    IsHistory counted_lines EntriesFit (entry_lines 1) (λ count. entries_at count 0) length
    (line_piece (λ count. count ≤ 2 ^ 32 - 1) number_line count_at count_part 1 0 (omega arith))
    (λ count fits. refl) refl
    (λ count fits. entries_piece count 0 (omega (arith, fits)))
    (λ count history fits h. (to_history count history fits h, ap (λ n. number_line n ∷ entry_lines 1 history) h.long))
    (λ history h. (h.few, record { long = refl; each = h.each }))
    (λ count fits. some_entries count)

some_history : (history : List Entry) × IsHistory history
some_history = let w = some_entries 0 in (w.0, to_history 0 w.0 (omega arith) w.1)

titled_lines : List Entry → List (List ℕ)
titled_lines history = title ∷ counted_lines history

titled_piece : IsPiece IsHistory titled_lines 0 history_at
unfolding history_at titled_lines title
titled_piece =
    bind_piece (λ (_ : Unit {0}). Unit {0}) (λ _. title ∷ []) (line_at 0 (word_at title)) 0 1 1
    IsHistory titled_lines (λ _. IsHistory) counted_lines
    (λ _ bytes. line_at 1 count_at bytes >>= λ count. entries_at count.0 0 count.1) (λ _. tt)
    (line_piece (λ (_ : Unit {0}). Unit {0}) (λ _. title) (word_at title) (word_part title) 0 tt tt)
    (λ _ fits. refl) refl (λ _ fits. counted_piece)
    (λ _ history fits h. (h, refl)) (λ history h. (tt, h)) (λ _ fits. some_history)

titled_is : titled_lines ≡ opening_lines
unfolding titled_lines counted_lines opening_lines number_line title line_of
titled_is = refl

pub history_piece : IsPiece IsHistory opening_lines 0 history_at
history_piece = subst (λ lines. IsPiece IsHistory lines 0 history_at) titled_is titled_piece
