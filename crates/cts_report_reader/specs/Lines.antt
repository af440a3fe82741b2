-- The lines of a report but those of its nodes.
use Rattle.std.specs.Prelude.{ℕ, ◌%◌, Bool, true, false, ◌&&◌, nat_le, List, codes, ◌==◌}
use Rattle.cts_report_reader.specs.Reader.{PartReader}
use Rattle.cts_report_reader.specs.Words.{word_at, kept_if, labelled_at, both_at, mapped_at, first_of}

-- a figure of the whole tree
unfoldable pub figure_at : List ℕ → ℕ → PartReader ℕ
figure_at label places = mapped_at (λ (found : ℕ × Unit). found.0) (both_at (labelled_at label places) (word_at (codes "\n")))

-- whether a limit is met
unfoldable pub answer_at : List ℕ → PartReader Bool
answer_at label =
    mapped_at (λ (found : Unit × Bool). found.1)
    (both_at (word_at label)
    (λ bytes. first_of (mapped_at (λ (_ : Unit). true) (word_at (codes " yes\n")) bytes) (mapped_at (λ (_ : Unit). false) (word_at (codes " no\n")) bytes)))

-- how many nodes there are: an odd number, since each pair joins two trees
unfoldable pub count_at : PartReader ℕ
count_at =
    mapped_at (λ (found : ℕ × Unit). found.0)
    (both_at (λ bytes. kept_if (λ count. nat_le count 131071 && (count % 2 == 1)) (labelled_at (codes "nodes ") 0 bytes)) (word_at (codes "\n")))
