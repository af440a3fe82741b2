-- The lines of all entries.
use Rattle.std.proofs.Common.{◌≡◌, ℕ, zero, suc, ◌+◌, ◌-◌, ◌^◌, ◌≤◌, List, [], ◌∷◌, ◌++◌, length, All, Result, Ok, refl, sym, ap, ◌∙◌, subst, arith}
use Rattle.std.specs.List.{concat}
use Rattle.std.proofs.lemmas.List.Elements.{All-nil, All-cons, All-head, All-tail}
use Rattle.cts_edit.specs.declared.edit.Edit.TheVariants.{Remove}
use Rattle.cts_edit.specs.declared.edit.Entry.{Entry}
use Rattle.cts_history.specs.History.{entry_line}
use Rattle.cts_report_reader.specs.Reader.{IsPiece}
use Rattle.cts_report_reader.specs.Whole.{line_at, mapped_lines}
use Rattle.cts_report_reader.proofs.Wholes.{ok_is, err_ok}
use Rattle.cts_report_reader.proofs.Pieces.{line_piece, bind_piece}
use Rattle.cts_report_reader.proofs.LinesPieces.{map_piece}
use Rattle.cts_history.specs.Opening.{IsWritten, entry_lines}
use Rattle.cts_history.specs.Entries.{entry_at, entries_at}
use Rattle.cts_history.proofs.EntryParts.{entry_part}

-- so many entries that can be written
pub record EntriesFit (todo : ℕ) (entries : List Entry) : Type 0 where
  pub long : length entries ≡ todo
  pub each : All IsWritten entries

-- some entry
any_entry : Entry
any_entry = record { caller = 0; line = 0; edit = Remove 0 }

any_fits : IsWritten any_entry
unfolding any_entry
any_fits = record { edit = omega arith; caller = omega arith; line = omega arith }

any_entries : ℕ → List Entry
any_entries zero = []
any_entries (suc todo) = any_entry ∷ any_entries todo

any_long : (todo : ℕ) → length (any_entries todo) ≡ todo
unfolding any_entries
any_long zero = refl
any_long (suc todo) = ap suc (any_long todo)

any_each : (todo : ℕ) → All IsWritten (any_entries todo)
unfolding any_entries
any_each zero = All-nil IsWritten
any_each (suc todo) = All-cons IsWritten any_entry (any_entries todo) any_fits (any_each todo)

pub some_entries : (todo : ℕ) → (entries : List Entry) × EntriesFit todo entries
some_entries todo = (any_entries todo, record { long = any_long todo; each = any_each todo })

pub length-entry_lines : (entries : List Entry) (version : ℕ) → length (entry_lines version entries) ≡ length entries
unfolding entry_lines
length-entry_lines [] version = refl
length-entry_lines (entry ∷ entries) version = ap suc (length-entry_lines entries (version + 1))

head_or : List Entry → Entry
head_or [] = any_entry
head_or (entry ∷ entries) = entry

tail_or : List Entry → List Entry
tail_or [] = []
tail_or (entry ∷ entries) = entries

-- an entry and then others
record Follow (todo : ℕ) (entry : Entry) (entries : List Entry) : Type 0 where
  is : entries ≡ entry ∷ tail_or entries
  others : EntriesFit todo (tail_or entries)

entries_join_at : (todo : ℕ) (entry : Entry) (entries : List Entry) → IsWritten entry → EntriesFit todo entries → EntriesFit (suc todo) (entry ∷ entries)
entries_join_at todo entry entries fits others = record { long = ap suc others.long; each = All-cons IsWritten entry entries fits others.each }

entries_join : (todo version : ℕ) (entry : Entry) (entries : List Entry) → IsWritten entry → Follow todo entry entries
    → EntriesFit (suc todo) entries × (entry_lines version entries ≡ (entry_line version entry ∷ []) ++ entry_lines (version + 1) (tail_or entries))
unfolding entry_lines
entries_join todo version entry entries fits h = (
  subst (EntriesFit (suc todo)) (sym h.is) (entries_join_at todo entry (tail_or entries) fits h.others),
  ap (entry_lines version) h.is,
)

entries_split : (todo : ℕ) (entries : List Entry) → EntriesFit (suc todo) entries → IsWritten (head_or entries) × Follow todo (head_or entries) entries
unfolding head_or tail_or
entries_split todo [] h = absurd (omega (arith, h.long))
entries_split todo (entry ∷ entries) h = (
  All-head IsWritten entry entries h.each,
  record { is = refl; others = record { long = omega (arith, h.long); each = All-tail IsWritten entry entries h.each } },
)

some_follow : (todo : ℕ) (entry : Entry) → IsWritten entry → (entries : List Entry) × Follow todo entry entries
unfolding tail_or
some_follow todo entry fits = let w = some_entries todo in (entry ∷ w.0, record { is = refl; others = w.1 })

no_entries : EntriesFit 0 []
no_entries = record { long = refl; each = All-nil IsWritten }

none_take : (version : ℕ) (bytes : List ℕ) (entries : List Entry) (rest : List ℕ)
    → ◌≡◌ {A = Result (List Entry × List ℕ) ℕ} (Ok ([], bytes)) (Ok (entries, rest))
    → EntriesFit 0 entries × (bytes ≡ concat (entry_lines version entries) ++ rest)
unfolding entry_lines
none_take version bytes entries rest e =
    let p = ok_is e in
    let none : [] ≡ entries = ap (λ (x : List Entry × List ℕ). x.0) p in (
      subst (EntriesFit 0) none no_entries,
      ap (λ (x : List Entry × List ℕ). x.1) p ∙ ap (λ es. concat (entry_lines version es) ++ rest) none,
    )

none_again : (version : ℕ) (entries : List Entry) (rest : List ℕ) → EntriesFit 0 entries
    → ◌≡◌ {A = Result (List Entry × List ℕ) ℕ} (Ok ([], concat (entry_lines version entries) ++ rest)) (Ok (entries, rest))
unfolding entry_lines
none_again version [] rest fits = refl
none_again version (entry ∷ entries) rest fits = absurd (omega (arith, fits.long))

rest_piece : (todo k : ℕ) (entry : Entry) → IsPiece (EntriesFit todo) (entry_lines (k + 1 + 1)) (k + 1 + 2) (entries_at todo (k + 1))
    → IsPiece (Follow todo entry) (λ entries. entry_lines (k + 1 + 1) (tail_or entries)) (k + 1 + 2)
    (mapped_lines (λ entries. entry ∷ entries) (entries_at todo (k + 1)))
unfolding tail_or
rest_piece todo k entry piece =
    map_piece (EntriesFit todo) (entry_lines (k + 1 + 1)) (entries_at todo (k + 1)) (k + 1 + 2) (Follow todo entry)
    (λ entries. entry_lines (k + 1 + 1) (tail_or entries)) (λ entries. entry ∷ entries) tail_or piece
    (λ entries fits. (record { is = refl; others = fits }, refl))
    (λ entries h. (h.others, sym h.is))

pub entries_piece : (todo k : ℕ) → k + todo ≤ 2 ^ 32 - 1 → IsPiece (EntriesFit todo) (entry_lines (k + 1)) (k + 2) (entries_at todo k)
unfolding entries_at
entries_piece zero k inside = record {
  takes = none_take (k + 1);
  again = none_again (k + 1);
  stops = λ bytes line e. absurd (err_ok (sym e));
  ends = λ bytes entries rest e h. absurd (omega (arith, h.inside, h.fits.long, length-entry_lines h.value (k + 1), length-entry_lines entries (k + 1)));
}
entries_piece (suc todo) k inside =
    bind_piece IsWritten (λ entry. entry_line (k + 1) entry ∷ []) (line_at (k + 2) (entry_at (k + 1))) (k + 2) 1 (k + 1 + 2)
    (EntriesFit (suc todo)) (entry_lines (k + 1)) (Follow todo) (λ entries. entry_lines (k + 1 + 1) (tail_or entries))
    (λ entry. mapped_lines (λ entries. entry ∷ entries) (entries_at todo (k + 1))) head_or
    (line_piece IsWritten (entry_line (k + 1)) (entry_at (k + 1)) (entry_part (k + 1) (omega (arith, inside))) (k + 2) any_entry any_fits)
    (λ entry fits. refl) (omega arith)
    (λ entry fits. rest_piece todo k entry (entries_piece todo (k + 1) (omega (arith, inside))))
    (λ entry entries fits h. entries_join todo (k + 1) entry entries fits h)
    (λ entries h. entries_split todo entries h)
    (λ entry fits. some_follow todo entry fits)
