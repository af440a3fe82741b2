-- Entries read one after another.
use Rattle.std.proofs.Common.{◌≡◌, ℕ, suc, ◌+◌, ◌-◌, ◌<◌, List, [], ◌∷◌, ◌++◌, Some, None, Result, Ok, Err, refl, sym, ap, ◌∙◌, arith, append_assoc, append-nil}
use Rattle.cts_edit.specs.declared.edit.Entry.{Entry}
use Rattle.cts_report_reader.specs.Seen.{fronted_lines}
use Rattle.cts_report_reader.specs.Whole.{mapped_lines}
use Rattle.cts_history.specs.Entries.{entry_at, entries_at}

abbrev Entries : Type 0
Entries = Result (List Entry × List ℕ) ℕ

cons_lines : Entry → Entries → Entries
cons_lines e (Ok f) = Ok (e ∷ f.0, f.1)
cons_lines e (Err line) = Err line

mapped_is : (e : Entry) (o : Entries) (read : List ℕ → Entries) (bytes : List ℕ) → read bytes ≡ o → mapped_lines (λ entries. e ∷ entries) read bytes ≡ cons_lines e o
unfolding cons_lines
mapped_is e (Ok f) read bytes is = rw is refl
mapped_is e (Err line) read bytes is = rw is refl

entries_suc : (todo k : ℕ) (bytes : List ℕ) (e : Entry) (rest : List ℕ) → entry_at (k + 1) bytes ≡ Some (e, rest)
    → entries_at (suc todo) k bytes ≡ cons_lines e (entries_at todo (k + 1) rest)
unfolding entries_at
entries_suc todo k bytes e rest is = rw is (mapped_is e (entries_at todo (k + 1) rest) (entries_at todo (k + 1)) rest refl)

entries_missed : (todo k : ℕ) (bytes : List ℕ) → entry_at (k + 1) bytes ≡ None → entries_at (suc todo) k bytes ≡ Err (k + 2 + 1)
unfolding entries_at
entries_missed todo k bytes is = rw is refl

front_cons : (front : List Entry) (e : Entry) (o : Entries) → fronted_lines front (cons_lines e o) ≡ fronted_lines (front ++ e ∷ []) o
unfolding cons_lines
front_cons front e (Ok f) = ap (λ es. Ok (es, f.1)) (sym (append_assoc front (e ∷ []) f.0))
front_cons front e (Err line) = refl

-- the next entry
pub entries_step : (count k : ℕ) (front : List Entry) (whole : Entries) (bytes : List ℕ) (e : Entry) (rest : List ℕ)
    → k < count → fronted_lines front (entries_at (count - k) k bytes) ≡ whole → entry_at (k + 1) bytes ≡ Some (e, rest)
    → fronted_lines (front ++ e ∷ []) (entries_at (count - (k + 1)) (k + 1) rest) ≡ whole
entries_step count k front whole bytes e rest lt h is =
    let todo = count - k - 1 in
    let more : count - k ≡ suc todo = omega arith in
    let fewer : count - (k + 1) ≡ todo = omega arith in
    ap (λ n. fronted_lines (front ++ e ∷ []) (entries_at n (k + 1) rest)) fewer
    ∙ sym (front_cons front e (entries_at todo (k + 1) rest))
    ∙ ap (fronted_lines front) (sym (ap (λ n. entries_at n k bytes) more ∙ entries_suc todo k bytes e rest is)) ∙ h

-- an entry that is not there
pub entries_none : (count k : ℕ) (front : List Entry) (whole : Entries) (bytes : List ℕ)
    → k < count → fronted_lines front (entries_at (count - k) k bytes) ≡ whole → entry_at (k + 1) bytes ≡ None → whole ≡ Err (k + 3)
entries_none count k front whole bytes lt h is =
    let todo = count - k - 1 in
    let more : count - k ≡ suc todo = omega arith in
    let line : k + 2 + 1 ≡ k + 3 = omega arith in
    sym h ∙ ap (λ n. fronted_lines front (entries_at n k bytes)) more ∙ ap (fronted_lines front) (entries_missed todo k bytes is) ∙ ap Err line

-- all entries
pub entries_done : (count k : ℕ) (front : List Entry) (whole : Entries) (bytes : List ℕ)
    → k ≡ count → fronted_lines front (entries_at (count - k) k bytes) ≡ whole → whole ≡ Ok (front, bytes)
unfolding entries_at
entries_done count k front whole bytes e h =
    let none : count - k ≡ 0 = omega arith in
    sym h ∙ ap (λ n. fronted_lines front (entries_at n k bytes)) none ∙ ap (λ es. Ok (es, bytes)) (append-nil front)

nothing_fronted : (o : Entries) → fronted_lines [] o ≡ o
nothing_fronted (Ok f) = refl
nothing_fronted (Err line) = refl

pub entries_begin : (count : ℕ) (bytes : List ℕ) → fronted_lines [] (entries_at (count - 0) 0 bytes) ≡ entries_at count 0 bytes
entries_begin count bytes =
    let e : count - 0 ≡ count = omega arith in
    ap (λ n. fronted_lines [] (entries_at n 0 bytes)) e ∙ nothing_fronted (entries_at count 0 bytes)
