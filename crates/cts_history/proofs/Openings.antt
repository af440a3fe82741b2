-- What reading says of the bytes, and which texts begin with a history.
use Rattle.std.proofs.Common.{◌≡◌, ℕ, ◌+◌, ◌≤◌, List, [], ◌∷◌, ◌++◌, length, Result, Ok, Err, refl, sym, ap, ap₂, ◌∙◌, subst, inl, inr, arith, append_assoc, codes}
use Rattle.std.specs.Borrow.{Bor}
use Rattle.std.specs.List.{concat}
use Rattle.std.specs.Prelude.{Vec}
use Rattle.std.specs.Global.{Global}
use Rattle.std.proofs.lemmas.Bool.{cases_lt}
use Rattle.cts_num.specs.declared.error.NoMemory.{NoMemory}
use Rattle.cts_edit.specs.declared.edit.Entry.{Entry}
use Rattle.cts_script.specs.Text.{count_line, end_line}
use Rattle.cts_history.specs.History.{caller_text, entry_line, history_text, numbered}
use Rattle.cts_report_reader.specs.Seen.{FindsLines}
use Rattle.cts_report_reader.specs.Text.{Begins}
use Rattle.cts_report_reader.proofs.Wholes.{begins_less, err_ok, ok_is}
use Rattle.cts_history.specs.Entries.{history_at}
use Rattle.cts_history.specs.Opening.{IsHistory, Opens, OpensNone, entry_lines, opening_lines, title_line}
use Rattle.cts_history.specs.Laws.{FirstLineIsOne, FrontsOpen, HistoryIsOne, HistoryTextsOpen}
use Rattle.cts_history.proofs.HistoryPieces.{history_piece}

-- what was read, and what was missed

found : (bytes : List ℕ) (history : List Entry) → Opens bytes history → (after : List ℕ) × (history_at bytes ≡ Ok (history, after))
found bytes history h = (h.after, ap history_at h.text ∙ history_piece.again history h.after h.fits)

read_opens : (bytes : List ℕ) (history : List Entry) (rest : List ℕ) → history_at bytes ≡ Ok (history, rest) → Opens bytes history
read_opens bytes history rest e = let t = history_piece.takes bytes history rest e in record { fits = t.0; after = rest; text = t.1 }

missed_opens_none : (bytes : List ℕ) (line : ℕ) → history_at bytes ≡ Err line → OpensNone bytes line
missed_opens_none bytes line e =
    let s = history_piece.stops bytes line e in
    let at : line ≡ s.count + 1 = omega (arith, s.line_is) in
    record {
      none = λ history h. err_ok (sym e ∙ (found bytes history h).1);
      before = s.count;
      next = at;
      begun = s.begun;
      ended = λ h. s.ended (subst (Begins IsHistory opening_lines bytes) at h);
    }

pub lines_read : (bytes : List ℕ) (entries : Vec Entry Global) (rest : Bor (List ℕ))
    → FindsLines {E = NoMemory} (λ (es : Vec Entry Global). es.items) (Ok (Ok (entries, rest))) (history_at bytes) → Opens bytes entries.items
lines_read bytes entries rest h = read_opens bytes entries.items rest.now (is (history_at bytes) h)
  where
    is : (right : Result (List Entry × List ℕ) ℕ) → FindsLines {E = NoMemory} (λ (es : Vec Entry Global). es.items) (Ok (Ok (entries, rest))) right
        → right ≡ Ok (entries.items, rest.now)
    is (Ok x) h = ap Ok (ap₂ (λ a b. (a, b)) (sym h.0) (sym h.1))
    is (Err line) h = absurd h

pub lines_missed : (bytes : List ℕ) (line : ℕ)
    → FindsLines {T = Vec Entry Global} {E = NoMemory} (λ es. es.items) (Ok (Err line)) (history_at bytes) → OpensNone bytes line
lines_missed bytes line h = missed_opens_none bytes line (is (history_at bytes) h)
  where
    is : (right : Result (List Entry × List ℕ) ℕ) → FindsLines {T = Vec Entry Global} {E = NoMemory} (λ es. es.items) (Ok (Err line)) right → right ≡ Err line
    is (Ok x) h = absurd h
    is (Err other) h = ap Err (sym h)

-- laws

pub history_is_one_lem : HistoryIsOne
history_is_one_lem bytes history other h g =
    ap (λ (x : List Entry × List ℕ). x.0) (ok_is (sym (found bytes history h).1 ∙ (found bytes other g).1))

line_at_most : (bytes : List ℕ) (line other : ℕ) → OpensNone bytes line → OpensNone bytes other → other ≤ line
line_at_most bytes line other h g =
    elim (cases_lt line other) [
      | inl lt ↦ absurd (h.ended (begins_less IsHistory opening_lines bytes g.before line (omega (arith, g.next)) g.begun))
      | inr le ↦ le
    ]

pub first_line_is_one_lem : FirstLineIsOne
first_line_is_one_lem bytes line other h g = omega (arith, line_at_most bytes line other h g, line_at_most bytes other line g h)

-- texts

entries_text : (version : ℕ) (history : List Entry) → numbered entry_line version history ≡ concat (entry_lines version history)
unfolding numbered entry_lines
entries_text version [] = refl
entries_text version (entry ∷ later) = ap (λ t. entry_line version entry ++ t) (entries_text (version + 1) later)

pub fronts_open_lem : FrontsOpen
unfolding opening_lines
fronts_open_lem history more fits = record {
  fits = fits;
  after = more;
  text =
      ap (λ t. title_line ++ count_line (codes "history") (length history) ++ t ++ more) (entries_text 1 history)
      ∙ simp append_assoc refl;
}

pub history_texts_open_lem : HistoryTextsOpen
unfolding history_text
history_texts_open_lem history replies more fits =
    subst (λ text. Opens text history) (simp append_assoc refl)
    (fronts_open_lem history (numbered caller_text 1 replies ++ (end_line ++ more)) fits)
