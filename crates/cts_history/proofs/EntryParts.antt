-- The line of an entry.
use Rattle.std.proofs.Common.{◌≡◌, ℕ, ◌-◌, ◌^◌, ◌<◌, ◌≤◌, eqb, true, List, [], ◌∷◌, ◌++◌, refl, sym, ap, ◌∙◌, subst, arith, append_assoc, unsigned_abs, codes}
use Rattle.std.specs.List.{flat_map}
use Rattle.cts_edit.specs.declared.edit.Edit.{Edit}
use Rattle.cts_edit.specs.declared.edit.Edit.TheVariants.{Add, Remove, Move, SetCap}
use Rattle.cts_edit.specs.declared.edit.Entry.{Entry}
use Rattle.cts_edit.specs.Edits.{IsEdit}
use Rattle.cts_script.specs.Text.{after_space, line_of}
use Rattle.cts_history.specs.History.{edit_words, entry_line, whole}
use Rattle.cts_report.specs.Lines.{labelled}
use Rattle.cts_report_reader.specs.Reader.{IsStop, IsAny, IsPart}
use Rattle.cts_report_reader.specs.Words.{word_at, kept_if, labelled_at}
use Rattle.cts_report_reader.proofs.Parts.{kept_part}
use Rattle.cts_report_reader.proofs.Labels.{word_part, labelled_part, bounded_part}
use Rattle.cts_report_reader.proofs.PointParts.{map_part, both_part}
use Rattle.cts_report_reader.proofs.NodeParts.{is_number, same_number}
use Rattle.cts_history.specs.Opening.{IsWritten}
use Rattle.cts_history.specs.Entries.{EntryFound, number_at, edit_at, entry_of, entry_rest_at, entry_at}
use Rattle.cts_history.proofs.EditParts.{edit_text, edit_part, edit_stop}

pub number_part : (label : List ℕ) → IsPart IsStop (λ n. n ≤ 2 ^ 32 - 1) (labelled label 0) (number_at label)
number_part label = bounded_part label 0 (2 ^ 32 - 1) (omega arith)

-- what follows the version

RestFits : EntryFound → Type 0
RestFits c = (c.0 ≤ 2 ^ 32 - 1) × ((c.1.0 ≤ 2 ^ 32 - 1) × (IsEdit c.1.1.0 × Unit {0}))

found_text : EntryFound → List ℕ
found_text c = labelled (codes " caller ") 0 c.0 ++ (labelled (codes " line ") 0 c.1.0 ++ (edit_text c.1.1.0 ++ codes "\n"))

found_entry : Entry → EntryFound
found_entry e = (e.caller, (e.line, (e.edit, tt)))

unfoldable pub rest_text : Entry → List ℕ
rest_text e = labelled (codes " caller ") 0 e.caller ++ (labelled (codes " line ") 0 e.line ++ (edit_text e.edit ++ codes "\n"))

rest_joins : (c : EntryFound) → RestFits c → IsWritten (entry_of c) × (rest_text (entry_of c) ≡ found_text c)
unfolding RestFits rest_text found_text
rest_joins c fits = (record { edit = fits.1.1.0; caller = fits.0; line = fits.1.0 }, refl)

rest_splits : (e : Entry) → IsWritten e → RestFits (found_entry e) × (entry_of (found_entry e) ≡ e)
unfolding RestFits found_entry
rest_splits e fits = ((fits.caller, (fits.line, (fits.edit, tt))), refl)

line_stop : (number : ℕ) (tail rest : List ℕ) → IsStop ((labelled (codes " line ") 0 number ++ tail) ++ rest)
unfolding labelled
line_stop number tail rest = refl

edit_line_stop : (e : Edit) (rest : List ℕ) → IsStop ((edit_text e ++ codes "\n") ++ rest)
edit_line_stop e rest = subst IsStop (sym (append_assoc (edit_text e) (codes "\n") rest)) (edit_stop e (codes "\n" ++ rest))

rest_part : IsPart IsAny IsWritten rest_text entry_rest_at
unfolding entry_rest_at RestFits found_text
rest_part =
    map_part IsAny RestFits found_text _ IsWritten rest_text entry_of found_entry
    (both_part IsStop (λ n. n ≤ 2 ^ 32 - 1) (labelled (codes " caller ") 0) (number_at (codes " caller ")) IsAny
    (λ (c : ℕ × (Edit × Unit {0})). (c.0 ≤ 2 ^ 32 - 1) × (IsEdit c.1.0 × Unit {0}))
    (λ c. labelled (codes " line ") 0 c.0 ++ (edit_text c.1.0 ++ codes "\n")) _
    (number_part (codes " caller "))
    (both_part IsStop (λ n. n ≤ 2 ^ 32 - 1) (labelled (codes " line ") 0) (number_at (codes " line ")) IsAny
    (λ (c : Edit × Unit {0}). IsEdit c.0 × Unit {0}) (λ c. edit_text c.0 ++ codes "\n") _
    (number_part (codes " line "))
    (both_part IsStop IsEdit edit_text edit_at IsAny (λ (_ : Unit {0}). Unit {0}) (λ _. codes "\n") (word_at (codes "\n"))
    edit_part (word_part (codes "\n")) (λ b rest fits ends. refl))
    (λ b rest fits ends. edit_line_stop b.0 rest))
    (λ b rest fits ends. line_stop b.0 (edit_text b.1.0 ++ codes "\n") rest))
    rest_joins rest_splits

-- the whole line

-- words, each after a space, and what follows them
words_text : List (List ℕ) → List ℕ → List ℕ
words_text [] tail = tail
words_text (word ∷ words) tail = (32 ∷ word) ++ words_text words tail

words_are : (words : List (List ℕ)) (tail : List ℕ) → flat_map after_space words ++ tail ≡ words_text words tail
unfolding words_text
words_are [] tail = refl
words_are (word ∷ words) tail =
    append_assoc (32 ∷ word) (flat_map after_space words) tail ∙ ap (λ t. (32 ∷ word) ++ t) (words_are words tail)

edit_is : (e : Edit) (tail : List ℕ) → words_text (edit_words e) tail ≡ edit_text e ++ tail
unfolding words_text edit_text labelled
edit_is (Add id x y c) tail =
    let a : List ℕ = labelled (codes " add ") 0 id in
    let b : List ℕ = labelled (codes " ") 3 (unsigned_abs x) in
    let d : List ℕ = labelled (codes " ") 3 (unsigned_abs y) in
    let e : List ℕ = labelled (codes " ") 6 c in
    sym (append_assoc a (b ++ (d ++ e)) tail ∙ ap (λ t. a ++ t) (append_assoc b (d ++ e) tail ∙ ap (λ t. b ++ t) (append_assoc d e tail)))
edit_is (Remove id) tail = refl
edit_is (Move id x y) tail =
    let a : List ℕ = labelled (codes " move ") 0 id in
    let b : List ℕ = labelled (codes " ") 3 (unsigned_abs x) in
    let d : List ℕ = labelled (codes " ") 3 (unsigned_abs y) in
    sym (append_assoc a (b ++ d) tail ∙ ap (λ t. a ++ t) (append_assoc b d tail))
edit_is (SetCap id c) tail = sym (append_assoc (labelled (codes " cap ") 0 id) (labelled (codes " ") 6 c) tail)

front_is : (version caller line : ℕ) (tail : List ℕ)
    → codes "entry" ++ ((32 ∷ whole version) ++ ((32 ∷ codes "caller") ++ ((32 ∷ whole caller) ++ ((32 ∷ codes "line") ++ ((32 ∷ whole line) ++ tail)))))
    ≡ labelled (codes "entry ") 0 version ++ (labelled (codes " caller ") 0 caller ++ (labelled (codes " line ") 0 line ++ tail))
unfolding labelled
front_is version caller line tail = refl

line_by : (version caller line : ℕ) (edit : Edit)
    → entry_line version (record { caller = caller; line = line; edit = edit })
    ≡ labelled (codes "entry ") 0 version ++ rest_text (record { caller = caller; line = line; edit = edit })
unfolding entry_line line_of rest_text words_text
line_by version caller line edit =
    let words : List (List ℕ) = whole version ∷ codes "caller" ∷ whole caller ∷ codes "line" ∷ whole line ∷ edit_words edit in
    append_assoc (codes "entry") (flat_map after_space words) (codes "\n")
    ∙ ap (λ t. codes "entry" ++ t) (words_are words (codes "\n"))
    ∙ front_is version caller line (words_text (edit_words edit) (codes "\n"))
    ∙ ap (λ t. labelled (codes "entry ") 0 version ++ (labelled (codes " caller ") 0 caller ++ (labelled (codes " line ") 0 line ++ t))) (edit_is edit (codes "\n"))

caller_stop : (e : Entry) (rest : List ℕ) → IsStop (rest_text e ++ rest)
unfolding rest_text labelled
caller_stop e rest = refl

pub entry_part : (version : ℕ) → version < 10 ^ 38 → IsPart IsAny IsWritten (entry_line version) (entry_at version)
unfolding entry_at
entry_part version small =
    map_part IsAny (λ (c : ℕ × Entry). ((c.0 < 10 ^ 38) × (eqb c.0 version ≡ true)) × IsWritten c.1)
    (λ c. labelled (codes "entry ") 0 c.0 ++ rest_text c.1) _ IsWritten (entry_line version) (λ c. c.1) (λ e. (version, e))
    (both_part IsStop (λ found. (found < 10 ^ 38) × (eqb found version ≡ true)) (labelled (codes "entry ") 0)
    (λ bytes. kept_if (λ found. eqb found version) (labelled_at (codes "entry ") 0 bytes)) IsAny IsWritten rest_text entry_rest_at
    (kept_part IsStop (λ n. n < 10 ^ 38) (labelled (codes "entry ") 0) (labelled_at (codes "entry ") 0) (λ found. eqb found version) (labelled_part (codes "entry ") 0))
    rest_part (λ b rest fits ends. caller_stop b rest))
    (λ c fits. (fits.1, line_by version c.1.caller c.1.line c.1.edit ∙ ap (λ n. labelled (codes "entry ") 0 n ++ rest_text c.1) (sym (is_number c.0 version fits.0.1))))
    (λ e fits. (((small, same_number version), fits), refl))
