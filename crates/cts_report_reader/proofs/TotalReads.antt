-- The lines on the whole tree, as the code reads them in three steps.
use Rattle.std.proofs.Common.{◌≡◌, ℕ, ◌+◌, List, Option, Some, None, Result, Ok, Err, true, false, refl, sym, ap, ap₂, subst, codes}
use Rattle.std.specs.Borrow.{Bor}
use Rattle.cts_instance.specs.declared.version.Version.{Version}
use Rattle.cts_report.specs.Printed.{PrintedArrivals, PrintedTotals}
use Rattle.cts_report_reader.specs.declared.totals.LaterTotals.{LaterTotals}
use Rattle.cts_report_reader.specs.declared.totals.ReportTotals.{ReportTotals}
use Rattle.cts_report_reader.specs.Forms.{arrival_count}
use Rattle.cts_report_reader.specs.Lines.{answer_at, figure_at}
use Rattle.cts_report_reader.specs.Seen.{FindsLine}
use Rattle.cts_report_reader.specs.Totals.{seen_later, seen_totals}
use Rattle.cts_report_reader.specs.Whole.{ClosingFound, LaterFound, totals_of, arrivals_at, closing_at, later_at, totals_at}
use Rattle.cts_report_reader.specs.Words.{Finds, labelled_at, same, word_at}

-- what was found, as an equation
pub found_is : {T A : Type 0} (view : T → A) (value : T) (left : Bor (List ℕ)) (right : Option (A × List ℕ)) → Finds view (Some (value, left)) right
    → right ≡ Some (view value, left.now)
found_is view value left None h = absurd h
found_is view value left (Some x) h = ap Some (ap₂ (λ a b. (a, b)) (sym h.0) (sym h.1))

abbrev totals_with : ℕ → ℕ → ℕ → Result (LaterFound × List ℕ) ℕ → Result (PrintedTotals × List ℕ) ℕ
totals_with load wire greatest (Ok a) = Ok (totals_of (load, (wire, (greatest, a.0))), a.1)
totals_with load wire greatest (Err line) = Err line

totals_is : (version : Version) (at : ℕ) (bytes : List ℕ) (load wire greatest : ℕ) (one two three : List ℕ)
    → figure_at (codes "source load ") 6 bytes ≡ Some (load, one) → figure_at (codes "wire total ") 3 one ≡ Some (wire, two)
    → figure_at (codes "delay greatest ") 16 two ≡ Some (greatest, three) → (o : Result (LaterFound × List ℕ) ℕ) → later_at version (at + 3) three ≡ o
    → totals_at version at bytes ≡ totals_with load wire greatest o
unfolding totals_at
totals_is version at bytes load wire greatest one two three e f g (Ok a) h = rw (e, f, g, h) refl
totals_is version at bytes load wire greatest one two three e f g (Err line) h = rw (e, f, g, h) refl

abbrev with_later : ℕ → ℕ → ℕ → Result (LaterTotals × Bor (List ℕ)) ℕ → Result (ReportTotals × Bor (List ℕ)) ℕ
with_later load wire greatest (Ok found) =
    Ok (
      record {
        source_load = load;
        wire_total = wire;
        greatest = greatest;
        least = (found.0).least;
        arrivals = (found.0).arrivals;
        skew = (found.0).closing.skew;
        bound = (found.0).closing.bound;
        load_met = (found.0).closing.load_met;
        slew_met = (found.0).closing.slew_met;
      },
      found.1,
    )
with_later load wire greatest (Err line) = Err line

totals_seen : (load wire greatest : ℕ) (found : Result (LaterTotals × Bor (List ℕ)) ℕ) (right : Result (LaterFound × List ℕ) ℕ)
    → FindsLine seen_later found right → FindsLine seen_totals (with_later load wire greatest found) (totals_with load wire greatest right)
totals_seen load wire greatest (Ok found) (Ok right) h = (ap (λ (x : LaterFound). totals_of (load, (wire, (greatest, x)))) h.0, h.1)
totals_seen load wire greatest (Ok found) (Err line) h = absurd h
totals_seen load wire greatest (Err line) (Ok right) h = absurd h
totals_seen load wire greatest (Err line) (Err right) h = h

pub totals_found : (version : Version) (at : ℕ) (bytes : List ℕ) (load wire greatest : ℕ) (one two three : Bor (List ℕ)) (found : Result (LaterTotals × Bor (List ℕ)) ℕ)
    → Finds same (Some (load, one)) (figure_at (codes "source load ") 6 bytes) → Finds same (Some (wire, two)) (figure_at (codes "wire total ") 3 one.now)
    → Finds same (Some (greatest, three)) (figure_at (codes "delay greatest ") 16 two.now) → FindsLine seen_later found (later_at version (at + 3) three.now)
    → FindsLine seen_totals (with_later load wire greatest found) (totals_at version at bytes)
totals_found version at bytes load wire greatest one two three found e f g h =
    let is = totals_is version at bytes load wire greatest one.now two.now three.now (found_is same load one _ e) (found_is same wire two _ f) (found_is same greatest three _ g) (later_at version (at + 3) three.now) refl in
    subst (FindsLine seen_totals (with_later load wire greatest found)) (sym is) (totals_seen load wire greatest found (later_at version (at + 3) three.now) h)

-- nothing was found, as an equation
pub nothing_is : {T A : Type 0} (view : T → A) (right : Option (A × List ℕ)) → Finds view None right → right ≡ None
nothing_is view None h = refl
nothing_is view (Some x) h = absurd h

-- the line of an answer, by what its words are
module _ (label bytes : List ℕ) where
  pub answer_unlabelled : word_at label bytes ≡ None → answer_at label bytes ≡ None
  unfolding answer_at
  answer_unlabelled e = rw e refl

  pub answer_yes : (one two : List ℕ) → word_at label bytes ≡ Some (tt, one) → word_at (codes " yes\n") one ≡ Some (tt, two)
      → answer_at label bytes ≡ Some (true, two)
  unfolding answer_at
  answer_yes one two e f = rw (e, f) refl

  pub answer_no : (one two : List ℕ) → word_at label bytes ≡ Some (tt, one) → word_at (codes " yes\n") one ≡ None
      → word_at (codes " no\n") one ≡ Some (tt, two) → answer_at label bytes ≡ Some (false, two)
  unfolding answer_at
  answer_no one two e f g = rw (e, f, g) refl

  pub answer_neither : (one : List ℕ) → word_at label bytes ≡ Some (tt, one) → word_at (codes " yes\n") one ≡ None
      → word_at (codes " no\n") one ≡ None → answer_at label bytes ≡ None
  unfolding answer_at
  answer_neither one e f g = rw (e, f, g) refl

-- the line of a figure, by what its parts are
module _ (label : List ℕ) (places : ℕ) (bytes : List ℕ) where
  pub figure_unlabelled : labelled_at label places bytes ≡ None → figure_at label places bytes ≡ None
  unfolding figure_at
  figure_unlabelled e = rw e refl

  pub figure_goes_on : (value : ℕ) (one : List ℕ) → labelled_at label places bytes ≡ Some (value, one) → word_at (codes "\n") one ≡ None
      → figure_at label places bytes ≡ None
  unfolding figure_at
  figure_goes_on value one e f = rw (e, f) refl

  pub figure_ends : (value : ℕ) (one two : List ℕ) → labelled_at label places bytes ≡ Some (value, one) → word_at (codes "\n") one ≡ Some (tt, two)
      → figure_at label places bytes ≡ Some (value, two)
  unfolding figure_at
  figure_ends value one two e f = rw (e, f) refl

-- a line that is missing
pub line_missed : {T A : Type 0} (view : T → A) (line other : ℕ) (right : Result (A × List ℕ) ℕ) → right ≡ Err other → line ≡ other
    → FindsLine view (Err line) right
line_missed view line other right e f = rw e f

-- lines that are there
pub line_is : {T A : Type 0} (view : T → A) (value : T) (left : Bor (List ℕ)) (right : Result (A × List ℕ) ℕ) → FindsLine view (Ok (value, left)) right
    → right ≡ Ok (view value, left.now)
line_is view value left (Ok x) h = ap Ok (ap₂ (λ a b. (a, b)) (sym h.0) (sym h.1))
line_is view value left (Err line) h = absurd h

pub line_there : {T A : Type 0} (view : T → A) (value : T) (left : Bor (List ℕ)) (right : Result (A × List ℕ) ℕ) → right ≡ Ok (view value, left.now)
    → FindsLine view (Ok (value, left)) right
line_there view value left right e = rw e (refl, refl)

module _ (version : Version) (at : ℕ) (bytes : List ℕ) where
  pub later_no_least : figure_at (codes "delay least ") 16 bytes ≡ None → later_at version at bytes ≡ Err (at + 1)
  unfolding later_at
  later_no_least e = rw e refl

  pub later_there : (least : ℕ) (one : List ℕ) → figure_at (codes "delay least ") 16 bytes ≡ Some (least, one)
      → (arrivals : Option PrintedArrivals) (two : List ℕ) → arrivals_at version (at + 1) one ≡ Ok (arrivals, two)
      → (closing : ClosingFound) (rest : List ℕ) → closing_at (at + 1 + arrival_count version) two ≡ Ok (closing, rest)
      → later_at version at bytes ≡ Ok ((least, (arrivals, closing)), rest)
  unfolding later_at
  later_there least one e arrivals two f closing rest g = rw (e, f, g) refl

  pub totals_no_load : figure_at (codes "source load ") 6 bytes ≡ None → totals_at version at bytes ≡ Err (at + 1)
  unfolding totals_at
  totals_no_load e = rw e refl

  pub totals_no_wire : (load : ℕ) (one : List ℕ) → figure_at (codes "source load ") 6 bytes ≡ Some (load, one) → figure_at (codes "wire total ") 3 one ≡ None
      → totals_at version at bytes ≡ Err (at + 1 + 1)
  unfolding totals_at
  totals_no_wire load one e f = rw (e, f) refl

  pub totals_no_greatest : (load wire : ℕ) (one two : List ℕ) → figure_at (codes "source load ") 6 bytes ≡ Some (load, one)
      → figure_at (codes "wire total ") 3 one ≡ Some (wire, two) → figure_at (codes "delay greatest ") 16 two ≡ None → totals_at version at bytes ≡ Err (at + 2 + 1)
  unfolding totals_at
  totals_no_greatest load wire one two e f g = rw (e, f, g) refl
