-- The line of a pair and the line of the count, by what their parts are.
use Rattle.std.proofs.Common.{◌≡◌, ℕ, ◌-◌, ◌%◌, ◌^◌, ◌<◌, ◌≤◌, Bool, true, false, ◌&&◌, eqb, leb, List, Option, Some, None, Result, Ok, Err, IfOk, IsErr, refl, sym, ap, ap₂, inl, inr, arith, codes}
use Rattle.std.specs.Borrow.{Bor}
use Rattle.std.proofs.lemmas.Bool.Decides.{leb_tells}
use Rattle.cts_geom.specs.declared.points.Half.{Half}
use Rattle.cts_num.specs.declared.error.NoMemory.{NoMemory}
use Rattle.cts_report_reader.specs.declared.node.ReportKind.TheVariants.{Pair}
use Rattle.cts_report_reader.specs.declared.node.ReportNode.{ReportNode}
use Rattle.cts_report_reader.specs.declared.node.Tail.{Tail}
use Rattle.cts_report_reader.specs.Lines.{count_at}
use Rattle.cts_report_reader.specs.NodeLine.{buffer_at, pair_at}
use Rattle.cts_report_reader.specs.Nodes.{seen_node, seen_tail}
use Rattle.cts_report_reader.specs.Seen.{FindsIn, FindsLines, seen_point}
use Rattle.cts_report_reader.specs.Words.{word_at, labelled_at, bounded_at, place_at, tail_at}
use Rattle.cts_report_reader.proofs.PointParts.{TailFits, no_arrival, tail_part}

-- memory ran out
not_false : ◌≡◌ {A = Bool} false true → ⊥
not_false e = cc

pub err_passes : {T : Type 0} (P : T → Type 0) (result : Result T NoMemory) → IsErr result → IfOk result P
err_passes P (Ok x) h = absurd (not_false h)
err_passes P (Err e) h = tt

pub err_finds : {T A : Type 0} (view : T → A) (result : Result (Option (T × Bor (List ℕ))) NoMemory) (right : Option (A × List ℕ))
    → IsErr result → FindsIn view result right
err_finds view (Ok x) right h = absurd (not_false h)
err_finds view (Err e) right h = tt

pub err_finds_lines : {T A : Type 0} (view : T → A) (result : Result (Result (T × Bor (List ℕ)) ℕ) NoMemory) (right : Result (A × List ℕ) ℕ)
    → IsErr result → FindsLines view result right
err_finds_lines view (Ok x) right h = absurd (not_false h)
err_finds_lines view (Err e) right h = tt

-- what was found where memory is taken, as an equation
pub nothing_in : {T A : Type 0} (view : T → A) (right : Option (A × List ℕ)) → FindsIn {E = NoMemory} view (Ok None) right → right ≡ None
nothing_in view None h = refl
nothing_in view (Some x) h = absurd h

pub found_in : {T A : Type 0} (view : T → A) (value : T) (left : Bor (List ℕ)) (right : Option (A × List ℕ))
    → FindsIn {E = NoMemory} view (Ok (Some (value, left))) right → right ≡ Some (view value, left.now)
found_in view value left None h = absurd h
found_in view value left (Some x) h = ap Some (ap₂ (λ a b. (a, b)) (sym h.0) (sym h.1))

-- the end of a pair's line has no arrival
untold : (bytes : List ℕ) (tail : Tail) (rest : List ℕ) → tail_at false bytes ≡ Some (seen_tail tail, rest) → tail.arrival ≡ None
unfolding TailFits
untold bytes tail rest e = no_arrival tail.arrival ((((tail_part false).takes bytes (seen_tail tail) rest e).0).1.0)

-- a pair whose line breaks off, and one whose line is there
module _ (buffers : ℕ) (bytes : List ℕ) where
  pub pair_no_left : bounded_at (codes " pair ") 0 (2 ^ 32 - 1) bytes ≡ None → pair_at buffers bytes ≡ None
  unfolding pair_at
  pair_no_left e = rw e refl

  module _ (left : ℕ) (one : List ℕ) (is_left : bounded_at (codes " pair ") 0 (2 ^ 32 - 1) bytes ≡ Some (left, one)) where
    pub pair_no_right : bounded_at (codes " ") 0 (2 ^ 32 - 1) one ≡ None → pair_at buffers bytes ≡ None
    unfolding pair_at
    pair_no_right e = rw (is_left, e) refl

    module _ (right : ℕ) (two : List ℕ) (is_right : bounded_at (codes " ") 0 (2 ^ 32 - 1) one ≡ Some (right, two)) where
      pub pair_no_place : place_at two ≡ None → pair_at buffers bytes ≡ None
      unfolding pair_at
      pair_no_place e = rw (is_left, is_right, e) refl

      module _ (place : Half) (three : List ℕ) (is_place : place_at two ≡ Some ((tt, seen_point place), three)) where
        pub pair_no_buffer : buffer_at buffers three ≡ None → pair_at buffers bytes ≡ None
        unfolding pair_at
        pair_no_buffer e = rw (is_left, is_right, is_place, e) refl

        module _ (buffer : Option ℕ) (four : List ℕ) (is_buffer : buffer_at buffers three ≡ Some (buffer, four)) where
          pub pair_no_load : labelled_at (codes " load ") 6 four ≡ None → pair_at buffers bytes ≡ None
          unfolding pair_at
          pair_no_load e = rw (is_left, is_right, is_place, is_buffer, e) refl

          module _ (load : ℕ) (five : List ℕ) (is_load : labelled_at (codes " load ") 6 four ≡ Some (load, five)) where
            pub pair_no_residue : labelled_at (codes " residue ") 16 five ≡ None → pair_at buffers bytes ≡ None
            unfolding pair_at
            pair_no_residue e = rw (is_left, is_right, is_place, is_buffer, is_load, e) refl

            module _ (residue : ℕ) (six : List ℕ) (is_residue : labelled_at (codes " residue ") 16 five ≡ Some (residue, six)) where
              pub pair_no_tail : tail_at false six ≡ None → pair_at buffers bytes ≡ None
              unfolding pair_at
              pair_no_tail e = rw (is_left, is_right, is_place, is_buffer, is_load, is_residue, e) refl

              pub pair_there : (tail : Tail) (rest : List ℕ) (node : ReportNode) → tail_at false six ≡ Some (seen_tail tail, rest)
                  → node ≡ record { kind = Pair left right buffer residue; place = place; load = load; delay = tail.delay; slew = tail.slew; wire = tail.wire; corners = tail.corners }
                  → pair_at buffers bytes ≡ Some (seen_node node, rest)
              unfolding pair_at
              pair_there tail rest node e is =
                  rw (is, is_left, is_right, is_place, is_buffer, is_load, is_residue, e, untold six tail rest e) refl

-- the count of the nodes
is_count : ℕ → Bool
is_count count = leb count 131071 && eqb (count % 2) 1

count_high : (value : ℕ) → 131071 < value → is_count value ≡ false
unfolding is_count
count_high value high = elim (leb_tells value 131071) [ inl p ↦ absurd (omega (arith, p.1, high)) | inr p ↦ rw p.0 refl ]

count_even : (value : ℕ) → value % 2 ≡ 0 → is_count value ≡ false
unfolding is_count
count_even value even = elim (leb_tells value 131071) [ inl p ↦ rw (p.0, even) refl | inr p ↦ rw p.0 refl ]

count_good : (value : ℕ) → value ≤ 131071 → value % 2 ≡ 1 → is_count value ≡ true
unfolding is_count
count_good value few odd = elim (leb_tells value 131071) [ inl p ↦ rw (p.0, odd) refl | inr p ↦ absurd (omega (arith, p.1, few)) ]

module _ (bytes : List ℕ) where
  pub count_unlabelled : labelled_at (codes "nodes ") 0 bytes ≡ None → count_at bytes ≡ None
  unfolding count_at
  count_unlabelled e = rw e refl

  module _ (value : ℕ) (one : List ℕ) (is_value : labelled_at (codes "nodes ") 0 bytes ≡ Some (value, one)) where
    count_refused : is_count value ≡ false → count_at bytes ≡ None
    unfolding count_at is_count
    count_refused e = rw (is_value, e) refl

    pub count_too_high : 131071 < value → count_at bytes ≡ None
    count_too_high high = count_refused (count_high value high)

    pub count_is_even : value % 2 ≡ 0 → count_at bytes ≡ None
    count_is_even even = count_refused (count_even value even)

    pub count_goes_on : value ≤ 131071 → value % 2 ≡ 1 → word_at (codes "\n") one ≡ None → count_at bytes ≡ None
    unfolding count_at is_count
    count_goes_on few odd e = rw (is_value, count_good value few odd, e) refl

    pub count_ends : (rest : List ℕ) → value ≤ 131071 → value % 2 ≡ 1 → word_at (codes "\n") one ≡ Some (tt, rest) → count_at bytes ≡ Some (value, rest)
    unfolding count_at is_count
    count_ends rest few odd e = rw (is_value, count_good value few odd, e) refl
