-- Two texts with the same first lines: what is refused at one of these lines in one text is so in the other.
use Rattle.std.proofs.Common.{◌≡◌, ℕ, ◌+◌, ◌<◌, ◌≤◌, ◌⊎◌, inl, inr, zero, suc, Bool, true, false, cond, List, [], ◌∷◌, ◌++◌, length, take, Result, Ok, Err, refl, ap, ◌∙◌, arith}
use Rattle.cts_io.specs.Lines.{lines_of}
use Rattle.cts_instance.specs.declared.parts.Parts.{Parts}
use Rattle.cts_geom.specs.declared.bounds.Die.{Die}
use Rattle.cts_units.specs.declared.params.Wire.{Wire}
use Rattle.cts_units.specs.declared.params.Buffer.{Buffer}
use Rattle.cts_units.specs.declared.params.Sink.{Sink}
use Rattle.cts_instance.specs.declared.version.Version.{Version}
use Rattle.cts_read.specs.declared.header.Source.{Source}
use Rattle.cts_read.specs.declared.read.Head.{Head}
use Rattle.cts_read.specs.declared.read.Lists.{Lists}
use Rattle.cts_read.specs.declared.stop.Cause.{Cause}
use Rattle.cts_read.specs.Lines.{is_skipped}
use Rattle.cts_read.specs.Grammar.{◌>>=◌, Left, Refusal, at_line, content, item_at, left_of, line_at}
use Rattle.cts_read.specs.Header.{die_of, limits_of, source_of, version_of, wire_of}
use Rattle.cts_read.specs.Items.{block_count_of, block_of, buffer_count_of, buffer_of, end_of, list_at, sink_count_of, sink_of}
use Rattle.cts_read.specs.Whole.{end_at, head_at, instance_at, instance_of, lists_at, parts_of}
use Rattle.cts_read.proofs.Refusals.{AreAll, IsLeftAll, ReadsAll, bind_all, end_all, item_all, list_all}

module _ (last : ℕ) where
  abbrev IsLate : ℕ → Type 0
  IsLate line = last < line

  -- the lines up to the last one are the same
  abbrev SameTo : List (ℕ × List ℕ) → List (ℕ × List ℕ) → Type 0
  SameTo [] others = Unit {0}
  SameTo (l ∷ ls) [] = AreAll IsLate (l ∷ ls)
  SameTo (l ∷ ls) (o ∷ os) = ((l ≡ o) × SameTo ls os) ⊎ AreAll IsLate (l ∷ ls)

  record AgreeTo (left other : Left) : Type 0 where
    same : SameTo left.lines other.lines
    missing : IsLate left.missing

  -- what is read of the lines up to the last one is the same
  abbrev GoesBy : {A : Type 0} → Result (A × Left) Refusal → Result (A × Left) Refusal → Type 0
  GoesBy (Ok x) read = ((left : Left) × (read ≡ Ok (x.0, left)) × AgreeTo x.1 left) ⊎ IsLeftAll IsLate x.1
  GoesBy (Err refusal) read = (read ≡ Err refusal) ⊎ IsLate refusal.0

  late_by : {A : Type 0} (read other : Result (A × Left) Refusal) → ReadsAll IsLate read → GoesBy read other
  late_by (Ok x) other late = inr late
  late_by (Err refusal) other late = inr late

  bind_by : {A B : Type 0} (read other : Result (A × Left) Refusal) (next : A × Left → Result (B × Left) Refusal) → GoesBy read other
      → ((x : A) (left left' : Left) → AgreeTo left left' → GoesBy (next (x, left)) (next (x, left')))
      → ((x : A × Left) → IsLeftAll IsLate x.1 → ReadsAll IsLate (next x)) → GoesBy (read >>= next) (other >>= next)
  bind_by (Ok x) other next (inl same) further late =
      rw same.1 (further x.0 x.1 same.0 same.2)
  bind_by (Ok x) other next (inr all) further late = late_by (next x) (other >>= next) (late x all)
  bind_by (Err refusal) other next (inl same) further late = rw same (inl refl)
  bind_by (Err refusal) other next (inr past) further late = inr past

  one_by : {A B : Type 0} (number : ℕ) (found : Result A Cause) (item : A → B) (left other : Left) → AgreeTo left other
      → GoesBy (at_line number found >>= λ x. Ok (item x, left)) (at_line number found >>= λ x. Ok (item x, other))
  one_by number (Ok x) item left other agree = inl (other, refl, agree)
  one_by number (Err cause) item left other agree = inl refl

  line_by : {A : Type 0} (read : List ℕ → Result A Cause) (lines lines' : List (ℕ × List ℕ)) (missing missing' : ℕ) → SameTo lines lines' → IsLate missing
      → GoesBy (item_at read (record { lines = lines; missing = missing })) (item_at read (record { lines = lines'; missing = missing' }))
  unfolding item_at line_at
  line_by read [] others missing missing' same late = inr late
  line_by read (l ∷ ls) [] missing missing' same late =
      late_by (item_at read (record { lines = l ∷ ls; missing = missing })) _
      (item_all IsLate read (record { lines = l ∷ ls; missing = missing }) (record { lines = same; missing = late }))
  line_by read (l ∷ ls) (o ∷ os) missing missing' (inl same) late =
      rw (← same.0)
      (one_by l.0 (read l.1) (λ x. x) (record { lines = ls; missing = missing }) (record { lines = os; missing = missing' }) (record { same = same.1; missing = late }))
  line_by read (l ∷ ls) (o ∷ os) missing missing' (inr all) late =
      late_by (item_at read (record { lines = l ∷ ls; missing = missing })) _
      (item_all IsLate read (record { lines = l ∷ ls; missing = missing }) (record { lines = all; missing = late }))

  item_by : {A : Type 0} (read : List ℕ → Result A Cause) (left other : Left) → AgreeTo left other → GoesBy (item_at read left) (item_at read other)
  item_by read left other agree = line_by read left.lines other.lines left.missing other.missing agree.same agree.missing

  list_by : {A : Type 0} (read : List A → List ℕ → Result A Cause) (count : ℕ) (before : List A) (left other : Left) → AgreeTo left other
      → GoesBy (list_at read count before left) (list_at read count before other)
  unfolding list_at
  list_by read zero before left other agree = inl (other, refl, agree)
  list_by read (suc count) before left other agree =
      bind_by (item_at (read before) left) (item_at (read before) other) (λ x. list_at read count (before ++ x.0 ∷ []) x.1) (item_by (read before) left other agree)
      (λ x l o a. list_by read count (before ++ x ∷ []) l o a) (λ x late. list_all IsLate read count (before ++ x.0 ∷ []) x.1 late)

  end_line_by : (lines lines' : List (ℕ × List ℕ)) (missing missing' : ℕ) → SameTo lines lines' → IsLate missing
      → GoesBy (end_at (record { lines = lines; missing = missing })) (end_at (record { lines = lines'; missing = missing' }))
  unfolding end_at line_at
  end_line_by [] others missing missing' same late = inr late
  end_line_by (l ∷ ls) [] missing missing' same late =
      late_by (end_at (record { lines = l ∷ ls; missing = missing })) _
      (end_all IsLate (record { lines = l ∷ ls; missing = missing }) (record { lines = same; missing = late }))
  end_line_by (l ∷ ls) (o ∷ os) missing missing' (inl same) late =
      rw (← same.0)
      (one_by l.0 (end_of l.1) (λ _. l.0) (record { lines = ls; missing = missing }) (record { lines = os; missing = missing' }) (record { same = same.1; missing = late }))
  end_line_by (l ∷ ls) (o ∷ os) missing missing' (inr all) late =
      late_by (end_at (record { lines = l ∷ ls; missing = missing })) _
      (end_all IsLate (record { lines = l ∷ ls; missing = missing }) (record { lines = all; missing = late }))

  end_by : (left other : Left) → AgreeTo left other → GoesBy (end_at left) (end_at other)
  end_by left other agree = end_line_by left.lines other.lines left.missing other.missing agree.same agree.missing

  late_same : (lines others : List (ℕ × List ℕ)) → AreAll IsLate lines → SameTo lines others
  late_same [] others all = tt
  late_same (l ∷ ls) [] all = all
  late_same (l ∷ ls) (o ∷ os) all = inr all

  content_late : (line : ℕ) (lines : List (List ℕ)) → last ≤ line → AreAll IsLate (content line lines)
  unfolding content
  content_late line [] past = tt
  content_late line (l ∷ ls) past = by_skipped (content_late (line + 1) ls (omega (arith, past))) (is_skipped l)
    where
      by_skipped : AreAll IsLate (content (line + 1) ls) → (skipped : Bool)
          → AreAll IsLate (cond skipped (content (line + 1) ls) ((line + 1, l) ∷ content (line + 1) ls))
      by_skipped rest true = rest
      by_skipped rest false = (omega (arith, past), rest)

  -- so much is the same of what a reader gives, and past the last line it stays past it
  record IsReader {A : Type 0} (read : Left → Result (A × Left) Refusal) : Type 0 where
    goes_by : (left other : Left) → AgreeTo left other → GoesBy (read left) (read other)
    late : (left : Left) → IsLeftAll IsLate left → ReadsAll IsLate (read left)

  then : {A B : Type 0} (read : Left → Result (A × Left) Refusal) (next : A → Left → Result (B × Left) Refusal) → IsReader read
      → ((x : A) → IsReader (next x)) → IsReader (λ left. read left >>= λ x. next x.0 x.1)
  then read next first further = record {
    goes_by = λ left other agree. bind_by (read left) (read other) (λ x. next x.0 x.1) (first.goes_by left other agree)
        (λ x l o a. (further x).goes_by l o a) (λ x late. (further x.0).late x.1 late);
    late = λ left late. bind_all IsLate (read left) (λ x. next x.0 x.1) (first.late left late) (λ x l. (further x.0).late x.1 l);
  }

  done : {A : Type 0} (x : A) → IsReader (λ left. Ok (x, left))
  done x = record { goes_by = λ left other agree. inl (other, refl, agree); late = λ left late. late }

  item_reader : {A : Type 0} (read : List ℕ → Result A Cause) → IsReader (item_at read)
  item_reader read = record { goes_by = item_by read; late = item_all IsLate read }

  list_reader : {A : Type 0} (read : List A → List ℕ → Result A Cause) (count : ℕ) (before : List A) → IsReader (list_at read count before)
  list_reader read count before = record { goes_by = list_by read count before; late = list_all IsLate read count before }

  end_reader : IsReader end_at
  end_reader = record { goes_by = end_by; late = end_all IsLate }

  abbrev with_limits : Version → Die → Source → Wire → Left → Result (Head × Left) Refusal
  with_limits version die source wire left = item_at limits_of left >>= λ x. Ok (record { version = version; die = die; source = source; wire = wire; limits = x.0 }, x.1)

  abbrev with_wire : Version → Die → Source → Left → Result (Head × Left) Refusal
  with_wire version die source left = item_at wire_of left >>= λ x. with_limits version die source x.0 x.1

  abbrev with_source : Version → Die → Left → Result (Head × Left) Refusal
  with_source version die left = item_at (source_of die) left >>= λ x. with_wire version die x.0 x.1

  abbrev with_die : Version → Left → Result (Head × Left) Refusal
  with_die version left = item_at die_of left >>= λ x. with_source version x.0 x.1

  head_reader : IsReader head_at
  unfolding head_at
  head_reader =
      then (item_at version_of) with_die (item_reader version_of) (λ version.
      then (item_at die_of) (with_source version) (item_reader die_of) (λ die.
      then (item_at (source_of die)) (with_wire version die) (item_reader (source_of die)) (λ source.
      then (item_at wire_of) (with_limits version die source) (item_reader wire_of) (λ wire.
      then (item_at limits_of) (λ limits left. Ok (record { version = version; die = die; source = source; wire = wire; limits = limits }, left))
      (item_reader limits_of) (λ limits. done _)))))

  abbrev with_blocks : Head → List Buffer → List Sink → ℕ → Left → Result (Lists × Left) Refusal
  with_blocks head buffers sinks count left =
      list_at (block_of head.die head.source.x head.source.y sinks) count [] left >>= λ x.
      Ok (record { buffers = buffers; sinks = sinks; blocks = x.0 }, x.1)

  abbrev with_block_count : Head → List Buffer → List Sink → Left → Result (Lists × Left) Refusal
  with_block_count head buffers sinks left = item_at block_count_of left >>= λ x. with_blocks head buffers sinks x.0 x.1

  abbrev with_sinks : Head → List Buffer → ℕ → Left → Result (Lists × Left) Refusal
  with_sinks head buffers count left = list_at (sink_of head.version head.die) count [] left >>= λ x. with_block_count head buffers x.0 x.1

  abbrev with_sink_count : Head → List Buffer → Left → Result (Lists × Left) Refusal
  with_sink_count head buffers left = item_at sink_count_of left >>= λ x. with_sinks head buffers x.0 x.1

  abbrev with_buffers : Head → ℕ → Left → Result (Lists × Left) Refusal
  with_buffers head count left = list_at buffer_of count [] left >>= λ x. with_sink_count head x.0 x.1

  lists_reader : (head : Head) → IsReader (lists_at head)
  unfolding lists_at
  lists_reader head =
      then (item_at buffer_count_of) (with_buffers head) (item_reader buffer_count_of) (λ buffer_count.
      then (list_at buffer_of buffer_count []) (with_sink_count head) (list_reader buffer_of buffer_count []) (λ buffers.
      then (item_at sink_count_of) (with_sinks head buffers) (item_reader sink_count_of) (λ sink_count.
      then (list_at (sink_of head.version head.die) sink_count []) (with_block_count head buffers) (list_reader (sink_of head.version head.die) sink_count []) (λ sinks.
      then (item_at block_count_of) (with_blocks head buffers sinks) (item_reader block_count_of) (λ block_count.
      then (list_at (block_of head.die head.source.x head.source.y sinks) block_count [])
      (λ blocks left. Ok (record { buffers = buffers; sinks = sinks; blocks = blocks }, left))
      (list_reader (block_of head.die head.source.x head.source.y sinks) block_count []) (λ blocks. done _))))))

  abbrev with_end : Head → Lists → Left → Result ((Parts × ℕ) × Left) Refusal
  with_end head lists left = end_at left >>= λ x. Ok ((parts_of head lists, x.0), x.1)

  abbrev with_lists : Head → Left → Result ((Parts × ℕ) × Left) Refusal
  with_lists head left = lists_at head left >>= λ x. with_end head x.0 x.1

  instance_reader : IsReader instance_at
  unfolding instance_at
  instance_reader =
      then head_at with_lists head_reader (λ head.
      then (lists_at head) (with_end head) (lists_reader head) (λ lists.
      then end_at (λ line left. Ok ((parts_of head lists, line), left)) end_reader (λ line. done _)))

  same_content : (count line : ℕ) (lines others : List (List ℕ)) → line + count ≡ last → take count lines ≡ take count others
      → count ≤ length others → SameTo (content line lines) (content line others)
  unfolding content
  same_content zero line lines others here same enough = late_same (content line lines) (content line others) (content_late line lines (omega (arith, here)))
  same_content (suc count) line [] others here same enough = tt
  same_content (suc count) line (l ∷ ls) [] here same enough = absurd (omega (arith, enough))
  same_content (suc count) line (l ∷ ls) (o ∷ os) here same enough =
      let first : l ≡ o = cc in
      let rest : take count ls ≡ take count os = cc in
      rw (← first) (by_skipped (same_content count (line + 1) ls os (omega (arith, here)) rest (omega (arith, enough))) (is_skipped l))
    where
      by_skipped : SameTo (content (line + 1) ls) (content (line + 1) os) → (skipped : Bool)
          → SameTo (cond skipped (content (line + 1) ls) ((line + 1, l) ∷ content (line + 1) ls)) (cond skipped (content (line + 1) os) ((line + 1, l) ∷ content (line + 1) os))
      by_skipped further true = further
      by_skipped further false = inl (refl, further)

  -- the answer of a refusal that comes early
  refused_by : (read other : Result ((Parts × ℕ) × Left) Refusal) (line : ℕ) (cause : Cause) → GoesBy read other → read ≡ Err (line, cause) → line ≤ last
      → other ≡ Err (line, cause)
  refused_by (Ok x) other line cause by is early = absurd (let e : Ok x ≡ Err (line, cause) = is in cc)
  refused_by (Err refusal) other line cause (inl same) is early = same ∙ is
  refused_by (Err refusal) other line cause (inr late) is early =
      let same : refusal ≡ (line, cause) = cc in
      let at : refusal.0 ≡ line = ap (λ (r : Refusal). r.0) same in
      absurd (omega (arith, at, late, early))

pub refusal_by_front : (text other : List ℕ) (line : ℕ) (cause : Cause) → line ≤ length (lines_of text) → line ≤ length (lines_of other)
    → take line (lines_of text) ≡ take line (lines_of other) → instance_of text ≡ Err (line, cause) → instance_of other ≡ Err (line, cause)
unfolding instance_of left_of
refusal_by_front text other line cause here there same is =
    refused_by line (instance_of text) (instance_of other) line cause
    ((instance_reader line).goes_by _ _ (record {
      same = same_content line line 0 (lines_of text) (lines_of other) (omega arith) same there;
      missing = omega (arith, here);
    }))
    is (omega arith)
