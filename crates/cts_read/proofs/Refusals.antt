-- The line that is refused is one of those that are left, or the missing one: what holds of the numbers of them all holds of
-- its number.
use Rattle.std.proofs.Common.{◌≡◌, ℕ, ◌+◌, ◌<◌, ◌≤◌, zero, suc, Bool, true, false, List, [], ◌∷◌, ◌++◌, length, Result, Ok, Err, subst, arith, cond}
use Rattle.cts_io.specs.Lines.{lines_of}
use Rattle.cts_instance.specs.declared.parts.Parts.{Parts}
use Rattle.cts_read.specs.declared.read.Head.{Head}
use Rattle.cts_read.specs.declared.stop.Cause.{Cause}
use Rattle.cts_read.specs.Lines.{is_skipped}
use Rattle.cts_read.specs.Grammar.{◌>>=◌, Left, Refusal, at_line, content, item_at, left_of, line_at}
use Rattle.cts_read.specs.Header.{die_of, limits_of, source_of, version_of, wire_of}
use Rattle.cts_read.specs.Items.{block_count_of, block_of, buffer_count_of, buffer_of, end_of, list_at, sink_count_of, sink_of}
use Rattle.cts_read.specs.Whole.{end_at, head_at, instance_at, instance_of, lists_at}

module _ (P : ℕ → Type 0) where
  abbrev pub AreAll : List (ℕ × List ℕ) → Type 0
  AreAll [] = Unit {0}
  AreAll (l ∷ ls) = P l.0 × AreAll ls

  -- the numbers of the lines that are left, and of the missing one
  pub record IsLeftAll (left : Left) : Type 0 where
    pub lines : AreAll left.lines
    pub missing : P left.missing

  -- what was read leaves such lines, or is refused at one of them
  abbrev pub ReadsAll : {A : Type 0} → Result (A × Left) Refusal → Type 0
  ReadsAll (Ok x) = IsLeftAll x.1
  ReadsAll (Err refusal) = P refusal.0

  pub bind_all : {A B : Type 0} (read : Result (A × Left) Refusal) (next : A × Left → Result (B × Left) Refusal) → ReadsAll read
      → ((x : A × Left) → IsLeftAll x.1 → ReadsAll (next x)) → ReadsAll (read >>= next)
  bind_all (Ok x) next all further = further x all
  bind_all (Err refusal) next all further = all

  one_all : {A B : Type 0} (number : ℕ) (found : Result A Cause) (item : A → B) (left : Left) → P number → IsLeftAll left
      → ReadsAll (at_line number found >>= λ x. Ok (item x, left))
  one_all number (Ok x) item left here all = all
  one_all number (Err cause) item left here all = here

  line_all : {A : Type 0} (read : List ℕ → Result A Cause) (lines : List (ℕ × List ℕ)) (missing : ℕ)
      → IsLeftAll (record { lines = lines; missing = missing }) → ReadsAll (item_at read (record { lines = lines; missing = missing }))
  unfolding item_at line_at
  line_all read [] missing all = all.missing
  line_all read (l ∷ ls) missing all =
      one_all l.0 (read l.1) (λ x. x) (record { lines = ls; missing = missing }) all.lines.0 (record { lines = all.lines.1; missing = all.missing })

  pub item_all : {A : Type 0} (read : List ℕ → Result A Cause) (left : Left) → IsLeftAll left → ReadsAll (item_at read left)
  item_all read left all = line_all read left.lines left.missing all

  pub list_all : {A : Type 0} (read : List A → List ℕ → Result A Cause) (count : ℕ) (before : List A) (left : Left) → IsLeftAll left
      → ReadsAll (list_at read count before left)
  unfolding list_at
  list_all read zero before left all = all
  list_all read (suc count) before left all =
      bind_all (item_at (read before) left) _ (item_all (read before) left all) (λ x a. list_all read count (before ++ x.0 ∷ []) x.1 a)

  end_line_all : (lines : List (ℕ × List ℕ)) (missing : ℕ) → IsLeftAll (record { lines = lines; missing = missing })
      → ReadsAll (end_at (record { lines = lines; missing = missing }))
  unfolding end_at line_at
  end_line_all [] missing all = all.missing
  end_line_all (l ∷ ls) missing all =
      one_all l.0 (end_of l.1) (λ _. l.0) (record { lines = ls; missing = missing }) all.lines.0 (record { lines = all.lines.1; missing = all.missing })

  pub end_all : (left : Left) → IsLeftAll left → ReadsAll (end_at left)
  end_all left all = end_line_all left.lines left.missing all

  pub head_all : (left : Left) → IsLeftAll left → ReadsAll (head_at left)
  unfolding head_at
  head_all left all =
      bind_all (item_at version_of left) _ (item_all version_of left all) (λ version v.
      bind_all (item_at die_of version.1) _ (item_all die_of version.1 v) (λ die d.
      bind_all (item_at (source_of die.0) die.1) _ (item_all (source_of die.0) die.1 d) (λ source s.
      bind_all (item_at wire_of source.1) _ (item_all wire_of source.1 s) (λ wire w.
      bind_all (item_at limits_of wire.1) _ (item_all limits_of wire.1 w) (λ limits l. l)))))

  pub lists_all : (head : Head) (left : Left) → IsLeftAll left → ReadsAll (lists_at head left)
  unfolding lists_at
  lists_all head left all =
      bind_all (item_at buffer_count_of left) _ (item_all buffer_count_of left all) (λ buffer_count a.
      bind_all (list_at buffer_of buffer_count.0 [] buffer_count.1) _ (list_all buffer_of buffer_count.0 [] buffer_count.1 a) (λ buffers b.
      bind_all (item_at sink_count_of buffers.1) _ (item_all sink_count_of buffers.1 b) (λ sink_count d.
      bind_all (list_at (sink_of head.version head.die) sink_count.0 [] sink_count.1) _ (list_all (sink_of head.version head.die) sink_count.0 [] sink_count.1 d) (λ sinks e.
      bind_all (item_at block_count_of sinks.1) _ (item_all block_count_of sinks.1 e) (λ block_count f.
      bind_all (list_at (block_of head.die head.source.x head.source.y sinks.0) block_count.0 [] block_count.1) _
      (list_all (block_of head.die head.source.x head.source.y sinks.0) block_count.0 [] block_count.1 f) (λ blocks g. g))))))

  pub instance_all : (left : Left) → IsLeftAll left → ReadsAll (instance_at left)
  unfolding instance_at
  instance_all left all =
      bind_all (head_at left) _ (head_all left all) (λ head h.
      bind_all (lists_at head.0 head.1) _ (lists_all head.0 head.1 h) (λ lists l.
      bind_all (end_at lists.1) _ (end_all lists.1 l) (λ end e. e)))

-- a line's number is above 0 and at most this
abbrev IsWithin : ℕ → ℕ → Type 0
IsWithin last line = (0 < line) × (line ≤ last)

content_within : (last line : ℕ) (lines : List (List ℕ)) → line + length lines ≤ last → AreAll (IsWithin last) (content line lines)
unfolding content
content_within last line [] fits = tt
content_within last line (l ∷ ls) fits = by_skipped (content_within last (line + 1) ls (omega (arith, fits))) (is_skipped l)
  where
    by_skipped : AreAll (IsWithin last) (content (line + 1) ls) → (skipped : Bool)
        → AreAll (IsWithin last) (cond skipped (content (line + 1) ls) ((line + 1, l) ∷ content (line + 1) ls))
    by_skipped rest true = rest
    by_skipped rest false = ((omega arith, omega (arith, fits)), rest)

pub refused_within : (text : List ℕ) (line : ℕ) (cause : Cause) → instance_of text ≡ Err (line, cause) → (0 < line) × (line ≤ length (lines_of text) + 1)
unfolding instance_of left_of
refused_within text line cause e =
    let last : ℕ = length (lines_of text) + 1 in
    let read : ReadsAll (IsWithin last) (instance_of text) =
    instance_all (IsWithin last) _ (record { lines = content_within last 0 (lines_of text) (omega arith); missing = (omega arith, omega arith) }) in
    let Q : Result ((Parts × ℕ) × Left) Refusal → Type 0 = ReadsAll (IsWithin last) in
    subst Q e read
