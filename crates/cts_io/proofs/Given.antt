-- How a text goes through a buffer to a sink, piece by piece.
use Rattle.std.proofs.Common.{◌≡◌, ℕ, ◌+◌, ◌-◌, ◌^◌, ◌<◌, ◌≤◌, min, Bool, true, false, List, [], ◌++◌, length, take, drop, Option, Result, Ok, Err, refl, sym, ap, ◌∙◌, subst, append_assoc, append-nil, length-append, arith}
use Rattle.std.proofs.lemmas.List.{take-append-drop, length-take}
use Rattle.std.proofs.Math.Seq.{take-append_seam}
use Rattle.std.specs.Io.KnownBytes.{Appends}
use Rattle.std.proofs.KnownBytes.{Appends-trans, Appends-nil}
use Rattle.cts_io.specs.Faults.{Rose}
use Rattle.cts_io.specs.Pending.{Pending, fresh}
use Rattle.cts_io.specs.Text.{IsCut, Writes, IsGiven, Puts, Finishes}
use Rattle.cts_io.specs.declared.device.ByteSink.{Ghosts}
use Rattle.cts_io.specs.declared.write.WriteEnd.{WriteEnd}
use Rattle.cts_io.specs.declared.write.WriteEnd.TheVariants.{WriteFault}
use Rattle.cts_io.proofs.Rises.{rose_later}

-- a count of bytes that stands still goes on
told_more : (a b n m : ℕ) → n ≡ min a (2 ^ 64 - 1) → m ≡ min (n + b) (2 ^ 64 - 1) → m ≡ min (a + b) (2 ^ 64 - 1)
told_more a b n m p q = omega arith

module _ {S : Type 0} (sink : Ghosts S) where
  -- nothing was given at the start
  pub given_none : (s : S) → IsGiven sink s [] (s, fresh)
  given_none s = record {
    front = [];
    rest = [];
    whole = refl;
    taken = Appends-nil (sink.held s);
    told = refl;
    waits = λ _. refl;
    rose = λ h. cc;
    counted = omega arith;
  }

  -- what waits grows by a piece
  given_kept : (start : S) (text : List ℕ) (s : S) (b b' : Pending) (piece : List ℕ) → b' ≡ record b { waiting = b.waiting ++ piece }
      → IsGiven sink start text (s, b) → IsGiven sink start (text ++ piece) (s, b')
  given_kept start text s b b' piece e g = record {
    front = g.front;
    rest = g.rest ++ piece;
    whole = ap (λ t. t ++ piece) g.whole ∙ append_assoc g.front g.rest piece;
    taken = g.taken;
    told = rw e g.told;
    waits = λ h. rw e (ap (λ t. t ++ piece) (g.waits cc));
    rose = λ h. g.rose cc;
    counted = g.counted;
  }

  pub puts_kept : (s : S) (b b' : Pending) (piece : List ℕ) → b' ≡ record b { waiting = b.waiting ++ piece } → Puts sink (s, b) (s, b') piece
  puts_kept s b b' piece e = record { extends = λ start text g. given_kept start text s b b' piece e g }

  -- one piece after the other
  pub puts_then : (s t u : S × Pending) (x y : List ℕ) → Puts sink s t x → Puts sink t u y → Puts sink s u (x ++ y)
  puts_then s t u x y p q = record {
    extends = λ start text g. subst (λ l. IsGiven sink start l u) (append_assoc text x y) (q.extends start (text ++ x) (p.extends start text g));
  }

  -- the sink took all that waited
  given_sent : (start : S) (text : List ℕ) (s t : S) (waiting : List ℕ) (n m : ℕ) → Appends (sink.held s) (sink.held t) waiting → sink.faults s ≤ sink.faults t → m ≡ min (n + length waiting) (2 ^ 64 - 1)
      → IsGiven sink start text (s, record { waiting = waiting; written = n; failed = false })
      → IsGiven sink start (text ++ []) (t, record { waiting = []; written = m; failed = false })
  given_sent start text s t waiting n m p k e g =
      let rest : g.rest ≡ waiting = g.waits refl in
      record {
        front = g.front ++ waiting;
        rest = [];
        whole = ap (λ l. l ++ []) (g.whole ∙ ap (λ l. g.front ++ l) rest);
        taken = Appends-trans (sink.held start) (sink.held s) (sink.held t) g.front waiting g.taken p;
        told = rw length-append (told_more (length g.front) (length waiting) n m g.told e);
        waits = λ _. refl;
        rose = λ h. cc;
        counted = omega (arith, g.counted);
      }

  pub puts_sent : (s t : S) (waiting : List ℕ) (n m : ℕ) → Appends (sink.held s) (sink.held t) waiting → sink.faults s ≤ sink.faults t → m ≡ min (n + length waiting) (2 ^ 64 - 1)
      → Puts sink (s, record { waiting = waiting; written = n; failed = false }) (t, record { waiting = []; written = m; failed = false }) []
  puts_sent s t waiting n m p k e = record { extends = λ start text g. given_sent start text s t waiting n m p k e g }

  -- the sink took a front of what waited, and failed
  given_failed : (start : S) (text : List ℕ) (s t : S) (waiting : List ℕ) (i n m : ℕ) → i ≤ length waiting → Appends (sink.held s) (sink.held t) (take i waiting) → Rose (sink.faults s) (sink.faults t) → sink.faults s ≤ sink.faults t
      → m ≡ min (n + i) (2 ^ 64 - 1)
      → IsGiven sink start text (s, record { waiting = waiting; written = n; failed = false })
      → IsGiven sink start (text ++ []) (t, record { waiting = []; written = m; failed = true })
  given_failed start text s t waiting i n m l p r k e g =
      let rest : g.rest ≡ waiting = g.waits refl in
      record {
        front = g.front ++ take i waiting;
        rest = drop i waiting;
        whole = append-nil text ∙ g.whole ∙ ap (λ l. g.front ++ l) (rest ∙ sym (take-append-drop i waiting)) ∙ sym (append_assoc g.front (take i waiting) (drop i waiting));
        taken = Appends-trans (sink.held start) (sink.held s) (sink.held t) g.front (take i waiting) g.taken p;
        told = rw (length-append, length-take) (told_more (length g.front) _ n m g.told (rw e (ap (λ j. min (n + j) (2 ^ 64 - 1)) (omega arith))));
        waits = λ h. cc;
        rose = λ _. rose_later (sink.faults start) (sink.faults s) (sink.faults t) g.counted r;
        counted = omega (arith, g.counted);
      }

  pub puts_failed : (s t : S) (waiting : List ℕ) (i n m : ℕ) → i ≤ length waiting → Appends (sink.held s) (sink.held t) (take i waiting) → Rose (sink.faults s) (sink.faults t) → sink.faults s ≤ sink.faults t → m ≡ min (n + i) (2 ^ 64 - 1)
      → Puts sink (s, record { waiting = waiting; written = n; failed = false }) (t, record { waiting = []; written = m; failed = true }) []
  puts_failed s t waiting i n m l p r k e = record { extends = λ start text g. given_failed start text s t waiting i n m l p r k e g }

  -- the sink failed before
  pub puts_lost : (s : S) (waiting : List ℕ) (n : ℕ)
      → Puts sink (s, record { waiting = waiting; written = n; failed = true }) (s, record { waiting = []; written = n; failed = true }) []
  puts_lost s waiting n = record {
    extends = λ start text g. record {
      front = g.front;
      rest = g.rest;
      whole = append-nil text ∙ g.whole;
      taken = g.taken;
      told = g.told;
      waits = λ h. cc;
      rose = λ _. g.rose refl;
      counted = g.counted;
    };
  }

  -- the end of a text that went well
  writes_all : (start : S) (text : List ℕ) (now : S × Pending) → now.1.failed ≡ false → now.1.waiting ≡ [] → IsGiven sink start text now
      → Writes sink.held sink.faults start now.0 text (Ok tt)
  writes_all start text now f w g =
      let rest : g.rest ≡ [] = g.waits f ∙ w in
      let front : text ≡ g.front = g.whole ∙ ap (λ l. g.front ++ l) rest ∙ append-nil g.front in
      record {
        ok = rw front g.taken;
        cut = tt;
        write_fault = tt;
        counted = g.counted;
      }

  -- the end of a text at which the sink failed
  writes_part : (start : S) (text : List ℕ) (now : S × Pending) → now.1.failed ≡ true → IsGiven sink start text now
      → Writes sink.held sink.faults start now.0 text (Err (WriteFault now.1.written))
  writes_part start text now f g =
      record {
        ok = tt;
        cut = record {
          count = length g.front;
          within = rw (g.whole, length-append) (omega arith);
          told = g.told;
          taken = rw (g.whole, take-append_seam) g.taken;
        };
        write_fault = g.rose f;
        counted = g.counted;
      }

  pub finishes_all : (old new : S × Pending) → Puts sink old new [] → new.1.waiting ≡ [] → new.1.failed ≡ false → Finishes sink old new.0 (Ok tt)
  finishes_all old new p w f = record {
    ends = λ start text g.
        subst (λ l. Writes sink.held sink.faults start new.0 l (Ok tt)) (append-nil text) (writes_all start (text ++ []) new f w (p.extends start text g));
  }

  pub finishes_part : (old new : S × Pending) (n : ℕ) → Puts sink old new [] → new.1.failed ≡ true → n ≡ new.1.written → Finishes sink old new.0 (Err (WriteFault n))
  finishes_part old new n p f e = record {
    ends = λ start text g.
        rw e (subst (λ l. Writes sink.held sink.faults start new.0 l (Err (WriteFault new.1.written))) (append-nil text) (writes_part start (text ++ []) new f (p.extends start text g)));
  }

  -- a whole text: what was put into a fresh buffer, and its end
  pub finished : (s : S) (b : Pending) (t : S × Pending) (u : S) (text : List ℕ) (result : Result Unit WriteEnd) → Puts sink (s, b) t text → b ≡ fresh → Finishes sink t u result
      → Writes sink.held sink.faults s u text result
  finished s b t u text result p e q =
      q.ends s text (p.extends s [] (subst (λ c. IsGiven sink s [] (s, c)) (sym e) (given_none s)))

  -- a long piece that went to the sink at once
  pub puts_passed : (s t : S) (b c : Pending) (piece : List ℕ) (m : ℕ) (f : Bool) → b.waiting ≡ []
      → Puts sink (s, record { waiting = piece; written = b.written; failed = b.failed }) (t, record { waiting = []; written = m; failed = f }) []
      → c ≡ record { waiting = []; written = m; failed = f } → Puts sink (s, b) (t, c) piece
  puts_passed s t b c piece m f w p e =
      let kept : record { waiting = piece; written = b.written; failed = b.failed } ≡ record b { waiting = b.waiting ++ piece } = rw w refl in
      let both = puts_then (s, b) (s, record { waiting = piece; written = b.written; failed = b.failed }) (t, record { waiting = []; written = m; failed = f }) piece [] (puts_kept s b _ piece kept) p in
      rw e (subst (Puts sink (s, b) (t, record { waiting = []; written = m; failed = f })) (append-nil piece) both)

-- a text of less than 2^64 bytes that was cut: the sink took exactly the first `written` bytes of it
pub cut_exact : (old new : Option (List ℕ)) (text : List ℕ) (written : ℕ) → length text < 2 ^ 64 → IsCut old new text written → (written ≤ length text) × Appends old new (take written text)
cut_exact old new text written l h =
    let same : written ≡ h.count = omega (arith, h.within, h.told) in
    (omega (arith, h.within), rw same h.taken)

-- the other way round
pub cut_at : (old new : Option (List ℕ)) (text : List ℕ) (written : ℕ) → written ≤ length text → length text < 2 ^ 64 → Appends old new (take written text) → IsCut old new text written
cut_at old new text written w l p = record { count = written; within = w; told = omega arith; taken = p }
