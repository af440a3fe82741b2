-- Each caller's accepted edits stand once.
use Rattle.std.proofs.Common.{◌≡◌, ◌≢◌, ℕ, zero, suc, ◌+◌, ◌-◌, ◌<◌, ◌≤◌, inl, inr, Bool, true, nat_eq, List, [], ◌∷◌, ◌++◌, length, map, get_or, slice_get, Option, Some, None, All, AllPairs, Contains, refl, sym, ap, ◌∙◌, subst, arith}
use Rattle.std.specs.List.{AllZip, cons_option}
use Rattle.std.proofs.lemmas.Bool.{eq-eqb, eqb-true}
use Rattle.std.proofs.lemmas.List.Elements.{All-append, All-cons, Contains-append_cases}
use Rattle.std.proofs.lemmas.List.{get_or_default}
use Rattle.std.proofs.lemmas.List.Kept.{AllPairs-cons}
use Rattle.std.proofs.lemmas.Option.{get_or_from_slice_get, slice_get-get_or, slice_get_within}
use Rattle.cts_instance.specs.declared.parts.Parts.{Parts}
use Rattle.cts_plain.specs.declared.end.NoTree.{NoTree as Why}
use Rattle.cts_edit.specs.declared.edit.EditCause.{EditCause}
use Rattle.cts_edit.specs.declared.edit.Edit.TheVariants.{Remove}
use Rattle.cts_edit.specs.declared.edit.Entry.{Entry}
use Rattle.cts_edit.specs.declared.reply.EditReply.{EditReply}
use Rattle.cts_edit.specs.declared.reply.EditReply.TheVariants.{Accepted, Refused, NoMemory}
use Rattle.cts_script.specs.declared.script.Act.{Act}
use Rattle.cts_script.specs.declared.script.Act.TheVariants.{Change, Draw}
use Rattle.cts_script.specs.declared.script.ScriptStep.{ScriptStep}
use Rattle.cts_history.specs.declared.reply.Reply.{Reply}
use Rattle.cts_history.specs.declared.reply.Reply.TheVariants.{Edited, Drew, NoTree}
use Rattle.cts_history.specs.Replies.{Answers, IsEntry, IsReply, IsReplyToChange, accepted_version, entry_of, version_made, version_of}
use Rattle.cts_history.specs.Legal.{AreAnswered, Follows, IsAnswered, IsLegal, accepted, all_accepted}
use Rattle.cts_history.specs.Laws.{AcceptedStandOnce, EveryEntryIsAccepted, accepted_edit, accepted_edits, entries_by}
use Rattle.cts_history.proofs.Rising.{every_version, All-rest, AllPairs-rest, AllPairs-first, map_same, picked}

-- the first reply's version stands before those of the others, where it has one
pub accepted-none : (r : Reply) (replies : List Reply) → accepted_version r ≡ None → accepted (r ∷ replies) ≡ accepted replies
accepted-none r replies e = ap (λ o. cons_option o (accepted replies)) e

pub accepted-some : (r : Reply) (replies : List Reply) (v : ℕ) → accepted_version r ≡ Some v → accepted (r ∷ replies) ≡ v ∷ accepted replies
accepted-some r replies v e = ap (λ o. cons_option o (accepted replies)) e

module _ (base : Parts) (history : List Entry) where
  -- a version that an accepted edit made is one of the history
  abbrev pub IsVersion : ℕ → Type 0
  IsVersion v = (0 < v) × (v ≤ length history)

  change_within : (entry : Entry) (reply : EditReply) (v : ℕ) → IsReplyToChange base history entry reply → version_made reply ≡ Some v → IsVersion v
  change_within entry (Accepted w) v is made =
      let same : w ≡ v = cc (made) in
      (omega (arith, same, is.some), omega (arith, same, is.some, slice_get_within history (w - 1) entry is.here))
  change_within entry (Refused cause w) v is made = absurd (cc (made))
  change_within entry NoMemory v is made = absurd is

  reply_within : (caller line : ℕ) (act : Act) (reply : Reply) (v : ℕ) → Answers base history caller line act reply → accepted_version reply ≡ Some v
      → IsVersion v
  unfolding accepted_version
  reply_within caller line (Change edit) (Edited l reply) v is made = change_within (entry_of caller line edit) reply v (is.1) made
  reply_within caller line (Change edit) (Drew l w skew wire) v is made = absurd is
  reply_within caller line (Change edit) (NoTree l w end) v is made = absurd is
  reply_within caller line Draw (Edited l reply) v is made = absurd is
  reply_within caller line Draw (Drew l w skew wire) v is made = absurd (cc (made))
  reply_within caller line Draw (NoTree l w end) v is made = absurd (cc (made))

  accepted_within : (caller : ℕ) (steps : List ScriptStep) (replies : List Reply) → AllZip (IsReply base history caller) steps replies
      → All IsVersion (accepted replies)
  accepted_within caller [] [] all = λ k d h. absurd (omega arith)
  accepted_within caller [] (r ∷ replies) all = absurd all
  accepted_within caller (s ∷ steps) [] all = absurd all
  accepted_within caller (s ∷ steps) (r ∷ replies) all =
      by (accepted_version r) refl (accepted_within caller steps replies (all.1))
    where
      by : (o : Option ℕ) → accepted_version r ≡ o → All IsVersion (accepted replies) → All IsVersion (accepted (r ∷ replies))
      by None e rest = subst (All IsVersion) (sym (accepted-none r replies e)) rest
      by (Some v) e rest =
          subst (All IsVersion) (sym (accepted-some r replies v e))
          (All-cons IsVersion v (accepted replies) (reply_within caller s.line s.act r v (all.0) e) rest)

  pub all_within : (caller : ℕ) (scripts : List (List ScriptStep)) (replies : List (List Reply)) → AreAnswered base history caller scripts replies
      → All IsVersion (all_accepted replies)
  unfolding AreAnswered
  all_within caller [] [] are = λ k d h. absurd (omega arith)
  all_within caller [] (r ∷ replies) are = absurd are
  all_within caller (s ∷ scripts) [] are = absurd are
  all_within caller (s ∷ scripts) (r ∷ replies) are =
      All-append IsVersion (accepted r) (all_accepted replies) (accepted_within caller s r (are.0.each)) (all_within (caller + 1) scripts replies (are.1))

pub every_entry_lem : EveryEntryIsAccepted
every_entry_lem base scripts history replies legal n entry here =
    let versions = all_accepted replies in
    let within = all_within base history 1 scripts replies legal.answered in
    every_version versions (length history) legal.distinct (λ k d h. (within k d h).0) (λ k d h. (within k d h).1) (sym legal.count) n
    (slice_get_within history n entry here)

pub made_some : (l v : ℕ) → accepted_version (Edited l (Accepted v)) ≡ Some v
unfolding accepted_version
made_some l v = refl

pub refused_none : (l : ℕ) (cause : EditCause) (v : ℕ) → accepted_version (Edited l (Refused cause v)) ≡ None
unfolding accepted_version
refused_none l cause v = refl

pub drew_none : (l v skew wire : ℕ) → accepted_version (Drew l v skew wire) ≡ None
unfolding accepted_version
drew_none l v skew wire = refl

pub no_tree_none : (l v : ℕ) (end : Why) → accepted_version (NoTree l v end) ≡ None
unfolding accepted_version
no_tree_none l v end = refl

-- a version that was made is the one that the reply tells
pub made_is_told : (r : Reply) (v : ℕ) → accepted_version r ≡ Some v → version_of r ≡ v
unfolding accepted_version version_of
made_is_told (Edited l (Accepted w)) v e = cc (e)
made_is_told (Edited l (Refused cause w)) v e = absurd (cc (e))
made_is_told (Edited l NoMemory) v e = absurd (cc (e))
made_is_told (Drew l w skew wire) v e = absurd (cc (e))
made_is_told (NoTree l w end) v e = absurd (cc (e))

-- the versions of one caller's accepted edits rise
later_accepted : (bound : ℕ) (replies : List Reply) → All (λ b. (w : ℕ) → accepted_version b ≡ Some w → bound < w) replies
    → All (λ w. bound < w) (accepted replies)
later_accepted bound [] all = λ k d h. absurd (omega arith)
later_accepted bound (r ∷ replies) all = by (accepted_version r) refl (later_accepted bound replies (All-rest (λ b. (w : ℕ) → accepted_version b ≡ Some w → bound < w) r replies all))
  where
    by : (o : Option ℕ) → accepted_version r ≡ o → All (λ w. bound < w) (accepted replies) → All (λ w. bound < w) (accepted (r ∷ replies))
    by None e rest = subst (All (λ w. bound < w)) (sym (accepted-none r replies e)) rest
    by (Some v) e rest =
        subst (All (λ w. bound < w)) (sym (accepted-some r replies v e))
        (All-cons (λ w. bound < w) v (accepted replies) (all 0 r (omega arith) v e) rest)

accepted_rise : (replies : List Reply) → AllPairs Follows replies → AllPairs (λ a b. a < b) (accepted replies)
accepted_rise [] rise = λ i j d lt h. absurd (omega arith)
accepted_rise (r ∷ replies) rise = by (accepted_version r) refl (accepted_rise replies (AllPairs-rest Follows r replies rise))
  where
    by : (o : Option ℕ) → accepted_version r ≡ o → AllPairs (λ a b. a < b) (accepted replies) → AllPairs (λ a b. a < b) (accepted (r ∷ replies))
    by None e rest = subst (AllPairs (λ a b. a < b)) (sym (accepted-none r replies e)) rest
    by (Some v) e rest =
        subst (AllPairs (λ a b. a < b)) (sym (accepted-some r replies v e))
        (AllPairs-cons (λ a b. a < b) v (accepted replies)
        (later_accepted v replies
        (λ k d h w made. subst (λ (x : ℕ). x < w) (made_is_told r v e) ((AllPairs-first Follows r replies rise k d h).accepted_later w made)))
        rest)

module _ (base : Parts) (history : List Entry) (d : Entry) where
  -- the entry of a version
  abbrev pub entry_at : ℕ → Entry
  entry_at v = get_or history (v - 1) d

  change_is : (entry : Entry) (v : ℕ) → IsEntry base history entry v → entry_at v ≡ entry
  change_is entry v is = get_or_from_slice_get history (v - 1) entry d is.here

  -- what one caller's replies say was accepted are the entries of their versions
  reply_edits : (caller line : ℕ) (act : Act) (reply : Reply) (replies : List Reply) → Answers base history caller line act reply
      → accepted_edit caller line act reply ++ map entry_at (accepted replies) ≡ map entry_at (accepted (reply ∷ replies))
  unfolding accepted_edit
  reply_edits caller line (Change edit) (Edited l (Accepted v)) replies is =
      (λ z. sym (change_is (entry_of caller line edit) v (is.1)) z ∷ map entry_at (accepted replies))
      ∙ ap (map entry_at) (sym (accepted-some (Edited l (Accepted v)) replies v (made_some l v)))
  reply_edits caller line (Change edit) (Edited l (Refused cause v)) replies is =
      ap (map entry_at) (sym (accepted-none (Edited l (Refused cause v)) replies (refused_none l cause v)))
  reply_edits caller line (Change edit) (Edited l NoMemory) replies is = absurd (is.1)
  reply_edits caller line (Change edit) (Drew l v skew wire) replies is = absurd is
  reply_edits caller line (Change edit) (NoTree l v end) replies is = absurd is
  reply_edits caller line Draw (Edited l reply) replies is = absurd is
  reply_edits caller line Draw (Drew l v skew wire) replies is = ap (map entry_at) (sym (accepted-none (Drew l v skew wire) replies (drew_none l v skew wire)))
  reply_edits caller line Draw (NoTree l v end) replies is = ap (map entry_at) (sym (accepted-none (NoTree l v end) replies (no_tree_none l v end)))

  script_edits : (caller : ℕ) (steps : List ScriptStep) (replies : List Reply) → AllZip (IsReply base history caller) steps replies
      → accepted_edits caller steps replies ≡ map entry_at (accepted replies)
  unfolding accepted_edits
  script_edits caller [] [] all = refl
  script_edits caller [] (r ∷ replies) all = absurd all
  script_edits caller (s ∷ steps) [] all = absurd all
  script_edits caller (s ∷ steps) (r ∷ replies) all =
      ap (λ es. accepted_edit caller s.line s.act r ++ es) (script_edits caller steps replies (all.1))
      ∙ reply_edits caller s.line s.act r replies (all.0)

  reply_caller : (caller line : ℕ) (act : Act) (reply : Reply) (v : ℕ) → Answers base history caller line act reply → accepted_version reply ≡ Some v
      → (e : Entry) × (slice_get history (v - 1) ≡ Some e) × (e.caller ≡ caller)
  unfolding accepted_version
  reply_caller caller line (Change edit) (Edited l (Accepted w)) v is made =
      let same : w ≡ v = cc (made) in
      subst (λ (x : ℕ). (e : Entry) × (slice_get history (x - 1) ≡ Some e) × (e.caller ≡ caller)) same (entry_of caller line edit, is.1.here, refl)
  reply_caller caller line (Change edit) (Edited l (Refused cause w)) v is made = absurd (cc (made))
  reply_caller caller line (Change edit) (Edited l NoMemory) v is made = absurd (is.1)
  reply_caller caller line (Change edit) (Drew l w skew wire) v is made = absurd is
  reply_caller caller line (Change edit) (NoTree l w end) v is made = absurd is
  reply_caller caller line Draw (Edited l reply) v is made = absurd is
  reply_caller caller line Draw (Drew l w skew wire) v is made = absurd (cc (made))
  reply_caller caller line Draw (NoTree l w end) v is made = absurd (cc (made))

  -- the entry of a version that a caller's accepted edit made is that caller's
  version_caller : (caller : ℕ) (steps : List ScriptStep) (replies : List Reply) (v : ℕ) → AllZip (IsReply base history caller) steps replies
      → Contains (accepted replies) v → (e : Entry) × (slice_get history (v - 1) ≡ Some e) × (e.caller ≡ caller)
  version_caller caller [] [] v all there = absurd (omega (arith, there.1))
  version_caller caller [] (r ∷ replies) v all there = absurd all
  version_caller caller (s ∷ steps) [] v all there = absurd all
  version_caller caller (s ∷ steps) (r ∷ replies) v all there =
      by (accepted_version r) refl (λ rest. version_caller caller steps replies v (all.1) rest)
    where
      first : (w k : ℕ) → accepted_version r ≡ Some w → k < length (w ∷ accepted replies) → get_or (w ∷ accepted replies) k v ≡ v
          → (Contains (accepted replies) v → (e : Entry) × (slice_get history (v - 1) ≡ Some e) × (e.caller ≡ caller))
          → (e : Entry) × (slice_get history (v - 1) ≡ Some e) × (e.caller ≡ caller)
      first w zero e h is rest = reply_caller caller s.line s.act r v (all.0) (e ∙ ap Some is)
      first w (suc k) e h is rest = rest (k, omega (arith, h), is)

      by : (o : Option ℕ) → accepted_version r ≡ o
          → (Contains (accepted replies) v → (e : Entry) × (slice_get history (v - 1) ≡ Some e) × (e.caller ≡ caller))
          → (e : Entry) × (slice_get history (v - 1) ≡ Some e) × (e.caller ≡ caller)
      by None e rest = rest (subst (λ l. Contains l v) (accepted-none r replies e) there)
      by (Some w) e rest =
          let at = subst (λ l. Contains l v) (accepted-some r replies w e) there in first w (at.0) e (at.1) (at.2) rest

module _ (base : Parts) (history : List Entry) where
  -- the script and the replies of a number
  pub answered_at : (caller : ℕ) (scripts : List (List ScriptStep)) (replies : List (List Reply)) (n : ℕ) (steps : List ScriptStep) (answers : List Reply)
      → AreAnswered base history caller scripts replies → slice_get scripts n ≡ Some steps → slice_get replies n ≡ Some answers
      → IsAnswered base history (caller + n) steps answers
  unfolding AreAnswered
  answered_at caller [] replies n steps answers are at here = absurd (omega (arith, slice_get_within [] n steps at))
  answered_at caller (s ∷ scripts) [] n steps answers are at here = absurd are
  answered_at caller (s ∷ scripts) (r ∷ replies) zero steps answers are at here =
      let one : s ≡ steps = cc (at) in
      let two : r ≡ answers = cc (here) in
      let place : caller ≡ caller + 0 = omega arith in
      subst (λ (x : ℕ). IsAnswered base history x steps answers) place
      (subst (λ l. IsAnswered base history caller l answers) one (subst (λ l. IsAnswered base history caller s l) two (are.0)))
  answered_at caller (s ∷ scripts) (r ∷ replies) (suc n) steps answers are at here =
      let place : caller + 1 + n ≡ caller + suc n = omega arith in
      subst (λ (x : ℕ). IsAnswered base history x steps answers) place (answered_at (caller + 1) scripts replies n steps answers (are.1) at here)

  -- whose accepted edit made a version
  record Owner (scripts : List (List ScriptStep)) (replies : List (List Reply)) (v : ℕ) : Type 0 where
    pub n : ℕ
    pub steps : List ScriptStep
    pub answers : List Reply
    pub at : slice_get scripts n ≡ Some steps
    pub here : slice_get replies n ≡ Some answers
    pub made : Contains (accepted answers) v

  owner : (caller : ℕ) (scripts : List (List ScriptStep)) (replies : List (List Reply)) (v : ℕ) → AreAnswered base history caller scripts replies
      → Contains (all_accepted replies) v → Owner scripts replies v
  unfolding AreAnswered
  owner caller [] [] v are there = absurd (omega (arith, there.1))
  owner caller [] (r ∷ replies) v are there = absurd are
  owner caller (s ∷ scripts) [] v are there = absurd are
  owner caller (s ∷ scripts) (r ∷ replies) v are there =
      elim (Contains-append_cases (accepted r) (all_accepted replies) v there) [
        | inl first ↦ record { n = 0; steps = s; answers = r; at = refl; here = refl; made = first }
        | inr others ↦
            let o = owner (caller + 1) scripts replies v (are.1) others in
            record { n = suc o.n; steps = o.steps; answers = o.answers; at = o.at; here = o.here; made = o.made }
      ]

no_entry : Entry
no_entry = record { caller = 0; line = 0; edit = Remove 0 }

module _ (base : Parts) (scripts : List (List ScriptStep)) (history : List Entry) (replies : List (List Reply)) (legal : IsLegal base scripts history replies)
    (n : ℕ) (steps : List ScriptStep) (answers : List Reply) (at : slice_get scripts n ≡ Some steps) (here : slice_get replies n ≡ Some answers) where
  is_answered : IsAnswered base history (1 + n) steps answers
  is_answered = answered_at base history 1 scripts replies n steps answers legal.answered at here

  by_caller : Entry → Bool
  by_caller e = nat_eq e.caller (n + 1)

  all_picked : (i : ℕ) → i < length history → nat_eq (get_or history i no_entry).caller (n + 1) ≡ true → Contains (accepted answers) (0 + i + 1)
  all_picked i h pass =
      let version = every_entry_lem base scripts history replies legal i (get_or history i no_entry) (slice_get-get_or history i no_entry h) in
      let o = owner base history 1 scripts replies (i + 1) legal.answered version in
      let theirs = answered_at base history 1 scripts replies o.n o.steps o.answers legal.answered o.at o.here in
      let entry = version_caller base history no_entry (1 + o.n) o.steps o.answers (i + 1) theirs.each o.made in
      let place : i + 1 - 1 ≡ i = omega arith in
      let found : get_or history i no_entry ≡ entry.0 =
      get_or_from_slice_get history i (entry.0) no_entry (ap (slice_get history) (sym place) ∙ entry.1) in
      let named : (get_or history i no_entry).caller ≡ n + 1 = eqb-true ((get_or history i no_entry).caller) (n + 1) pass in
      let same : o.n ≡ n = omega (arith, named, ap (λ (e : Entry). e.caller) found, entry.2) in
      let some : Some o.answers ≡ Some answers = sym o.here ∙ ap (slice_get replies) same ∙ here in
      let one : o.answers ≡ answers = cc (some) in
      let next : i + 1 ≡ 0 + i + 1 = omega arith in
      subst (λ (q : ℕ). Contains (accepted answers) q) next (subst (λ l. Contains (accepted l) (i + 1)) one o.made)

  only_picked : (v : ℕ) → Contains (accepted answers) v → (v ≤ 0 + length history) × (nat_eq (get_or history (v - 1 - 0) no_entry).caller (n + 1) ≡ true)
  only_picked v there =
      let within = accepted_within base history (1 + n) steps answers is_answered.each in
      let most : v ≤ length history = subst (λ (w : ℕ). w ≤ length history) (there.2) ((within (there.0) v (there.1)).1) in
      let entry = version_caller base history no_entry (1 + n) steps answers v is_answered.each there in
      let place : v - 1 - 0 ≡ v - 1 = omega arith in
      let found : get_or history (v - 1 - 0) no_entry ≡ entry.0 =
      get_or_from_slice_get history (v - 1 - 0) (entry.0) no_entry (ap (slice_get history) place ∙ entry.1) in
      let named : (get_or history (v - 1 - 0) no_entry).caller ≡ n + 1 = omega (arith, ap (λ (e : Entry). e.caller) found, entry.2) in
      (omega (arith, most), eq-eqb ((get_or history (v - 1 - 0) no_entry).caller) (n + 1) named)

  stand_once : entries_by (n + 1) history ≡ accepted_edits (n + 1) steps answers
  stand_once =
      let within = accepted_within base history (1 + n) steps answers is_answered.each in
      let place : 1 + n ≡ n + 1 = omega arith in
      picked (λ (e : Entry). nat_eq e.caller (n + 1)) no_entry history 0 (accepted answers)
      (record {
        rise = accepted_rise answers is_answered.rise;
        above = λ k d h. (within k d h).0;
        all = all_picked;
        only = only_picked;
      })
      ∙ map_same (λ v. get_or history (v - 1 - 0) no_entry) (λ v. get_or history (v - 1) no_entry) (accepted answers)
      (λ k d h. ap (λ i. get_or history i no_entry) (let less : get_or (accepted answers) k d - 1 - 0 ≡ get_or (accepted answers) k d - 1 = omega arith in less))
      ∙ sym (script_edits base history no_entry (1 + n) steps answers is_answered.each)
      ∙ ap (λ (c : ℕ). accepted_edits c steps answers) place

pub accepted_stand_once_lem : AcceptedStandOnce
accepted_stand_once_lem base scripts history replies legal n steps answers at here = stand_once base scripts history replies legal n steps answers at here

-- two lists without a repetition that have no number in common
distinct_append : (xs ys : List ℕ) → AllPairs (λ a b. a ≢ b) xs → AllPairs (λ a b. a ≢ b) ys → ((v : ℕ) → Contains xs v → Contains ys v → ⊥)
    → AllPairs (λ a b. a ≢ b) (xs ++ ys)
distinct_append [] ys left right apart = right
distinct_append (x ∷ xs) ys left right apart =
    AllPairs-cons (λ a b. a ≢ b) x (xs ++ ys)
    (All-append (λ b. x ≢ b) xs ys (AllPairs-first (λ a b. a ≢ b) x xs left)
    (λ k d h e. apart x (0, omega arith, refl) (k, h, get_or_default ys k x d h ∙ sym e)))
    (distinct_append xs ys (AllPairs-rest (λ a b. a ≢ b) x xs left) right
    (λ v in_xs in_ys. apart v (suc in_xs.0, omega (arith, in_xs.1), in_xs.2) in_ys))

module _ (base : Parts) (history : List Entry) where
  -- no two accepted edits made one version
  pub all_distinct : (caller : ℕ) (scripts : List (List ScriptStep)) (replies : List (List Reply)) → AreAnswered base history caller scripts replies
      → AllPairs (λ a b. a ≢ b) (all_accepted replies)
  unfolding AreAnswered
  all_distinct caller [] [] are = λ i j d lt h. absurd (omega arith)
  all_distinct caller [] (r ∷ replies) are = absurd are
  all_distinct caller (s ∷ scripts) [] are = absurd are
  all_distinct caller (s ∷ scripts) (r ∷ replies) are =
      distinct_append (accepted r) (all_accepted replies)
      (λ i j d lt h e. absurd (omega (arith, accepted_rise r (are.0.rise) i j d lt h, e)))
      (all_distinct (caller + 1) scripts replies (are.1))
      (λ v mine theirs.
      let o = owner base history (caller + 1) scripts replies v (are.1) theirs in
      let is = answered_at base history (caller + 1) scripts replies o.n o.steps o.answers (are.1) o.at o.here in
      let a = version_caller base history no_entry caller s r v (are.0.each) mine in
      let b = version_caller base history no_entry (caller + 1 + o.n) o.steps o.answers v is.each o.made in
      let same : Some (a.0) ≡ Some (b.0) = sym (a.1) ∙ b.1 in
      let one : a.0 ≡ b.0 = cc (same) in
      absurd (omega (arith, a.2, b.2, ap (λ (e : Entry). e.caller) one)))
