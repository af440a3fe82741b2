-- Callers beside each other.
use Rattle.std.proofs.Common.{◌≡◌, ℕ, ◌+◌, inl, inr, List, [], ◌∷◌, ◌++◌, length, Result, Ok, Vec, Global, IfOk, refl, sym, ap, ◌∙◌, subst, arith, length-append}
use mathlib.Core.List.{IsPrefix}
use Rattle.std.proofs.lemmas.List.{append_assoc, append-nil, map-append}
use Rattle.std.proofs.lemmas.Result.{IfOk-at_ok, IfOk-weaker}
use Rattle.cts_num.specs.declared.error.NoMemory.{NoMemory}
use Rattle.cts_list.proofs.Prefixes.{prefix_self, prefix_trans}
use Rattle.cts_instance.specs.declared.parts.Parts.{Parts}
use Rattle.cts_edit.specs.declared.edit.Entry.{Entry}
use Rattle.cts_session.specs.declared.desk.Desk.{Desk}
use Rattle.cts_session.specs.declared.desk.Hands.{Hands}
use Rattle.cts_session.specs.Desks.{AreHandsOf, AreJoined, Known, base_of, known_by, greater_half, lesser_half}
use Rattle.cts_session.specs.Sessions.{AtDesk, edits_of}
use Rattle.cts_script.specs.declared.script.ScriptStep.{ScriptStep}
use Rattle.cts_callers.specs.declared.callers.Served.{Served}
use Rattle.cts_history.specs.declared.reply.Reply.{Reply}
use Rattle.cts_history.specs.Legal.{AreAnswered, IsAnswered, accepted, all_accepted}
use Rattle.cts_callers.specs.Turns.{AreServed, AreTogether, HandsKeep, IsOnly, Keeps}
use Rattle.cts_history.specs.Legal.{lists_of}
use Rattle.cts_history.proofs.Longer.{all_answered_stay}

-- the versions of some callers, and of others
pub all_accepted-append : (xs ys : List (List Reply)) → all_accepted (xs ++ ys) ≡ all_accepted xs ++ all_accepted ys
all_accepted-append [] ys = refl
all_accepted-append (x ∷ xs) ys =
    ap (λ vs. accepted x ++ vs) (all_accepted-append xs ys) ∙ sym (append_assoc (accepted x) (all_accepted xs) (all_accepted ys))

-- the callers numbered on from this number, and those after them
pub answered_append : (base : Parts) (history : List Entry) (first second : ℕ) (here there : List (List ScriptStep)) (xs ys : List (List Reply))
    → second ≡ first + length here → AreAnswered base history first here xs → AreAnswered base history second there ys
    → AreAnswered base history first (here ++ there) (xs ++ ys)
unfolding AreAnswered
answered_append base history first second [] there [] ys next left right =
    let same : second ≡ first = omega (arith, next) in subst (λ (n : ℕ). AreAnswered base history n there ys) same right
answered_append base history first second [] there (x ∷ xs) ys next left right = absurd left
answered_append base history first second (s ∷ here) there [] ys next left right = absurd left
answered_append base history first second (s ∷ here) there (x ∷ xs) ys next left right =
    (left.0, answered_append base history (first + 1) second here there xs ys (omega (arith, next)) (left.1) right)

-- one caller
pub served_one : (desk : Desk) (hands : Hands) (caller : ℕ) (script : List ScriptStep) (old new : AtDesk) (served : Served)
    (one : Result (Vec Reply Global) NoMemory)
    → old ≡ record { desk = desk; hands = hands; caller = caller } → served.hands ≡ new.hands → AreHandsOf new.desk served.hands → new.desk ≡ old.desk
    → IfOk one (λ r. Keeps old new (length (accepted r.items)))
    → IfOk one (λ r. IsAnswered (base_of old.desk) (edits_of new) old.caller script r.items)
    → IfOk served.replies (IsOnly one) → AreServed desk hands caller (script ∷ []) served
unfolding AreAnswered
served_one desk hands caller script old new served one is same own kept keeps answered only =
    let d : old.desk ≡ desk = ap (λ (s : AtDesk). s.desk) is in
    let h : old.hands ≡ hands = ap (λ (s : AtDesk). s.hands) is in
    let c : old.caller ≡ caller = ap (λ (s : AtDesk). s.caller) is in
    record {
      own = subst (λ k. AreHandsOf k served.hands) (kept ∙ d) own;
      keeps = IfOk-weaker served.replies _ _
          (λ all o.
          let k = IfOk-at_ok (λ r. Keeps old new (length (accepted r.items))) (o.1) keeps in
          let count : length (all_accepted (lists_of all.items)) ≡ length (accepted o.0.items) =
          ap (λ l. length (all_accepted (lists_of l))) (o.2) ∙ ap length (append-nil (accepted o.0.items)) in
          let from : known_by old.hands ≡ known_by hands = ap known_by h in
          let to : known_by new.hands ≡ known_by served.hands = ap known_by (sym same) in
          let kept : HandsKeep hands served.hands (length (all_accepted (lists_of all.items))) = record {
            edits = subst (λ (x : List Entry × List Entry). IsPrefix x.0 x.1) (λ z. ((from z).edits, (to z).edits)) k.edits;
            memo_share = sym (ap (λ (x : Known). x.memo_share) to) ∙ k.memo_share ∙ ap (λ (x : Known). x.memo_share) from;
            design_share = sym (ap (λ (x : Known). x.design_share) to) ∙ k.design_share ∙ ap (λ (x : Known). x.design_share) from;
            count = omega (arith, k.count, count, ap (λ (x : Known). x.edits_made) to, ap (λ (x : Known). x.edits_made) from);
          } in kept)
          only;
      answered = IfOk-weaker served.replies _ _
          (λ all o.
          let a = IfOk-at_ok (λ r. IsAnswered (base_of old.desk) (edits_of new) old.caller script r.items) (o.1) answered in
          subst (λ l. AreAnswered (base_of desk) (known_by served.hands).edits caller (script ∷ []) (lists_of l)) (sym (o.2)) (
            subst (λ k. IsAnswered (base_of k) (known_by served.hands).edits caller script o.0.items) d
                (subst (λ k. IsAnswered (base_of old.desk) (known_by k).edits caller script o.0.items) (sym same)
                (subst (λ (n : ℕ). IsAnswered (base_of old.desk) (edits_of new) n script o.0.items) c a)),
            tt,
          ))
          only;
    }

-- what callers in two halves leave, once their hands are joined
module _ (desk : Desk) (hands one other a_hands b_hands both : Hands) (first second : ℕ) (here there : List (List ScriptStep))
    (a b : Result (Vec (Vec Reply Global) Global) NoMemory) (all : Result (Vec (Vec Reply Global) Global) NoMemory)
    (next : second ≡ first + length here)
    (greater : known_by one ≡ greater_half (known_by hands)) (lesser : known_by other ≡ lesser_half (known_by hands))
    (left : AreServed desk one first here (record { replies = a; hands = a_hands }))
    (right : AreServed desk other second there (record { replies = b; hands = b_hands }))
    (own : AreHandsOf desk both) (joined : AreJoined (known_by a_hands) (known_by b_hands) (known_by both))
    (together : IfOk all (AreTogether a b)) where
  from_a : IsPrefix (known_by a_hands).edits (known_by both).edits
  from_a = elim joined.edits [
    | inl l ↦ subst (IsPrefix (known_by a_hands).edits) (sym (l.0)) (prefix_self (known_by a_hands).edits)
    | inr l ↦ subst (IsPrefix (known_by a_hands).edits) (sym (l.0)) (l.1)
  ]

  from_b : IsPrefix (known_by b_hands).edits (known_by both).edits
  from_b = elim joined.edits [
    | inl l ↦ subst (IsPrefix (known_by b_hands).edits) (sym (l.0)) (l.1)
    | inr l ↦ subst (IsPrefix (known_by b_hands).edits) (sym (l.0)) (prefix_self (known_by b_hands).edits)
  ]

  module _ (r x y : Vec (Vec Reply Global) Global) (is_a : a ≡ Ok x) (is_b : b ≡ Ok y) (items : r.items ≡ x.items ++ y.items) where
    lists : lists_of r.items ≡ lists_of x.items ++ lists_of y.items
    lists = ap lists_of items ∙ map-append (λ (v : Vec Reply Global). v.items) x.items y.items

    halves_keep : HandsKeep hands both (length (all_accepted (lists_of r.items)))
    halves_keep =
        let p = IfOk-at_ok (λ v. HandsKeep one a_hands (length (all_accepted (lists_of v.items)))) is_a left.keeps in
        let q = IfOk-at_ok (λ v. HandsKeep other b_hands (length (all_accepted (lists_of v.items)))) is_b right.keeps in
        let count : length (all_accepted (lists_of r.items)) ≡ length (all_accepted (lists_of x.items)) + length (all_accepted (lists_of y.items)) =
        ap (λ l. length (all_accepted l)) lists ∙ ap length (all_accepted-append (lists_of x.items) (lists_of y.items))
        ∙ length-append (all_accepted (lists_of x.items)) (all_accepted (lists_of y.items)) in
        record {
          edits = prefix_trans (known_by hands).edits (known_by a_hands).edits (known_by both).edits
              (subst (λ l. IsPrefix l (known_by a_hands).edits) (ap (λ (k : Known). k.edits) greater) p.edits) from_a;
          memo_share = omega (arith, joined.memo_share, p.memo_share, q.memo_share, ap (λ (k : Known). k.memo_share) greater, ap (λ (k : Known). k.memo_share) lesser);
          design_share = omega (
            arith,
            joined.design_share,
            p.design_share,
            q.design_share,
            ap (λ (k : Known). k.design_share) greater,
            ap (λ (k : Known). k.design_share) lesser,
          );
          count = omega (
            arith,
            joined.edits_made,
            p.count,
            q.count,
            count,
            ap (λ (k : Known). k.edits_made) greater,
            ap (λ (k : Known). k.edits_made) lesser,
          );
        }

    halves_answered : AreAnswered (base_of desk) (known_by both).edits first (here ++ there) (lists_of r.items)
    halves_answered =
        let p = IfOk-at_ok (λ v. AreAnswered (base_of desk) (known_by a_hands).edits first here (lists_of v.items)) is_a left.answered in
        let q = IfOk-at_ok (λ v. AreAnswered (base_of desk) (known_by b_hands).edits second there (lists_of v.items)) is_b right.answered in
        subst (AreAnswered (base_of desk) (known_by both).edits first (here ++ there)) (sym lists)
        (answered_append (base_of desk) (known_by both).edits first second here there (lists_of x.items) (lists_of y.items) next
        (all_answered_stay (base_of desk) (known_by a_hands).edits (known_by both).edits from_a first here (lists_of x.items) p)
        (all_answered_stay (base_of desk) (known_by b_hands).edits (known_by both).edits from_b second there (lists_of y.items) q))

  pub served_both : AreServed desk hands first (here ++ there) (record { replies = all; hands = both })
  served_both = record {
    own = own;
    keeps = IfOk-weaker all _ _ (λ r t. halves_keep r (t.0) (t.1) (t.2) (t.3) (t.4)) together;
    answered = IfOk-weaker all _ _ (λ r t. halves_answered r (t.0) (t.1) (t.2) (t.3) (t.4)) together;
  }
