use Rattle.std.proofs.Common.{◌≡◌, ◌+◌, ◌++◌, length, refl, sym, ap, ◌∙◌, subst}
use denote.Param.Send.{sendable}
use Rattle.std.proofs.Crossing.{crosses}
use Rattle.std.proofs.lemmas.List.{take-append-drop}
use Rattle.cts_session.specs.declared.desk.Hands.{Hands}
use Rattle.cts_session.specs.Desks.{AreHandsOf, AreJoined, known_by, greater_half, lesser_half}
use Rattle.cts_session.specs.Sessions.{AtDesk}
use Rattle.cts_callers.specs.Turns.{AreServed}
use Rattle.cts_callers.proofs.Sent.{served_send}
use Rattle.cts_callers.proofs.Serving.{served_both}
use Rattle.cts_callers.proofs.callers.+callers.Goals as goal

pub join-a-requires-send-A : goal.join-a-requires-send-A
join-a-requires-send-A g t c κs within = search (crosses, served_send, sendable) depth 60 fits 20000

pub returns : goal.returns
returns g t c =
    let split = c.split-one.ensures in
    let here = c.split_at.result.0.now in
    let there = c.split_at.result.1.now in
    let whole : here ++ there ≡ c.args.scripts.now =
    (λ z. c.split_at.ensures.front z ++ c.split_at.ensures.back z) ∙ take-append-drop _ c.args.scripts.now in
    let a_is : c.of-one.result.hands ≡ c.join-a.result.0.hands = ap (λ (s : AtDesk). s.hands) c.of-one.ensures in
    let b_is : c.of-other.result.hands ≡ c.join-a.result.1.hands = ap (λ (s : AtDesk). s.hands) c.of-other.ensures in
    let desk_is : c.join.result.desk ≡ c.args.desk.now = c.join.ensures.desk ∙ ap (λ (s : AtDesk). s.desk) c.of-one.ensures in
    let joined : AreJoined (known_by c.join-a.result.0.hands) (known_by c.join-a.result.1.hands) (known_by c.hands.result) =
    subst (λ (h : Hands × Hands × Hands). AreJoined (known_by h.0) (known_by h.1) (known_by h.2)) (λ z. (a_is z, b_is z, sym c.hands.ensures.same z))
    c.join.ensures.joined in
    subst (λ scripts. AreServed c.args.desk.now c.args.hands c.args.first scripts (record { replies = c.together.result; hands = c.hands.result })) whole
    (served_both c.args.desk.now c.args.hands c.hands-one_hands.result c.hands-other_hands.result c.join-a.result.0.hands c.join-a.result.1.hands c.hands.result
    c.args.first (c.args.first + length here) here there c.join-a.result.0.replies c.join-a.result.1.replies c.together.result
    refl
    (ap known_by c.hands-one_hands.ensures.same ∙ split.first ∙ ap (λ (s : AtDesk). greater_half (known_by s.hands)) c.of.ensures)
    (ap known_by c.hands-other_hands.ensures.same ∙ split.second ∙ ap (λ (s : AtDesk). lesser_half (known_by s.hands)) c.of.ensures)
    c.join-a.ensures.first c.join-a.ensures.second
    (subst (λ k. AreHandsOf k c.hands.result) desk_is c.hands.ensures.own) joined c.together.ensures)
