-- Scripts that are written are read back.
use Rattle.std.proofs.Common.{◌≡◌, ℕ, ◌+◌, ◌<◌, ◌≤◌, false, List, [], ◌∷◌, ◌++◌, length, map, All, Some, None, Ok, Result, refl, sym, ap, ◌∙◌, arith, codes, append_assoc, append-nil, length-append}
use Rattle.std.specs.List.{concat}
use Rattle.std.proofs.lemmas.List.Elements.{All-head, All-tail}
use Rattle.cts_num.specs.Decimal.{decimal_text}
use Rattle.cts_read.specs.Lines.{is_skipped}
use Rattle.cts_read.specs.Grammar.{◌>>=◌, Left, Refusal, at_line, item_at, left_of}
use Rattle.cts_read.specs.Whole.{rest_of}
use Rattle.cts_read.proofs.Contents.{left_none, rest_none}
use Rattle.cts_script.specs.declared.script.ScriptStep.{ScriptStep}
use Rattle.cts_script.specs.declared.step.Asked.{Asked}
use Rattle.cts_script.specs.declared.step.ScriptLine.TheVariants.{End, Step}
use Rattle.cts_script.specs.Steps.{callers_of}
use Rattle.cts_script.specs.Scripts.{script_at, scripts_of, step_at, steps_at}
use Rattle.cts_script.specs.Text.{count_line, end_line}
use Rattle.cts_script.specs.ScriptText.{Ask, IsAsk, act_words, numbered, script_text, step_line}
use Rattle.cts_script.specs.Laws.{ScriptsComeBack}
use Rattle.cts_script.proofs.StepLists.{steps_end, steps_more}
use Rattle.cts_script.proofs.WrittenWords.{body_of, decimal_word, literal}
use Rattle.cts_script.proofs.WrittenLines.{found}
use Rattle.cts_script.proofs.WrittenText.{at, is_body, item_line, line-then, line_back}
use Rattle.cts_script.proofs.WrittenSteps.{act_are_words, callers_line_back, end_line_back, shown, step_line_back}

end_shown : is_skipped (body_of (codes "end") []) ≡ false
unfolding is_skipped
end_shown = refl

callers_shown : (words : List (List ℕ)) → is_skipped (body_of (codes "callers") words) ≡ false
unfolding is_skipped
callers_shown words = refl

-- what is asked, as it stands at a line
abbrev asked_in : ℕ → Ask → Asked
asked_in line ask = record { caller = ask.0; step = record { line = line + 1; act = ask.1 } }

step_back : (text rest : List ℕ) (callers many n : ℕ) (ask : Ask) → many < 65536 → callers ≤ 16 → IsAsk callers ask
    → step_at callers many (left_of (at text (step_line ask ++ rest) n)) ≡ Ok (Some (asked_in n ask), left_of (at text rest (n + 1)))
unfolding step_at
step_back text rest callers many n ask room fit h =
    let key = decimal_text 0 ask.0 in
    let words = act_words ask.1 in
    let body = is_body key words (decimal_word 0 ask.0) (act_are_words ask.1) (shown ask.0 words) in
    ap (λ t. step_at callers many (left_of (at text t n))) (line-then key words rest)
    ∙ found _ _ _ _ (line_back text (body_of key words) rest n body)
    (found _ _ (Step ask.0 ask.1) _ (ap (at_line (n + 1)) (step_line_back callers many ask.0 ask.1 room h.some h.few fit h.within)) refl)

end_back : (text : List ℕ) (callers many n : ℕ)
    → step_at callers many (left_of (at text end_line n)) ≡ Ok (None, left_of (at text [] (n + 1)))
unfolding step_at
end_back text callers many n =
    let body = is_body (codes "end") [] (literal (codes "end") (omega arith) refl) tt end_shown in
    ap (λ t. step_at callers many (left_of (at text t n))) (sym (append-nil end_line) ∙ line-then (codes "end") [] [])
    ∙ found _ _ _ _ (line_back text (body_of (codes "end") []) [] n body)
    (found _ _ End _ (ap (at_line (n + 1)) (end_line_back callers many)) refl)

steps_back : (text : List ℕ) (callers : ℕ) (asks : List Ask) (before : List Asked) (n last : ℕ) → callers ≤ 16
    → length before + length asks ≤ 65536 → last ≡ n + length asks + 1 → All (IsAsk callers) asks
    → steps_at callers before (left_of (at text (concat (map step_line asks) ++ end_line) n)) ≡ Ok (before ++ numbered n asks, left_of (at text [] last))
unfolding numbered
steps_back text callers [] before n last fit few e each =
    let here : last ≡ n + 1 = omega arith in
    steps_end callers before (length before) (left_of (at text end_line n)) refl (left_of (at text [] (n + 1))) (end_back text callers (length before) n)
    ∙ ap (λ b. Ok (b, left_of (at text [] (n + 1)))) (sym (append-nil before))
    ∙ ap (λ k. Ok (before ++ [], left_of (at text [] k))) (sym here)
steps_back text callers (ask ∷ asks) before n last fit few e each =
    let rest : List ℕ = concat (map step_line asks) ++ end_line in
    let asked = asked_in n ask in
    let more : length (before ++ asked ∷ []) ≡ length before + 1 = length-append before (asked ∷ []) in
    ap (λ t. steps_at callers before (left_of (at text t n))) (append_assoc (step_line ask) (concat (map step_line asks)) end_line)
    ∙ steps_more callers before (length before) (left_of (at text (step_line ask ++ rest) n)) refl asked (left_of (at text rest (n + 1)))
    (step_back text rest callers (length before) n ask (omega (arith, few)) fit (All-head (IsAsk callers) ask asks each))
    ∙ steps_back text callers asks (before ++ asked ∷ []) (n + 1) last fit (omega (arith, more, few)) (omega (arith, e)) (All-tail (IsAsk callers) ask asks each)
    ∙ ap (λ b. Ok (b, left_of (at text [] last))) (append_assoc before (asked ∷ []) (numbered (n + 1) asks))

-- what comes after the steps
abbrev with_rest : ℕ → List Asked × Left → Result (List (List ScriptStep)) Refusal
with_rest callers steps = rest_of steps.1.lines >>= λ _. Ok (scripts_of callers steps.0)

-- what comes after the first line
abbrev with_steps : ℕ × Left → Result (List (List ScriptStep)) Refusal
with_steps first = steps_at first.0 [] first.1 >>= with_rest first.0

by_parts : (left : Left) → script_at left ≡ (item_at callers_of left >>= with_steps)
unfolding script_at
by_parts left = refl

pub scripts_back : ScriptsComeBack
scripts_back line callers asks count few each =
    let text : List ℕ = script_text callers asks in
    let rest : List ℕ = concat (map step_line asks) ++ end_line in
    let words : List (List ℕ) = decimal_text 0 callers ∷ [] in
    let body = is_body (codes "callers") words (literal (codes "callers") (omega arith) refl) (decimal_word 0 callers, tt) (callers_shown words) in
    let last = line + 1 + length asks + 1 in
    by_parts (left_of (at text text line))
    ∙ ap (λ t. item_at callers_of (left_of (at text t line)) >>= with_steps)
    (append_assoc (count_line (codes "callers") callers) (concat (map step_line asks)) end_line)
    ∙ ap (λ (r : Result (ℕ × Left) Refusal). r >>= with_steps)
    (item_line callers_of callers text (codes "callers") words rest line body (callers_line_back callers count))
    ∙ ap (λ (r : Result (List Asked × Left) Refusal). r >>= with_rest callers)
    (steps_back text callers asks [] (line + 1) last count.few (omega (arith, few)) refl each)
    ∙ ap (λ (r : Result (Unit {0}) Refusal). r >>= λ _. Ok (scripts_of callers (numbered (line + 1) asks)))
    (rest_none (left_of (at text [] last)) (left_none (at text [] last) refl))
