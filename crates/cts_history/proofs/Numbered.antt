-- Texts of numbered items, one more at a time.
use Rattle.std.proofs.Common.{◌≡◌, ℕ, zero, suc, ◌+◌, ◌<◌, List, [], ◌∷◌, ◌++◌, length, take, get_or, refl, sym, ap, ◌∙◌, arith, append_assoc, append-nil}
use Rattle.std.proofs.lemmas.List.{take_more, length-take-le}
use Rattle.std.specs.Prelude.{Vec}
use Rattle.std.specs.Global.{Global}
use Rattle.cts_history.specs.declared.reply.Reply.{Reply}
use Rattle.cts_history.specs.Legal.{lists_of}
use Rattle.cts_history.specs.History.{numbered}

-- the texts of items, with one more item
pub numbered_more : {A : Type 0} (text : ℕ → A → List ℕ) (number : ℕ) (items : List A) (item : A)
    → numbered text number (items ++ item ∷ []) ≡ numbered text number items ++ text (number + length items) item
unfolding numbered
numbered_more text number [] item = append-nil (text number item) ∙ ap (λ n. text n item) (omega arith)
numbered_more text number (first ∷ items) item =
    ap (λ t. text number first ++ t)
    (numbered_more text (number + 1) items item ∙ ap (λ n. numbered text (number + 1) items ++ text n item) (omega arith))
    ∙ sym (append_assoc (text number first) (numbered text (number + 1) items) (text (number + length (first ∷ items)) item))

-- the texts of the items before a number, and then that item's
pub numbered_before_more : {A : Type 0} (text : ℕ → A → List ℕ) (items : List A) (k : ℕ) (d : A) → k < length items
    → numbered text 1 (take (k + 1) items) ≡ numbered text 1 (take k items) ++ text (k + 1) (get_or items k d)
numbered_before_more text items k d w =
    let front : length (take k items) ≡ k = length-take-le k items (omega arith) in
    ap (λ some. numbered text 1 some) (take_more items k d (omega arith))
    ∙ numbered_more text 1 (take k items) (get_or items k d)
    ∙ ap (λ n. numbered text 1 (take k items) ++ text n (get_or items k d)) (omega arith)

-- as many lists as callers
pub length-lists : (replies : List (Vec Reply Global)) → length (lists_of replies) ≡ length replies
length-lists [] = refl
length-lists (one ∷ others) = ap suc (length-lists others)

-- the list of one caller
pub get_or-lists : (replies : List (Vec Reply Global)) (k : ℕ) (d : Vec Reply Global)
    → get_or (lists_of replies) k d.items ≡ (get_or replies k d).items
get_or-lists [] k d = refl
get_or-lists (one ∷ others) zero d = refl
get_or-lists (one ∷ others) (suc k) d = get_or-lists others k d
