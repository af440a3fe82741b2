use Rattle.std.proofs.Common.{◌≡◌, ◌↔◌, List, ℕ, Some, string_bytes, arith}
use Rattle.cts_top.specs.declared.words.Form.{Form}
use Rattle.cts_top.specs.Words.{AsksFor}
use Rattle.cts_top.proofs.Lists.{one_item, two_items, three_items, four_items}
use Rattle.cts_top.proofs.Forms.{words_one, words_two, words_three, words_four}
use Rattle.cts_top.proofs.words.form_of.Goals as goal

pub returns-in-len1 : goal.returns-in-len1
returns-in-len1 c =
    words_one string_bytes (λ (l : List (List ℕ)). (form : Form) → (c.one_word.result ≡ Some form) ↔ AsksFor l form) _ _ _
    (one_item _ c.name-item.result (omega arith) c.name-item.is) c.as_bytes.ensures.value c.one_word.ensures

pub returns-in-len2 : goal.returns-in-len2
returns-in-len2 c =
    words_two string_bytes (λ (l : List (List ℕ)). (form : Form) → (c.two_words.result ≡ Some form) ↔ AsksFor l form) _ _ _ _ _
    (two_items _ c.name-item-then-words-lt3.result c.first-item.result (omega arith) c.name-item-then-words-lt3.is c.first-item.is)
    c.as_bytes-in-len2.ensures.value c.as_bytes-in-len2-2.ensures.value c.two_words.ensures

pub returns-in-len3 : goal.returns-in-len3
returns-in-len3 c =
    words_three string_bytes (λ (l : List (List ℕ)). (form : Form) → (c.three_words.result ≡ Some form) ↔ AsksFor l form) _ _ _ _ _ _ _
    (three_items _ c.name-item-then-words-lt4.result c.first-item-then-words-lt4.result c.second-item.result (omega arith)
    c.name-item-then-words-lt4.is c.first-item-then-words-lt4.is c.second-item.is)
    c.as_bytes-in-len3.ensures.value c.as_bytes-in-len3-2.ensures.value c.as_bytes-in-len3-3.ensures.value c.three_words.ensures

pub returns-in-len4 : goal.returns-in-len4
returns-in-len4 c =
    words_four string_bytes (λ (l : List (List ℕ)). (form : Form) → (c.four_words.result ≡ Some form) ↔ AsksFor l form) _ _ _ _ _ _ _ _ _
    (four_items _ c.name-item-then-words-lt5.result c.first-item-then-words-lt5.result c.second-item-then-words-lt5.result
    c.third-item.result (omega arith) c.name-item-then-words-lt5.is c.first-item-then-words-lt5.is c.second-item-then-words-lt5.is
    c.third-item.is)
    c.as_bytes-in-len4.ensures.value c.as_bytes-in-len4-2.ensures.value c.as_bytes-in-len4-3.ensures.value
    c.as_bytes-in-len4-4.ensures.value c.four_words.ensures
