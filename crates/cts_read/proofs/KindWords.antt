-- The kind of a block that is a buffer.
use Rattle.std.proofs.Common.{◌≡◌, ℕ, true, List, ◌∷◌, Ok, refl, codes}
use Rattle.std.specs.Str.{bytes_eq}
use Rattle.cts_block.specs.declared.blocks.Kind.TheVariants as kind
use Rattle.cts_read.specs.Items.{kind_of}

module _ (words : List (List ℕ)) (word : List ℕ) (rest : List (List ℕ)) (begins : words ≡ word ∷ rest) where
  pub kind_buffer : bytes_eq word (codes "buffer") ≡ true → kind_of words ≡ Ok (kind.Buffer, rest)
  unfolding kind_of
  kind_buffer e = rw (begins, e) refl
