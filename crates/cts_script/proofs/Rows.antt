-- States and sinks worked by hand.
use Rattle.std.proofs.Common.{◌≡◌, [], ◌∷◌, map, pos, refl}
use Rattle.cts_script.specs.Generator.{made_sinks, next_state, state_after}

states_of_seed_0 : map (state_after 0) (1 ∷ 2 ∷ 3 ∷ 4 ∷ 5 ∷ 6 ∷ [])
    ≡ 12345 ∷ 1406932606 ∷ 654583775 ∷ 1449466924 ∷ 229283573 ∷ 1109335178 ∷ []
unfolding state_after next_state
states_of_seed_0 = refl

states_of_seed_1 : map (state_after 1) (1 ∷ 2 ∷ 3 ∷ []) ≡ 1103527590 ∷ 377401575 ∷ 662824084 ∷ []
unfolding state_after next_state
states_of_seed_1 = refl

sinks_of_seed_0 : made_sinks 0 2
    ≡ record { id = 1; x = pos 57; y = pos 6551541; cap = 29000000; offset = 0 }
    ∷ record { id = 2; x = pos 6749607; y = pos 1067684; cap = 36000000; offset = 0 }
    ∷ []
unfolding made_sinks state_after next_state
sinks_of_seed_0 = refl

sinks_of_seed_1 : made_sinks 1 1 ≡ record { id = 1; x = pos 5138701; y = pos 1757413; cap = 29000000; offset = 0 } ∷ []
unfolding made_sinks state_after next_state
sinks_of_seed_1 = refl
