-- Values after spaces, one more at a time.
use Rattle.std.proofs.Common.{◌≡◌, ℕ, ◌+◌, ◌<◌, List, [], ◌∷◌, ◌++◌, length, get_or, take, decimal, sym, ap, ◌∙◌}
use Rattle.std.proofs.lemmas.List.{take_more, flat_map_more}
use Rattle.refusal.specs.Reason.{spaced}

pub spaced_push : (vs : List ℕ) (v : ℕ) → spaced (vs ++ (v ∷ [])) ≡ spaced vs ++ (32 ∷ decimal v)
spaced_push vs v = sym (flat_map_more (λ w. 32 ∷ decimal w) [] vs v)

pub spaced_more : (vs : List ℕ) (i : ℕ) → i < length vs → spaced (take (i + 1) vs) ≡ spaced (take i vs) ++ (32 ∷ decimal (get_or vs i 0))
spaced_more vs i h = ap spaced (take_more vs i 0 h) ∙ spaced_push (take i vs) (get_or vs i 0)
