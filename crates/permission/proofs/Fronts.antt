-- The slice pattern `[a, rest @ ..]`, as the checker reads it.
use Rattle.std.proofs.Common.{◌≡◌, ℕ, ◌-◌, ◌<◌, List, ◌∷◌, length, get_or, take, drop, sym, ap, ◌∙◌}
use Rattle.std.proofs.lemmas.List.{drop_more, take_rest}

pub first_and_rest : (bs : List ℕ) (a : ℕ) → 0 < length bs → get_or bs 0 0 ≡ a → bs ≡ a ∷ take (length bs - 1) (drop 1 bs)
first_and_rest bs a some e = drop_more bs 0 0 some ∙ ap (λ x. x ∷ drop 1 bs) e ∙ ap (λ x. a ∷ x) (sym (take_rest bs 1))
