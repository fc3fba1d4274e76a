-- Steps in a row
use Rattle.std.proofs.Common.{◌≡◌, Ok, Err, refl}
use Rattle.qm_expand.specs.Steps.{Outcome, ◌>>=◌}

pub bind-assoc : {A B C : Type 0} (o : Outcome A) (f : A → Outcome B) (g : B → Outcome C) → (o >>= f >>= g) ≡ (o >>= λ x. f x >>= g)
bind-assoc (Ok x) f g = refl
bind-assoc (Err e) f g = refl

pub bind-same : {A B : Type 0} (o : Outcome A) (f g : A → Outcome B) → ((x : A) → f x ≡ g x) → (o >>= f) ≡ (o >>= g)
bind-same (Ok x) f g h = h x
bind-same (Err e) f g h = refl
