-- Text that is gathered on a page before a sink takes it
use Rattle.std.specs.Prelude.{◌≡◌, ℕ, List, ◌++◌, Result, MatchResult}
use Rattle.qm_io.specs.Ends.{SinkView, Took, Broke}

-- the text was added: the sink took what now isn't on the page any more
pub record Added (old new : SinkView) (held left text : List ℕ) : Type 0 where
  pub gone : List ℕ
  pub took : Took old new gone
  pub whole : held ++ text ≡ gone ++ left

-- the sink took a front of what was held and the text, and then failed
pub record Stopped (old new : SinkView) (held text : List ℕ) : Type 0 where
  pub broke : Broke old new (held ++ text)

-- on Ok the text was added, and on Err the sink failed at what was held and the text
abbrev pub Gathers : {T E : Type 0} → SinkView → SinkView → List ℕ → List ℕ → List ℕ → Result T E → Type 0
Gathers old new held left text r = MatchResult r (λ _. Added old new held left text) (λ _. Stopped old new held text)
