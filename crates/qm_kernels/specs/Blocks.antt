-- Lists as blocks, one after another
use Rattle.std.specs.Prelude.{◌≡◌, ℕ, ◌*◌, List, ◌++◌, length}

-- how far a loop over the blocks of a list has come: of the old list, the blocks xs became us, and the rest is as it was
pub record SoFar {A : Type 0} (done : List A → List A → Type 0) (block : ℕ) (old now : List A) (start : ℕ) : Type 0 where
  pub xs : List A
  pub us : List A
  pub rest : List A
  pub turns : ℕ
  pub old_is : old ≡ xs ++ rest
  pub now_is : now ≡ us ++ rest
  pub size_was : length xs ≡ start
  pub size_is : length us ≡ start
  pub start_is : start ≡ turns * block
  pub is_done : done xs us
