-- What a chain of steps says of its first step, and its first step of it. A chain that passed: its first step passed, and the others went on from it.
use Rattle.std.proofs.Common.{◌≡◌, Result, Ok, Err, refl, ap}
use Rattle.model_graph.specs.Chain.{◌>>=◌}

pub record Passed {A B E : Type 0} (r : Result A E) (f : A → Result B E) (y : B) : Type 0 where
  pub value : A
  pub first : r ≡ Ok value
  pub then : f value ≡ Ok y

pub passed : {A B E : Type 0} (r : Result A E) (f : A → Result B E) (y : B) → (r >>= f) ≡ Ok y → Passed r f y
passed (Ok x) f y e = record { value = x; first = refl; then = e }
passed (Err e) f y h = cc

-- a first step of which it is known what it gives
pub chain-passed : {A B E : Type 0} (r : Result A E) (f : A → Result B E) (x : A) → r ≡ Ok x → (r >>= f) ≡ f x
chain-passed r f x e = ap (λ s. s >>= f) e

pub chain-refused : {A B E : Type 0} (r : Result A E) (f : A → Result B E) (x : E) → r ≡ Err x → (r >>= f) ≡ Err x
chain-refused r f x e = ap (λ s. s >>= f) e
