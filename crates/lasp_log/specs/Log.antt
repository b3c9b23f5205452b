-- What a contract sees of a log, and the chunks that it is kept in.
use Rattle.std.specs.Prelude.{ℕ, List, [], ◌∷◌, ◌++◌, refl}
use Rattle.std.specs.Coded.{Coded, code_by, coded×, coded_list, coded_ℕ}

-- the items, and how many more will be taken in any case
pub record Logged (T : Type 0) : Type 0 where
  pub items : List T
  pub room : ℕ

module _ {T : Type 0} where
  abbrev pub logged : List T → ℕ → Logged T
  logged items room = record { items = items; room = room }

  -- a log as a tree of numbers
  abbrev pub coded_logged : Coded T → Coded (Logged T)
  coded_logged t = code_by (List T × ℕ) (coded× (coded_list t) coded_ℕ) (λ l. (l.items, l.room)) (λ p. logged p.0 p.1) (λ _. refl)

  -- the items of all chunks, one after the other
  abbrev pub joined : List (List T) → List T
  joined [] = []
  joined (c ∷ cs) = c ++ joined cs
