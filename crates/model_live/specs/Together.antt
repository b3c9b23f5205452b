-- What all updates of a script come to together, as if every row were removed: no node ever holds more, whatever comes when.
use Rattle.std.specs.Prelude.{ℕ, ◌<◌, ◌≤◌, true, List, [], ◌∷◌, length, map, Option, Some}
use Rattle.std.specs.List.{range_with_len}
use Rattle.model_values.specs.Row.{Row}
use Rattle.model_states.specs.Content.{Content, IsContentAtMost, row_limit, size_of}
use Rattle.model_states.specs.Counts.{count_at}
use Rattle.model_graph.specs.Graph.{Decl}
use Rattle.model_graph.specs.Evaluation.{content_at, eval, first_large}
use Rattle.model_graph.specs.Lawful.{IsDerived}
use Rattle.model_graph.specs.Message.{gained}
use Rattle.model_world.specs.Command.{Script}
use Rattle.model_world.specs.World.{Peer, fresh_peer, updated}
use Rattle.model_live.specs.Steps.{Updates, Sends, Prints, Step, Does, Waits, steps}

-- node p behind a step of its own, having heard of nobody
abbrev pub after_step : ℕ → Step → Peer → Peer
after_step p (Does (Updates x op)) r = updated p x op r
after_step p (Does Sends) r = r
after_step p (Does (Prints x)) r = r
after_step p (Waits c x until) r = r

unfoldable pub after_steps : ℕ → List Step → Peer → Peer
after_steps p [] r = r
after_steps p (s ∷ left) r = after_steps p left (after_step p s r)

-- node p behind all its own updates, having heard of nobody
abbrev pub alone : List Decl → Script → ℕ → Peer
alone g script p = after_steps p (steps p 1 script.commands) (fresh_peer g script.nodes)

-- contents joined with others, variable by variable
abbrev pub joined : List Content → List Content → List Content
joined others contents = gained (λ x. Some (content_at others x)) 0 contents

-- what these nodes hold together
unfoldable pub together : List Decl → Script → List ℕ → List Content
together g script [] = (fresh_peer g script.nodes).contents
together g script (p ∷ more) = joined (alone g script p).contents (together g script more)

-- a row that is removed
abbrev pub dead_row : Row → Row
dead_row r = (r.0, true)

abbrev pub all_dead : Content → Content
all_dead s = record { rows = map dead_row s.rows; values = s.values; counts = s.counts; top = s.top }

-- what all nodes' updates come to, by variable, each row dead; derived places are least
abbrev pub full : List Decl → Script → List Content
full g script = map all_dead (together g script (range_with_len 0 script.nodes))

-- how many updates node q makes
abbrev pub own_updates : List Decl → Script → ℕ → ℕ
own_updates g script q = count_at (alone g script q).counts q

-- the first variable that comes to too many rows when all is known everywhere. How many rows a set has doesn't hang on which of them are dead
abbrev pub too_large : List Decl → Script → Option ℕ
too_large g script = first_large 0 (eval g (full g script))

-- the derived variable has more rows than the limit, and no derived one before it does
pub record IsFirstLargeDerived (g : List Decl) (contents : List Content) (x : ℕ) : Type 0 where
  pub derived : IsDerived g x
  pub large : row_limit < size_of (content_at contents x)
  pub before : (y : ℕ) → y < x → IsDerived g y → size_of (content_at contents y) ≤ row_limit

-- contents of all variables of a node, no more than all updates together come to
abbrev pub AreWithin : List Decl → Script → List Content → Type 0
AreWithin g script contents = (x : ℕ) → x < length g → IsContentAtMost (content_at contents x) (content_at (eval g (full g script)) x)
