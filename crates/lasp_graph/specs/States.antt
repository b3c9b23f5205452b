-- Lists of states as plain data, and as trees of numbers.
use Rattle.std.specs.Prelude.{◌≡◌, ℕ, ◌<◌, ℤ, pos, IsTrue, List, length, map, slice_index_or, refl}
use Rattle.std.specs.Coded.{Coded, code_by, coded×, coded_ℤ, coded_list}
use Rattle.model_states.specs.Coded.{coded_shape, coded_content}
use Rattle.model_values.specs.Row.{Row}
use Rattle.model_sets.specs.Rows.{join}
use Rattle.model_states.specs.Content.{Content, least, of_set, join_contents}
use Rattle.model_states.specs.Threshold.{Shape, set, grow, counter, register, fold}
use Rattle.model_graph.specs.Graph.{Decl, is_source, kind_at}
use Rattle.model_graph.specs.Lawful as lawful
use Rattle.lasp_state.specs.declared.state.State.{State}
use Rattle.lasp_state.specs.State.{content_of, shape_of, number_of, number_after, AreNested}

-- a state: what sort of content it has, the content, and a fold's number
pub record Held : Type 0 where
  pub shape : Shape
  pub content : Content
  -- 0 where it is no fold
  pub number : ℤ

abbrev pub held_of : State → Held
held_of s = record { shape = shape_of s; content = content_of s; number = number_of s }

-- the contents of states
abbrev pub contents_of : List Held → List Content
contents_of states = map (λ h. h.content) states

-- the state at a place; a set with no rows where there is none
abbrev pub held_at : List Held → ℕ → Held
held_at states x = slice_index_or states x (record { shape = set; content = least; number = pos 0 })

-- the state of each source is of its kind's shape, among so many nodes
abbrev pub AreSourcesOfKind : ℕ → List Decl → List Held → Type 0
AreSourcesOfKind nodes g states = (x : ℕ) → x < length g → IsTrue (is_source (kind_at g x)) → (held_at states x).shape ≡ lawful.shape_of nodes (kind_at g x)

-- a state with another one joined in: of two folds the greater, with its number
abbrev pub grown : Held → Held → Held
grown h s = record { shape = h.shape; content = join_contents h.content s.content; number = number_after h.content h.number s.content s.number }

-- a state of this shape has rows: it is a set, or a fold, which covers one
abbrev pub HasRows : Shape → Type 0
HasRows set = Unit {0}
HasRows grow = ⊥
HasRows (counter nodes) = ⊥
HasRows register = ⊥
HasRows fold = Unit {0}

-- a state with rows joined in, which has this number then
abbrev pub extended : Held → List Row → ℤ → Held
extended h rows number = record { shape = h.shape; content = of_set (join h.content.rows rows); number = number }

-- states that may be joined: of one shape, folds where one covers the other
pub record AreJoinable (h s : Held) : Type 0 where
  pub shape : h.shape ≡ s.shape
  pub nested : AreNested h.shape h.content s.content

abbrev pub coded_states : Coded (List Held)
coded_states =
    coded_list (code_by (Shape × (Content × ℤ)) (coded× coded_shape (coded× coded_content coded_ℤ))
    (λ h. (h.shape, (h.content, h.number))) (λ p. record { shape = p.0; content = p.1.0; number = p.1.1 }) (λ _. refl))
