-- What updates brought, and what a replica knows that counts how many updates of each replica it knows.
use Rattle.std.specs.Prelude.{ℕ, ◌==◌, List, [], ◌∷◌, ◌++◌, length, map, filter, take, Option, slice_index_or}
use Rattle.std.specs.List.{range_with_len}
use Rattle.model_values.specs.Value.{Val}
use Rattle.model_states.specs.Content.{Content, join_contents}
use Rattle.model_graph.specs.Graph.{Decl, kind_at}
use Rattle.model_graph.specs.Evaluation.{least_of}

-- what an update of a replica brought: its variable, the value that it gave a fresh token if it was an add, and the content that it joined in
pub record Delta : Type 0 where
  pub var : ℕ
  pub added : Option Val
  pub content : Content

-- the deltas of replica q, its first update first
abbrev pub deltas_at : List (List Delta) → ℕ → List Delta
deltas_at all q = slice_index_or all q []

-- the first so many deltas of each replica, replica by replica
abbrev pub first_deltas : List (List Delta) → List ℕ → List Delta
first_deltas [] counts = []
first_deltas (deltas ∷ all) [] = []
first_deltas (deltas ∷ all) (c ∷ counts) = take c deltas ++ first_deltas all counts

-- what deltas brought to a variable
abbrev pub brought_to : ℕ → List Delta → List Content
brought_to x deltas = map (λ d. d.content) (filter (λ d. d.var == x) deltas)

-- the join of contents, with a content below all
abbrev pub join_all : Content → List Content → Content
join_all s [] = s
join_all s (t ∷ contents) = join_contents t (join_all s contents)

-- what is known of variable x by these counts: the join of what the first so many updates of each replica brought to it
abbrev pub known : List Decl → ℕ → List (List Delta) → List ℕ → ℕ → Content
known g nodes all counts x = join_all (least_of nodes (kind_at g x)) (brought_to x (first_deltas all counts))

-- what is known of each variable of the graph; of a derived variable nothing is
unfoldable pub known_contents : List Decl → ℕ → List (List Delta) → List ℕ → List Content
known_contents g nodes all counts = map (known g nodes all counts) (range_with_len 0 (length g))
