-- A message carries all sources of its sender, and how many updates of each replica the sender knows.
use Rattle.std.specs.Prelude.{ℕ, zero, suc, ◌+◌, if◌then◌else◌, List, [], ◌∷◌, Option, Some, None}
use Rattle.model_sets.specs.Equations.{changed}
use Rattle.model_states.specs.Content.{Content, least, of_set, join_contents}
use Rattle.model_graph.specs.Graph.{Decl, Kind, OrSet, GSet, Counter, MaxReg, Union, Product, Intersection, Map, Filter, Fold, is_source, kind_at}

-- a source in a message: its declaration and what it holds
pub record Sent : Type 0 where
  pub decl : Decl
  pub content : Content

-- a message of a replica: how many updates of each replica it knows, and its sources in their order
pub record Message : Type 0 where
  pub counts : List ℕ
  pub sources : List Sent

-- the sources among the variables, with what they hold
abbrev pub sent_from : List Decl → List Content → List Sent
sent_from [] contents = []
sent_from (d ∷ g) [] = []
sent_from (d ∷ g) (s ∷ contents) = if is_source d.kind then record { decl = d; content = s } ∷ sent_from g contents else sent_from g contents

-- what a replica with these contents and counts sends
abbrev pub message_of : List Decl → List Content → List ℕ → Message
message_of g contents counts = record { counts = counts; sources = sent_from g contents }

-- how many sources are declared before variable x: its place in a message
abbrev pub source_number : List Decl → ℕ → ℕ
source_number [] x = 0
source_number (d ∷ g) zero = 0
source_number (d ∷ g) (suc x) = if is_source d.kind then source_number g x + 1 else source_number g x

-- what a message has of its i-th source; least where it has fewer
abbrev pub sent_at : List Sent → ℕ → Content
sent_at [] i = least
sent_at (s ∷ sent) zero = s.content
sent_at (s ∷ sent) (suc i) = sent_at sent i

-- what a message brings to variable x of a graph, if anything
abbrev pub brought : List Decl → Message → ℕ → Option Content
brought g m x = if is_source (kind_at g x) then Some (sent_at m.sources (source_number g x)) else None

-- a content with what it gains
abbrev pub with_gain : Content → Option Content → Content
with_gain s None = s
with_gain s (Some t) = join_contents s t

-- the contents from variable x on, each with what it gains
abbrev pub gained : (ℕ → Option Content) → ℕ → List Content → List Content
gained gains x [] = []
gained gains x (s ∷ rest) = with_gain s (gains x) ∷ gained gains (x + 1) rest

-- what came to a variable between two contents: of a source that is an observed-remove set the rows that are new or newly dead, of others all of the later content
abbrev pub content_since : Kind → Content → Content → Content
content_since OrSet s t = of_set (changed s.rows t.rows)
content_since GSet s t = t
content_since Counter s t = t
content_since MaxReg s t = t
content_since (Union x y) s t = t
content_since (Product x y) s t = t
content_since (Intersection x y) s t = t
content_since (Map x place ops) s t = t
content_since (Filter x place ops) s t = t
content_since (Fold x op place lift) s t = t
