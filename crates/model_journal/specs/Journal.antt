-- What a list of entries comes to: a machine that takes one entry after the other and keeps what stood before each.
use Rattle.std.specs.Prelude.{ℕ, ◌+◌, if◌then◌else◌, ◌==◌, List, [], ◌∷◌, ◌++◌, map, Option, Some, None, slice_index_or, slice_set}
use Rattle.model_states.specs.Counts.{count_at, zeros, larger}
use Rattle.model_states.specs.Content.{Content, least, is_content_at_most}
use Rattle.model_states.specs.Update.{delta}
use Rattle.model_graph.specs.Graph.{Decl, kind_at, is_source}
use Rattle.model_graph.specs.Evaluation.{least_of, content_at, equation}
use Rattle.model_graph.specs.Message.{brought, gained}
use Rattle.model_journal.specs.Entry.{Act, Update, Deliver, Bind, Extend, Entry, Frame}

-- what stands after some entries: the graph, the content of each variable, the counts, and how often each variable grew
pub record Snapshot : Type 0 where
  pub graph : List Decl
  pub contents : List Content
  pub counts : List ℕ
  pub versions : ℕ → ℕ

pub record Journal : Type 0 where
  -- what stood before each entry, oldest first
  pub past : List Snapshot
  pub now : Snapshot
  -- each variable bound, with the number of entries whose contents its equation read
  pub binds : List (ℕ × ℕ)

-- what stood after the first n entries
abbrev pub snapshot_at : Journal → ℕ → Snapshot
snapshot_at j n = slice_index_or j.past n j.now

-- what an act joins into variable x, if anything
abbrev pub gain : Frame → Journal → Act → ℕ → Option Content
gain X j (Update y op) x = if x == y then Some (delta op (content_at j.now.contents y) X.replica (count_at j.now.counts X.replica + 1)) else None
gain X j (Deliver i m) x = brought j.now.graph m x
gain X j (Bind y n) x = if x == y then Some (equation (kind_at j.now.graph y) (snapshot_at j n).contents) else None
gain X j (Extend d) x = None

-- the contents that an act adds at the end: what a declared variable has before anything happened
abbrev pub opened : ℕ → Act → List Content
opened nodes (Update y op) = []
opened nodes (Deliver i m) = []
opened nodes (Bind y n) = []
opened nodes (Extend d) = least_of nodes d.kind ∷ []

-- the contents after an act
abbrev pub contents_after : Frame → Journal → Act → List Content
contents_after X j act = gained (gain X j act) 0 j.now.contents ++ opened X.nodes act

-- the graph after an act
abbrev pub graph_after : List Decl → Act → List Decl
graph_after g (Update y op) = g
graph_after g (Deliver i m) = g
graph_after g (Bind y n) = g
graph_after g (Extend d) = g ++ d ∷ []

-- the counts after an act: an update is counted at its replica
abbrev pub counts_after : Frame → List ℕ → Act → List ℕ
counts_after X counts (Update y op) = slice_set counts X.replica (count_at counts X.replica + 1)
counts_after X counts (Deliver i m) = larger counts m.counts
counts_after X counts (Bind y n) = counts
counts_after X counts (Extend d) = counts

-- a variable's version goes up by one where its content grew
abbrev pub version_after : ℕ → Content → Content → ℕ
version_after version old new = if is_content_at_most new old then version else version + 1

-- the binds after an act
abbrev pub binds_after : List (ℕ × ℕ) → Act → List (ℕ × ℕ)
binds_after binds (Update y op) = binds
binds_after binds (Deliver i m) = binds
binds_after binds (Bind y n) = (y, n) ∷ binds
binds_after binds (Extend d) = binds

-- what stands after an act
abbrev pub snapshot_after : Frame → Journal → Act → Snapshot
snapshot_after X j act = record {
  graph = graph_after j.now.graph act;
  contents = contents_after X j act;
  counts = counts_after X j.now.counts act;
  versions = λ x. version_after (j.now.versions x) (content_at j.now.contents x) (content_at (contents_after X j act) x);
}

-- the journal with one more entry
abbrev pub next : Frame → Journal → Entry → Journal
next X j e = record { past = j.past ++ j.now ∷ []; now = snapshot_after X j e.act; binds = binds_after j.binds e.act }

-- the journal with these entries more
abbrev pub run : Frame → Journal → List Entry → Journal
run X j [] = j
run X j (e ∷ entries) = run X (next X j e) entries

-- before the first entry: every variable of the opening graph has what it has before anything happened, and no update is known
abbrev pub start : Frame → Journal
start X = record {
  past = [];
  now = record { graph = X.opening; contents = map (λ d. least_of X.nodes d.kind) X.opening; counts = zeros X.nodes; versions = λ x. 0 };
  binds = [];
}

-- the journal of a list of entries
abbrev pub journal : Frame → List Entry → Journal
journal X entries = run X (start X) entries

-- the graph after the entries
abbrev pub graph : Frame → List Entry → List Decl
graph X entries = (journal X entries).now.graph

-- the content of each variable after the entries
abbrev pub vals : Frame → List Entry → List Content
vals X entries = (journal X entries).now.contents

-- the content of one variable after the entries
abbrev pub val : Frame → List Entry → ℕ → Content
val X entries x = content_at (vals X entries) x

-- how many updates of each replica are known after the entries
abbrev pub counts : Frame → List Entry → List ℕ
counts X entries = (journal X entries).now.counts

-- the source part, by variable: derived places are least
abbrev pub sources_from : List Decl → List Content → List Content
sources_from [] contents = []
sources_from (d ∷ g) [] = []
sources_from (d ∷ g) (s ∷ contents) = (if is_source d.kind then s else least) ∷ sources_from g contents

-- the source part after the entries
abbrev pub sources : Frame → List Entry → List Content
sources X entries = sources_from (graph X entries) (vals X entries)

-- what entries declare, in order
abbrev pub declared_by : Act → List Decl
declared_by (Update y op) = []
declared_by (Deliver i m) = []
declared_by (Bind y n) = []
declared_by (Extend d) = d ∷ []

-- what a list of entries declares
abbrev pub declared : List Entry → List Decl
declared [] = []
declared (e ∷ entries) = declared_by e.act ++ declared entries
