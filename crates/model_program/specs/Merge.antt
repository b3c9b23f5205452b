-- `merge`: the messages of files, joined over a graph one after the other, and what the variables show of all of them.
use Rattle.std.specs.Prelude.{◌≡◌, ℕ, ◌+◌, ◌&&◌, ◌==◌, Bool, true, false, zero, suc, List, [], ◌∷◌, ◌++◌, length, map, filter, Option, Some, None, Result, Ok, Err, codes}
use Rattle.std.specs.Fmt.{decimal}
use Rattle.std.specs.Str.{bytes_eq}
use Rattle.model_states.specs.Content.{Content}
use Rattle.model_graph.specs.Chain.{◌>>=◌, check, refusing}
use Rattle.model_graph.specs.Graph.{Kind, OrSet, GSet, Counter, MaxReg, Decl, is_source, name_at}
use Rattle.model_graph.specs.Evaluation.{content_at, eval, first_large}
use Rattle.model_graph.specs.Message.{Message}
use Rattle.model_wire.specs.Message.{decoded}
use Rattle.model_wire.specs.declared.wire_why.WireWhy.{WireWhy}
use Rattle.model_world.specs.Line.{line, shown_content}
use Rattle.model_world.specs.World.{Peer, fresh_peer, delivered}
use Rattle.model_scripts.specs.Check.{is_orset, is_gset, is_counter, is_maxreg}
use Rattle.model_program.specs.Plan.{Plan, Says, exactly, checked, reading}
use Rattle.model_program.specs.declared.refusal.Refusal.{Refusal}
use Rattle.model_program.specs.declared.refusal.Refusal.TheVariants as refusal
use Rattle.model_program.specs.declared.state_why.StateWhy.TheVariants.{Wire, WrongGraph}

-- ---- which messages are of a graph

-- the sources of a message, and those of a graph, by their declarations
abbrev pub declared_in : Message → List Decl
declared_in m = map (λ s. s.decl) m.sources

abbrev pub sources_of : List Decl → List Decl
sources_of g = filter (λ d. is_source d.kind) g

-- the first list is how the second begins
pub record IsPrefixOf (first all : List Decl) : Type 0 where
  pub rest : List Decl
  pub is : first ++ rest ≡ all

-- both are the same kind of source
abbrev pub is_same_kind : Kind → Kind → Bool
is_same_kind OrSet k = is_orset k
is_same_kind GSet k = is_gset k
is_same_kind Counter k = is_counter k
is_same_kind MaxReg k = is_maxreg k
is_same_kind _ k = false

-- both are sources of the same name and kind
abbrev pub is_same_source : Decl → Decl → Bool
is_same_source d e = bytes_eq d.name e.name && is_same_kind d.kind e.kind

-- whether the first list of sources is how the second begins
abbrev pub is_prefix_of : List Decl → List Decl → Bool
is_prefix_of [] all = true
is_prefix_of (d ∷ first) [] = false
is_prefix_of (d ∷ first) (e ∷ all) = is_same_source d e && is_prefix_of first all

-- whether a replica may take the message: its sources are the first of the graph's, and it is of as many nodes as the replica
abbrev pub may_take : List Decl → Peer → Message → Bool
may_take g r m = is_prefix_of (declared_in m) (sources_of g) && (length m.counts == length r.counts)

-- ---- one file after the other

-- files are numbered from 0; the names of them stand behind the graph's
abbrev pub file_at : ℕ → ℕ
file_at i = i + 2

abbrev pub state_refused : ℕ → ℕ × WireWhy → Refusal
state_refused i e = refusal.State (file_at i) e.0 (Wire e.1)

-- a variable is too large, if there is one
abbrev pub large_refused : List Decl → ℕ → Option ℕ → Result (Unit {0}) Refusal
large_refused g number None = Ok tt
large_refused g number (Some x) = Err (refusal.TooLarge number 0 (name_at g x))

-- the replica before a file's message: that of the files before it, or a fresh one, among as many nodes as the first message is of
abbrev pub replica_before : List Decl → Option Peer → Message → Peer
replica_before g None m = fresh_peer g (length m.counts)
replica_before g (Some r) m = r

-- the replica after the message of file number i
abbrev pub message_joined : List Decl → ℕ → Peer → Message → Result Peer Refusal
message_joined g i r m = do
  _ ← check (may_take g r m) (refusal.State (file_at i) 0 WrongGraph)
  _ ← large_refused g i (first_large 0 (delivered g m r).contents)
  Ok (delivered g m r)

-- the replica after file number i
unfoldable pub file_joined : List Decl → ℕ → Option Peer → List ℕ → Result Peer Refusal
file_joined g i r bytes = refusing (state_refused i) (decoded bytes) >>= λ m. message_joined g i (replica_before g r m) m

abbrev pub merging_file : List Decl → ℕ → Option Peer → (Peer → Plan) → Plan
merging_file g i r next = reading (file_at i) (λ bytes. checked (λ e. e) (file_joined g i r bytes) next)

-- ---- what is written

-- `NAME VALUE` for each declaration, the first being variable x
abbrev pub value_lines : ℕ → List Decl → List Content → List ℕ
value_lines x [] shown = []
value_lines x (d ∷ g) shown = line (d.name ∷ shown_content d.kind (content_at shown x) ∷ []) ++ value_lines (x + 1) g shown

-- `known COUNT COUNT ..`, the number of updates of each replica in the messages
abbrev pub counts_line : List ℕ → List ℕ
counts_line counts = line (codes "known" ∷ map decimal counts)

abbrev pub merge_text : List Decl → Peer → List ℕ
merge_text g r = value_lines 0 g (eval g r.contents) ++ counts_line r.counts

-- what is answered of the replica of so many files
abbrev pub merge_answer : List Decl → ℕ → Peer → Result (List ℕ) Refusal
merge_answer g files r = do
  _ ← large_refused g files (first_large 0 (eval g r.contents))
  Ok (merge_text g r)

-- so many files more, the first of them being number i
unfoldable pub merging_more : List Decl → ℕ → ℕ → Peer → Plan
merging_more g i zero r = Says (exactly (merge_answer g i r))
merging_more g i (suc more) r = merging_file g i (Some r) (λ next. merging_more g (i + 1) more next)

-- the first file, and so many more
abbrev pub merging_files : List Decl → ℕ → Plan
merging_files g more = merging_file g 0 None (λ r. merging_more g 1 more r)

-- ---- the same, of all messages together

-- how many nodes messages are of: as many as the first
abbrev pub nodes_in : List Message → ℕ
nodes_in [] = 0
nodes_in (m ∷ ms) = length m.counts

-- a replica that takes messages one after the other
abbrev pub taking : List Decl → Peer → List Message → Peer
taking g r [] = r
taking g r (m ∷ ms) = taking g (delivered g m r) ms

-- a fresh replica that took all of the messages
abbrev pub joined : List Decl → List Message → Peer
joined g ms = taking g (fresh_peer g (nodes_in ms)) ms
