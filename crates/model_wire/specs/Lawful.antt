-- What has a spelling: the values, rows, sources and messages whose parts are in their ranges.
use Rattle.std.specs.Prelude.{◌≡◌, ℕ, ◌<◌, ◌≤◌, Bool, true, List, length, get_or, FitsSigned}
use Rattle.std.specs.List.{AllByRecursion}
use Rattle.std.specs.Str.{is_utf8}
use mir.Syntax.{w64}
use Rattle.model_values.specs.Value.{Val, int, text, pair}
use Rattle.model_values.specs.Size.{IsOfWidth}
use Rattle.model_values.specs.Token.{Tok, single, both}
use Rattle.model_values.specs.Row.{Row}
use Rattle.model_sets.specs.Rows.{IsAscending}
use Rattle.model_states.specs.Counts.{count_max}
use Rattle.model_states.specs.Content.{Content, of_set, of_grow, of_counts, of_top}
use Rattle.model_states.specs.Register.{FitsTop}
use Rattle.model_graph.specs.Graph.{Kind, OrSet, GSet, Counter, MaxReg}
use Rattle.model_graph.specs.Message.{Sent, Message}
use Rattle.model_values.specs.Name.{is_name}
use Rattle.model_wire.specs.Message.{is_version}
use Rattle.model_wire.specs.Spelling.{spelled_in}
use Rattle.model_sets.specs.Values.{AreAscending}

-- numbers that are bytes
abbrev pub IsBytes : List ℕ → Type 0
IsBytes bytes = (i : ℕ) → get_or bytes i 0 < 256

-- each number of the value has 64 bits, and each text is UTF-8
abbrev pub IsSpellable : Val → Type 0
IsSpellable (int n) = FitsSigned w64 n
IsSpellable (text t) = is_utf8 t ≡ true
IsSpellable (pair a b) = IsSpellable a × IsSpellable b

-- a value of a source, in a message
pub record IsSourceValue (v : Val) : Type 0 where
  pub size : IsOfWidth 1 v
  pub parts : IsSpellable v

-- how many nodes a message may be of
pub record IsNodes (nodes : ℕ) : Type 0 where
  pub some : 1 ≤ nodes
  pub few : nodes ≤ 8

-- a token of a source: the number of an update of one of the nodes
abbrev pub IsBase : ℕ → Tok → Type 0
IsBase nodes (single q k) = (q < nodes) × (1 ≤ k) × (k ≤ 100000)
IsBase nodes (both t s) = ⊥

abbrev pub IsToken : ℕ → Tok × Bool → Type 0
IsToken nodes t = IsBase nodes t.0

-- a row of a source
abbrev pub IsRow : ℕ → Row → Type 0
IsRow nodes r = IsSourceValue r.0.0 × IsBase nodes r.0.1

-- the rows of an observed-remove set: at most 65,536, ascending
pub record AreRows (nodes : ℕ) (rows : List Row) : Type 0 where
  pub ascending : IsAscending rows
  pub few : length rows ≤ 65536
  pub each : AllByRecursion (IsRow nodes) rows

-- the elements of a grow-only set: at most 65,536, ascending
pub record AreElements (values : List Val) : Type 0 where
  pub ascending : AreAscending values
  pub few : length values ≤ 65536
  pub each : AllByRecursion IsSourceValue values

-- no count is above the most
abbrev pub AreAtMost : ℕ → List ℕ → Type 0
AreAtMost most counts = AllByRecursion (λ c. c ≤ most) counts

-- what a source of a kind may hold; nothing but the part of its kind
abbrev pub IsSource : ℕ → Kind → Content → Type 0
IsSource nodes OrSet s = AreRows nodes s.rows × (s ≡ of_set s.rows)
IsSource nodes GSet s = AreElements s.values × (s ≡ of_grow s.values)
IsSource nodes Counter s = ((length s.counts ≡ nodes) × AreAtMost count_max s.counts) × (s ≡ of_counts s.counts)
IsSource nodes MaxReg s = FitsTop s.top × (s ≡ of_top s.top)
IsSource nodes _ s = ⊥

-- a source of a message: its name is of a name's shape
abbrev pub IsSent : ℕ → Sent → Type 0
IsSent nodes s = (is_name s.decl.name ≡ true) × IsSource nodes s.decl.kind s.content

-- a message: 1 to 8 nodes with counts of at most 100,000, and at most 64 sources
pub record IsMessage (m : Message) : Type 0 where
  pub nodes : IsNodes (length m.counts)
  pub counts : AreAtMost 100000 m.counts
  pub few : length m.sources ≤ 64
  pub sources : AllByRecursion (IsSent (length m.counts)) m.sources

-- the bytes are the message's spelling in a version that there is
pub record IsSpelledSo (m : Message) (bytes : List ℕ) : Type 0 where
  pub version : ℕ
  pub known : is_version version ≡ true
  pub bytes_are : bytes ≡ spelled_in version m
