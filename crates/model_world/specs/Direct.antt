-- The report taken from what is known: sets and folds by the plain algebra over the visible values of what is known of the sources, other sources by the value of what is known.
use Rattle.std.specs.Prelude.{ℕ, ◌+◌, List, [], ◌∷◌, ◌++◌, sum, Result, Ok, Err}
use Rattle.std.specs.Fmt.{decimal, signed_decimal}
use Rattle.model_values.specs.Value.{Val}
use Rattle.model_values.specs.Text.{shown_values}
use Rattle.model_states.specs.Content.{Content}
use Rattle.model_graph.specs.Graph.{Kind, OrSet, GSet, Counter, MaxReg, Union, Product, Intersection, Map, Filter, Fold, Decl, kind_at, name_at}
use Rattle.model_graph.specs.Evaluation.{content_at}
use Rattle.model_graph.specs.Fold.{fold_values}
use Rattle.model_graph.specs.Algebra.{values_at, algebra, visible_sets}
use Rattle.model_world.specs.Command as command
use Rattle.model_world.specs.Command.{Command, Script}
use Rattle.model_world.specs.Line.{line, shown_top}
use Rattle.model_world.specs.Report.{known_lines, read_lines}
use Rattle.model_world.specs.World.{Run, peer_at}
use Rattle.model_world.specs.declared.stop.Stop.{Stop}
use Rattle.model_world.specs.Delta.{known_contents}
use Rattle.model_world.specs.Follow.{Followed, begin, follow_step}

-- how a variable is printed whose values by the algebra are these, and of which this content is known
abbrev pub shown_directly : Kind → List Val → Content → List ℕ
shown_directly OrSet values s = shown_values values
shown_directly GSet values s = shown_values s.values
shown_directly Counter values s = decimal (sum s.counts)
shown_directly MaxReg values s = shown_top s.top
shown_directly (Union x y) values s = shown_values values
shown_directly (Product x y) values s = shown_values values
shown_directly (Intersection x y) values s = shown_values values
shown_directly (Map x place ops) values s = shown_values values
shown_directly (Filter x place ops) values s = shown_values values
shown_directly (Fold x op place lift) values s = signed_decimal (fold_values op lift values)

-- `NODE NAME VALUE` from these contents of the sources alone
abbrev pub direct_line : List Decl → ℕ → ℕ → List Content → List ℕ
direct_line g p x sources = line (decimal p ∷ name_at g x ∷ shown_directly (kind_at g x) (values_at (algebra g (visible_sets sources)) x) (content_at sources x) ∷ [])

-- what node p knows of each variable
abbrev pub known_at : ℕ → Followed → ℕ → List Content
known_at nodes f p = known_contents f.run.graph nodes f.deltas (peer_at f.run.peers p).counts

-- the line that a command prints
abbrev pub direct_print : ℕ → Followed → Command → List ℕ
direct_print nodes f (command.Print p x) = direct_line f.run.graph p x (known_at nodes f p)
direct_print nodes f _ = []

-- what is printed after a command, the rest of the text being a matter of the place after it
abbrev pub after_step : Result Followed Stop → (Followed → List ℕ) → List ℕ
after_step (Ok next) rest = rest next
after_step (Err stop) rest = []

-- the lines that the commands print, the first of which has number c
unfoldable pub direct_text : ℕ → ℕ → Followed → List Command → List ℕ
direct_text nodes c f [] = []
direct_text nodes c f (k ∷ rest) = direct_print nodes f k ++ after_step (follow_step c f k) (λ next. direct_text nodes (c + 1) next rest)

-- the report of a script whose run ended in this world: the printed lines from what is known, then the lines of what each node knows and of the reads
abbrev pub direct_report : List Decl → Script → Run → List ℕ
direct_report g script last = direct_text script.nodes 1 (begin g script.nodes) script.commands ++ known_lines 0 last.peers ++ read_lines 0 last last.reads
