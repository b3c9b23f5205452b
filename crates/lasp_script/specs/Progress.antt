-- What the commands that were read leave for the next one, as it is kept: beside the graph that the script began with.
use Rattle.std.specs.Prelude.{◌≡◌, ℕ, ◌*◌, ◌<◌, ◌≤◌, Bool, List, [], ◌∷◌, ◌++◌, length, filter, Option, Some, None, refl}
use Rattle.std.specs.Coded.{Coded, code_by, coded×, coded_ℕ, coded_list, coded_option}
use Rattle.model_graph.specs.Graph.{Decl}
use Rattle.model_graph.specs.Lawful.{variable_limit}
use Rattle.model_readings.specs.Lawful.{IsNext}
use Rattle.model_world.specs.Command as command
use Rattle.model_world.specs.Command.{Command}
use Rattle.model_world.specs.Lawful.{stage_after, mark_limit, is_mark, is_read}
use Rattle.model_scripts.specs.Progress as plain
use Rattle.model_scripts.specs.Progress.{mark_of}
use Rattle.model_scripts.specs.Check.{command_limit}
use Rattle.model_graph.specs.Coded.{coded_decls}
use Rattle.lasp_script.specs.Coded.{coded_command}
use Rattle.lasp_script.specs.Marks.{Mark, names_of, marked_of}

-- the commands, the graph where they declared variables, the marks, and the number of messages
pub record Left : Type 0 where
  pub commands : List Command
  pub grown : Option (List Decl)
  pub marks : List Mark
  pub sent : ℕ

abbrev pub left : List Command → Option (List Decl) → List Mark → ℕ → Left
left commands grown marks sent = record { commands = commands; grown = grown; marks = marks; sent = sent }

abbrev pub coded_left : Coded Left
coded_left =
    code_by (List Command × (Option (List Decl) × (List Mark × ℕ)))
    (coded× (coded_list coded_command) (coded× (coded_option coded_decls) (coded× (coded_list (coded× (coded_list coded_ℕ) coded_ℕ)) coded_ℕ)))
    (λ l. (l.commands, (l.grown, (l.marks, l.sent)))) (λ p. left p.0 p.1.0 p.1.1.0 p.1.1.1) (λ _. refl)

-- how many of the commands pass a test
abbrev pub count_among : (Command → Bool) → List Command → ℕ
count_among test ks = length (filter test ks)

-- the numbers that are kept beside the commands are theirs: at most 255 nodes send at once
pub record IsKept (commands : List Command) (marks : List Mark) (sent reads : ℕ) : Type 0 where
  pub few : length commands < command_limit
  pub marked : length marks ≡ count_among is_mark commands
  pub read : reads ≡ count_among is_read commands
  pub messages : sent ≤ 255 * length commands

-- the present graph
abbrev pub present : List Decl → Option (List Decl) → List Decl
present g None = g
present g (Some grown) = grown

-- what is left, over the graph that the script began with
abbrev pub progress_over : List Decl → Left → plain.Progress
progress_over g l = record { commands = l.commands; stage = record { graph = present g l.grown; marked = marked_of l.marks; sent = l.sent }; names = names_of l.marks }

-- ---- one command more

-- the mark that a command makes under a name
abbrev pub marks_by : Command → Option (List ℕ) → List Mark
marks_by (command.Mark p x) (Some m) = (m, x) ∷ []
marks_by _ _ = []

-- how many messages a command sends
abbrev pub sent_by : ℕ → Command → ℕ
sent_by nodes (command.Send p) = 1
sent_by nodes command.Sync = nodes
sent_by nodes _ = 0

-- how many reads a command opens
abbrev pub reads_by : Command → ℕ
reads_by (command.Read p x until) = 1
reads_by _ = 0

-- the progress behind a command that may make a mark under a name
abbrev pub behind : ℕ → plain.Progress → Command → Option (List ℕ) → plain.Progress
behind nodes p k name = record { commands = p.commands ++ k ∷ []; stage = stage_after nodes p.stage k; names = p.names ++ names_of (marks_by k name) }

-- a command that makes a mark has a name for it, which is new, and there is room for one more
abbrev pub MayMark : List Mark → Command → Option (List ℕ) → Type 0
MayMark ms (command.Mark p x) (Some m) = (mark_of m (names_of ms) ≡ None) × (length ms < mark_limit)
MayMark ms (command.Mark p x) None = ⊥
MayMark ms _ _ = Unit {0}

-- what a command declares may follow the graph, and has room
abbrev pub MayGrow : List Decl → Command → Type 0
MayGrow g (command.Declare d) = IsNext g d × (length g < variable_limit)
MayGrow g _ = Unit {0}
