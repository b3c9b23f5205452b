-- The report of a script: the printed lines in their order, then what each node knows at the end, and then which reads came to their thresholds.
use Rattle.std.specs.Prelude.{ℕ, ◌+◌, List, [], ◌∷◌, ◌++◌}
use Rattle.model_states.specs.Threshold.{meets}
use Rattle.model_world.specs.Line.{known_line, read_line}
use Rattle.model_world.specs.World.{Peer, Opened, Run, shown_content_at}

-- a line for each replica, the first being number p
abbrev pub known_lines : ℕ → List Peer → List ℕ
known_lines p [] = []
known_lines p (r ∷ peers) = known_line p r.counts ++ known_lines (p + 1) peers

-- a line for each read, the first being number k, by what the last world shows
abbrev pub read_lines : ℕ → Run → List Opened → List ℕ
read_lines k run [] = []
read_lines k run (o ∷ reads) = read_line k (meets o.threshold (shown_content_at run o.node o.var)) ++ read_lines (k + 1) run reads

-- the text of a run that came to its end
abbrev pub report_of : Run → List ℕ
report_of run = run.text ++ known_lines 0 run.peers ++ read_lines 0 run run.reads
