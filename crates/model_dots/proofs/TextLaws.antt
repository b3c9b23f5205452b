-- Replicas without tombstones print what those of the run print.
use Rattle.std.proofs.Common.{◌≡◌, ℕ, suc, ◌+◌, ◌<◌, List, [], ◌∷◌, ◌++◌, length, codes, Ok, refl, sym, ap, subst, ◌∙◌, arith}
use Rattle.std.specs.Fmt.{decimal}
use Rattle.std.proofs.lemmas.List.{append-nil, append_assoc}
use Rattle.model_values.specs.Text.{shown_values}
use Rattle.model_values.specs.Value.{Val}
use Rattle.model_sets.specs.Values.{visible}
use Rattle.model_states.specs.Content.{Content}
use Rattle.model_graph.specs.Graph.{OrSet, Decl, kind_at, is_source}
use Rattle.model_graph.specs.Evaluation.{content_at, eval}
use Rattle.model_graph.proofs.EvalLaws.{eval-given}
use Rattle.model_world.specs.Command as command
use Rattle.model_world.specs.Command.{Command, Script}
use Rattle.model_world.specs.Lawful.{Stage, opening_stage, stage_after, MayBeDone, AreLawful, IsLawful}
use Rattle.model_world.specs.Line.{line, known_line, print_line}
use Rattle.model_world.specs.Report.{known_lines, read_lines, report_of}
use Rattle.model_world.specs.World.{Peer, Run, Opened, peer_at, shown_content_at, sync_acts, acts, ended}
use Rattle.model_world.specs.Delta.{known}
use Rattle.model_world.specs.Follow.{Followed, begin, afters}
use Rattle.model_world.proofs.SoundLaws.{IsSound}
use Rattle.model_world.proofs.RoundLaws.{calm-sync}
use Rattle.model_world.proofs.PlayLaws.{IsAt, stage_of}
use Rattle.model_dots.specs.Dots.{Dots}
use Rattle.model_dots.proofs.StandLaws.{live-visible}
use Rattle.model_dots.specs.Unlimited.{IsUnlimited}
use Rattle.model_dots.specs.DotWorld.{one_set, DotWorld, dots_at, StandsFor, dot_start, IsDotCommand, AreDotCommands, dot_acts, dot_each, dot_play}
use Rattle.model_dots.specs.DotReport.{dot_print, dot_text, dot_known, dot_sizes, live_lines, dot_report, dot_output}
use Rattle.model_dots.proofs.UnlimitedLaws.{followed_all, all-run, step-stands, begin-at, all-sound, ended-unlimited}
use Rattle.model_dots.proofs.CountedLaws.{Counted, counted-begin, counted-step}
use Rattle.model_dots.proofs.AgreeLaws.{Agrees, free-command, begin-agrees, step-agrees, end-agrees, end-stands}
use Rattle.model_world.proofs.DirectLaws.{calm-text}

-- ---- one line

line-agrees : (nodes : ℕ) (f : Followed) (w : DotWorld) (p x : ℕ) → IsSound nodes f → Agrees nodes f w → p < nodes → x < length f.run.graph
    → print_line f.run.graph p x (shown_content_at f.run p x) ≡ line (decimal p ∷ codes "a" ∷ shown_values (visible (dots_at w.nodes p).rows) ∷ [])
line-agrees nodes f w p x s a member low =
    let first : x ≡ 0 = omega (arith, low, ap (λ (g : List Decl). length g) a.graph) in
    let declared : 0 < length f.run.graph = omega (arith, low, first) in
    let source : is_source (kind_at f.run.graph 0) ≡ is_source OrSet = ap (λ (g : List Decl). is_source (kind_at g 0)) a.graph in
    let given : content_at (eval f.run.graph (peer_at f.run.peers p).contents) 0 ≡ content_at (peer_at f.run.peers p).contents 0 = eval-given f.run.graph (peer_at f.run.peers p).contents 0 declared source in
    let shown : visible (content_at (eval f.run.graph (peer_at f.run.peers p).contents) 0).rows ≡ visible (dots_at w.nodes p).rows =
    ap (λ (k : Content). visible k.rows) (given ∙ (s.holds p member).knows 0 declared) ∙ sym (ap (λ (d : Dots). visible d.rows) (a.peers p member) ∙ live-visible (known f.run.graph nodes f.deltas (peer_at f.run.peers p).counts 0).rows) in
    ap (λ (y : ℕ). print_line f.run.graph p y (shown_content_at f.run p y)) first
    ∙ ap (λ (g : List Decl). print_line g p 0 (shown_content_at f.run p 0)) a.graph
    ∙ ap (λ (vs : List Val). line (decimal p ∷ codes "a" ∷ shown_values vs ∷ [])) shown

-- ---- the text

step-text : (nodes : ℕ) (f : Followed) (w : DotWorld) (k : Command) → IsSound nodes f → MayBeDone nodes (stage_of f) k → IsDotCommand k → Agrees nodes f w → (afters f (acts f.run k)).run.text ≡ f.run.text ++ dot_print w k
step-text nodes f w (command.Print p x) s h dot a = ap (λ (words : List ℕ). f.run.text ++ words) (line-agrees nodes f w p x s a h.0 h.1)
step-text nodes f w command.Sync s h dot a = calm-text f (sync_acts (length f.run.peers) (length f.run.sent)) (calm-sync (length f.run.peers) (length f.run.sent)) ∙ (sym (append-nil f.run.text))
step-text nodes f w (command.Add p x v) s h dot a = (sym (append-nil f.run.text))
step-text nodes f w (command.Remove p x v) s h dot a = (sym (append-nil f.run.text))
step-text nodes f w (command.Send p) s h dot a = (sym (append-nil f.run.text))
step-text nodes f w (command.Deliver p i) s h dot a = (sym (append-nil f.run.text))
step-text nodes f w command.Settle s h dot a = (sym (append-nil f.run.text))
step-text nodes f w (command.Insert p x v) s h dot a = absurd dot
step-text nodes f w (command.Inc p x k) s h dot a = absurd dot
step-text nodes f w (command.Max p x n) s h dot a = absurd dot
step-text nodes f w (command.Mark p x) s h dot a = absurd dot
step-text nodes f w (command.Bind p x m) s h dot a = absurd dot
step-text nodes f w (command.Read p x until) s h dot a = absurd dot
step-text nodes f w (command.Await p x until) s h dot a = absurd dot
step-text nodes f w (command.Declare d) s h dot a = absurd dot

all-text : (nodes : ℕ) (stage : Stage) (f : Followed) (w : DotWorld) (commands : List Command) → IsAt nodes stage f → AreLawful nodes stage commands → AreDotCommands commands → Counted nodes f → Agrees nodes f w
    → (followed_all f commands).run.text ≡ f.run.text ++ dot_text w commands
unfolding dot_text
all-text nodes stage f w [] at lawful dots counted a = sym (append-nil f.run.text)
all-text nodes stage f w (k ∷ rest) at lawful dots counted a =
    let may : MayBeDone nodes (stage_of f) k = subst (λ (z : Stage). MayBeDone nodes z k) at.stands lawful.0 in
    all-text nodes (stage_after nodes stage k) (afters f (acts f.run k)) (dot_each w (dot_acts w k)) rest (step-stands nodes stage f k at lawful.0) lawful.1 dots.1
    (counted-step nodes f k at.sound may (free-command k dots.0) counted) (step-agrees nodes f w k at.sound counted may dots.0 a)
    ∙ ap (λ (words : List ℕ). words ++ dot_text (dot_each w (dot_acts w k)) rest) (step-text nodes f w k at.sound may dots.0 a)
    ∙ append_assoc f.run.text (dot_print w k) (dot_text (dot_each w (dot_acts w k)) rest)

-- ---- what each replica knows and keeps

abbrev AllStand : List Dots → List Peer → Type 0
AllStand states peers = (i : ℕ) → i < length peers → StandsFor (dots_at states i) (peer_at peers i)

known-agrees : (p : ℕ) (peers : List Peer) (states : List Dots) → length states ≡ length peers → AllStand states peers → known_lines p peers ≡ dot_known p states
known-agrees p [] [] long same = refl
known-agrees p [] (d ∷ states) long same = absurd (omega (arith, long))
known-agrees p (r ∷ peers) [] long same = absurd (omega (arith, long))
known-agrees p (r ∷ peers) (d ∷ states) long same =
    λ k. known_line p (sym (ap (λ (z : Dots). z.counts) (same 0 (omega arith))) k) ++ known-agrees (p + 1) peers states (omega (arith, long)) (λ i low. same (suc i) (omega (arith, low))) k

sizes-agree : (p : ℕ) (peers : List Peer) (states : List Dots) → length states ≡ length peers → AllStand states peers → live_lines p peers ≡ dot_sizes p states
sizes-agree p [] [] long same = refl
sizes-agree p [] (d ∷ states) long same = absurd (omega (arith, long))
sizes-agree p (r ∷ peers) [] long same = absurd (omega (arith, long))
sizes-agree p (r ∷ peers) (d ∷ states) long same =
    λ k. line (codes "dots" ∷ decimal p ∷ decimal (length (sym (ap (λ (z : Dots). z.rows) (same 0 (omega arith))) k)) ∷ []) ++ sizes-agree (p + 1) peers states (omega (arith, long)) (λ i low. same (suc i) (omega (arith, low))) k

no-reads : (run : Run) (reads : List Opened) → reads ≡ [] → read_lines 0 run reads ≡ []
no-reads run reads e = ap (read_lines 0 run) e

-- ---- the report

module _ (nodes : ℕ) (commands : List Command) (lawful : AreLawful nodes (opening_stage one_set) commands) (dots : AreDotCommands commands) where
  abbrev at_end : Run
  at_end = (followed_all (begin one_set nodes) commands).run

  abbrev states : List Dots
  states = (dot_play (dot_start nodes) commands).nodes

  many : length at_end.peers ≡ nodes
  many = (all-sound one_set nodes commands lawful).many

  long : length states ≡ length at_end.peers
  long = (end-agrees nodes commands lawful dots).many ∙ sym many

  stand : AllStand states at_end.peers
  stand i low = end-stands nodes commands lawful dots i (omega (arith, low, many))

  end-report : report_of (followed_all (begin one_set nodes) commands).run ≡ dot_report nodes commands
  end-report =
      let text : at_end.text ≡ dot_text (dot_start nodes) commands =
      all-text nodes (opening_stage one_set) (begin one_set nodes) (dot_start nodes) commands (begin-at one_set nodes) lawful dots (counted-begin one_set nodes) (begin-agrees nodes) in
      let known_text : known_lines 0 at_end.peers ≡ dot_known 0 states = known-agrees 0 at_end.peers states long stand in
      (λ k. text k ++ known_text k ++ no-reads at_end at_end.reads (end-agrees nodes commands lawful dots).reads k) ∙ append-nil (dot_report nodes commands)

  end-output : dot_output nodes commands ≡ report_of (followed_all (begin one_set nodes) commands).run ++ live_lines 0 (followed_all (begin one_set nodes) commands).run.peers
  end-output = λ k. sym end-report k ++ sym (sizes-agree 0 at_end.peers states long stand) k

-- what replicas without tombstones print and keep is told by the run in which nothing stops
pub output-unlimited : (nodes : ℕ) (commands : List Command) (run : Run) → IsUnlimited one_set nodes commands run → AreDotCommands commands → dot_output nodes commands ≡ report_of run ++ live_lines 0 run.peers
output-unlimited nodes commands run is dots =
    subst (λ (r : Run). dot_output nodes commands ≡ report_of r ++ live_lines 0 r.peers) (all-run (begin one_set nodes) commands ∙ sym is.reached) (end-output nodes commands is.lawful dots)

-- and by the run that comes to its end
pub output-ended : (script : Script) (last : Run) → IsLawful one_set script → AreDotCommands script.commands → ended one_set script ≡ Ok last → dot_output script.nodes script.commands ≡ report_of last ++ live_lines 0 last.peers
output-ended script last lawful dots e = output-unlimited script.nodes script.commands last (record { lawful = lawful.each; reached = ended-unlimited one_set script last e }) dots

pub ruleset reports = (output-unlimited, output-ended)
