-- What is printed can be told from what is known alone.
use Rattle.std.proofs.Common.{◌≡◌, ℕ, ◌+◌, ◌<◌, Bool, List, [], ◌∷◌, ◌++◌, length, Result, Ok, refl, sym, ap, subst, ◌∙◌}
use Rattle.std.specs.Fmt.{decimal, signed_decimal}
use Rattle.std.proofs.lemmas.List.{append-nil, append_assoc}
use Rattle.model_values.specs.Text.{shown_values}
use Rattle.model_sets.specs.Rows.{IsAscending}
use Rattle.model_states.specs.Content.{Content}
use Rattle.model_graph.specs.Graph.{Kind, OrSet, GSet, Counter, MaxReg, Union, Product, Intersection, Map, Filter, Fold, Decl, is_source, kind_at, name_at}
use Rattle.model_graph.specs.Evaluation.{content_at, rows_at, eval}
use Rattle.model_graph.specs.Algebra.{values_at, algebra, visible_sets, AreMarkedSources}
use Rattle.model_graph.proofs.EvalLaws.{eval-given}
use Rattle.model_graph.proofs.ShownLaws.{eval-algebra, fold-algebra}
use Rattle.model_world.specs.Command as command
use Rattle.model_world.specs.Command.{Command, Script}
use Rattle.model_world.specs.Line.{line, shown_content, print_line, shown_top}
use Rattle.model_world.specs.Lawful.{Stage, opening_stage, stage_after, MayBeDone, AreLawful, IsLawful}
use Rattle.model_world.specs.Report.{known_lines, read_lines, report_of}
use Rattle.model_world.specs.World.{Run, Act, Post, Take, Point, peer_at, shown_at, acts, act, ended}
use Rattle.model_world.specs.declared.stop.Stop.{Stop}
use Rattle.model_world.proofs.StopLaws.{point-same}
use Rattle.model_world.specs.Direct.{shown_directly, direct_line, known_at, direct_print, after_step, direct_text, direct_report}
use Rattle.model_world.specs.Follow.{Followed, follow_step, follow, begin, followed, afters}
use Rattle.model_world.specs.Owner.{AreOwned, is_dead_in}
use Rattle.model_world.proofs.VariableLaws.{known-ordered}
use Rattle.model_world.proofs.TokenLaws.{known-owned, marked-sources}
use Rattle.model_world.proofs.SoundLaws.{IsSound, sound-begin}
use Rattle.model_world.proofs.FollowLaws.{bound, step-effect, follow-play}
use Rattle.model_world.proofs.RoundLaws.{AreCalm, calm-sync}
use Rattle.model_world.proofs.PlayLaws.{IsAt, stage_of, step-sound}
use Rattle.model_world.proofs.PlaceLaws.{holds-contents}

-- ---- the sources of a node are marked by one test

pub node-owned : (nodes : ℕ) (f : Followed) (p x : ℕ) → IsSound nodes f → p < nodes → x < length f.run.graph → AreOwned f.deltas x (rows_at (peer_at f.run.peers p).contents x)
node-owned nodes f p x s member low =
    subst (λ (c : Content). AreOwned f.deltas x c.rows) (sym ((s.holds p member).knows x low)) (known-owned f.run.graph nodes f.deltas (peer_at f.run.peers p).counts x s.owned)

pub node-marked : (nodes : ℕ) (f : Followed) (p : ℕ) → IsSound nodes f → p < nodes → AreMarkedSources (is_dead_in f.deltas (peer_at f.run.peers p).contents) f.run.graph (peer_at f.run.peers p).contents
node-marked nodes f p s member x low source = (
  subst (λ (c : Content). IsAscending c.rows) (sym ((s.holds p member).knows x low)) (known-ordered f.run.graph nodes f.deltas (peer_at f.run.peers p).counts x).rows,
  marked-sources f.deltas (peer_at f.run.peers p).contents x (node-owned nodes f p x s member low),
)

-- ---- one line

direct-shown : (dead : ℕ → ℕ → Bool) (g : List Decl) (ss : List Content) → AreMarkedSources dead g ss → (x : ℕ) → x < length g → (k : Kind) → kind_at g x ≡ k
    → shown_content k (content_at (eval g ss) x) ≡ shown_directly k (values_at (algebra g (visible_sets ss)) x) (content_at ss x)
direct-shown dead g ss marked x low OrSet e = ap shown_values (eval-algebra dead g ss marked x)
direct-shown dead g ss marked x low GSet e = ap (λ (s : Content). shown_values s.values) (eval-given g ss x low (ap is_source e))
direct-shown dead g ss marked x low Counter e = ap (λ (s : Content). shown_content Counter s) (eval-given g ss x low (ap is_source e))
direct-shown dead g ss marked x low MaxReg e = ap (λ (s : Content). shown_top s.top) (eval-given g ss x low (ap is_source e))
direct-shown dead g ss marked x low (Union y z) e = ap shown_values (eval-algebra dead g ss marked x)
direct-shown dead g ss marked x low (Product y z) e = ap shown_values (eval-algebra dead g ss marked x)
direct-shown dead g ss marked x low (Intersection y z) e = ap shown_values (eval-algebra dead g ss marked x)
direct-shown dead g ss marked x low (Map y place ops) e = ap shown_values (eval-algebra dead g ss marked x)
direct-shown dead g ss marked x low (Filter y place ops) e = ap shown_values (eval-algebra dead g ss marked x)
direct-shown dead g ss marked x low (Fold y op place lift) e = ap signed_decimal (fold-algebra dead g ss marked x op lift)

pub line-direct : (nodes : ℕ) (f : Followed) (p x : ℕ) → IsSound nodes f → p < nodes → x < length f.run.graph
    → print_line f.run.graph p x (content_at (shown_at f.run.graph (peer_at f.run.peers p)) x) ≡ direct_line f.run.graph p x (known_at nodes f p)
line-direct nodes f p x s member low =
    ap (λ (word : List ℕ). line (decimal p ∷ name_at f.run.graph x ∷ word ∷ []))
    (direct-shown (is_dead_in f.deltas contents) f.run.graph contents (node-marked nodes f p s member) x low (kind_at f.run.graph x) refl)
    ∙ ap (direct_line f.run.graph p x) (holds-contents f.run.graph nodes f.deltas contents (peer_at f.run.peers p).counts (s.holds p member)) where
      contents : List Content
      contents = (peer_at f.run.peers p).contents

-- ---- the text

pub calm-text : (f : Followed) (many : List Act) → AreCalm many → (afters f many).run.text ≡ f.run.text
calm-text f [] h = refl
calm-text f (Post p ∷ rest) h = calm-text (followed f (Post p)) rest h.1
calm-text f (Take p i ∷ rest) h = calm-text (followed f (Take p i)) rest h.1
calm-text f (a ∷ rest) h = absurd h.0

step-text : (nodes : ℕ) (f : Followed) (k : Command) → IsSound nodes f → MayBeDone nodes (stage_of f) k → (afters f (acts f.run k)).run.text ≡ f.run.text ++ direct_print nodes f k
step-text nodes f (command.Print p x) s h = ap (λ (words : List ℕ). f.run.text ++ words) (line-direct nodes f p x s h.0 h.1)
step-text nodes f command.Sync s h = calm-text f _ (calm-sync (length f.run.peers) (length f.run.sent)) ∙ (sym (append-nil f.run.text))
step-text nodes f (command.Add p x v) s h = (sym (append-nil f.run.text))
step-text nodes f (command.Remove p x v) s h = (sym (append-nil f.run.text))
step-text nodes f (command.Insert p x v) s h = (sym (append-nil f.run.text))
step-text nodes f (command.Inc p x k) s h = (sym (append-nil f.run.text))
step-text nodes f (command.Max p x n) s h = (sym (append-nil f.run.text))
step-text nodes f (command.Mark p x) s h = (sym (append-nil f.run.text))
step-text nodes f (command.Bind p x m) s h = (sym (append-nil f.run.text))
step-text nodes f (command.Send p) s h = (sym (append-nil f.run.text))
step-text nodes f (command.Deliver p i) s h = (sym (append-nil f.run.text))
step-text nodes f command.Settle s h = (sym (append-nil f.run.text))
step-text nodes f (command.Read p x until) s h = (sym (append-nil f.run.text))
step-text nodes f (command.Await p x until) s h = (sym (append-nil f.run.text))
step-text nodes f (command.Declare d) s h = (sym (append-nil f.run.text))

follow-text : (nodes c : ℕ) (stage : Stage) (f last : Followed) (commands : List Command) → IsAt nodes stage f → AreLawful nodes stage commands → follow c f commands ≡ Ok last
    → last.run.text ≡ f.run.text ++ direct_text nodes c f commands
unfolding follow direct_text
follow-text nodes c stage f last [] at lawful e = ap (λ (z : Followed). z.run.text) (let same : last ≡ f = cc in same) ∙ (sym (append-nil f.run.text))
follow-text nodes c stage f last (k ∷ rest) at lawful e =
    let both = bound (follow_step c f k) (λ next. follow (c + 1) next rest) last e in
    let mid = both.0 in
    let here : mid.run.text ≡ f.run.text ++ direct_print nodes f k =
    ap (λ (z : Followed). z.run.text) (step-effect c f mid k both.1) ∙ step-text nodes f k at.sound (subst (λ (z : Stage). MayBeDone nodes z k) at.stands lawful.0) in
    follow-text nodes (c + 1) (stage_after nodes stage k) mid last rest (step-sound nodes c stage f mid k at lawful.0 both.1) lawful.1 both.2
    ∙ ap (λ (words : List ℕ). words ++ direct_text nodes (c + 1) mid rest) here
    ∙ append_assoc f.run.text (direct_print nodes f k) (direct_text nodes (c + 1) mid rest)
    ∙ ap (λ (r : Result Followed Stop). f.run.text ++ (direct_print nodes f k ++ after_step r (λ next. direct_text nodes (c + 1) next rest))) (sym both.1)

-- the report of a lawful script whose run comes to its end is the direct one
pub report-direct : (g : List Decl) (script : Script) (last : Run) → IsLawful g script → ended g script ≡ Ok last → report_of last ≡ direct_report g script last
report-direct g script last lawful e =
    let both = bound (follow 1 (begin g script.nodes) script.commands) (λ f. act (1 + length script.commands) f.run Point) last (follow-play 1 (begin g script.nodes) script.commands ∙ e) in
    let f = both.0 in
    let same : last ≡ f.run = point-same (1 + length script.commands) 0 f.run.peers f.run last both.2 in
    let text : last.text ≡ direct_text script.nodes 1 (begin g script.nodes) script.commands =
    ap (λ (run : Run). run.text) same
    ∙ follow-text script.nodes 1 (opening_stage g) (begin g script.nodes) f script.commands (record { sound = sound-begin g script.nodes; stands = refl }) lawful.each both.1 in
    ap (λ (words : List ℕ). words ++ known_lines 0 last.peers ++ read_lines 0 last last.reads) text
