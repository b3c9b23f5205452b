-- From a site's told files to what it writes: the state of its replica in the world in which it took them in.
use Rattle.std.proofs.Common.{refl, sym, ap, subst, ◌∙◌, arith}
use Rattle.std.specs.Prelude.{◌≡◌, ℕ, zero, suc, ◌+◌, ◌-◌, List, [], length, Option, Some, None, Result, Ok, Err}
use Rattle.model_functions.specs.Library.{Library}
use Rattle.model_graph.specs.Chain.{◌>>=◌}
use Rattle.model_graph.specs.Evaluation.{first_large}
use Rattle.model_graph.specs.Graph.{Decl}
use Rattle.model_graph.specs.Message.{Message}
use Rattle.model_graph.specs.Spelling.{spelled}
use Rattle.model_readings.specs.Graph.{graph_of}
use Rattle.model_scripts.specs.Script.{script_of}
use Rattle.model_world.specs.Command.{Script}
use Rattle.model_world.specs.World.{Peer, Run, fresh_peer, delivered, peer_at, message_at, shown_at}
use Rattle.model_program.specs.Ends.{Writing}
use Rattle.model_program.specs.Follows.{View}
use Rattle.model_program.specs.Told.{IsFileTold}
use Rattle.model_program.proofs.MergeLaws.{taking-push}
use Rattle.model_site.specs.Call.{Writes, TellsSite}
use Rattle.model_site.specs.Ends.{Ends, Settles}
use Rattle.model_site.specs.Follows.{Follows}
use Rattle.model_site.specs.Plan.{Answer, Plan, checked, given, told_answer}
use Rattle.model_site.specs.Program.{graph_file, state_file, script_file, first_file, graph_refused, script_refused, is_for, site_answer, filing_more, taking_in, scripted, plan_of, plan}
use Rattle.model_site.specs.Site.{state_taken, file_taken, updates_done, shown_checked}
use Rattle.model_site.specs.Told.{IsSite, heard, IsTaken, AreTaken, nothing, state, more}
use Rattle.model_site.specs.World.{IsSiteWorld}
use Rattle.model_site.specs.declared.site_refusal.SiteRefusal.{SiteRefusal}
use Rattle.model_site.specs.declared.site_failure.SiteFailure.{SiteFailure}
use Rattle.model_site.proofs.AnswerLaws.{follows-told, done-ends}
use Rattle.model_site.proofs.CauseLaws.{site-many}
use Rattle.model_site.proofs.SiteLaws.{large-passed, ok-same}
use Rattle.model_site.proofs.TellLaws.{told-file, told-checked, file-taken, some-bytes, is-for}
use Rattle.model_site.proofs.WorldLaws.{site-world}

-- ---- the plan of a site over its told files comes to the answer of the replica that took them in

module _ (lib : Library) (content : List ℕ → Option (List ℕ)) (words : List (List ℕ)) (p : ℕ) (g : List Decl) (s : Script) where
  abbrev told : Plan → Option Answer
  told q = told_answer content words q

  filing-none : (f : ℕ) (r : Peer) → told (filing_more p g s f zero r) ≡ Some (site_answer p g s r)
  unfolding filing_more told_answer
  filing-none f r = refl

  filing-next : (f left : ℕ) (r : Peer) (m : Message) (taken : IsTaken content words g f r m) → told (filing_more p g s f (suc left) r) ≡ told (filing_more p g s (f + 1) left (delivered g m r))
  unfolding filing_more
  filing-next f left r m taken =
      told-file content words f taken.bytes (λ bytes. given (file_taken p g f r bytes) (λ next. filing_more p g s (f + 1) left next)) taken.file
      ∙ told-checked content words (λ e. e) (file_taken p g f r taken.bytes) (delivered g m r) (λ next. filing_more p g s (f + 1) left next) (file-taken content words p g f r m taken)

  stating-next : (files : ℕ) (bytes : List ℕ) (r : Peer) → IsFileTold content words state_file bytes → state_taken p g state_file (fresh_peer g s.nodes) bytes ≡ Ok r → told (taking_in p g s files) ≡ told (filing_more p g s first_file files r)
  stating-next files bytes r file e =
      told-file content words state_file bytes (λ read. given (state_taken p g state_file (fresh_peer g s.nodes) read) (λ next. filing_more p g s first_file files next)) file
      ∙ told-checked content words (λ x. x) (state_taken p g state_file (fresh_peer g s.nodes) bytes) r (λ next. filing_more p g s first_file files next) e

  -- so many files are taken in
  pub files-told : (f left files : ℕ) (ms : List Message) → AreTaken content words g s.nodes f ms → f + left ≡ first_file + files → told (taking_in p g s files) ≡ told (filing_more p g s f left (heard g s.nodes ms))
  files-told _ left files _ (nothing file) e =
      stating-next files [] (fresh_peer g s.nodes) file refl ∙ ap (λ (n : ℕ). told (filing_more p g s first_file n (fresh_peer g s.nodes))) (let same : files ≡ left = omega (arith, e) in same)
  files-told _ left files _ (state {m = m} some taken) e =
      stating-next files taken.bytes (delivered g m (fresh_peer g s.nodes)) taken.file
      (some-bytes p g state_file (fresh_peer g s.nodes) taken.bytes (λ e. some (subst (λ (bytes : List ℕ). IsFileTold content words state_file bytes) e taken.file)) ∙ file-taken content words p g state_file (fresh_peer g s.nodes) m taken)
      ∙ ap (λ (n : ℕ). told (filing_more p g s first_file n (delivered g m (fresh_peer g s.nodes)))) (let same : files ≡ left = omega (arith, e) in same)
  files-told _ left files _ (more {f = f} {ms = ms} {m = m} before taken) e =
      files-told f (suc left) files ms before (omega (arith, e))
      ∙ filing-next f left (heard g s.nodes ms) m taken
      ∙ ap (λ (r : Peer). told (filing_more p g s (f + 1) left r)) (sym (taking-push g (fresh_peer g s.nodes) ms m))

  script-told : (files : ℕ) → IsSite lib content words p g s → told (scripted lib p files g) ≡ told (taking_in p g s files)
  script-told files site =
      told-file content words script_file site.opened.script.bytes (λ bytes. checked script_refused (script_of lib g bytes) (λ t. given (is_for p t) (λ _. taking_in p g t files))) site.opened.script.file
      ∙ told-checked content words script_refused (script_of lib g site.opened.script.bytes) s (λ t. given (is_for p t) (λ _. taking_in p g t files)) site.opened.script.read
      ∙ told-checked content words (λ e. e) (is_for p s) tt (λ _. taking_in p g s files) (is-for p s site.node site.own)

  graph-told : (files : ℕ) → IsSite lib content words p g s → told (plan_of lib files (Some p)) ≡ told (scripted lib p files g)
  graph-told files site =
      told-file content words graph_file site.opened.graph.bytes (λ bytes. checked graph_refused (graph_of lib bytes) (scripted lib p files)) site.opened.graph.file
      ∙ told-checked content words graph_refused (graph_of lib site.opened.graph.bytes) g (scripted lib p files) site.opened.graph.read

  pub site-told : (ms : List Message) → TellsSite lib content words p g s ms → told (plan lib words) ≡ Some (site_answer p g s (heard g s.nodes ms))
  site-told ms tells =
      let files : ℕ = length words - first_file in
      let many : first_file + files ≡ length words = site-many lib content words p tells.site.opened.site in
      ap (λ (o : Option ℕ). told (plan_of lib files o)) tells.site.opened.site
      ∙ graph-told files tells.site
      ∙ script-told files tells.site
      ∙ files-told (length words) 0 files ms tells.taken (omega (arith, many))
      ∙ filing-none (length words) (heard g s.nodes ms)

-- ---- the world

pub answer-bound : (p : ℕ) (g : List Decl) (s : Script) (r : Peer) (bytes : List ℕ) → site_answer p g s r ≡ Ok bytes
    → (last : Peer) × (updates_done p g 1 r s.commands ≡ Ok last) × (first_large 0 (shown_at g last) ≡ None) × (spelled (message_at g last) ≡ bytes)
answer-bound p g s r bytes e = choose (updates_done p g 1 r s.commands) refl e where
  choose : (a : Result Peer SiteRefusal) → updates_done p g 1 r s.commands ≡ a → (a >>= λ last. shown_checked p g (length s.commands + 1) last >>= λ _. Ok (spelled (message_at g last))) ≡ Ok bytes
      → (last : Peer) × (updates_done p g 1 r s.commands ≡ Ok last) × (first_large 0 (shown_at g last) ≡ None) × (spelled (message_at g last) ≡ bytes)
  choose (Ok last) is h =
      let shown = large-passed _ (first_large 0 (shown_at g last)) (λ _. Ok (spelled (message_at g last))) bytes h in
      (last, is, shown.0, ok-same (spelled (message_at g last)) bytes shown.1)
  choose (Err x) is h = absurd cc

settles-bytes : (words : List (List ℕ)) (v : View) (q : Plan) (a : Answer) (bytes : List ℕ) → Settles words v q a (Ok bytes) → a ≡ Ok bytes
settles-bytes words v q a bytes h = h

pub world-ends : (lib : Library) (words : List (List ℕ)) (v : View) (p : ℕ) (g : List Decl) (s : Script) (ms : List Message) (answer : Result (List ℕ) SiteFailure) (out err : Writing) (status : ℕ)
    → TellsSite lib v.content words p g s ms → Follows words v (plan lib words) answer → Ends words answer out err status → status ≡ 0
    → (run : Run) × IsSiteWorld p g s.nodes ms s.commands run × Writes out (spelled (message_at g (peer_at run.peers p)))
world-ends lib words v p g s ms answer out err status tells follows ends done =
    let written = done-ends words answer out err status done ends in
    let settled = follows-told words v (plan lib words) answer (site_answer p g s (heard g s.nodes ms)) follows (site-told lib v.content words p g s ms tells) in
    let is : site_answer p g s (heard g s.nodes ms) ≡ Ok written.0 =
    subst (λ (a : Result (List ℕ) SiteFailure). Settles words v (plan lib words) (site_answer p g s (heard g s.nodes ms)) a) written.1 settled in
    let parts = answer-bound p g s (heard g s.nodes ms) written.0 is in
    let world = site-world v.content words p g s.nodes (length words) ms s.commands parts.0 tells.site.node tells.site.own tells.taken parts.1 parts.2 in
    (world.0, world.1, subst (λ (bytes : List ℕ). Writes out bytes) (sym parts.3 ∙ ap (λ (r : Peer). spelled (message_at g r)) (sym world.2)) written.2)
