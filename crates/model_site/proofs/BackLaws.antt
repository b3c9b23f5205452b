-- From a cause to the answer: what has a cause is what the contents decide.
use Rattle.std.proofs.Common.{refl, sym, ap, subst, ◌∙◌, arith}
use Rattle.std.specs.Prelude.{◌≡◌, ◌<◌, ◌≤◌, ℕ, zero, suc, ◌+◌, ◌-◌, ◌++◌, nat_le, Bool, true, false, if◌then◌else◌, List, [], ◌∷◌, length, take, slice_get, Option, Some, None, is_some, option_and_then, Result, Ok, Err}
use Rattle.std.proofs.lemmas.Bool.{le-ltb, lt-ltb, lt-leb}
use Rattle.model_functions.specs.Library.{Library}
use Rattle.model_graph.specs.Chain.{◌>>=◌, check, refusing}
use Rattle.model_graph.specs.Evaluation.{content_at, first_large}
use Rattle.model_graph.specs.Graph.{Decl, name_at}
use Rattle.model_graph.specs.Message.{Message}
use Rattle.model_graph.specs.Spelling.{spelled}
use Rattle.model_readings.specs.Graph.{graph_of}
use Rattle.model_scripts.specs.Script.{script_of}
use Rattle.model_scripts.specs.declared.script_why.ScriptWhy.TheVariants.{NoSuchNode}
use Rattle.model_states.specs.Content.{size_of, row_limit}
use Rattle.model_states.specs.Counts.{count_at}
use Rattle.model_states.specs.Update.{Op}
use Rattle.model_wire.specs.Message.{decoded}
use Rattle.model_wire.specs.declared.wire_why.WireWhy.{WireWhy}
use Rattle.model_world.specs.Command.{Command, Script}
use Rattle.model_world.specs.World.{Peer, fresh_peer, updated, delivered, message_at, shown_at}
use Rattle.model_program.specs.Merge.{may_take}
use Rattle.model_program.specs.Plan.{word_at, file_limit}
use Rattle.model_program.specs.Told.{IsFileTold, IsOfGraph}
use Rattle.model_program.specs.declared.refusal.Refusal.TheVariants as shared
use Rattle.model_program.specs.declared.state_why.StateWhy.TheVariants.{Wire, WrongGraph}
use Rattle.model_program.proofs.MergeLaws.{take-Decides}
use Rattle.model_site.specs.Cause.{IsFileRefused, file_long, no_message, wrong_graph, source_large, IsUpdateRefused, updates_full, update_large, HasCause, usage, graph_long, graph_bad, script_long, script_bad, no_such_node, not_local, state_refused, file_refused, update_refused, variable_large, written}
use Rattle.model_site.specs.Plan.{Answer, Plan, Says, checked, given, within, reading, told_answer}
use Rattle.model_site.specs.Program.{graph_file, state_file, script_file, first_file, site_of, graph_refused, script_refused, local_refused, is_for, written_state, site_answer, filing_more, taking_in, scripted, plan_of, plan}
use Rattle.model_site.specs.Site.{own, first_other, IsOwn, AreOwn, IsFirstOther, state_refused as refused_state, large_refused, message_taken, state_taken, file_taken, update_limit, update_done, done_by, updates_done}
use Rattle.model_site.specs.Told.{IsGraphTold, IsOpened, IsSite, heard, AreTaken}
use Rattle.model_site.specs.declared.site_refusal.SiteRefusal.{SiteRefusal}
use Rattle.model_site.specs.declared.site_refusal.SiteRefusal.TheVariants.{Shared, NotLocal, FileTooLarge, UpdatesFull}
use Rattle.model_site.proofs.CauseLaws.{told-cause, site-many}
use Rattle.model_site.proofs.PlanLaws.{within-long}
use Rattle.model_site.proofs.PromiseLaws.{files-told, site-told}
use Rattle.model_site.proofs.SiteLaws.{own-is, own-told, ok-same, one-more, none-left}
use Rattle.model_site.proofs.TellLaws.{told-file, told-checked, some-bytes, is-for}
use Rattle.model_site.proofs.WorldLaws.{bound-ok}

-- ---- one step of a plan

module _ (content : List ℕ → Option (List ℕ)) (words : List (List ℕ)) where
  told-says : (a : Answer) → told_answer content words (Says a) ≡ Some a
  unfolding told_answer
  told-says a = refl

  -- a file that is too long
  told-long : (f : ℕ) (bytes : List ℕ) (next : List ℕ → Plan) → content (word_at words f) ≡ Some bytes → file_limit < length bytes → told_answer content words (reading f next) ≡ Some (Err (Shared (shared.TooLong f)))
  unfolding told_answer
  told-long f bytes next is long =
      ap (λ (seen : Option (List ℕ)). option_and_then (λ read. told_answer content words (given (within f read) next)) seen) is
      ∙ ap (λ (read : Result (List ℕ) SiteRefusal). told_answer content words (given read next)) (within-long f bytes long)

  -- bytes that are refused
  told-refused : {A E : Type 0} (refuse : E → SiteRefusal) (r : Result A E) (e : E) (next : A → Plan) → r ≡ Err e → told_answer content words (checked refuse r next) ≡ Some (Err (refuse e))
  told-refused refuse r e next is = ap (λ (s : Result _ _). told_answer content words (checked refuse s next)) is ∙ told-says (Err (refuse e))

-- ---- scripts

own-nothing : (p : ℕ) (k : Command) → ((x : ℕ) (op : Op) → ¬ IsOwn p k x op) → (o : Option (ℕ × Op)) → own p k ≡ o → own p k ≡ None
own-nothing p k foreign (Some u) e = absurd (foreign u.0 u.1 (own-is p k u e))
own-nothing p k foreign None e = e

-- the first command that is another's is found
first-found : (p number : ℕ) (commands : List Command) (place : ℕ) (other : Command) → slice_get commands place ≡ Some other → ((x : ℕ) (op : Op) → ¬ IsOwn p other x op) → AreOwn p (take place commands)
    → first_other p number commands ≡ Some (number + place)
unfolding first_other
first-found p number [] place other at foreign before = absurd cc
first-found p number (k ∷ rest) zero other at foreign before =
    let same : k ≡ other = cc in
    ap (λ (o : Option (ℕ × Op)). if is_some o then first_other p (number + 1) rest else Some number) (own-nothing p k (subst (λ (c : Command). (x : ℕ) (op : Op) → ¬ IsOwn p c x op) (sym same) foreign) (own p k) refl)
    ∙ ap (λ (n : ℕ). Some n) (let none : number ≡ number + 0 = omega arith in none)
first-found p number (k ∷ rest) (suc place) other at foreign before =
    ap (λ (o : Option (ℕ × Op)). if is_some o then first_other p (number + 1) rest else Some number) (own-told p k before.0.0 before.0.1 before.0.2)
    ∙ first-found p (number + 1) rest place other at foreign before.1
    ∙ ap (λ (n : ℕ). Some n) (let same : number + 1 + place ≡ number + suc place = omega arith in same)

abbrev pub with_node : ℕ → Script → Bool → Result (Unit {0}) SiteRefusal
with_node p s b = check b (Shared (shared.Script (length s.commands + 1) NoSuchNode)) >>= (λ _. local_refused (first_other p 1 s.commands))

for-none : (p : ℕ) (s : Script) → s.nodes ≤ p → is_for p s ≡ Err (Shared (shared.Script (length s.commands + 1) NoSuchNode))
for-none p s low = ap (with_node p s) (le-ltb p s.nodes low)

for-other : (p : ℕ) (s : Script) (place : ℕ) → p < s.nodes → IsFirstOther p s.commands place → is_for p s ≡ Err (NotLocal (1 + place))
for-other p s place there first = ap (with_node p s) (lt-ltb p s.nodes there) ∙ ap local_refused (first-found p 1 s.commands place first.other first.at first.foreign first.before)

-- ---- updates

abbrev with_room : ℕ → List Decl → ℕ → Peer → ℕ × Op → Bool → Result Peer SiteRefusal
with_room p g c r u b =
    check b (UpdatesFull c p) >>= (λ _. check (nat_le (size_of (content_at (updated p u.0 u.1 r).contents u.0)) row_limit) (Shared (shared.TooLarge c p (name_at g u.0))) >>= (λ _. Ok (updated p u.0 u.1 r)))

abbrev with_size : ℕ → List Decl → ℕ → Peer → ℕ × Op → Bool → Result Peer SiteRefusal
with_size p g c r u b = check b (Shared (shared.TooLarge c p (name_at g u.0))) >>= (λ _. Ok (updated p u.0 u.1 r))

update-is-refused : (p : ℕ) (g : List Decl) (c : ℕ) (r : Peer) (x : ℕ) (op : Op) (e : SiteRefusal) → IsUpdateRefused p g r x op c e → update_done p g c r (x, op) ≡ Err e
update-is-refused p g c r x op _ (updates_full full) = ap (with_room p g c r (x, op)) (le-ltb (count_at r.counts p) update_limit full)
update-is-refused p g c r x op _ (update_large room large) =
    ap (with_room p g c r (x, op)) (lt-ltb (count_at r.counts p) update_limit room) ∙ ap (with_size p g c r (x, op)) (lt-leb (size_of (content_at (updated p x op r).contents x)) row_limit large)

-- the command behind those that were done is refused, and so are all together
updates-are-refused : (p : ℕ) (g : List Decl) (c : ℕ) (r last : Peer) (before : List Command) (k : Command) (rest : List Command) (e : SiteRefusal) → updates_done p g c r before ≡ Ok last → done_by p g (c + length before) last (own p k) ≡ Err e
    → updates_done p g c r (before ++ k ∷ rest) ≡ Err e
updates-are-refused p g c r last [] k rest e reached refused =
    one-more p g c r k rest
    ∙ ap (λ (a : Result Peer SiteRefusal). a >>= (λ next. updates_done p g (c + 1) next rest))
    (ap (λ (x : Peer). done_by p g c x (own p k)) (ok-same r last (sym (none-left p g c r) ∙ reached)) ∙ ap (λ (n : ℕ). done_by p g n last (own p k)) (let same : c ≡ c + 0 = omega arith in same) ∙ refused)
updates-are-refused p g c r last (j ∷ before) k rest e reached refused =
    let both = bound-ok (done_by p g c r (own p j)) (λ next. updates_done p g (c + 1) next before) last (sym (one-more p g c r j before) ∙ reached) in
    one-more p g c r j (before ++ k ∷ rest)
    ∙ ap (λ (a : Result Peer SiteRefusal). a >>= (λ next. updates_done p g (c + 1) next (before ++ k ∷ rest))) both.1
    ∙ updates-are-refused p g (c + 1) both.0 last before k rest e both.2 (ap (λ (n : ℕ). done_by p g n last (own p k)) (let same : c + 1 + length before ≡ c + suc (length before) = omega arith in same) ∙ refused)

answer-refused : (p : ℕ) (g : List Decl) (s : Script) (r : Peer) (e : SiteRefusal) → updates_done p g 1 r s.commands ≡ Err e → site_answer p g s r ≡ Err e
answer-refused p g s r e refused = ap (λ (a : Result Peer SiteRefusal). a >>= (λ last. written_state p g (length s.commands + 1) last)) refused

abbrev shown_answer : ℕ → List Decl → ℕ → Peer → Option ℕ → Answer
shown_answer p g c last o = large_refused (λ x. Shared (shared.TooLarge c p (name_at g x))) o >>= (λ _. Ok (spelled (message_at g last)))

answer-is : (p : ℕ) (g : List Decl) (s : Script) (r last : Peer) (o : Option ℕ) → updates_done p g 1 r s.commands ≡ Ok last → first_large 0 (shown_at g last) ≡ o → site_answer p g s r ≡ shown_answer p g (length s.commands + 1) last o
answer-is p g s r last o done shown =
    ap (λ (a : Result Peer SiteRefusal). a >>= (λ after. written_state p g (length s.commands + 1) after)) done ∙ ap (shown_answer p g (length s.commands + 1) last) shown

-- ---- states

module _ (p : ℕ) (g : List Decl) (f : ℕ) (r : Peer) where
  file-of : (bytes : List ℕ) (read : Result Message (ℕ × WireWhy)) → decoded bytes ≡ read → file_taken p g f r bytes ≡ (refusing (refused_state f) read >>= (λ m. message_taken p g f r m))
  unfolding file_taken
  file-of bytes read e = ap (λ (a : Result Message (ℕ × WireWhy)). refusing (refused_state f) a >>= (λ m. message_taken p g f r m)) e

  abbrev with_graph : Message → Bool → Result Peer SiteRefusal
  with_graph m b = check b (Shared (shared.State f 0 WrongGraph)) >>= (λ _. large_refused (λ x. FileTooLarge f p (name_at g x)) (first_large 0 (delivered g m r).contents) >>= (λ _. Ok (delivered g m r)))

  abbrev with_large : Message → Option ℕ → Result Peer SiteRefusal
  with_large m o = large_refused (λ x. FileTooLarge f p (name_at g x)) o >>= (λ _. Ok (delivered g m r))

  not-taken : (m : Message) → ¬ (IsOfGraph g m × (length m.counts ≡ length r.counts)) → (b : Bool) → may_take g r m ≡ b → may_take g r m ≡ false
  not-taken m foreign true e = absurd (foreign ((take-Decides g r m).0 e))
  not-taken m foreign false e = e

  -- bytes of a file that is refused, but for its length
  file-is-refused : (content : List ℕ → Option (List ℕ)) (words : List (List ℕ)) (x : SiteRefusal) → IsFileRefused content words p g f r x → (next : Peer → Plan) (taken : List ℕ → Result Peer SiteRefusal)
      → ((bytes : List ℕ) → IsFileTold content words f bytes → taken bytes ≡ file_taken p g f r bytes) → told_answer content words (reading f (λ bytes. given (taken bytes) next)) ≡ Some (Err x)
  file-is-refused content words _ (file_long {bytes = bytes} is long) next taken same = told-long content words f bytes (λ read. given (taken read) next) is long
  file-is-refused content words _ (no_message {bytes = bytes} {place = place} {why = why} file bad) next taken same =
      told-file content words f bytes (λ read. given (taken read) next) file
      ∙ told-refused content words (λ e. e) (taken bytes) (Shared (shared.State f place (Wire why))) next (same bytes file ∙ file-of bytes (Err (place, why)) bad)
  file-is-refused content words _ (wrong_graph {bytes = bytes} {m = m} file read foreign) next taken same =
      told-file content words f bytes (λ seen. given (taken seen) next) file
      ∙ told-refused content words (λ e. e) (taken bytes) (Shared (shared.State f 0 WrongGraph)) next (same bytes file ∙ file-of bytes (Ok m) read ∙ ap (with_graph m) (not-taken m foreign (may_take g r m) refl))
  file-is-refused content words _ (source_large {bytes = bytes} {m = m} {x = x} file read graph nodes large) next taken same =
      told-file content words f bytes (λ seen. given (taken seen) next) file
      ∙ told-refused content words (λ e. e) (taken bytes) (FileTooLarge f p (name_at g x)) next (same bytes file ∙ file-of bytes (Ok m) read ∙ ap (with_graph m) ((take-Decides g r m).1 (graph, nodes)) ∙ ap (with_large m) large)

-- ---- the whole

module _ (lib : Library) (content : List ℕ → Option (List ℕ)) (words : List (List ℕ)) where
  abbrev told : Plan → Option Answer
  told q = told_answer content words q

  abbrev files : ℕ
  files = length words - first_file

  to-words : (p : ℕ) → site_of words ≡ Some p → told (plan lib words) ≡ told (plan_of lib files (Some p))
  to-words p site = ap (λ (o : Option ℕ). told (plan_of lib files o)) site

  to-graph : (p : ℕ) (g : List Decl) → site_of words ≡ Some p → IsGraphTold lib content words g → told (plan lib words) ≡ told (scripted lib p files g)
  to-graph p g site graph =
      to-words p site
      ∙ told-file content words graph_file graph.bytes (λ bytes. checked graph_refused (graph_of lib bytes) (scripted lib p files)) graph.file
      ∙ told-checked content words graph_refused (graph_of lib graph.bytes) g (scripted lib p files) graph.read

  abbrev for_script : ℕ → List Decl → Script → Plan
  for_script p g s = given (is_for p s) (λ _. taking_in p g s files)

  to-script : (p : ℕ) (g : List Decl) (s : Script) → IsOpened lib content words p g s → told (plan lib words) ≡ told (for_script p g s)
  to-script p g s opened =
      to-graph p g opened.site opened.graph
      ∙ told-file content words script_file opened.script.bytes (λ bytes. checked script_refused (script_of lib g bytes) (λ t. for_script p g t)) opened.script.file
      ∙ told-checked content words script_refused (script_of lib g opened.script.bytes) s (λ t. for_script p g t) opened.script.read

  to-states : (p : ℕ) (g : List Decl) (s : Script) → IsSite lib content words p g s → told (plan lib words) ≡ told (taking_in p g s files)
  to-states p g s site = to-script p g s site.opened ∙ told-checked content words (λ e. e) (is_for p s) tt (λ _. taking_in p g s files) (is-for p s site.node site.own)

  to-answer : (p : ℕ) (g : List Decl) (s : Script) (ms : List Message) (a : Answer) → IsSite lib content words p g s → AreTaken content words g s.nodes (length words) ms → site_answer p g s (heard g s.nodes ms) ≡ a → told (plan lib words) ≡ Some a
  to-answer p g s ms a site taken is = site-told lib content words p g s ms (record { site = site; taken = taken }) ∙ ap (λ (b : Answer). Some b) is

  filing-refused : (p : ℕ) (g : List Decl) (s : Script) (f left : ℕ) (r : Peer) (x : SiteRefusal) → IsFileRefused content words p g f r x → told (filing_more p g s f (suc left) r) ≡ Some (Err x)
  unfolding filing_more
  filing-refused p g s f left r x refused = file-is-refused p g f r content words x refused (λ next. filing_more p g s (f + 1) left next) (λ bytes. file_taken p g f r bytes) (λ bytes file. refl)

  -- what has a cause is the answer
  pub cause-told : (a : Answer) → HasCause lib content words a → told (plan lib words) ≡ Some a
  cause-told _ (usage none) = ap (λ (o : Option ℕ). told (plan_of lib files o)) none ∙ told-says content words (Err (Shared shared.Usage))
  cause-told _ (graph_long {p = p} {bytes = bytes} site is long) = to-words p site ∙ told-long content words graph_file bytes (λ read. checked graph_refused (graph_of lib read) (scripted lib p files)) is long
  cause-told _ (graph_bad {p = p} {bytes = bytes} {number = number} {why = why} site file bad) =
      to-words p site
      ∙ told-file content words graph_file bytes (λ read. checked graph_refused (graph_of lib read) (scripted lib p files)) file
      ∙ told-refused content words graph_refused (graph_of lib bytes) (number, why) (scripted lib p files) bad
  cause-told _ (script_long {p = p} {g = g} {bytes = bytes} site graph is long) =
      to-graph p g site graph ∙ told-long content words script_file bytes (λ read. checked script_refused (script_of lib g read) (λ t. for_script p g t)) is long
  cause-told _ (script_bad {p = p} {g = g} {bytes = bytes} {number = number} {why = why} site graph file bad) =
      to-graph p g site graph
      ∙ told-file content words script_file bytes (λ read. checked script_refused (script_of lib g read) (λ t. for_script p g t)) file
      ∙ told-refused content words script_refused (script_of lib g bytes) (number, why) (λ t. for_script p g t) bad
  cause-told _ (no_such_node {p = p} {g = g} {s = s} opened low) =
      to-script p g s opened ∙ told-refused content words (λ e. e) (is_for p s) (Shared (shared.Script (length s.commands + 1) NoSuchNode)) (λ _. taking_in p g s files) (for-none p s low)
  cause-told _ (not_local {p = p} {g = g} {s = s} {place = place} opened there first) =
      to-script p g s opened ∙ told-refused content words (λ e. e) (is_for p s) (NotLocal (1 + place)) (λ _. taking_in p g s files) (for-other p s place there first)
  cause-told _ (state_refused {p = p} {g = g} {s = s} {x = x} site some refused) =
      to-states p g s site
      ∙ file-is-refused p g state_file (fresh_peer g s.nodes) content words x refused (λ r. filing_more p g s first_file files r) (λ bytes. state_taken p g state_file (fresh_peer g s.nodes) bytes)
      (λ bytes file. some-bytes p g state_file (fresh_peer g s.nodes) bytes (λ e. some (subst (λ (b : List ℕ). IsFileTold content words state_file b) e file)))
  cause-told _ (file_refused {p = p} {g = g} {s = s} {f = f} {ms = ms} {x = x} site taken low refused) =
      let left : ℕ = length words - f - 1 in
      to-states p g s site
      ∙ files-told lib content words p g s f (suc left) files ms taken (omega (arith, low, site-many lib content words p site.opened.site))
      ∙ filing-refused p g s f left (heard g s.nodes ms) x refused
  cause-told _ (update_refused {p = p} {g = g} {s = s} {ms = ms} {k = k} {number = number} {last = last} {x = x} {op = op} {e = e} site taken before mine refused) =
      to-answer p g s ms (Err e) site taken (answer-refused p g s (heard g s.nodes ms) e (
      ap (λ (ks : List Command). updates_done p g 1 (heard g s.nodes ms) ks) (sym before.all)
      ∙ updates-are-refused p g 1 (heard g s.nodes ms) last before.done k before.rest e before.reached (
      ap (λ (o : Option (ℕ × Op)). done_by p g (1 + length before.done) last o) (own-told p k x op mine)
      ∙ ap (λ (n : ℕ). update_done p g n last (x, op)) (let same : 1 + length before.done ≡ number = omega (arith, before.number_is) in same)
      ∙ update-is-refused p g number last x op e refused
      )
      ))
  cause-told _ (variable_large {p = p} {g = g} {s = s} {ms = ms} {last = last} {x = x} site taken done large) =
      to-answer p g s ms (Err (Shared (shared.TooLarge (length s.commands + 1) p (name_at g x)))) site taken (answer-is p g s (heard g s.nodes ms) last (Some x) done large)
  cause-told _ (written {p = p} {g = g} {s = s} {ms = ms} {last = last} site taken done small) =
      to-answer p g s ms (Ok (spelled (message_at g last))) site taken (answer-is p g s (heard g s.nodes ms) last None done small)

pub ruleset answers = (told-cause, cause-told, site-told)
