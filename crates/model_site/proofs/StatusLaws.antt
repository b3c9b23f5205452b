-- A site ends with few statuses, whatever its files hold.
use Rattle.std.proofs.Common.{sym, subst}
use Rattle.std.specs.Prelude.{ℕ, zero, suc, ◌+◌, ◌-◌, nat_lt, nat_le, Bool, true, false, List, [], ◌∷◌, length, Option, Some, None, Result, Ok, Err}
use mathlib.Core.Logic.{inl, inr}
use Rattle.model_functions.specs.Library.{Library}
use Rattle.model_graph.specs.Chain.{◌>>=◌, check, refusing}
use Rattle.model_graph.specs.Evaluation.{content_at, first_large}
use Rattle.model_graph.specs.Graph.{Decl, name_at}
use Rattle.model_graph.specs.Message.{Message}
use Rattle.model_graph.specs.Spelling.{spelled}
use Rattle.model_readings.specs.Graph.{graph_of}
use Rattle.model_scripts.specs.Script.{script_of}
use Rattle.model_scripts.specs.declared.script_why.ScriptWhy.TheVariants.{NoSuchNode}
use Rattle.model_states.specs.Content.{size_of, row_limit}
use Rattle.model_states.specs.Counts.{count_at}
use Rattle.model_states.specs.Update.{Op}
use Rattle.model_wire.specs.Message.{decoded}
use Rattle.model_world.specs.Command.{Command, Script}
use Rattle.model_world.specs.World.{Peer, fresh_peer, updated, delivered, message_at, shown_at}
use Rattle.model_program.specs.Ends.{Writing}
use Rattle.model_program.specs.Follows.{View}
use Rattle.model_program.specs.Merge.{may_take}
use Rattle.model_program.specs.Plan.{file_limit}
use Rattle.model_program.specs.declared.refusal.Refusal.TheVariants as shared
use Rattle.model_program.specs.declared.state_why.StateWhy.TheVariants.{WrongGraph}
use Rattle.model_site.specs.Ends.{Ends, IsSiteStatus, done, usage, graph, script, file, output, limit, memory, state}
use Rattle.model_site.specs.Follows.{Follows}
use Rattle.model_site.specs.Line.{site_refusal_status}
use Rattle.model_site.specs.Plan.{Plan, Says, Reads, checked, given, reading}
use Rattle.model_site.specs.Program.{first_file, site_of, graph_refused, script_refused, local_refused, is_for, written_state, site_answer, filing_more, taking_in, scripted, plan_of, plan}
use Rattle.model_site.specs.Site.{own, first_other, state_refused, large_refused, message_taken, file_taken, state_taken, update_limit, update_done, done_by, updates_done, shown_checked}
use Rattle.model_site.specs.declared.site_refusal.SiteRefusal.{SiteRefusal}
use Rattle.model_site.specs.declared.site_refusal.SiteRefusal.TheVariants.{Shared, FileTooLarge, UpdatesFull}
use Rattle.model_site.specs.declared.site_failure.SiteFailure.{SiteFailure}
use Rattle.model_site.specs.declared.site_failure.SiteFailure.TheVariants.{Refused, ReadFault, Memory}
use Rattle.model_site.proofs.PlanLaws.{choice}
use Rattle.model_site.proofs.SiteLaws.{none-left, one-more}

-- ---- what may be refused

abbrev HasStatus : SiteRefusal → Type 0
HasStatus e = IsSiteStatus (site_refusal_status e)

-- a refusal has one of the statuses
abbrev IsFew : {A : Type 0} → Result A SiteRefusal → Type 0
IsFew (Ok x) = Unit {0}
IsFew (Err e) = HasStatus e

few-then : {A B : Type 0} (r : Result A SiteRefusal) (f : A → Result B SiteRefusal) → IsFew r → ((x : A) → IsFew (f x)) → IsFew (r >>= f)
few-then (Ok x) f few rest = rest x
few-then (Err e) f few rest = few

few-check : (b : Bool) (e : SiteRefusal) → HasStatus e → IsFew (check b e)
few-check true e few = tt
few-check false e few = few

few-large : (refused : ℕ → SiteRefusal) → ((x : ℕ) → HasStatus (refused x)) → (o : Option ℕ) → IsFew (large_refused refused o)
few-large refused few None = tt
few-large refused few (Some x) = few x

few-refusing : {A E : Type 0} (refuse : E → SiteRefusal) → ((e : E) → HasStatus (refuse e)) → (r : Result A E) → IsFew (refusing refuse r)
few-refusing refuse few (Ok x) = tt
few-refusing refuse few (Err e) = few e

-- ---- states

message-few : (p : ℕ) (g : List Decl) (f : ℕ) (r : Peer) (m : Message) → IsFew (message_taken p g f r m)
message-few p g f r m =
    few-then (check (may_take g r m) (Shared (shared.State f 0 WrongGraph))) (λ u. then_small) (few-check (may_take g r m) (Shared (shared.State f 0 WrongGraph)) state)
    (λ u. few-then (large_refused (λ x. FileTooLarge f p (name_at g x)) (first_large 0 (delivered g m r).contents)) (λ v. Ok (delivered g m r)) (few-large (λ x. FileTooLarge f p (name_at g x)) (λ x. limit) (first_large 0 (delivered g m r).contents)) (λ v. tt))
  where
    then_small : Result Peer SiteRefusal
    then_small = large_refused (λ x. FileTooLarge f p (name_at g x)) (first_large 0 (delivered g m r).contents) >>= λ v. Ok (delivered g m r)

file-few : (p : ℕ) (g : List Decl) (f : ℕ) (r : Peer) (bytes : List ℕ) → IsFew (file_taken p g f r bytes)
unfolding file_taken
file-few p g f r bytes = few-then (refusing (state_refused f) (decoded bytes)) (λ m. message_taken p g f r m) (few-refusing (state_refused f) (λ e. state) (decoded bytes)) (λ m. message-few p g f r m)

state-few : (p : ℕ) (g : List Decl) (f : ℕ) (r : Peer) (bytes : List ℕ) → IsFew (state_taken p g f r bytes)
state-few p g f r [] = tt
state-few p g f r (b ∷ bytes) = file-few p g f r (b ∷ bytes)

-- ---- updates

update-few : (p : ℕ) (g : List Decl) (c : ℕ) (r : Peer) (u : ℕ × Op) → IsFew (update_done p g c r u)
update-few p g c r u =
    few-then (check (nat_lt (count_at r.counts p) update_limit) (UpdatesFull c p)) (λ v. then_small) (few-check (nat_lt (count_at r.counts p) update_limit) (UpdatesFull c p) limit)
    (λ v. few-then (check (nat_le (size_of (content_at after.contents u.0)) row_limit) large) (λ w. Ok after) (few-check (nat_le (size_of (content_at after.contents u.0)) row_limit) large limit) (λ w. tt))
  where
    after : Peer
    after = updated p u.0 u.1 r

    large : SiteRefusal
    large = Shared (shared.TooLarge c p (name_at g u.0))

    then_small : Result Peer SiteRefusal
    then_small = check (nat_le (size_of (content_at after.contents u.0)) row_limit) large >>= λ w. Ok after

done-few : (p : ℕ) (g : List Decl) (c : ℕ) (r : Peer) (o : Option (ℕ × Op)) → IsFew (done_by p g c r o)
done-few p g c r None = tt
done-few p g c r (Some u) = update-few p g c r u

updates-few : (p : ℕ) (g : List Decl) (c : ℕ) (r : Peer) (commands : List Command) → IsFew (updates_done p g c r commands)
updates-few p g c r [] = subst IsFew (sym (none-left p g c r)) tt
updates-few p g c r (k ∷ rest) =
    subst IsFew (sym (one-more p g c r k rest)) (few-then (done_by p g c r (own p k)) (λ next. updates_done p g (c + 1) next rest) (done-few p g c r (own p k)) (λ next. updates-few p g (c + 1) next rest))

written-few : (p : ℕ) (g : List Decl) (c : ℕ) (r : Peer) → IsFew (written_state p g c r)
written-few p g c r =
    few-then (shown_checked p g c r) (λ u. Ok (spelled (message_at g r))) (few-large (λ x. Shared (shared.TooLarge c p (name_at g x))) (λ x. limit) (first_large 0 (shown_at g r))) (λ u. tt)

answer-few : (p : ℕ) (g : List Decl) (s : Script) (r : Peer) → IsFew (site_answer p g s r)
answer-few p g s r = few-then (updates_done p g 1 r s.commands) (λ last. written_state p g (length s.commands + 1) last) (updates-few p g 1 r s.commands) (λ last. written-few p g (length s.commands + 1) last)

-- ---- scripts

local-few : (o : Option ℕ) → IsFew (local_refused o)
local-few None = tt
local-few (Some number) = script

for-few : (p : ℕ) (s : Script) → IsFew (is_for p s)
for-few p s =
    few-then (check (nat_lt p s.nodes) (Shared (shared.Script (length s.commands + 1) NoSuchNode))) (λ u. local_refused (first_other p 1 s.commands)) (few-check (nat_lt p s.nodes) (Shared (shared.Script (length s.commands + 1) NoSuchNode)) script)
    (λ u. local-few (first_other p 1 s.commands))

-- ---- plans

-- each refusal to which the plan can come has one of the statuses, whatever its files hold
unfoldable AreFew : Plan → Type 0
AreFew (Says answer) = IsFew answer
AreFew (Reads f next) = (bytes : List ℕ) → AreFew (next bytes)

says-few : (answer : Result (List ℕ) SiteRefusal) → IsFew answer → AreFew (Says answer)
unfolding AreFew
says-few answer few = few

checked-few : {A E : Type 0} (refuse : E → SiteRefusal) (r : Result A E) (next : A → Plan) → ((e : E) → HasStatus (refuse e)) → ((x : A) → AreFew (next x)) → AreFew (checked refuse r next)
checked-few refuse (Ok x) next few rest = rest x
checked-few refuse (Err e) next few rest = says-few (Err (refuse e)) (few e)

given-few : {A : Type 0} (r : Result A SiteRefusal) (next : A → Plan) → IsFew r → ((x : A) → AreFew (next x)) → AreFew (given r next)
given-few (Ok x) next few rest = rest x
given-few (Err e) next few rest = says-few (Err e) few

choice-few : (f : ℕ) (bytes : List ℕ) (b : Bool) → IsFew (choice f bytes b)
choice-few f bytes true = file
choice-few f bytes false = tt

reading-few : (f : ℕ) (next : List ℕ → Plan) → ((bytes : List ℕ) → AreFew (next bytes)) → AreFew (reading f next)
unfolding AreFew
reading-few f next rest = λ bytes. given-few (choice f bytes (nat_lt file_limit (length bytes))) next (choice-few f bytes (nat_lt file_limit (length bytes))) rest

filing-few : (p : ℕ) (g : List Decl) (s : Script) (f left : ℕ) (r : Peer) → AreFew (filing_more p g s f left r)
unfolding filing_more
filing-few p g s f zero r = says-few (site_answer p g s r) (answer-few p g s r)
filing-few p g s f (suc left) r =
    reading-few f (λ bytes. given (file_taken p g f r bytes) (λ next. filing_more p g s (f + 1) left next))
    (λ bytes. given-few (file_taken p g f r bytes) (λ next. filing_more p g s (f + 1) left next) (file-few p g f r bytes) (λ next. filing-few p g s (f + 1) left next))

taking-few : (p : ℕ) (g : List Decl) (s : Script) (files : ℕ) → AreFew (taking_in p g s files)
taking-few p g s files =
    reading-few 2 (λ bytes. given (state_taken p g 2 (fresh_peer g s.nodes) bytes) (λ r. filing_more p g s first_file files r))
    (λ bytes. given-few (state_taken p g 2 (fresh_peer g s.nodes) bytes) (λ r. filing_more p g s first_file files r) (state-few p g 2 (fresh_peer g s.nodes) bytes) (λ r. filing-few p g s first_file files r))

script-few : (lib : Library) (p files : ℕ) (g : List Decl) → AreFew (scripted lib p files g)
script-few lib p files g =
    reading-few 3 (λ bytes. checked script_refused (script_of lib g bytes) (λ s. given (is_for p s) (λ u. taking_in p g s files)))
    (λ bytes. checked-few script_refused (script_of lib g bytes) (λ s. given (is_for p s) (λ u. taking_in p g s files)) (λ e. script) (λ s. given-few (is_for p s) (λ u. taking_in p g s files) (for-few p s) (λ u. taking-few p g s files)))

form-few : (lib : Library) (files : ℕ) (o : Option ℕ) → AreFew (plan_of lib files o)
form-few lib files None = says-few (Err (Shared shared.Usage)) usage
form-few lib files (Some p) =
    reading-few 0 (λ bytes. checked graph_refused (graph_of lib bytes) (scripted lib p files)) (λ bytes. checked-few graph_refused (graph_of lib bytes) (scripted lib p files) (λ e. graph) (λ g. script-few lib p files g))

-- ---- calls

follows-few : (words : List (List ℕ)) (v : View) (q : Plan) (e : SiteRefusal) → AreFew q → Follows words v q (Err (Refused e)) → HasStatus e
unfolding AreFew Follows
follows-few words v (Says answer) e few h = subst IsFew h few
follows-few words v (Reads f next) e few (inl fails) = absurd fails
follows-few words v (Reads f next) e few (inr (bytes, sees, rest)) = follows-few words v (next bytes) e (few bytes) rest

pub few-statuses : (lib : Library) (words : List (List ℕ)) (v : View) (answer : Result (List ℕ) SiteFailure) (out err : Writing) (status : ℕ) → Follows words v (plan lib words) answer → Ends words answer out err status → IsSiteStatus status
unfolding Ends
few-statuses lib words v (Ok bytes) out err status follows (inl ends) = subst IsSiteStatus (sym ends.0) done
few-statuses lib words v (Ok bytes) out err status follows (inr ends) = subst IsSiteStatus (sym ends.0) output
few-statuses lib words v (Err (Refused e)) out err status follows ends =
    subst IsSiteStatus (sym ends.0) (follows-few words v (plan lib words) e (form-few lib (length words - first_file) (site_of words)) follows)
few-statuses lib words v (Err (ReadFault f)) out err status follows ends = subst IsSiteStatus (sym ends.0) file
few-statuses lib words v (Err Memory) out err status follows ends = subst IsSiteStatus (sym ends.0) memory
