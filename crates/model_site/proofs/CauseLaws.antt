-- From an answer to its cause: over told contents each answer has one.
use Rattle.std.proofs.Common.{refl, sym, ap, subst, ◌∙◌, arith}
use Rattle.std.specs.Prelude.{◌≡◌, ◌<◌, ◌≤◌, ◌⊎◌, ℕ, zero, suc, ◌+◌, ◌-◌, ◌++◌, ◌&&◌, nat_lt, Bool, true, false, if◌then◌else◌, List, [], ◌∷◌, length, Option, Some, None, option_and_then, Result, Ok, Err}
use Rattle.std.proofs.lemmas.Bool.{ltb-true, ltb-false, and_parts}
use Rattle.std.proofs.lemmas.Option.{same_Some}
use mathlib.Core.Logic.{inl, inr}
use Rattle.model_functions.specs.Library.{Library}
use Rattle.model_graph.specs.Chain.{◌>>=◌}
use Rattle.model_graph.specs.Evaluation.{first_large}
use Rattle.model_graph.specs.Graph.{Decl, name_at}
use Rattle.model_graph.specs.Message.{Message}
use Rattle.model_graph.specs.Spelling.{spelled}
use Rattle.model_readings.specs.Graph.{graph_of}
use Rattle.model_readings.specs.declared.graph_why.GraphWhy.{GraphWhy}
use Rattle.model_scripts.specs.Script.{script_of}
use Rattle.model_scripts.specs.declared.script_why.ScriptWhy.{ScriptWhy}
use Rattle.model_scripts.specs.declared.script_why.ScriptWhy.TheVariants.{NoSuchNode}
use Rattle.model_states.specs.Update.{Op}
use Rattle.model_world.specs.Command.{Command, Script}
use Rattle.model_world.specs.World.{Peer, fresh_peer, message_at, shown_at}
use Rattle.model_program.specs.Plan.{word_at, file_limit}
use Rattle.model_program.specs.Program.{node_word}
use Rattle.model_program.specs.Told.{IsFileTold}
use Rattle.model_program.specs.declared.refusal.Refusal.TheVariants as shared
use Rattle.model_program.proofs.MergeLaws.{taking-push}
use Rattle.model_site.specs.Cause.{file_long, HasCause, usage, graph_long, graph_bad, script_long, script_bad, no_such_node, not_local, state_refused, file_refused, update_refused, variable_large, written}
use Rattle.model_site.specs.Plan.{Answer, Plan, Says, checked, given, within, reading, told_answer}
use Rattle.model_site.specs.Program.{graph_file, state_file, script_file, first_file, site_of, graph_refused, script_refused, local_refused, is_for, site_answer, filing_more, taking_in, scripted, plan_of, plan}
use Rattle.model_site.specs.Site.{own, first_other, state_taken, file_taken, done_by, updates_done, shown_checked, large_refused}
use Rattle.model_site.specs.Told.{IsGraphTold, IsOpened, IsSite, heard, AreTaken, nothing, state, more}
use Rattle.model_site.specs.declared.site_refusal.SiteRefusal.{SiteRefusal}
use Rattle.model_site.specs.declared.site_refusal.SiteRefusal.TheVariants.{Shared, NotLocal}
use Rattle.model_site.proofs.PlanLaws.{choice}
use Rattle.model_site.proofs.SiteLaws.{own-is, none-other, some-other, check-refused, check-passed, file-refused, file-passed, AreRefused, updates-refused, update-refused}

-- ---- one step of a plan

option-first : {A B : Type 0} (k : A → Option B) (o : Option A) (b : B) → option_and_then k o ≡ Some b → (a : A) × (o ≡ Some a) × (k a ≡ Some b)
option-first k (Some a) b e = (a, refl, e)
option-first k None b e = absurd cc

-- so many bytes were read that the file is too long, or the plan goes on with them
pub data HasRead (content : List ℕ → Option (List ℕ)) (words : List (List ℕ)) (f : ℕ) (next : List ℕ → Plan) (a : Answer) : Type 0 where
  long : (bytes : List ℕ) → content (word_at words f) ≡ Some bytes → file_limit < length bytes → Err (Shared (shared.TooLong f)) ≡ a → HasRead content words f next a
  short : (bytes : List ℕ) → IsFileTold content words f bytes → told_answer content words (next bytes) ≡ Some a → HasRead content words f next a

module _ (content : List ℕ → Option (List ℕ)) (words : List (List ℕ)) where
  abbrev told : Plan → Option Answer
  told p = told_answer content words p

  pub says : (b a : Answer) → told (Says b) ≡ Some a → b ≡ a
  unfolding told_answer
  says b a e = same_Some b a e

  read-first : (f : ℕ) (next : List ℕ → Plan) (a : Answer) → told (reading f next) ≡ Some a → (bytes : List ℕ) × (content (word_at words f) ≡ Some bytes) × (told (given (within f bytes) next) ≡ Some a)
  unfolding told_answer
  read-first f next a e = option-first (λ bytes. told_answer content words (given (within f bytes) next)) (content (word_at words f)) a e

  has-read : (f : ℕ) (next : List ℕ → Plan) (a : Answer) (bytes : List ℕ) (b : Bool) → nat_lt file_limit (length bytes) ≡ b → content (word_at words f) ≡ Some bytes → told (given (choice f bytes b) next) ≡ Some a → HasRead content words f next a
  has-read f next a bytes true e is h = long bytes is (ltb-true file_limit (length bytes) e) (says (Err (Shared (shared.TooLong f))) a h)
  has-read f next a bytes false e is h = short bytes (record { told = is; short = ltb-false file_limit (length bytes) e }) h

  pub read-cases : (f : ℕ) (next : List ℕ → Plan) (a : Answer) → told (reading f next) ≡ Some a → HasRead content words f next a
  read-cases f next a h = let first = read-first f next a h in has-read f next a first.0 (nat_lt file_limit (length first.0)) refl first.1 first.2

  pub checked-cases : {A E : Type 0} (refuse : E → SiteRefusal) (r : Result A E) (next : A → Plan) (a : Answer) → told (checked refuse r next) ≡ Some a
      → ((e : E) × (r ≡ Err e) × (Err (refuse e) ≡ a)) ⊎ ((x : A) × (r ≡ Ok x) × (told (next x) ≡ Some a))
  checked-cases refuse (Ok x) next a h = inr (x, refl, h)
  checked-cases refuse (Err e) next a h = inl (e, refl, says (Err (refuse e)) a h)

local-found : (o : Option ℕ) (e : SiteRefusal) → local_refused o ≡ Err e → (number : ℕ) × (o ≡ Some number) × (NotLocal number ≡ e)
local-found None e h = absurd cc
local-found (Some number) e h = (number, refl, cc)

local-none : (o : Option ℕ) (u : Unit {0}) → local_refused o ≡ Ok u → o ≡ None
local-none None u h = refl
local-none (Some number) u h = absurd cc

-- ---- the answer of a replica that took its states in

bound-refused : {A B : Type 0} (r : Result A SiteRefusal) (f : A → Result B SiteRefusal) (a : Result B SiteRefusal) → (r >>= f) ≡ a → ((e : SiteRefusal) × (r ≡ Err e) × (Err e ≡ a)) ⊎ ((x : A) × (r ≡ Ok x) × (f x ≡ a))
bound-refused (Ok x) f a h = inr (x, refl, h)
bound-refused (Err e) f a h = inl (e, refl, h)

module _ (lib : Library) (content : List ℕ → Option (List ℕ)) (words : List (List ℕ)) where
  abbrev Caused : Answer → Type 0
  Caused a = HasCause lib content words a

  module _ (p : ℕ) (g : List Decl) (s : Script) (site : IsSite lib content words p g s) where
    module _ (ms : List Message) (taken : AreTaken content words g s.nodes (length words) ms) where
      abbrev r : Peer
      r = heard g s.nodes ms

      done-refused : (before : List Command) (k : Command) (rest : List Command) (last : Peer) (e : SiteRefusal) (o : Option (ℕ × Op)) → own p k ≡ o → before ++ k ∷ rest ≡ s.commands → updates_done p g 1 r before ≡ Ok last → done_by p g (1 + length before) last o ≡ Err e → Caused (Err e)
      done-refused before k rest last e None is all reached h = absurd cc
      done-refused before k rest last e (Some u) is all reached h =
          update_refused site taken (record { done = before; rest = rest; all = all; number_is = omega arith; reached = reached }) (own-is p k u is) (update-refused p g (1 + length before) last u e h)

      updates-cause : (e : SiteRefusal) → AreRefused p g 1 r s.commands e → Caused (Err e)
      updates-cause e h = done-refused h.done h.k h.rest h.last e (own p h.k) refl h.all h.reached h.refused

      shown-cause : (last : Peer) (a : Answer) (o : Option ℕ) → first_large 0 (shown_at g last) ≡ o → updates_done p g 1 r s.commands ≡ Ok last
          → (large_refused (λ x. Shared (shared.TooLarge (length s.commands + 1) p (name_at g x))) o >>= λ _. Ok (spelled (message_at g last))) ≡ a → Caused a
      shown-cause last a None is done h = subst Caused h (written site taken done is)
      shown-cause last a (Some x) is done h = subst Caused h (variable_large site taken done is)

      pub answer-cause : (a : Answer) → site_answer p g s r ≡ a → Caused a
      answer-cause a h = choose (bound-refused (updates_done p g 1 r s.commands) (λ last. shown_checked p g (length s.commands + 1) last >>= λ _. Ok (spelled (message_at g last))) a h) where
        choose : ((e : SiteRefusal) × (updates_done p g 1 r s.commands ≡ Err e) × (Err e ≡ a)) ⊎ ((last : Peer) × (updates_done p g 1 r s.commands ≡ Ok last) × ((shown_checked p g (length s.commands + 1) last >>= λ _. Ok (spelled (message_at g last))) ≡ a)) → Caused a
        choose (inl (e, refused, is)) = subst Caused is (updates-cause e (updates-refused p g 1 r s.commands e refused))
        choose (inr (last, done, is)) = shown-cause last a (first_large 0 (shown_at g last)) refl done is

    -- ---- the files

    filing-none : (f : ℕ) (ms : List Message) (a : Answer) → told content words (filing_more p g s f zero (heard g s.nodes ms)) ≡ Some a → site_answer p g s (heard g s.nodes ms) ≡ a
    unfolding filing_more
    filing-none f ms a h = says content words (site_answer p g s (heard g s.nodes ms)) a h

    filing-next : (f left : ℕ) (ms : List Message) (a : Answer) → told content words (filing_more p g s f (suc left) (heard g s.nodes ms)) ≡ Some a
        → HasRead content words f (λ bytes. given (file_taken p g f (heard g s.nodes ms) bytes) (λ next. filing_more p g s (f + 1) left next)) a
    unfolding filing_more
    filing-next f left ms a h = read-cases content words f (λ bytes. given (file_taken p g f (heard g s.nodes ms) bytes) (λ next. filing_more p g s (f + 1) left next)) a h

    files-cause : (left f : ℕ) (ms : List Message) (a : Answer) → AreTaken content words g s.nodes f ms → f + left ≡ length words → told content words (filing_more p g s f left (heard g s.nodes ms)) ≡ Some a → Caused a
    files-cause zero f ms a taken all h = answer-cause ms (subst (λ (n : ℕ). AreTaken content words g s.nodes n ms) (let same : f ≡ length words = omega (arith, all) in same) taken) a (filing-none f ms a h)
    files-cause (suc left) f ms a taken all h = read (λ longer there rest. files-cause left (f + 1) longer a there (omega (arith, all)) rest) (filing-next f left ms a h) where
      r : Peer
      r = heard g s.nodes ms

      low : f < length words
      low = omega (arith, all)

      Later : Type 0
      Later = (longer : List Message) → AreTaken content words g s.nodes (f + 1) longer → told content words (filing_more p g s (f + 1) left (heard g s.nodes longer)) ≡ Some a → Caused a

      go_on : Later → (bytes : List ℕ) → IsFileTold content words f bytes → ((e : SiteRefusal) × (file_taken p g f r bytes ≡ Err e) × (Err e ≡ a)) ⊎ ((next : Peer) × (file_taken p g f r bytes ≡ Ok next) × (told content words (filing_more p g s (f + 1) left next) ≡ Some a)) → Caused a
      go_on later bytes file (inl (e, refused, is)) = subst Caused is (file_refused site taken low (file-refused content words p g f r bytes file e refused))
      go_on later bytes file (inr (next, passed, h)) =
          let it = file-passed content words p g f r bytes file next passed in
          later (ms ++ it.0 ∷ []) (more taken it.1)
          (subst (λ (x : Peer). told content words (filing_more p g s (f + 1) left x) ≡ Some a) (it.2 ∙ sym (taking-push g (fresh_peer g s.nodes) ms it.0)) h)

      read : Later → HasRead content words f (λ bytes. given (file_taken p g f r bytes) (λ next. filing_more p g s (f + 1) left next)) a → Caused a
      read later (long bytes is many e) = subst Caused e (file_refused site taken low (file_long is many))
      read later (short bytes file h) = go_on later bytes file (checked-cases content words (λ e. e) (file_taken p g f r bytes) (λ next. filing_more p g s (f + 1) left next) a h)

    -- ---- the state

    not-empty : (bytes : List ℕ) → content (word_at words state_file) ≡ Some bytes → 1 ≤ length bytes → ¬ IsFileTold content words state_file []
    not-empty bytes is some file = none bytes some (same_Some bytes [] (sym is ∙ file.told)) where
      none : (bytes : List ℕ) → 1 ≤ length bytes → bytes ≡ [] → ⊥
      none bytes some e = omega (arith, some, ap (λ (b : List ℕ). length b) e)

    states-cause : (a : Answer) (files : ℕ) → first_file + files ≡ length words → told content words (taking_in p g s files) ≡ Some a → Caused a
    states-cause a files all h = read (read-cases content words state_file (λ bytes. given (state_taken p g state_file (fresh_peer g s.nodes) bytes) (λ r. filing_more p g s first_file files r)) a h) where
      go_on : (b : ℕ) (bytes : List ℕ) → IsFileTold content words state_file (b ∷ bytes)
          → ((e : SiteRefusal) × (file_taken p g state_file (fresh_peer g s.nodes) (b ∷ bytes) ≡ Err e) × (Err e ≡ a)) ⊎ ((next : Peer) × (file_taken p g state_file (fresh_peer g s.nodes) (b ∷ bytes) ≡ Ok next) × (told content words (filing_more p g s first_file files next) ≡ Some a))
          → Caused a
      go_on b bytes file (inl (e, refused, is)) =
          subst Caused is (state_refused site (not-empty (b ∷ bytes) file.told (omega arith)) (file-refused content words p g state_file (fresh_peer g s.nodes) (b ∷ bytes) file e refused))
      go_on b bytes file (inr (next, passed, h)) =
          let it = file-passed content words p g state_file (fresh_peer g s.nodes) (b ∷ bytes) file next passed in
          files-cause files first_file (it.0 ∷ []) a (state (not-empty (b ∷ bytes) file.told (omega arith)) it.1) all (subst (λ (x : Peer). told content words (filing_more p g s first_file files x) ≡ Some a) it.2 h)

      chosen : (bytes : List ℕ) → IsFileTold content words state_file bytes → told content words (given (state_taken p g state_file (fresh_peer g s.nodes) bytes) (λ r. filing_more p g s first_file files r)) ≡ Some a → Caused a
      chosen [] file h = files-cause files first_file [] a (nothing file) all h
      chosen (b ∷ bytes) file h = go_on b bytes file (checked-cases content words (λ e. e) (file_taken p g state_file (fresh_peer g s.nodes) (b ∷ bytes)) (λ r. filing_more p g s first_file files r) a h)

      read : HasRead content words state_file (λ bytes. given (state_taken p g state_file (fresh_peer g s.nodes) bytes) (λ r. filing_more p g s first_file files r)) a → Caused a
      read (long bytes is many e) = subst Caused e (state_refused site (not-empty bytes is (omega (arith, many))) (file_long is many))
      read (short bytes file h) = chosen bytes file h

  -- ---- the words, the graph and the script

  module _ (p : ℕ) (site : site_of words ≡ Some p) (a : Answer) (files : ℕ) (all : first_file + files ≡ length words) where
    for-site : (g : List Decl) (s : Script) → IsOpened lib content words p g s
        → ((e : SiteRefusal) × (is_for p s ≡ Err e) × (Err e ≡ a)) ⊎ ((u : Unit {0}) × (is_for p s ≡ Ok u) × (told content words (taking_in p g s files) ≡ Some a)) → Caused a
    for-site g s opened (inl (e, refused, is)) = subst Caused is (why (check-refused (nat_lt p s.nodes) (Shared (shared.Script (length s.commands + 1) NoSuchNode)) e (λ _. local_refused (first_other p 1 s.commands)) refused)) where
      foreign : nat_lt p s.nodes ≡ true → (number : ℕ) × (first_other p 1 s.commands ≡ Some number) × (NotLocal number ≡ e) → Caused (Err e)
      foreign there (number, first, is) =
          let other = some-other p 1 number s.commands first in
          subst Caused (ap (λ (n : ℕ). Err (NotLocal n)) (sym other.1) ∙ ap (λ (x : SiteRefusal). Err x) is) (not_local opened (ltb-true p s.nodes there) other.2)

      why : ((nat_lt p s.nodes ≡ false) × (Shared (shared.Script (length s.commands + 1) NoSuchNode) ≡ e)) ⊎ ((nat_lt p s.nodes ≡ true) × (local_refused (first_other p 1 s.commands) ≡ Err e)) → Caused (Err e)
      why (inl (none, is)) = subst Caused (ap (λ (x : SiteRefusal). Err x) is) (no_such_node opened (ltb-false p s.nodes none))
      why (inr (there, h)) = foreign there (local-found (first_other p 1 s.commands) e h)
    for-site g s opened (inr (u, passed, h)) =
        let there = check-passed (nat_lt p s.nodes) (Shared (shared.Script (length s.commands + 1) NoSuchNode)) (λ _. local_refused (first_other p 1 s.commands)) u passed in
        states-cause p g s (record { opened = opened; node = ltb-true p s.nodes there.0; own = none-other p 1 s.commands (local-none (first_other p 1 s.commands) u there.1) }) a files all h

    script-checked : (g : List Decl) → IsGraphTold lib content words g → (bytes : List ℕ) → IsFileTold content words script_file bytes
        → ((e : ℕ × ScriptWhy) × (script_of lib g bytes ≡ Err e) × (Err (script_refused e) ≡ a)) ⊎ ((s : Script) × (script_of lib g bytes ≡ Ok s) × (told content words (given (is_for p s) (λ _. taking_in p g s files)) ≡ Some a)) → Caused a
    script-checked g graph bytes file (inl (e, refused, is)) = subst Caused is (script_bad site graph file refused)
    script-checked g graph bytes file (inr (s, read, h)) =
        for-site g s (record { site = site; graph = graph; script = record { bytes = bytes; file = file; read = read } })
        (checked-cases content words (λ e. e) (is_for p s) (λ _. taking_in p g s files) a h)

    script-cause : (g : List Decl) → IsGraphTold lib content words g → HasRead content words script_file (λ bytes. checked script_refused (script_of lib g bytes) (λ s. given (is_for p s) (λ _. taking_in p g s files))) a → Caused a
    script-cause g graph (long bytes is many e) = subst Caused e (script_long site graph is many)
    script-cause g graph (short bytes file h) = script-checked g graph bytes file (checked-cases content words script_refused (script_of lib g bytes) (λ s. given (is_for p s) (λ _. taking_in p g s files)) a h)

    graph-checked : (bytes : List ℕ) → IsFileTold content words graph_file bytes
        → ((e : ℕ × GraphWhy) × (graph_of lib bytes ≡ Err e) × (Err (graph_refused e) ≡ a)) ⊎ ((g : List Decl) × (graph_of lib bytes ≡ Ok g) × (told content words (scripted lib p files g) ≡ Some a)) → Caused a
    graph-checked bytes file (inl (e, refused, is)) = subst Caused is (graph_bad site file refused)
    graph-checked bytes file (inr (g, read, h)) =
        script-cause g (record { bytes = bytes; file = file; read = read })
        (read-cases content words script_file (λ bytes. checked script_refused (script_of lib g bytes) (λ s. given (is_for p s) (λ _. taking_in p g s files))) a h)

    graph-cause : HasRead content words graph_file (λ bytes. checked graph_refused (graph_of lib bytes) (scripted lib p files)) a → Caused a
    graph-cause (long bytes is many e) = subst Caused e (graph_long site is many)
    graph-cause (short bytes file h) = graph-checked bytes file (checked-cases content words graph_refused (graph_of lib bytes) (scripted lib p files) a h)

  -- words that name a site are some
  abbrev site_where : Bool → Option ℕ
  site_where b = if b then node_word (word_at words 1) else None

  site-some : (p : ℕ) (b : Bool) → site_where b ≡ Some p → b ≡ true
  site-some p true e = refl
  site-some p false e = absurd cc

  pub site-many : (p : ℕ) → site_of words ≡ Some p → first_file + (length words - first_file) ≡ length words
  unfolding site_of
  site-many p e =
      let parts = and_parts (nat_lt 3 (length words)) (nat_lt (length words) 13) (site-some p (nat_lt 3 (length words) && nat_lt (length words) 13) e) in
      omega (arith, ltb-true 3 (length words) parts.0)

  form-cause : (o : Option ℕ) (a : Answer) → site_of words ≡ o → told content words (plan_of lib (length words - first_file) o) ≡ Some a → Caused a
  form-cause None a is h = subst Caused (says content words (Err (Shared shared.Usage)) a h) (usage is)
  form-cause (Some p) a is h =
      graph-cause p is a (length words - first_file) (site-many p is)
      (read-cases content words graph_file (λ bytes. checked graph_refused (graph_of lib bytes) (scripted lib p (length words - first_file))) a h)

  -- an answer has its cause
  pub told-cause : (a : Answer) → told content words (plan lib words) ≡ Some a → HasCause lib content words a
  told-cause a h = form-cause (site_of words) a refl h
