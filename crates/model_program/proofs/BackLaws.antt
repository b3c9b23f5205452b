-- From an answer back to its cause: over told contents each answer has one, and the one that has it is the answer.
use Rattle.std.proofs.Common.{refl, sym, ap, subst, ◌∙◌, arith}
use Rattle.std.specs.Prelude.{◌≡◌, ◌<◌, ◌≤◌, ◌+◌, ◌-◌, ◌++◌, ◌∷◌, [], ℕ, zero, suc, List, length, Bool, true, false, nat_lt, Option, Some, None, option_and_then, Result, Ok, Err}
use Rattle.std.proofs.lemmas.Bool.{ltb-true, ltb-false, le-ltb, lt-ltb}
use Rattle.std.proofs.lemmas.List.{length-append}
use Rattle.model_functions.specs.Library.{Library}
use Rattle.model_graph.specs.Chain.{◌>>=◌, check}
use Rattle.model_graph.specs.Evaluation.{eval, first_large}
use Rattle.model_graph.specs.Graph.{Decl, name_at}
use Rattle.model_graph.specs.Message.{Message}
use Rattle.model_world.specs.Command.{Script}
use Rattle.model_world.specs.Report.{report_of}
use Rattle.model_world.specs.World.{Run, ended}
use Rattle.model_world.specs.declared.stop.Stop.{Stop}
use Rattle.model_readings.specs.Graph.{graph_of}
use Rattle.model_readings.specs.declared.graph_why.GraphWhy.{GraphWhy}
use Rattle.model_scripts.specs.Progress.{grown}
use Rattle.model_scripts.specs.Script.{script_of}
use Rattle.model_scripts.specs.declared.script_why.ScriptWhy.{ScriptWhy}
use Rattle.model_scripts.specs.declared.script_why.ScriptWhy.TheVariants.{NoSuchNode}
use Rattle.model_wire.specs.Message.{decoded}
use Rattle.model_wire.specs.declared.wire_why.WireWhy.{WireWhy}
use Rattle.model_dots.specs.DotReport.{dot_output}
use Rattle.model_dots.specs.DotWorld.{one_set}
use Rattle.model_dots.specs.Words.{first_other}
use Rattle.model_dots.proofs.WordLaws.{other-told, none-known}
use Rattle.model_program.specs.Dots.{dots_answer}
use Rattle.model_program.specs.Cause.{IsGraphRefused, graph_long, graph_bad, IsScriptRefused, script_long, script_bad, IsFileRefused, file_long, no_message, wrong_graph, source_large, dots_long, dots_bad, ReadsGraph, HasCause, usage, graph_refused, script_refused, run_stopped, reported, checked as checked_so, dots_refused, other_word, dots_done, export_refused, no_such_node, export_stopped, exported, file_refused, variable_too_large, merged, delta_refused, delta_stopped, delta_done}
use Rattle.model_program.specs.Check.{check_text}
use Rattle.model_program.specs.Merge.{file_at, may_take, replica_before, merge_text, merging_files, joined}
use Rattle.model_program.specs.Plan.{Exactly, Answer, Plan, Says, exactly, checked, within, reading, word_at, file_limit, told_answer}
use Rattle.model_program.specs.Program.{form, plan, IsUsageForm, plan_of, opening, scripting, running_script, exporting_script, run_answer, export_answer, exported_bytes, stopped, graph_refused as refused_graph, script_refused as refused_script, told_deltas, delta_answer, delta_script}
use Rattle.model_deltas.specs.Gossip.{Gossip, gossiped, gossip_output}
use Rattle.model_deltas.proofs.RunLaws.{gossip-stops}
use Rattle.model_program.specs.Told.{IsFileTold, IsGraphTold, IsScriptTold, IsDotsTold, IsOfGraph, IsOfNodes, IsJoined, AreJoined, none, more}
use Rattle.model_program.specs.declared.form.Form.{Form}
use Rattle.model_program.specs.declared.form.Form.TheVariants.{Plain, Delta, Check, Dots, Export, Merge, Threaded, Wrong}
use Rattle.model_program.specs.declared.refusal.Refusal.{Refusal}
use Rattle.model_program.specs.declared.refusal.Refusal.TheVariants as refusal
use Rattle.model_program.proofs.CauseLaws.{told-answer}
use Rattle.model_program.proofs.DotCauses.{dots-long, dots-refused, dots-other, dots-written}
use Rattle.model_program.proofs.MergeLaws.{take-Decides, more-file, replica_of, before-nodes}
use Rattle.model_program.proofs.MergeCauses.{rest_plan, next, read-none, read-wrong, read-large, joined-nodes, file-long, file-refused, file-joined, next-answer, last-answer, shown-answer, merge-many}
use Rattle.model_program.proofs.PlanCauses.{told-form, opening-long, opening-refused, opening-read, scripting-long, scripting-refused, ended_answer, run-ends, to-script, to-answer}

pub some-same : (x y : Answer) → Some x ≡ Some y → x ≡ y
some-same x y h = cc

-- ---- a file of a plan

option-first : {A B : Type 0} (k : A → Option B) (o : Option A) (b : B) → option_and_then k o ≡ Some b → (a : A) × (o ≡ Some a)
option-first k (Some a) b e = (a, refl)
option-first k None b e = absurd cc

-- a plan that comes to an answer behind a file was told its bytes
read-first : (content : List ℕ → Option (List ℕ)) (words : List (List ℕ)) (f : ℕ) (go_on : List ℕ → Plan) (a : Answer) → told_answer content words (reading f go_on) ≡ Some a → (bytes : List ℕ) × (content (word_at words f) ≡ Some bytes)
unfolding told_answer
read-first content words f go_on a e = option-first (λ bytes. told_answer content words (checked (λ x. x) (within f bytes) go_on)) (content (word_at words f)) a e

-- bytes are too many or not
data IsLong (bytes : List ℕ) : Type 0 where
  long : file_limit < length bytes → IsLong bytes
  short : length bytes ≤ file_limit → IsLong bytes

is-long : (bytes : List ℕ) (b : Bool) → nat_lt file_limit (length bytes) ≡ b → IsLong bytes
is-long bytes true e = long (ltb-true file_limit (length bytes) e)
is-long bytes false e = short (ltb-false file_limit (length bytes) e)

-- ---- the graph's file

module _ (lib : Library) (content : List ℕ → Option (List ℕ)) (words : List (List ℕ)) where
  abbrev told : Plan → Option Answer
  told p = told_answer content words p

  abbrev Found : Type 0
  Found = (b : Answer) × HasCause lib content words b

  pub data GraphSeen : Type 0 where
    graph_is_refused : {x : Refusal} → IsGraphRefused lib content words x → GraphSeen
    graph_is_read : (g : List Decl) → IsGraphTold lib content words g → GraphSeen

  graph-read : (bytes : List ℕ) → IsFileTold content words 1 bytes → (r : Result (List Decl) (ℕ × GraphWhy)) → graph_of lib bytes ≡ r → GraphSeen
  graph-read bytes file (Ok g) e = graph_is_read g (record { bytes = bytes; file = file; read = e })
  graph-read bytes file (Err (number, why)) e = graph_is_refused (graph_bad file e)

  graph-file : (bytes : List ℕ) → content (word_at words 1) ≡ Some bytes → IsLong bytes → GraphSeen
  graph-file bytes is (long many) = graph_is_refused (graph_long is many)
  graph-file bytes is (short few) = graph-read bytes (record { told = is; short = few }) (graph_of lib bytes) refl

  pub graph-seen : (go_on : List Decl → Plan) (a : Answer) → told (opening lib go_on) ≡ Some a → GraphSeen
  graph-seen go_on a e =
      let file = read-first content words 1 (λ bytes. checked refused_graph (graph_of lib bytes) go_on) a e in
      graph-file file.0 file.1 (is-long file.0 _ refl)

  -- ---- the script's file

  pub data ScriptSeen (g : List Decl) : Type 0 where
    script_is_refused : {x : Refusal} → IsScriptRefused lib content words g x → ScriptSeen g
    script_is_read : (s : Script) → IsScriptTold lib content words g s → ScriptSeen g

  script-read : (g : List Decl) (bytes : List ℕ) → IsFileTold content words 2 bytes → (r : Result Script (ℕ × ScriptWhy)) → script_of lib g bytes ≡ r → ScriptSeen g
  script-read g bytes file (Ok s) e = script_is_read s (record { bytes = bytes; file = file; read = e })
  script-read g bytes file (Err (number, why)) e = script_is_refused (script_bad file e)

  script-file : (g : List Decl) (bytes : List ℕ) → content (word_at words 2) ≡ Some bytes → IsLong bytes → ScriptSeen g
  script-file g bytes is (long many) = script_is_refused (script_long is many)
  script-file g bytes is (short few) = script-read g bytes (record { told = is; short = few }) (script_of lib g bytes) refl

  pub script-seen : (g : List Decl) (go_on : Script → Plan) (a : Answer) → told (scripting lib g go_on) ≡ Some a → ScriptSeen g
  script-seen g go_on a e =
      let file = read-first content words 2 (λ bytes. checked refused_script (script_of lib g bytes) go_on) a e in
      script-file g file.0 file.1 (is-long file.0 _ refl)

  -- ---- `plain`

  plain-run : (g : List Decl) (s : Script) → form words ≡ Plain → IsGraphTold lib content words g → IsScriptTold lib content words g s → (r : Result Run Stop) → ended g s ≡ r → Found
  plain-run g s is graph script (Ok run) e = (Ok (Exactly (report_of run)), reported is graph script e)
  plain-run g s is graph script (Err halt) e = (Err (stopped (grown g s.commands) halt), run_stopped is graph script e)

  plain-script : (g : List Decl) → form words ≡ Plain → IsGraphTold lib content words g → ScriptSeen g → Found
  plain-script g is graph (script_is_refused {x = x} h) = (Err x, script_refused is graph h)
  plain-script g is graph (script_is_read s script) = plain-run g s is graph script (ended g s) refl

  plain-found : (a : Answer) → form words ≡ Plain → told (plan_of lib words Plain) ≡ Some a → GraphSeen → Found
  plain-found a is e (graph_is_refused {x = x} h) = (Err x, graph_refused (subst ReadsGraph (sym is) tt) h)
  plain-found a is e (graph_is_read g graph) =
      plain-script g is graph (script-seen g (λ s. Says (exactly (run_answer report_of g s))) a (sym (opening-read lib content words (λ h. running_script lib report_of h) g graph) ∙ e))

  -- ---- `delta`

  delta-run : (g : List Decl) (s : Script) → form words ≡ Delta → IsGraphTold lib content words g → IsScriptTold lib content words g s → (r : Result Gossip Stop) → gossiped g s ≡ r → Found
  delta-run g s is graph script (Ok run) e = (Ok (Exactly (gossip_output run)), delta_done is graph script e)
  delta-run g s is graph script (Err halt) e = (Err (stopped (grown g s.commands) halt), delta_stopped is graph script ((gossip-stops g s halt).0 e))

  delta-told : (g : List Decl) → form words ≡ Delta → IsGraphTold lib content words g → ScriptSeen g → Found
  delta-told g is graph (script_is_refused {x = x} h) = (Err x, delta_refused is graph h)
  delta-told g is graph (script_is_read s script) = delta-run g s is graph script (gossiped g s) refl

  delta-found : (a : Answer) → form words ≡ Delta → told (plan_of lib words Delta) ≡ Some a → GraphSeen → Found
  delta-found a is e (graph_is_refused {x = x} h) = (Err x, graph_refused (subst ReadsGraph (sym is) tt) h)
  delta-found a is e (graph_is_read g graph) =
      delta-told g is graph (script-seen g (λ s. Says (exactly (delta_answer g s))) a (sym (opening-read lib content words (λ h. delta_script lib h) g graph) ∙ e))

  -- ---- `check`

  check-found : form words ≡ Check → GraphSeen → Found
  check-found is (graph_is_refused {x = x} h) = (Err x, graph_refused (subst ReadsGraph (sym is) tt) h)
  check-found is (graph_is_read g graph) = (Ok (Exactly (check_text g)), checked_so is graph)

  -- ---- `dots`

  dots-first : (s : Script) → form words ≡ Dots → IsDotsTold lib content words s → (o : Option ℕ) → first_other 1 s.commands ≡ o → Found
  dots-first s is script (Some number) e = let first = other-told 1 number s.commands e in (Err (refusal.NotDots (1 + first.0)), other_word is script first.2)
  dots-first s is script None e = (Ok (Exactly (dot_output s.nodes s.commands)), dots_done is script (none-known 1 s.commands e))

  dots-read : (bytes : List ℕ) → form words ≡ Dots → IsFileTold content words 1 bytes → (r : Result Script (ℕ × ScriptWhy)) → script_of lib one_set bytes ≡ r → Found
  dots-read bytes is file (Ok s) e = dots-first s is (record { bytes = bytes; file = file; read = e }) (first_other 1 s.commands) refl
  dots-read bytes is file (Err (number, why)) e = (Err (refusal.Script number why), dots_refused is (dots_bad file e))

  dots-file : (bytes : List ℕ) → form words ≡ Dots → content (word_at words 1) ≡ Some bytes → IsLong bytes → Found
  dots-file bytes is told (long many) = (Err (refusal.TooLong 1), dots_refused is (dots_long told many))
  dots-file bytes is told (short few) = dots-read bytes is (record { told = told; short = few }) (script_of lib one_set bytes) refl

  dots-found : (a : Answer) → form words ≡ Dots → told (plan_of lib words Dots) ≡ Some a → Found
  dots-found a is e =
      let file = read-first content words 1 (λ bytes. checked refused_script (script_of lib one_set bytes) (λ s. Says (exactly (dots_answer s)))) a e in
      dots-file file.0 is file.1 (is-long file.0 _ refl)

  -- ---- `export`

  export-run : (node : ℕ) (g : List Decl) (s : Script) → form words ≡ Export node → IsGraphTold lib content words g → IsScriptTold lib content words g s → node < s.nodes → (r : Result Run Stop) → ended g s ≡ r → Found
  export-run node g s is graph script has (Ok run) e = (Ok (Exactly (exported_bytes node run)), exported is graph script has e)
  export-run node g s is graph script has (Err halt) e = (Err (stopped (grown g s.commands) halt), export_stopped is graph script has e)

  export-node : (node : ℕ) (g : List Decl) (s : Script) → form words ≡ Export node → IsGraphTold lib content words g → IsScriptTold lib content words g s → (b : Bool) → nat_lt node s.nodes ≡ b → Found
  export-node node g s is graph script true e = export-run node g s is graph script (ltb-true node s.nodes e) (ended g s) refl
  export-node node g s is graph script false e = (Err (refusal.Script (length s.commands + 1) NoSuchNode), no_such_node is graph script (ltb-false node s.nodes e))

  export-script : (node : ℕ) (g : List Decl) → form words ≡ Export node → IsGraphTold lib content words g → ScriptSeen g → Found
  export-script node g is graph (script_is_refused {x = x} h) = (Err x, export_refused is graph h)
  export-script node g is graph (script_is_read s script) = export-node node g s is graph script _ refl

  export-found : (node : ℕ) (a : Answer) → form words ≡ Export node → told (plan_of lib words (Export node)) ≡ Some a → GraphSeen → Found
  export-found node a is e (graph_is_refused {x = x} h) = (Err x, graph_refused (subst ReadsGraph (sym is) tt) h)
  export-found node a is e (graph_is_read g graph) =
      export-script node g is graph (script-seen g (λ s. Says (exactly (export_answer node g s))) a (sym (opening-read lib content words (λ h. exporting_script lib node h) g graph) ∙ e))

  -- ---- `merge`

  data FileSeen (g : List Decl) (ms : List Message) : Type 0 where
    file_is_refused : {x : Refusal} → IsFileRefused content words g ms x → FileSeen g ms
    file_is_joined : (m : Message) → IsJoined g content words ms m → FileSeen g ms

  module _ (g : List Decl) where
    joined-small : (ms : List Message) (bytes : List ℕ) (m : Message) → IsFileTold content words (file_at (length ms)) bytes → decoded bytes ≡ Ok m → IsOfGraph g m → IsOfNodes ms m
        → (o : Option ℕ) → first_large 0 (joined g (ms ++ m ∷ [])).contents ≡ o → FileSeen g ms
    joined-small ms bytes m file e graph nodes (Some x) large = file_is_refused (source_large file e graph nodes large)
    joined-small ms bytes m file e graph nodes None small = file_is_joined m (record { bytes = bytes; file = file; read = e; graph = graph; nodes = nodes; small = small })

    joined-taken : (ms : List Message) (bytes : List ℕ) (m : Message) → AreJoined g content words ms → IsFileTold content words (file_at (length ms)) bytes → decoded bytes ≡ Ok m
        → (b : Bool) → may_take g (replica_before g (replica_of g ms) m) m ≡ b → FileSeen g ms
    joined-taken ms bytes m there file e true takes =
        let both = (take-Decides g (replica_before g (replica_of g ms) m) m).0 takes in
        joined-small ms bytes m file e both.0 (both.1 ∙ before-nodes g ms m (joined-nodes g content words ms there)) _ refl
    joined-taken ms bytes m there file e false refuses =
        file_is_refused (wrong_graph file e (λ fits.
        let takes : may_take g (replica_before g (replica_of g ms) m) m ≡ true = (take-Decides g (replica_before g (replica_of g ms) m) m).1 (fits.0, fits.1 ∙ sym (before-nodes g ms m (joined-nodes g content words ms there))) in
        let clash : true ≡ false = sym takes ∙ refuses in
        cc))

    file-read : (ms : List Message) (bytes : List ℕ) → AreJoined g content words ms → IsFileTold content words (file_at (length ms)) bytes → (r : Result Message (ℕ × WireWhy)) → decoded bytes ≡ r → FileSeen g ms
    file-read ms bytes there file (Ok m) e = joined-taken ms bytes m there file e _ refl
    file-read ms bytes there file (Err (place, why)) e = file_is_refused (no_message file e)

    file-file : (ms : List Message) (bytes : List ℕ) → AreJoined g content words ms → content (word_at words (file_at (length ms))) ≡ Some bytes → IsLong bytes → FileSeen g ms
    file-file ms bytes there is (long many) = file_is_refused (file_long is many)
    file-file ms bytes there is (short few) = file-read ms bytes there (record { told = is; short = few }) (decoded bytes) refl

    -- the next file is told
    file-first : (ms : List Message) (left : ℕ) (a : Answer) → told (rest_plan g ms (suc left)) ≡ Some a → (bytes : List ℕ) × (content (word_at words (file_at (length ms))) ≡ Some bytes)
    file-first [] left a e = read-first content words (file_at 0) (next g content words [] left) a e
    file-first (m ∷ ms) left a e = read-first content words (file_at (length (m ∷ ms))) (next g content words (m ∷ ms) left) a (sym (ap told (more-file g (length (m ∷ ms)) left (joined g (m ∷ ms)))) ∙ e)

    merge-end : (ms : List Message) → form words ≡ Merge → IsGraphTold lib content words g → AreJoined g content words ms → file_at (length ms) ≡ length words
        → (o : Option ℕ) → first_large 0 (eval g (joined g ms).contents) ≡ o → Found
    merge-end ms is graph there all (Some x) large = (Err (refusal.TooLarge (length ms) 0 (name_at g x)), variable_too_large is graph there all large)
    merge-end ms is graph there all None small = (Ok (Exactly (merge_text g (joined g ms))), merged is graph there all small)

    merge-step : (ms : List Message) → form words ≡ Merge → IsGraphTold lib content words g → AreJoined g content words ms → file_at (length ms) < length words
        → FileSeen g ms → ((m : Message) → IsJoined g content words ms m → Found) → Found
    merge-step ms is graph there within (file_is_refused {x = x} h) go_on = (Err x, file_refused is graph there within h)
    merge-step ms is graph there within (file_is_joined m here) go_on = go_on m here

    merge-files : (left : ℕ) (ms : List Message) (a : Answer) → form words ≡ Merge → IsGraphTold lib content words g → AreJoined g content words ms → file_at (length ms) + left ≡ length words
        → told (rest_plan g ms left) ≡ Some a → Found
    merge-files zero ms a is graph there count e = merge-end ms is graph there (omega (arith, count)) _ refl
    merge-files (suc left) ms a is graph there count e =
        let file = file-first ms left a e in
        merge-step ms is graph there (omega (arith, count)) (file-file ms file.0 there file.1 (is-long file.0 _ refl))
        (λ m here. merge-files left (ms ++ m ∷ []) a is graph (more there here) (omega (arith, count, length-append ms (m ∷ []))) (sym (file-joined g content words ms m left there here) ∙ e))

  merge-found : (a : Answer) → form words ≡ Merge → told (plan_of lib words Merge) ≡ Some a → GraphSeen → Found
  merge-found a is e (graph_is_refused {x = x} h) = (Err x, graph_refused (subst ReadsGraph (sym is) tt) h)
  merge-found a is e (graph_is_read g graph) =
      let files : told (merging_files g (length words - 3)) ≡ Some a = sym (opening-read lib content words (λ h. merging_files h (length words - 3)) g graph) ∙ e in
      merge-files g (suc (length words - 3)) [] a is graph none (omega (arith, merge-many words is)) files

  -- ---- all forms

  found : (f : Form) (a : Answer) → form words ≡ f → told (plan_of lib words f) ≡ Some a → Found
  found Plain a is e = plain-found a is e (graph-seen (λ g. running_script lib report_of g) a e)
  found Delta a is e = delta-found a is e (graph-seen (λ g. delta_script lib g) a e)
  found Check a is e = check-found is (graph-seen (λ g. Says (exactly (Ok (check_text g)))) a e)
  found Dots a is e = dots-found a is e
  found (Export node) a is e = export-found node a is e (graph-seen (λ g. exporting_script lib node g) a e)
  found Merge a is e = merge-found a is e (graph-seen (λ g. merging_files g (length words - 3)) a e)
  found (Threaded threads) a is e = (Err refusal.Usage, usage (subst IsUsageForm (sym is) tt))
  found Wrong a is e = (Err refusal.Usage, usage (subst IsUsageForm (sym is) tt))

  -- ---- the answer of a cause

  pub graph-told : (go_on : List Decl → Plan) (x : Refusal) → IsGraphRefused lib content words x → told (opening lib go_on) ≡ Some (Err x)
  graph-told go_on _ (graph_long {bytes = bytes} is many) = opening-long lib content words go_on bytes is many
  graph-told go_on _ (graph_bad {bytes = bytes} {number = number} {why = why} file e) = opening-refused lib content words go_on bytes number why file e

  -- where the words name a graph first, their plan begins with it
  graph-first : (f : Form) (x : Refusal) → ReadsGraph f → IsGraphRefused lib content words x → told (plan_of lib words f) ≡ Some (Err x)
  graph-first Plain x right h = graph-told (λ g. running_script lib report_of g) x h
  graph-first Delta x right h = graph-told (λ g. delta_script lib g) x h
  graph-first Check x right h = graph-told (λ g. Says (exactly (Ok (check_text g)))) x h
  graph-first (Export node) x right h = graph-told (λ g. exporting_script lib node g) x h
  graph-first Merge x right h = graph-told (λ g. merging_files g (length words - 3)) x h
  graph-first Dots x right h = absurd right
  graph-first (Threaded threads) x right h = absurd right
  graph-first Wrong x right h = absurd right

  -- words that one thread answers with usage
  usage-first : (f : Form) → IsUsageForm f → told (plan_of lib words f) ≡ Some (Err refusal.Usage)
  usage-first Plain is = absurd is
  usage-first Delta is = absurd is
  usage-first Check is = absurd is
  usage-first Dots is = absurd is
  usage-first (Export node) is = absurd is
  usage-first Merge is = absurd is
  usage-first (Threaded threads) is = told-answer content words (Err refusal.Usage) (Err refusal.Usage) refl
  usage-first Wrong is = told-answer content words (Err refusal.Usage) (Err refusal.Usage) refl

  pub script-told : (g : List Decl) (go_on : Script → Plan) (x : Refusal) → IsScriptRefused lib content words g x → told (scripting lib g go_on) ≡ Some (Err x)
  script-told g go_on _ (script_long {bytes = bytes} is many) = scripting-long lib content words g go_on bytes is many
  script-told g go_on _ (script_bad {bytes = bytes} {number = number} {why = why} file e) = scripting-refused lib content words g go_on bytes number why file e

  file-told : (g : List Decl) (ms : List Message) (left : ℕ) (x : Refusal) → AreJoined g content words ms → IsFileRefused content words g ms x → told (rest_plan g ms (suc left)) ≡ Some (Err x)
  file-told g ms left _ there (file_long {bytes = bytes} is many) = file-long g content words ms left bytes is many
  file-told g ms left x there (no_message {bytes = bytes} {place = place} {why = why} file e) = file-refused g content words ms left bytes x file (read-none g ms bytes place why e)
  file-told g ms left x there (wrong_graph {bytes = bytes} {m = m} file e wrong) = file-refused g content words ms left bytes x file (read-wrong g ms bytes (joined-nodes g content words ms there) m e wrong)
  file-told g ms left x there (source_large {bytes = bytes} {m = m} {x = y} file e graph nodes large) =
      file-refused g content words ms left bytes x file (read-large g ms bytes (joined-nodes g content words ms there) m y e graph nodes large)

  to-files : (g : List Decl) → form words ≡ Merge → IsGraphTold lib content words g → told (plan lib words) ≡ told (merging_files g (length words - 3))
  to-files g is graph = told-form lib content words Merge is ∙ opening-read lib content words (λ h. merging_files h (length words - 3)) g graph

  to-run : (f : Form) (g : List Decl) (answer : List Decl → Script → Result (List ℕ) Refusal) → form words ≡ f → told (plan_of lib words f) ≡ told (opening lib (λ h. scripting lib h (λ s. Says (exactly (answer h s))))) → IsGraphTold lib content words g
      → told (plan lib words) ≡ told (scripting lib g (λ s. Says (exactly (answer g s))))
  to-run f g answer is same graph = told-form lib content words f is ∙ same ∙ to-script lib content words g answer graph

  -- the answer by whether the script has the node
  abbrev by_node : ℕ → List Decl → Script → Bool → Result (List ℕ) Refusal
  by_node node g s has = check has (refusal.Script (length s.commands + 1) NoSuchNode) >>= λ _. run_answer (exported_bytes node) g s

  has-node : (node : ℕ) (g : List Decl) (s : Script) (r : Result Run Stop) → node < s.nodes → ended g s ≡ r → export_answer node g s ≡ ended_answer (exported_bytes node) g s r
  has-node node g s r has ends = ap (by_node node g s) (lt-ltb node s.nodes has) ∙ run-ends (exported_bytes node) g s r ends

  -- a cause has its answer
  pub cause-told : (a : Answer) → HasCause lib content words a → told (plan lib words) ≡ Some a
  cause-told _ (usage is) = usage-first (form words) is
  cause-told _ (graph_refused {x = x} right h) = graph-first (form words) x right h
  cause-told _ (script_refused {g = g} {x = x} is graph h) = to-run Plain g (run_answer report_of) is refl graph ∙ script-told g (λ s. Says (exactly (run_answer report_of g s))) x h
  cause-told _ (run_stopped {g = g} {s = s} {halt = halt} is graph script e) =
      told-form lib content words Plain is ∙ to-answer lib content words g (run_answer report_of) s (ended_answer report_of g s (Err halt)) graph script (run-ends report_of g s (Err halt) e)
  cause-told _ (reported {g = g} {s = s} {run = run} is graph script e) =
      told-form lib content words Plain is ∙ to-answer lib content words g (run_answer report_of) s (ended_answer report_of g s (Ok run)) graph script (run-ends report_of g s (Ok run) e)
  cause-told _ (delta_refused {g = g} {x = x} is graph h) = to-run Delta g delta_answer is refl graph ∙ script-told g (λ s. Says (exactly (delta_answer g s))) x h
  cause-told _ (delta_stopped {g = g} {s = s} {halt = halt} is graph script e) =
      told-form lib content words Delta is ∙ to-answer lib content words g delta_answer s (told_deltas g s (Err halt)) graph script (ap (told_deltas g s) ((gossip-stops g s halt).1 e))
  cause-told _ (delta_done {g = g} {s = s} {run = run} is graph script e) =
      told-form lib content words Delta is ∙ to-answer lib content words g delta_answer s (told_deltas g s (Ok run)) graph script (ap (told_deltas g s) e)
  cause-told _ (checked_so {g = g} is graph) =
      told-form lib content words Check is
      ∙ opening-read lib content words (λ h. Says (exactly (Ok (check_text h)))) g graph
      ∙ told-answer content words (exactly (Ok (check_text g))) (exactly (Ok (check_text g))) refl
  cause-told _ (dots_refused is (dots_long {bytes = bytes} file many)) = dots-long lib content words is bytes file many
  cause-told _ (dots_refused is (dots_bad {bytes = bytes} {number = number} {why = why} file e)) = dots-refused lib content words is bytes number why file e
  cause-told _ (other_word {s = s} {place = place} is script first) = dots-other lib content words is s place script first
  cause-told _ (dots_done {s = s} is script known) = dots-written lib content words is s script known
  cause-told _ (export_refused {g = g} {x = x} {node = node} is graph h) = to-run (Export node) g (export_answer node) is refl graph ∙ script-told g (λ s. Says (exactly (export_answer node g s))) x h
  cause-told _ (no_such_node {g = g} {s = s} {node = node} is graph script low) =
      told-form lib content words (Export node) is ∙ to-answer lib content words g (export_answer node) s (by_node node g s false) graph script (ap (by_node node g s) (le-ltb node s.nodes low))
  cause-told _ (export_stopped {g = g} {s = s} {halt = halt} {node = node} is graph script has e) =
      told-form lib content words (Export node) is ∙ to-answer lib content words g (export_answer node) s (ended_answer (exported_bytes node) g s (Err halt)) graph script (has-node node g s (Err halt) has e)
  cause-told _ (exported {g = g} {s = s} {run = run} {node = node} is graph script has e) =
      told-form lib content words (Export node) is ∙ to-answer lib content words g (export_answer node) s (ended_answer (exported_bytes node) g s (Ok run)) graph script (has-node node g s (Ok run) has e)
  cause-told _ (file_refused {g = g} {before = before} {x = x} is graph there within h) =
      to-files g is graph ∙ next-answer g content words before (Some (Err x)) there within (λ left. file-told g before left x there h)
  cause-told _ (variable_too_large {g = g} {all = all} {x = x} is graph there end large) =
      to-files g is graph ∙ last-answer g content words all (Err (refusal.TooLarge (length all) 0 (name_at g x))) there (merge-many words is) end (shown-answer g (length all) (joined g all) (Some x) large)
  cause-told _ (merged {g = g} {all = all} is graph there end small) =
      to-files g is graph ∙ last-answer g content words all (Ok (merge_text g (joined g all))) there (merge-many words is) end (shown-answer g (length all) (joined g all) None small)

  -- an answer has its cause
  pub told-cause : (a : Answer) → told (plan lib words) ≡ Some a → HasCause lib content words a
  told-cause a e =
      let cause = found (form words) a refl e in
      let same : cause.0 ≡ a = some-same cause.0 a (sym (cause-told cause.0 cause.1) ∙ e) in
      subst (λ (b : Answer). HasCause lib content words b) same cause.1
