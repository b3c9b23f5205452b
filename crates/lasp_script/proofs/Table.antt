-- What a word comes to part after part is what the table of its checks says.
use Rattle.std.proofs.Common.{◌≡◌, ◌∙◌, refl, sym, ap, ℕ, ◌==◌, ◌&&◌, List, [], ◌∷◌, ◌++◌, map, pos, Bool, true, false, Option, Some, None, is_some, is_none, unwrap_or, Result, Ok, Err, is_ok}
use Rattle.std.specs.Prelude.{slice_index_or}
use Rattle.std.specs.Result.{result_unwrap_or}
use Rattle.std.specs.List.{list_all}
use Rattle.std.proofs.lemmas.List.{append_assoc, append-nil}
use Rattle.serde_json.specs.Data.{Data, Num}
use Rattle.serde_json.specs.Find.{as_u64, as_i64}
use Rattle.model_values.specs.Value.{Val, int}
use Rattle.model_values.specs.Json.{read_value}
use Rattle.model_states.specs.Threshold.{is_counted, has_values, has_rows}
use Rattle.model_functions.specs.Library.{Library}
use Rattle.model_graph.specs.Chain.{◌>>=◌, check, or_else, refusing}
use Rattle.model_graph.specs.Graph.{Kind, OrSet, GSet, Counter, MaxReg, Union, Product, Intersection, Map, Filter, Fold, Decl, no_decl, is_source, kind_at}
use Rattle.model_graph.specs.Lawful.{shape_of}
use Rattle.model_readings.specs.declared.graph_why.GraphWhy.{GraphWhy}
use Rattle.model_readings.specs.Graph.{place_of, decl_read}
use Rattle.model_world.specs.Command as command
use Rattle.model_world.specs.Command.{Until, Command}
use Rattle.model_scripts.specs.declared.script_why.ScriptWhy.{ScriptWhy}
use Rattle.model_scripts.specs.declared.script_why.ScriptWhy.TheVariants as why
use Rattle.model_scripts.specs.Word.{Target, Bound, at_least, above, count, added, removed, Word, add, remove, insert, inc, max, print, mark, bind, send, deliver, sync, settle, read, await, declare, word_of}
use Rattle.model_scripts.specs.Progress.{Progress, mark_of, mark_at, place_at, after}
use Rattle.model_scripts.specs.Parts.{number_below, index_below, step_of, value_of, until_of, command_of}
use Rattle.model_scripts.specs.Check.{is_orset, is_gset, is_counter, is_maxreg, is_value, is_mark_of, mark_in_bound, holds, suits_bound, is_brought_bound, has_room, checks, all_checked}
use Rattle.model_scripts.specs.Script.{why_declared, declared_checked, word_read, next_read}
use Rattle.lasp_script.specs.declared.word.Update.{Update}
use Rattle.lasp_script.specs.declared.word.Update.TheVariants as update
use Rattle.lasp_script.specs.Word.{update_view}
use Rattle.lasp_script.specs.Updated.{updated}
use Rattle.lasp_script.specs.Made.{node_read, message_read, place_read, kind_checked, why_refused, value_read, values_from, step_read, top_read, count_read, change_read, change, mark_read, bind_read, marked_read, until_read, asked_read, declared_read, made, roomy, command_read}

-- ---- what is there or refused, as a check and a value

there : {A : Type 0} (o : Option A) (a : A) (e : ScriptWhy) → or_else o e ≡ (check (is_some o) e >>= λ _. Ok (unwrap_or o a))
there (Some x) a e = refl
there None a e = refl

value-there : (d : Data) → value_read d ≡ (check (is_value d) why.ValueRefused >>= λ _. Ok (value_of d))
unfolding value_read
value-there d = by (read_value d) where
  by : (r : Result Val _) → refusing why_refused r ≡ (check (is_ok r) why.ValueRefused >>= λ _. Ok (result_unwrap_or r (int (pos 0))))
  by (Ok v) = refl
  by (Err e) = refl

values-from : (before : List Val) (ds : List Data) → values_from before ds ≡ (check (list_all is_value ds) why.ValueRefused >>= λ _. Ok (before ++ map value_of ds))
unfolding values_from
values-from before [] = ap (λ (vs : List Val). Ok vs) (sym (append-nil before))
values-from before (d ∷ ds) =
    (λ i. value-there d i >>= λ v. values_from (before ++ v ∷ []) ds)
    ∙ by (is_value d) (values-from (before ++ value_of d ∷ []) ds) where
      by : (b : Bool) → values_from (before ++ value_of d ∷ []) ds ≡ (check (list_all is_value ds) why.ValueRefused >>= λ _. Ok ((before ++ value_of d ∷ []) ++ map value_of ds))
          → ((check b why.ValueRefused >>= λ _. Ok (value_of d)) >>= λ v. values_from (before ++ v ∷ []) ds) ≡ (check (b && list_all is_value ds) why.ValueRefused >>= λ _. Ok (before ++ value_of d ∷ map value_of ds))
      by false rest = refl
      by true rest = rest ∙ (λ i. check (list_all is_value ds) why.ValueRefused >>= λ _. Ok (append_assoc before (value_of d ∷ []) (map value_of ds) i))

values-there : (ds : List Data) → values_from [] ds ≡ (check (list_all is_value ds) why.ValueRefused >>= λ _. Ok (map value_of ds))
values-there ds = values-from [] ds

-- ---- one check after the other

abbrev Table : Type 0
Table = List (Bool × ScriptWhy)

-- the command, where all checks pass
abbrev passed : Table → Command → Result Command ScriptWhy
passed cs k = all_checked cs >>= λ _. Ok k

-- a refusal stays one
abbrev IsStrict : {A : Type 0} → (Result A ScriptWhy → Result Command ScriptWhy) → Type 0
IsStrict rest = (e : ScriptWhy) → rest (Err e) ≡ Err e

step : (b : Bool) (e : ScriptWhy) (cs : Table) (k : Command) (rest : Result (Unit {0}) ScriptWhy → Result Command ScriptWhy) → IsStrict rest → passed cs k ≡ rest (Ok tt) → passed ((b, e) ∷ cs) k ≡ rest (check b e)
step true e cs k rest strict h = h
step false e cs k rest strict h = sym (strict e)

part : {A : Type 0} (b : Bool) (e : ScriptWhy) (a : A) (cs : Table) (k : Command) (rest : Result A ScriptWhy → Result Command ScriptWhy) → IsStrict rest → passed cs k ≡ rest (Ok a)
    → passed ((b, e) ∷ cs) k ≡ rest (check b e >>= λ _. Ok a)
part true e a cs k rest strict h = h
part false e a cs k rest strict h = sym (strict e)

last : (room : Bool) (k : Command) → passed ((room, why.TooMany) ∷ []) k ≡ roomy room (Ok k)
last true k = refl
last false k = refl

-- ---- the parts of words as checks

module _ (g : List Decl) (nodes : ℕ) (t : Target) where
  abbrev has-node : Bool
  has-node = is_some (number_below nodes t.node)

  abbrev node-is : ℕ
  node-is = unwrap_or (number_below nodes t.node) 0

  abbrev has-var : Bool
  has-var = is_some (place_of t.var g)

  abbrev var-is : ℕ
  var-is = unwrap_or (place_of t.var g) 0

  -- the node and the variable are the first checks
  place : (cs : Table) (k : Command) (rest : Result (ℕ × ℕ) ScriptWhy → Result Command ScriptWhy) → IsStrict rest → passed cs k ≡ rest (Ok (node-is, var-is))
      → passed ((has-node, why.NoSuchNode) ∷ (has-var, why.UnknownVar) ∷ cs) k ≡ rest (place_read g nodes t)
  unfolding place_read node_read
  place cs k rest strict h =
      part has-node why.NoSuchNode node-is ((has-var, why.UnknownVar) ∷ cs) k (λ r. rest (r >>= λ node. or_else (place_of t.var g) why.UnknownVar >>= λ var. Ok (node, var))) strict
      (part has-var why.UnknownVar var-is cs k (λ r. rest (r >>= λ var. Ok (node-is, var))) strict h ∙ (λ i. rest (sym (there (place_of t.var g) 0 why.UnknownVar) i >>= λ var. Ok (node-is, var))))
      ∙ (λ i. rest (sym (there (number_below nodes t.node) 0 why.NoSuchNode) i >>= λ node. or_else (place_of t.var g) why.UnknownVar >>= λ var. Ok (node, var)))

  -- a variable of the right kind, and what is brought
  changes : {A : Type 0} (works : Kind → Bool) (brought : Bool) (a : A) (payload : Result A ScriptWhy) → payload ≡ (check brought why.ValueRefused >>= λ _. Ok a) → (form : ℕ → ℕ → A → Command) (room : Bool)
      → passed ((has-node, why.NoSuchNode) ∷ (has-var, why.UnknownVar) ∷ (true, why.UnknownMark) ∷ (true, why.MarkTaken) ∷ (works (kind_at g var-is), why.WrongOp) ∷ (brought, why.ValueRefused) ∷ (true, why.NotSent) ∷ (room, why.TooMany) ∷ []) (form node-is var-is a)
      ≡ roomy room (change_read works g nodes t payload >>= change form)
  unfolding change_read
  changes {A} works brought a payload is form room =
      let k : Command = form node-is var-is a in
      let table : Table = (works (kind_at g var-is), why.WrongOp) ∷ (brought, why.ValueRefused) ∷ (room, why.TooMany) ∷ [] in
      place table k (λ r. roomy room ((r >>= λ place. kind_checked works g place.1 >>= λ _. payload >>= λ b. Ok (place.0, place.1, b)) >>= change form)) (λ e. refl)
      (step (works (kind_at g var-is)) why.WrongOp ((brought, why.ValueRefused) ∷ (room, why.TooMany) ∷ []) k (λ r. roomy room ((r >>= λ _. payload >>= λ b. Ok (node-is, var-is, b)) >>= change form)) (λ e. refl)
      (part brought why.ValueRefused a ((room, why.TooMany) ∷ []) k (λ r. roomy room ((r >>= λ b. Ok (node-is, var-is, b)) >>= change form)) (λ e. refl) (last room k)
      ∙ (λ i. roomy room ((sym is i >>= λ b. Ok (node-is, var-is, b)) >>= change form))))

  -- a place alone
  places : (room : Bool) → passed ((has-node, why.NoSuchNode) ∷ (has-var, why.UnknownVar) ∷ (room, why.TooMany) ∷ []) (command.Print node-is var-is) ≡ roomy room (place_read g nodes t >>= λ place. Ok (command.Print place.0 place.1))
  places room =
      let k : Command = command.Print node-is var-is in
      place ((room, why.TooMany) ∷ []) k (λ r. roomy room (r >>= λ place. Ok (command.Print place.0 place.1))) (λ e. refl) (last room k)

  -- a mark of a new name, of a source
  marks : (names : List (List ℕ)) (m : List ℕ) (room : Bool)
      → passed ((has-node, why.NoSuchNode) ∷ (has-var, why.UnknownVar) ∷ (is_none (mark_of m names), why.MarkTaken) ∷ (is_source (kind_at g var-is), why.WrongOp) ∷ (room, why.TooMany) ∷ []) (command.Mark node-is var-is)
      ≡ roomy room (mark_read g nodes names t m >>= λ place. Ok (command.Mark place.0 place.1))
  unfolding mark_read
  marks names m room =
      let k : Command = command.Mark node-is var-is in
      let here : ℕ × ℕ = (node-is, var-is) in
      let table : Table = (is_source (kind_at g var-is), why.WrongOp) ∷ (room, why.TooMany) ∷ [] in
      place ((is_none (mark_of m names), why.MarkTaken) ∷ table) k
      (λ r. roomy room ((r >>= λ place. check (is_none (mark_of m names)) why.MarkTaken >>= λ _. kind_checked is_source g place.1 >>= λ _. Ok place) >>= λ place. Ok (command.Mark place.0 place.1))) (λ e. refl)
      (step (is_none (mark_of m names)) why.MarkTaken table k (λ r. roomy room ((r >>= λ _. kind_checked is_source g var-is >>= λ _. Ok here) >>= λ place. Ok (command.Mark place.0 place.1))) (λ e. refl)
      (step (is_source (kind_at g var-is)) why.WrongOp ((room, why.TooMany) ∷ []) k (λ r. roomy room ((r >>= λ _. Ok here) >>= λ place. Ok (command.Mark place.0 place.1))) (λ e. refl) (last room k)))

  -- a mark of the variable, which is a source
  binds : (names : List (List ℕ)) (marked : List ℕ) (m : List ℕ) (room : Bool)
      → passed ((has-node, why.NoSuchNode) ∷ (has-var, why.UnknownVar) ∷ (is_some (mark_of m names), why.UnknownMark)
      ∷ (is_source (kind_at g var-is) && slice_index_or marked (unwrap_or (mark_of m names) 0) 0 == var-is, why.WrongOp) ∷ (room, why.TooMany) ∷ []) (command.Bind node-is var-is (unwrap_or (mark_of m names) 0))
      ≡ roomy room (bind_read g nodes names marked t m >>= change command.Bind)
  unfolding bind_read
  binds names marked m room =
      let number : ℕ = unwrap_or (mark_of m names) 0 in
      let k : Command = command.Bind node-is var-is number in
      let right : Bool = is_source (kind_at g var-is) && slice_index_or marked number 0 == var-is in
      place ((is_some (mark_of m names), why.UnknownMark) ∷ (right, why.WrongOp) ∷ (room, why.TooMany) ∷ []) k
      (λ r. roomy room ((r >>= λ place. or_else (mark_of m names) why.UnknownMark >>= λ n. check (is_source (kind_at g place.1) && slice_index_or marked n 0 == place.1) why.WrongOp >>= λ _. Ok (place.0, place.1, n)) >>= change command.Bind)) (λ e. refl)
      (part (is_some (mark_of m names)) why.UnknownMark number ((right, why.WrongOp) ∷ (room, why.TooMany) ∷ []) k
      (λ r. roomy room ((r >>= λ n. check (is_source (kind_at g var-is) && slice_index_or marked n 0 == var-is) why.WrongOp >>= λ _. Ok (node-is, var-is, n)) >>= change command.Bind)) (λ e. refl)
      (step right why.WrongOp ((room, why.TooMany) ∷ []) k (λ r. roomy room ((r >>= λ _. Ok (node-is, var-is, number)) >>= change command.Bind)) (λ e. refl) (last room k))
      ∙ (λ i. roomy room ((sym (there (mark_of m names) 0 why.UnknownMark) i >>= λ n. check (is_source (kind_at g var-is) && slice_index_or marked n 0 == var-is) why.WrongOp >>= λ _. Ok (node-is, var-is, n)) >>= change command.Bind)))

-- ---- thresholds

-- the number of nodes tells nothing of which thresholds suit
counted-kind : (nodes : ℕ) (kind : Kind) → is_counted (shape_of nodes kind) ≡ is_counted (shape_of 1 kind)
counted-kind nodes OrSet = refl
counted-kind nodes GSet = refl
counted-kind nodes Counter = refl
counted-kind nodes MaxReg = refl
counted-kind nodes (Union x y) = refl
counted-kind nodes (Product x y) = refl
counted-kind nodes (Intersection x y) = refl
counted-kind nodes (Map x place ops) = refl
counted-kind nodes (Filter x place ops) = refl
counted-kind nodes (Fold x op place lift) = refl

valued-kind : (nodes : ℕ) (kind : Kind) → has_values (shape_of nodes kind) ≡ has_values (shape_of 1 kind)
valued-kind nodes OrSet = refl
valued-kind nodes GSet = refl
valued-kind nodes Counter = refl
valued-kind nodes MaxReg = refl
valued-kind nodes (Union x y) = refl
valued-kind nodes (Product x y) = refl
valued-kind nodes (Intersection x y) = refl
valued-kind nodes (Map x place ops) = refl
valued-kind nodes (Filter x place ops) = refl
valued-kind nodes (Fold x op place lift) = refl

rowed-kind : (nodes : ℕ) (kind : Kind) → has_rows (shape_of nodes kind) ≡ has_rows (shape_of 1 kind)
rowed-kind nodes OrSet = refl
rowed-kind nodes GSet = refl
rowed-kind nodes Counter = refl
rowed-kind nodes MaxReg = refl
rowed-kind nodes (Union x y) = refl
rowed-kind nodes (Product x y) = refl
rowed-kind nodes (Intersection x y) = refl
rowed-kind nodes (Map x place ops) = refl
rowed-kind nodes (Filter x place ops) = refl
rowed-kind nodes (Fold x op place lift) = refl

module _ (nodes : ℕ) (p : Progress) (t : Target) (form : ℕ → ℕ → Until → Command) (room : Bool) where
  abbrev node : ℕ
  node = unwrap_or (number_below nodes t.node) 0

  abbrev var : ℕ
  var = place_at p.stage.graph t

  -- what is left once the threshold is there
  abbrev asked : Result Until ScriptWhy → Result Command ScriptWhy
  asked r = roomy room ((r >>= λ until. Ok (node, var, until)) >>= change form)

  -- the number of a mark of the variable
  by-mark : (m : List ℕ) (make : ℕ → Until)
      → passed ((is_some (mark_of m p.names), why.UnknownMark) ∷ (is_mark_of p t m, why.WrongOp) ∷ (room, why.TooMany) ∷ []) (form node var (make (mark_at p.names m)))
      ≡ asked (marked_read p.names p.stage.marked var m >>= λ n. Ok (make n))
  unfolding marked_read
  by-mark m make =
      let number : ℕ = mark_at p.names m in
      let k : Command = form node var (make number) in
      part (is_some (mark_of m p.names)) why.UnknownMark number ((is_mark_of p t m, why.WrongOp) ∷ (room, why.TooMany) ∷ []) k
      (λ r. asked ((r >>= λ n. check (slice_index_or p.stage.marked n 0 == var) why.WrongOp >>= λ _. Ok n) >>= λ n. Ok (make n))) (λ e. refl)
      (step (is_mark_of p t m) why.WrongOp ((room, why.TooMany) ∷ []) k (λ r. asked ((r >>= λ _. Ok number) >>= λ n. Ok (make n))) (λ e. refl) (last room k))
      ∙ (λ i. asked ((sym (there (mark_of m p.names) 0 why.UnknownMark) i >>= λ n. check (slice_index_or p.stage.marked n 0 == var) why.WrongOp >>= λ _. Ok n) >>= λ n. Ok (make n)))

  -- a threshold that suits the variable, and what it brings
  by-kind : {A : Type 0} (right works brought : Bool) (a : A) (payload : Result A ScriptWhy) (make : A → Until) → right ≡ works → payload ≡ (check brought why.ValueRefused >>= λ _. Ok a)
      → passed ((right, why.WrongOp) ∷ (brought, why.ValueRefused) ∷ (room, why.TooMany) ∷ []) (form node var (make a)) ≡ asked (check works why.WrongOp >>= λ _. payload >>= λ b. Ok (make b))
  by-kind right works brought a payload make same is =
      let k : Command = form node var (make a) in
      step right why.WrongOp ((brought, why.ValueRefused) ∷ (room, why.TooMany) ∷ []) k (λ r. asked (r >>= λ _. payload >>= λ b. Ok (make b))) (λ e. refl)
      (part brought why.ValueRefused a ((room, why.TooMany) ∷ []) k (λ r. asked (r >>= λ b. Ok (make b))) (λ e. refl) (last room k) ∙ (λ i. asked (sym is i >>= λ b. Ok (make b))))
      ∙ (λ i. asked (check (same i) why.WrongOp >>= λ _. payload >>= λ b. Ok (make b)))

  untils : (b : Bound)
      → passed ((holds (λ m. is_some (mark_of m p.names)) (mark_in_bound b), why.UnknownMark) ∷ (suits_bound nodes p t b, why.WrongOp) ∷ (is_brought_bound b, why.ValueRefused) ∷ (room, why.TooMany) ∷ []) (form node var (until_of p b))
      ≡ asked (until_read p.stage.graph p.names p.stage.marked var b)
  unfolding count_read
  untils (at_least m) = by-mark m command.AtLeast
  untils (above m) = by-mark m command.Above
  untils (count k) = by-kind _ _ (is_some (as_u64 k)) (unwrap_or (as_u64 k) 0) (count_read k) command.Count (counted-kind nodes (kind_at p.stage.graph var)) (there (as_u64 k) 0 why.ValueRefused)
  untils (added vs) = by-kind _ _ (list_all is_value vs) (map value_of vs) (values_from [] vs) command.Added (valued-kind nodes (kind_at p.stage.graph var)) (values-there vs)
  untils (removed vs) = by-kind _ _ (list_all is_value vs) (map value_of vs) (values_from [] vs) command.Removed (rowed-kind nodes (kind_at p.stage.graph var)) (values-there vs)

  asks : (b : Bound)
      → passed ((is_some (number_below nodes t.node), why.NoSuchNode) ∷ (is_some (place_of t.var p.stage.graph), why.UnknownVar) ∷ (holds (λ m. is_some (mark_of m p.names)) (mark_in_bound b), why.UnknownMark)
      ∷ (suits_bound nodes p t b, why.WrongOp) ∷ (is_brought_bound b, why.ValueRefused) ∷ (room, why.TooMany) ∷ []) (form node var (until_of p b))
      ≡ roomy room (asked_read p.stage.graph nodes p.names p.stage.marked t b >>= change form)
  unfolding asked_read
  asks b =
      place p.stage.graph nodes t ((holds (λ m. is_some (mark_of m p.names)) (mark_in_bound b), why.UnknownMark) ∷ (suits_bound nodes p t b, why.WrongOp) ∷ (is_brought_bound b, why.ValueRefused) ∷ (room, why.TooMany) ∷ []) (form node var (until_of p b))
      (λ r. roomy room ((r >>= λ place. until_read p.stage.graph p.names p.stage.marked place.1 b >>= λ until. Ok (place.0, place.1, until)) >>= change form)) (λ e. refl) (untils b)

-- ---- words

sends : (nodes : ℕ) (n : Num) (room : Bool) → passed ((is_some (number_below nodes n), why.NoSuchNode) ∷ (room, why.TooMany) ∷ []) (command.Send (index_below nodes n)) ≡ roomy room (node_read nodes n >>= λ node. Ok (command.Send node))
unfolding node_read
sends nodes n room =
    let k : Command = command.Send (index_below nodes n) in
    part (is_some (number_below nodes n)) why.NoSuchNode (index_below nodes n) ((room, why.TooMany) ∷ []) k (λ r. roomy room (r >>= λ node. Ok (command.Send node))) (λ e. refl) (last room k)
    ∙ (λ i. roomy room (sym (there (number_below nodes n) 0 why.NoSuchNode) i >>= λ node. Ok (command.Send node)))

delivers : (nodes sent : ℕ) (n m : Num) (room : Bool)
    → passed ((is_some (number_below nodes n), why.NoSuchNode) ∷ (is_some (number_below sent m), why.NotSent) ∷ (room, why.TooMany) ∷ []) (command.Deliver (index_below nodes n) (index_below sent m))
    ≡ roomy room (node_read nodes n >>= λ node. message_read sent m >>= λ message. Ok (command.Deliver node message))
unfolding node_read message_read
delivers nodes sent n m room =
    let p : ℕ = index_below nodes n in
    let k : Command = command.Deliver p (index_below sent m) in
    part (is_some (number_below nodes n)) why.NoSuchNode p ((is_some (number_below sent m), why.NotSent) ∷ (room, why.TooMany) ∷ []) k
    (λ r. roomy room (r >>= λ node. message_read sent m >>= λ message. Ok (command.Deliver node message))) (λ e. refl)
    (part (is_some (number_below sent m)) why.NotSent (index_below sent m) ((room, why.TooMany) ∷ []) k (λ r. roomy room (r >>= λ message. Ok (command.Deliver p message))) (λ e. refl) (last room k)
    ∙ (λ i. roomy room (sym (there (number_below sent m) 0 why.NotSent) i >>= λ message. Ok (command.Deliver p message))))
    ∙ (λ i. roomy room (sym (there (number_below nodes n) 0 why.NoSuchNode) i >>= λ node. message_read sent m >>= λ message. Ok (command.Deliver node message)))

abbrev nothing : Result (Unit {0}) ScriptWhy
nothing = Ok tt

declares : (r : Result Decl GraphWhy) (room : Bool)
    → ((refusing why_declared r >>= λ _. nothing) >>= λ _. passed ((room, why.TooMany) ∷ []) (command.Declare (result_unwrap_or r no_decl))) ≡ roomy room (refusing why_declared r >>= λ decl. Ok (command.Declare decl))
declares (Ok d) room = last room (command.Declare d)
declares (Err e) room = refl

pub table : (lib : Library) (nodes : ℕ) (p : Progress) (w : Word)
    → (declared_checked lib p.stage.graph w >>= λ _. passed (checks nodes p w) (command_of lib nodes p w)) ≡ command_read lib nodes p w
unfolding step_read top_read declared_read
table lib nodes p (add t v) = changes p.stage.graph nodes t is_orset (is_value v) (value_of v) (value_read v) (value-there v) command.Add (has_room p (add t v))
table lib nodes p (remove t v) = changes p.stage.graph nodes t is_orset (is_value v) (value_of v) (value_read v) (value-there v) command.Remove (has_room p (remove t v))
table lib nodes p (insert t v) = changes p.stage.graph nodes t is_gset (is_value v) (value_of v) (value_read v) (value-there v) command.Insert (has_room p (insert t v))
table lib nodes p (inc t k) = changes p.stage.graph nodes t is_counter (is_some (step_of k)) (unwrap_or (step_of k) 0) (step_read k) (there (step_of k) 0 why.ValueRefused) command.Inc (has_room p (inc t k))
table lib nodes p (max t k) = changes p.stage.graph nodes t is_maxreg (is_some (as_i64 k)) (unwrap_or (as_i64 k) (pos 0)) (top_read k) (there (as_i64 k) (pos 0) why.ValueRefused) command.Max (has_room p (max t k))
table lib nodes p (print t) = places p.stage.graph nodes t (has_room p (print t))
table lib nodes p (mark t m) = marks p.stage.graph nodes t p.names m (has_room p (mark t m))
table lib nodes p (bind t m) = binds p.stage.graph nodes t p.names p.stage.marked m (has_room p (bind t m))
table lib nodes p (send n) = sends nodes n (has_room p (send n))
table lib nodes p (deliver n i) = delivers nodes p.stage.sent n i (has_room p (deliver n i))
table lib nodes p sync = last (has_room p sync) command.Sync
table lib nodes p settle = last (has_room p settle) command.Settle
table lib nodes p (read t b) = asks nodes p t command.Read (has_room p (read t b)) b
table lib nodes p (await t b) = asks nodes p t command.Await (has_room p (await t b)) b
table lib nodes p (declare d) = declares (decl_read lib p.stage.graph d) (has_room p (declare d))

-- a step more behind steps that pass tells what it tells of what it is handed
handed : {A B C : Type 0} (one two : Result (Unit {0}) ScriptWhy) (a : A) (b : B) (f : A → Result C ScriptWhy) (h : B → Result C ScriptWhy) → f a ≡ h b
    → ((one >>= λ _. two >>= λ _. Ok a) >>= f) ≡ ((one >>= λ _. two >>= λ _. Ok b) >>= h)
handed (Ok x) (Ok y) a b f h same = same
handed (Ok x) (Err e) a b f h same = refl
handed (Err e) two a b f h same = refl

-- the next command by what its word comes to
pub next-made : (lib : Library) (nodes : ℕ) (p : Progress) (d : Data) (w : Word) → word_of d ≡ Some w
    → next_read lib nodes p d ≡ (command_read lib nodes p w >>= λ k. Ok (after nodes p w k))
unfolding next_read word_read
next-made lib nodes p d w e =
    (λ i. (or_else (e i) why.Shape >>= λ v. declared_checked lib p.stage.graph v >>= λ _. all_checked (checks nodes p v) >>= λ _. Ok v) >>= λ v. Ok (after nodes p v (command_of lib nodes p v)))
    ∙ handed (declared_checked lib p.stage.graph w) (all_checked (checks nodes p w)) w (command_of lib nodes p w) (λ v. Ok (after nodes p v (command_of lib nodes p v))) (λ k. Ok (after nodes p w k)) refl
    ∙ (λ i. table lib nodes p w i >>= λ k. Ok (after nodes p w k))

pub next-formless : (lib : Library) (nodes : ℕ) (p : Progress) (d : Data) → word_of d ≡ None → next_read lib nodes p d ≡ Err why.Shape
unfolding next_read word_read
next-formless lib nodes p d e = λ i. (or_else (e i) why.Shape >>= λ v. declared_checked lib p.stage.graph v >>= λ _. all_checked (checks nodes p v) >>= λ _. Ok v) >>= λ v. Ok (after nodes p v (command_of lib nodes p v))

-- ---- updates

pub made-update : (lib : Library) (nodes : ℕ) (p : Progress) (t : Target) (u : Update) → made lib nodes p (update_view t u) ≡ updated p.stage.graph nodes t u
made-update lib nodes p t (update.Add v) = refl
made-update lib nodes p t (update.Remove v) = refl
made-update lib nodes p t (update.Insert v) = refl
made-update lib nodes p t (update.Inc n) = refl
made-update lib nodes p t (update.Max n) = refl

pub ruleset updates = (made-update)
