-- What commands that were read come to is lawful, and within the limits.
use Rattle.std.proofs.Common.{refl, sym, ap, subst, ◌∙◌, arith}
use Rattle.std.specs.Prelude.{◌≡◌, ℕ, ◌+◌, ◌<◌, ◌≤◌, ◌&&◌, List, [], ◌∷◌, ◌++◌, length, filter, Bool, true, false, nat_le, if◌then◌else◌, Option, Some, None, option_and_then, Result, Ok, Err}
use Rattle.std.proofs.lemmas.Bool.{ltb-true, leb-true}
use Rattle.std.proofs.lemmas.List.{length-append}
use Rattle.std.proofs.lemmas.List.Elements.{filter-append}
use Rattle.serde_json.specs.Data.{Data}
use Rattle.serde_json.specs.Find.{as_array, as_u64}
use Rattle.model_functions.specs.Library.{Library}
use Rattle.model_graph.specs.Chain.{◌>>=◌, or_else}
use Rattle.model_graph.specs.Graph.{Decl}
use Rattle.model_graph.specs.Lawful.{variable_limit}
use Rattle.model_readings.specs.Tree.{json_of, list_of, number_at, is_word_at, has_items}
use Rattle.model_readings.specs.Graph.{decl_read, numbered}
use Rattle.model_readings.specs.Lawful.{IsGraph, FitsAll}
use Rattle.model_readings.proofs.Chains.{passed, or_else_passed, refusing_passed}
use Rattle.model_readings.proofs.Graphs.{pushed, next-decl_read, graph-push, fits_pushed}
use Rattle.model_world.specs.Command.{Command, Script}
use Rattle.model_world.specs.Lawful as world
use Rattle.model_world.specs.Lawful.{Stage, opening_stage, stage_after, MayBeDone, AreLawful, AsksSmall, AskSmall, IsWithinLimits, node_limit, mark_limit, read_limit, is_mark, is_read}
use Rattle.model_scripts.specs.declared.script_why.ScriptWhy.{ScriptWhy}
use Rattle.model_scripts.specs.declared.script_why.ScriptWhy.TheVariants as why
use Rattle.model_scripts.specs.Word.{Word, add, remove, insert, inc, max, print, mark, bind, send, deliver, sync, settle, read, await, declare, word_of}
use Rattle.model_scripts.specs.Progress.{Progress, opening, next_number, names_after, after, stage_behind, grown}
use Rattle.model_scripts.specs.Parts.{command_of, decl_of}
use Rattle.model_scripts.specs.Check.{command_limit, checks, all_checked, has_room_beside, count_of}
use Rattle.model_scripts.specs.Script.{script_from, declared_checked, word_read, next_read, commands_read, in_range, nodes_of, parts_read, tree_read, script_of}
use Rattle.model_scripts.specs.Needs.{CanDeclare}
use Rattle.model_scripts.proofs.GrowthLaws.{graph-stage_behind}
use Rattle.model_scripts.proofs.CommandLaws.{worded, word-checks, Passing, word-passed}
use Rattle.model_scripts.proofs.DoneLaws.{declared-read, room-beside, room-number, may-be-done, asks-small, room-mark, room-read}
use Rattle.model_scripts.proofs.Small.{IsSmall, AreSmall, IsSmallWord, small-tree, small-parts, small-word}

-- ---- one command more

behind-push : (nodes : ℕ) (s : Stage) (ks : List Command) (k : Command) → stage_behind nodes s (ks ++ k ∷ []) ≡ stage_after nodes (stage_behind nodes s ks) k
behind-push nodes s [] k = refl
behind-push nodes s (j ∷ ks) k = behind-push nodes (stage_after nodes s j) ks k

lawful-push : (nodes : ℕ) (s : Stage) (ks : List Command) (k : Command) → AreLawful nodes s ks → MayBeDone nodes (stage_behind nodes s ks) k → AreLawful nodes s (ks ++ k ∷ [])
lawful-push nodes s [] k h done = (done, tt)
lawful-push nodes s (j ∷ ks) k h done = (h.0, lawful-push nodes (stage_after nodes s j) ks k h.1 done)

asked-push : (ks : List Command) (k : Command) → AskSmall ks → AsksSmall k → AskSmall (ks ++ k ∷ [])
asked-push [] k h small = (small, tt)
asked-push (j ∷ ks) k h small = (h.0, asked-push ks k h.1 small)

-- a list with one more where the test passes has room for it
count-step : (test : Command → Bool) (ks : List Command) (k : Command) (limit : ℕ) (b : Bool) → test k ≡ b → length (filter test ks) ≤ limit → (test k ≡ true → length (filter test ks) < limit)
    → length (filter test ks) + length (if b then k ∷ [] else []) ≤ limit
count-step test ks k limit true e few room = let less = room e in omega (arith, less)
count-step test ks k limit false e few room = omega (arith, few)

count-push : (test : Command → Bool) (ks : List Command) (k : Command) (limit : ℕ) → length (filter test ks) ≤ limit → (test k ≡ true → length (filter test ks) < limit)
    → length (filter test (ks ++ k ∷ [])) ≤ limit
count-push test ks k limit few room =
    subst (λ (n : ℕ). n ≤ limit) (sym (ap (λ (js : List Command). length js) (filter-append test ks (k ∷ [])) ∙ length-append (filter test ks) (filter test (k ∷ []))))
    (count-step test ks k limit (test k) refl few room)

names-push : (lib : Library) (nodes : ℕ) (p : Progress) (w : Word) → length p.names ≡ length p.stage.marked
    → length (names_after p.names w) ≡ length (stage_after nodes p.stage (command_of lib nodes p w)).marked
names-push lib nodes p (mark t m) same = length-append p.names (m ∷ []) ∙ ap (λ (n : ℕ). n + 1) same ∙ sym (length-append p.stage.marked (_ ∷ []))
names-push lib nodes p (add t v) same = same
names-push lib nodes p (remove t v) same = same
names-push lib nodes p (insert t v) same = same
names-push lib nodes p (inc t k) same = same
names-push lib nodes p (max t k) same = same
names-push lib nodes p (print t) same = same
names-push lib nodes p (bind t m) same = same
names-push lib nodes p (send n) same = same
names-push lib nodes p (deliver n i) same = same
names-push lib nodes p sync same = same
names-push lib nodes p settle same = same
names-push lib nodes p (read t b) same = same
names-push lib nodes p (await t b) same = same
names-push lib nodes p (declare d) same = same

-- what holds of the graph, and of the graph with what is declared, holds of the graph behind the command
graph-after : (lib : Library) (nodes : ℕ) (p : Progress) (w : Word) (P : List Decl → Type 0) → CanDeclare lib p.stage.graph w → has_room_beside p w ≡ true → P p.stage.graph
    → ((d : Data) (decl : Decl) → decl_read lib p.stage.graph d ≡ Ok decl → length p.stage.graph < variable_limit → P (p.stage.graph ++ decl ∷ []))
    → P (stage_after nodes p.stage (command_of lib nodes p w)).graph
graph-after lib nodes p (add t v) P can room h grow = h
graph-after lib nodes p (remove t v) P can room h grow = h
graph-after lib nodes p (insert t v) P can room h grow = h
graph-after lib nodes p (inc t k) P can room h grow = h
graph-after lib nodes p (max t k) P can room h grow = h
graph-after lib nodes p (print t) P can room h grow = h
graph-after lib nodes p (mark t m) P can room h grow = h
graph-after lib nodes p (bind t m) P can room h grow = h
graph-after lib nodes p (send n) P can room h grow = h
graph-after lib nodes p (deliver n i) P can room h grow = h
graph-after lib nodes p sync P can room h grow = h
graph-after lib nodes p settle P can room h grow = h
graph-after lib nodes p (read t b) P can room h grow = h
graph-after lib nodes p (await t b) P can room h grow = h
graph-after lib nodes p (declare d) P can room h grow = grow d (decl_of lib p.stage.graph d) (declared-read lib p.stage.graph d can) (ltb-true _ _ room)

-- ---- all commands

-- what holds between commands
record IsReached (lib : Library) (nodes : ℕ) (g : List Decl) (p : Progress) : Type 0 where
  lawful : AreLawful nodes (opening_stage g) p.commands
  stage : stage_behind nodes (opening_stage g) p.commands ≡ p.stage
  names : length p.names ≡ length p.stage.marked
  few : length p.commands < command_limit
  marks : count_of is_mark p ≤ mark_limit
  reads : count_of is_read p ≤ read_limit
  asked : AskSmall p.commands
  graph : IsGraph g → IsGraph p.stage.graph
  fits : FitsAll lib g → FitsAll lib p.stage.graph

reached-start : (lib : Library) (nodes : ℕ) (g : List Decl) → IsReached lib nodes g (opening g)
reached-start lib nodes g = record {
  lawful = tt;
  stage = refl;
  names = refl;
  few = omega arith;
  marks = omega arith;
  reads = omega arith;
  asked = tt;
  graph = λ h. h;
  fits = λ h. h;
}

-- a word that was read, and what stands behind it
pub record IsStep (lib : Library) (nodes : ℕ) (p : Progress) (d : Data) (next : Progress) : Type 0 where
  pub word : Word
  pub is : word_of d ≡ Some word
  pub can : CanDeclare lib p.stage.graph word
  pub passing : Passing nodes p word
  pub next_is : after nodes p word (command_of lib nodes p word) ≡ next

worded-same : (w v : Word) (r s : Result (Unit {0}) ScriptWhy) → (r >>= λ _. s >>= λ _. Ok w) ≡ Ok v → w ≡ v
worded-same w v (Ok t) (Ok u) h = cc
worded-same w v (Ok t) (Err e) h = absurd cc
worded-same w v (Err e) s h = absurd cc

pub step-next_read : (lib : Library) (nodes : ℕ) (p : Progress) (d : Data) (next : Progress) → next_read lib nodes p d ≡ Ok next → IsStep lib nodes p d next
unfolding next_read
step-next_read lib nodes p d next e =
    let read = passed (word_read lib nodes p d) _ next e in
    let form = passed (or_else (word_of d) why.Shape) (worded lib nodes p) read.value (sym (word-checks lib nodes p d) ∙ read.first) in
    let is = or_else_passed (word_of d) why.Shape form.value form.first in
    let same = worded-same form.value read.value (declared_checked lib p.stage.graph form.value) (all_checked (checks nodes p form.value)) form.then in
    let a = word-passed lib nodes p d form.value is (read.first ∙ ap (λ (v : Word). Ok v) (sym same)) in
    let behind : after nodes p read.value (command_of lib nodes p read.value) ≡ next = cc in
    record { word = form.value; is = is; can = a.0; passing = a.1; next_is = ap (λ (v : Word). after nodes p v (command_of lib nodes p v)) same ∙ behind }

reached-after : (lib : Library) (nodes : ℕ) (g : List Decl) (p : Progress) (w : Word) → CanDeclare lib p.stage.graph w → Passing nodes p w → IsSmallWord w → IsReached lib nodes g p
    → IsReached lib nodes g (after nodes p w (command_of lib nodes p w))
reached-after lib nodes g p w can a small h =
    let k = command_of lib nodes p w in
    let beside = room-beside p w a.room in
    let number = room-number p w a.room in
    record {
      lawful = lawful-push nodes (opening_stage g) p.commands k h.lawful (subst (λ (s : Stage). MayBeDone nodes s k) (sym h.stage) (may-be-done lib nodes p h.names w can a small));
      stage = behind-push nodes (opening_stage g) p.commands k ∙ ap (λ (s : Stage). stage_after nodes s k) h.stage;
      names = names-push lib nodes p w h.names;
      few = subst (λ (n : ℕ). n < command_limit) (sym (length-append p.commands (k ∷ []))) number;
      marks = count-push is_mark p.commands k mark_limit h.marks (room-mark lib nodes p w beside);
      reads = count-push is_read p.commands k read_limit h.reads (room-read lib nodes p w beside);
      asked = asked-push p.commands k h.asked (asks-small lib nodes p h.names w a small);
      graph = λ good. graph-after lib nodes p w IsGraph can beside (h.graph good) (λ d decl read room. graph-push p.stage.graph decl (h.graph good) room (next-decl_read lib p.stage.graph d decl read).next);
      fits = λ good. graph-after lib nodes p w (FitsAll lib) can beside (h.fits good)
          (λ d decl read room. λ i e at. fits_pushed lib p.stage.graph decl (h.fits good) (next-decl_read lib p.stage.graph d decl read).fits i e (pushed p.stage.graph decl i e at));
    }

reached-next : (lib : Library) (nodes : ℕ) (g : List Decl) (p : Progress) (d : Data) (next : Progress) → IsSmall d → IsReached lib nodes g p → next_read lib nodes p d ≡ Ok next → IsReached lib nodes g next
reached-next lib nodes g p d next small h e =
    let s = step-next_read lib nodes p d next e in
    subst (IsReached lib nodes g) s.next_is (reached-after lib nodes g p s.word s.can s.passing (small-word d s.word small s.is) h)

reached-all : (lib : Library) (nodes : ℕ) (g : List Decl) (p : Progress) (ds : List Data) (last : Progress) → AreSmall ds → IsReached lib nodes g p → commands_read lib nodes p ds ≡ Ok last → IsReached lib nodes g last
unfolding commands_read
reached-all lib nodes g p [] last small h e = let same : p ≡ last = cc in subst (IsReached lib nodes g) same h
reached-all lib nodes g p (d ∷ ds) last small h e =
    let next = passed (numbered (next_number p) (next_read lib nodes p d)) _ last e in
    let read = refusing_passed (λ w. (next_number p, w)) (next_read lib nodes p d) next.value next.first in
    reached-all lib nodes g next.value ds last small.1 (reached-next lib nodes g p d next.value small.0 h read) next.then

-- ---- the script

range-tests : (n k : ℕ) (a b : Bool) → nat_le 1 n ≡ a → nat_le n node_limit ≡ b → (if a && b then Some n else None) ≡ Some k → (1 ≤ k) × (k ≤ node_limit)
range-tests n k true true some most e = let same : n ≡ k = cc in subst (λ n. (1 ≤ n) × (n ≤ node_limit)) same (leb-true 1 n some, leb-true n node_limit most)
range-tests n k true false some most e = absurd cc
range-tests n k false b some most e = absurd cc

range-step : (o : Option ℕ) (k : ℕ) → option_and_then in_range o ≡ Some k → (1 ≤ k) × (k ≤ node_limit)
range-step (Some n) k e = range-tests n k _ _ refl refl e
range-step None k e = absurd cc

range-if : (b : Bool) (o : Option ℕ) (k : ℕ) → (if b then option_and_then in_range o else None) ≡ Some k → (1 ≤ k) × (k ≤ node_limit)
range-if true o k e = range-step o k e
range-if false o k e = absurd cc

nodes-within : (d : Data) (k : ℕ) → nodes_of d ≡ Some k → (1 ≤ k) × (k ≤ node_limit)
unfolding nodes_of
nodes-within d k e = range-if (is_word_at 0 _ d && has_items 2 d) (option_and_then as_u64 (number_at 1 d)) k e

-- what an accepted script is
pub record IsAccepted (lib : Library) (g : List Decl) (s : Script) : Type 0 where
  pub lawful : world.IsLawful g s
  pub limits : IsWithinLimits s
  pub graph : IsGraph g → IsGraph (grown g s.commands)
  pub fits : FitsAll lib g → FitsAll lib (grown g s.commands)

accepted-reached : (lib : Library) (nodes : ℕ) (g : List Decl) (p : Progress) → (1 ≤ nodes) × (nodes ≤ node_limit) → IsReached lib nodes g p → IsAccepted lib g (script_from nodes p.commands)
accepted-reached lib nodes g p range h =
    let few = h.few in
    let same : p.stage.graph ≡ grown g p.commands = sym (ap (λ (s : Stage). s.graph) h.stage) ∙ graph-stage_behind nodes (opening_stage g) p.commands in
    record {
      lawful = record { some = range.0; few = omega (arith, few); each = h.lawful };
      limits = record { nodes = range.1; few = h.few; marks = h.marks; reads = h.reads; asked = h.asked };
      graph = λ good. subst (λ (all : List Decl). IsGraph all) same (h.graph good);
      fits = λ good. subst (λ (all : List Decl). FitsAll lib all) same (h.fits good);
    }

accepted-parts : (lib : Library) (g : List Decl) (ds : List Data) (s : Script) → AreSmall ds → parts_read lib g ds ≡ Ok s → IsAccepted lib g s
unfolding parts_read
accepted-parts lib g [] s small e = absurd cc
accepted-parts lib g (d ∷ ds) s small e =
    let nodes = passed (or_else (nodes_of d) (0, why.Shape)) _ s e in
    let last = passed (commands_read lib nodes.value (opening g) ds) _ s nodes.then in
    let range = nodes-within d nodes.value (or_else_passed (nodes_of d) (0, why.Shape) nodes.value nodes.first) in
    let reached = reached-all lib nodes.value g (opening g) ds last.value small.1 (reached-start lib nodes.value g) last.first in
    let same : script_from nodes.value last.value.commands ≡ s = cc in
    subst (IsAccepted lib g) same (accepted-reached lib nodes.value g last.value range reached)

pub accepted-script_of : (lib : Library) (g : List Decl) (bytes : List ℕ) (s : Script) → script_of lib g bytes ≡ Ok s → IsAccepted lib g s
unfolding script_of tree_read
accepted-script_of lib g bytes s e =
    let tree = passed (or_else (json_of bytes) (0, why.NotJson)) _ s e in
    let ds = passed (or_else (as_array tree.value) (0, why.Shape)) _ s tree.then in
    let small = small-tree bytes tree.value (or_else_passed (json_of bytes) (0, why.NotJson) tree.value tree.first) in
    accepted-parts lib g (list_of ds.value) s (small-parts tree.value ds.value (or_else_passed (as_array tree.value) (0, why.Shape) ds.value ds.first) small) ds.then
