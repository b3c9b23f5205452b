-- The checks of one command, one after the other.
use Rattle.std.proofs.Common.{refl, sym, ap, subst, ◌∙◌}
use Rattle.std.specs.Prelude.{◌≡◌, ◌≢◌, ◌↔◌, ℕ, List, ◌∷◌, drop, Bool, true, false, Option, Some, None, Result, Ok, Err, Decides}
use Rattle.serde_json.specs.Data.{Data}
use Rattle.model_functions.specs.Library.{Library}
use Rattle.model_graph.specs.Chain.{◌>>=◌, or_else, refusing}
use Rattle.model_graph.specs.Graph.{Decl}
use Rattle.model_readings.specs.declared.graph_why.GraphWhy.{GraphWhy}
use Rattle.model_readings.specs.declared.graph_why.GraphWhy.TheVariants as graph_why
use Rattle.model_readings.specs.Graph.{decl_read}
use Rattle.model_scripts.specs.declared.script_why.ScriptWhy.{ScriptWhy}
use Rattle.model_scripts.specs.declared.script_why.ScriptWhy.TheVariants as why
use Rattle.model_scripts.specs.Word.{Word, add, remove, insert, inc, max, print, mark, bind, send, deliver, sync, settle, read, await, declare, word_of}
use Rattle.model_scripts.specs.Progress.{Progress, after}
use Rattle.model_scripts.specs.Parts.{command_of}
use Rattle.model_scripts.specs.Check.{checks, all_checked, has_node, has_var, has_mark, has_new_mark, is_right, is_brought, was_sent, has_room}
use Rattle.model_scripts.specs.Script.{why_declared, declared_checked, word_read, next_read}
use Rattle.model_scripts.specs.Needs.{CanDeclare, HasNode, HasVar, HasMark, HasNewMark, IsRight, IsBrought, WasSent, HasRoom, IsDeclarationCause, IsCommandCause}
use Rattle.model_scripts.proofs.Deciding.{node-Decides, var-Decides, mark-Decides, new_mark-Decides, right-Decides, brought-Decides, sent-Decides, room-Decides}
use Rattle.model_scripts.proofs.DeclarationLaws.{declaration-cause}
use Rattle.model_scripts.proofs.Failing.{has_cause, differs, fails-first, passes-first, AllPass, all-passed, all-pass, kept-refusal, via, of-same}
use Rattle.model_scripts.proofs.WordForms.{Has, IsFormed, declared-formed}

-- the table, and then the word
abbrev pub tabled : Word → List (Bool × ScriptWhy) → Result Word ScriptWhy
tabled w cs = all_checked cs >>= λ _. Ok w

-- what is declared, then the table, and then the word
abbrev pub worded : Library → ℕ → Progress → Word → Result Word ScriptWhy
worded lib nodes p w = declared_checked lib p.stage.graph w >>= λ _. tabled w (checks nodes p w)

pub word-checks : (lib : Library) (nodes : ℕ) (p : Progress) (d : Data) → word_read lib nodes p d ≡ (or_else (word_of d) why.Shape >>= worded lib nodes p)
unfolding word_read
word-checks lib nodes p d = refl

-- ---- what is declared

-- the cause of a declaration that a cause of a script says again
abbrev why_graph : ScriptWhy → GraphWhy
why_graph why.NotJson = graph_why.NotJson
why_graph why.Shape = graph_why.Shape
why_graph why.NameShape = graph_why.NameShape
why_graph why.NameTaken = graph_why.NameTaken
why_graph why.UnknownInput = graph_why.UnknownInput
why_graph why.WrongKind = graph_why.WrongKind
why_graph why.UnknownFunction = graph_why.UnknownFunction
why_graph why.TooWide = graph_why.TooWide
why_graph _ = graph_why.TooMany

said-again : (e : GraphWhy) → why_graph (why_declared e) ≡ e
said-again graph_why.NotJson = refl
said-again graph_why.Shape = refl
said-again graph_why.NameShape = refl
said-again graph_why.NameTaken = refl
said-again graph_why.UnknownInput = refl
said-again graph_why.WrongKind = refl
said-again graph_why.UnknownFunction = refl
said-again graph_why.TooWide = refl
said-again graph_why.TooMany = refl

declared-same : (e f : GraphWhy) → why_declared e ≡ why_declared f → e ≡ f
declared-same e f h = sym (said-again e) ∙ ap why_graph h ∙ said-again f

-- no table has a cause of a declaration
declared-apart : (nodes : ℕ) (p : Progress) (w : Word) (e : GraphWhy) → IsDeclarationCause e → has_cause (why_declared e) (checks nodes p w) ≡ false
declared-apart nodes p w graph_why.NotJson h = absurd h
declared-apart nodes p w graph_why.Shape h = absurd h
declared-apart nodes p w graph_why.NameShape h = refl
declared-apart nodes p w graph_why.NameTaken h = refl
declared-apart nodes p w graph_why.UnknownInput h = refl
declared-apart nodes p w graph_why.WrongKind h = refl
declared-apart nodes p w graph_why.UnknownFunction h = refl
declared-apart nodes p w graph_why.TooWide h = refl
declared-apart nodes p w graph_why.TooMany h = absurd h

-- what was read of a declaration, as a check
abbrev declaring : Result Decl GraphWhy → Result (Unit {0}) ScriptWhy
declaring r = refusing why_declared r >>= λ _. Ok tt

declare-step : (w : Word) (cs : List (Bool × ScriptWhy)) (r : Result Decl GraphWhy) (e : GraphWhy) → has_cause (why_declared e) cs ≡ false
    → (declaring r >>= λ _. tabled w cs) ≡ Err (why_declared e) ↔ r ≡ Err e
declare-step w cs (Ok decl) e other = (λ h. absurd (differs (why_declared e) cs other ((kept-refusal (all_checked cs) (λ _. w) (why_declared e)).0 h)), λ h. absurd cc)
declare-step w cs (Err f) e other = (
  λ h. let same : why_declared f ≡ why_declared e = cc in ap (λ (x : GraphWhy). Err x) (declared-same f e same),
  λ h. let same : f ≡ e = cc in ap (λ (x : GraphWhy). Err (why_declared x)) same,
)

-- a tree that can be declared passes
can-step : (r : Result Decl GraphWhy) (decl : Decl) → r ≡ Ok decl → declaring r ≡ Ok tt
can-step r decl e = ap declaring e

pub can-checked : (lib : Library) (g : List Decl) (w : Word) → CanDeclare lib g w → declared_checked lib g w ≡ Ok tt
can-checked lib g (add t v) h = refl
can-checked lib g (remove t v) h = refl
can-checked lib g (insert t v) h = refl
can-checked lib g (inc t k) h = refl
can-checked lib g (max t k) h = refl
can-checked lib g (print t) h = refl
can-checked lib g (mark t m) h = refl
can-checked lib g (bind t m) h = refl
can-checked lib g (send n) h = refl
can-checked lib g (deliver n i) h = refl
can-checked lib g sync h = refl
can-checked lib g settle h = refl
can-checked lib g (read t b) h = refl
can-checked lib g (await t b) h = refl
can-checked lib g (declare d) h = can-step (decl_read lib g d) h.0 h.1

read-step : (lib : Library) (g : List Decl) (d : Data) (r : Result Decl GraphWhy) → decl_read lib g d ≡ r → declaring r ≡ Ok tt → CanDeclare lib g (declare d)
read-step lib g d (Ok decl) e h = (decl, e)
read-step lib g d (Err f) e h = absurd cc

pub checked-can : (lib : Library) (g : List Decl) (w : Word) → declared_checked lib g w ≡ Ok tt → CanDeclare lib g w
checked-can lib g (add t v) h = tt
checked-can lib g (remove t v) h = tt
checked-can lib g (insert t v) h = tt
checked-can lib g (inc t k) h = tt
checked-can lib g (max t k) h = tt
checked-can lib g (print t) h = tt
checked-can lib g (mark t m) h = tt
checked-can lib g (bind t m) h = tt
checked-can lib g (send n) h = tt
checked-can lib g (deliver n i) h = tt
checked-can lib g sync h = tt
checked-can lib g settle h = tt
checked-can lib g (read t b) h = tt
checked-can lib g (await t b) h = tt
checked-can lib g (declare d) h = read-step lib g d (decl_read lib g d) refl h

-- ---- the form, and which causes come

other-cause : (e : ScriptWhy) → e ≢ why.NotJson → IsCommandCause e
other-cause why.NotJson n = absurd (n refl)
other-cause _ n = tt

table-cause : (nodes : ℕ) (p : Progress) (w : Word) (e : ScriptWhy) → tabled w (checks nodes p w) ≡ Err e → has_cause e (checks nodes p w) ≡ true
table-cause nodes p w e h = choose (has_cause e (checks nodes p w)) refl where
  choose : (b : Bool) → has_cause e (checks nodes p w) ≡ b → b ≡ true
  choose true k = refl
  choose false k = absurd (differs e (checks nodes p w) k ((kept-refusal (all_checked (checks nodes p w)) (λ _. w) e).0 h))

-- what a word is refused for: a cause of its declaration, or one of the table
data IsWordCause (cs : List (Bool × ScriptWhy)) (e : ScriptWhy) : Type 0 where
  declared : (f : GraphWhy) → IsDeclarationCause f → why_declared f ≡ e → IsWordCause cs e
  in_table : has_cause e cs ≡ true → IsWordCause cs e

declared-cause : (lib : Library) (nodes : ℕ) (p : Progress) (d : Data) (e : ScriptWhy) (r : Result Decl GraphWhy) → ((f : GraphWhy) → r ≡ Err f → IsDeclarationCause f)
    → (declaring r >>= λ _. tabled (declare d) (checks nodes p (declare d))) ≡ Err e → IsWordCause (checks nodes p (declare d)) e
declared-cause lib nodes p d e (Ok decl) cause h = in_table (table-cause nodes p (declare d) e h)
declared-cause lib nodes p d e (Err f) cause h = declared f (cause f refl) (let same : why_declared f ≡ e = cc in same)

abbrev Formed : Word → Type 0
Formed = Has (λ _. Unit {0}) (λ _. Unit {0}) (λ _. Unit {0}) IsFormed

word-cause : (lib : Library) (nodes : ℕ) (p : Progress) (w : Word) (e : ScriptWhy) → Formed w → worded lib nodes p w ≡ Err e → IsWordCause (checks nodes p w) e
word-cause lib nodes p (add t v) e f h = in_table (table-cause nodes p (add t v) e h)
word-cause lib nodes p (remove t v) e f h = in_table (table-cause nodes p (remove t v) e h)
word-cause lib nodes p (insert t v) e f h = in_table (table-cause nodes p (insert t v) e h)
word-cause lib nodes p (inc t k) e f h = in_table (table-cause nodes p (inc t k) e h)
word-cause lib nodes p (max t k) e f h = in_table (table-cause nodes p (max t k) e h)
word-cause lib nodes p (print t) e f h = in_table (table-cause nodes p (print t) e h)
word-cause lib nodes p (mark t m) e f h = in_table (table-cause nodes p (mark t m) e h)
word-cause lib nodes p (bind t m) e f h = in_table (table-cause nodes p (bind t m) e h)
word-cause lib nodes p (send n) e f h = in_table (table-cause nodes p (send n) e h)
word-cause lib nodes p (deliver n i) e f h = in_table (table-cause nodes p (deliver n i) e h)
word-cause lib nodes p sync e f h = in_table (table-cause nodes p sync e h)
word-cause lib nodes p settle e f h = in_table (table-cause nodes p settle e h)
word-cause lib nodes p (read t b) e f h = in_table (table-cause nodes p (read t b) e h)
word-cause lib nodes p (await t b) e f h = in_table (table-cause nodes p (await t b) e h)
word-cause lib nodes p (declare d) e f h = declared-cause lib nodes p d e (decl_read lib p.stage.graph d) (λ g bad. declaration-cause lib p.stage.graph d f.form g f.written bad) h

declared-shape : (f : GraphWhy) → IsDeclarationCause f → why_declared f ≢ why.Shape
declared-shape graph_why.NotJson h e = absurd h
declared-shape graph_why.Shape h e = absurd h
declared-shape graph_why.NameShape h e = cc
declared-shape graph_why.NameTaken h e = cc
declared-shape graph_why.UnknownInput h e = cc
declared-shape graph_why.WrongKind h e = cc
declared-shape graph_why.UnknownFunction h e = cc
declared-shape graph_why.TooWide h e = cc
declared-shape graph_why.TooMany h e = absurd h

declared-json : (f : GraphWhy) → IsDeclarationCause f → why_declared f ≢ why.NotJson
declared-json graph_why.NotJson h e = absurd h
declared-json graph_why.Shape h e = absurd h
declared-json graph_why.NameShape h e = cc
declared-json graph_why.NameTaken h e = cc
declared-json graph_why.UnknownInput h e = cc
declared-json graph_why.WrongKind h e = cc
declared-json graph_why.UnknownFunction h e = cc
declared-json graph_why.TooWide h e = cc
declared-json graph_why.TooMany h e = absurd h

no-shape : (nodes : ℕ) (p : Progress) (w : Word) → IsWordCause (checks nodes p w) why.Shape → ⊥
no-shape nodes p w (declared f h e) = declared-shape f h e
no-shape nodes p w (in_table h) = cc

no-json : (nodes : ℕ) (p : Progress) (w : Word) (e : ScriptWhy) → IsWordCause (checks nodes p w) e → e ≢ why.NotJson
no-json nodes p w e (declared f h g) k = declared-json f h (g ∙ k)
no-json nodes p w e (in_table h) k = let none : has_cause why.NotJson (checks nodes p w) ≡ true = subst (λ (x : ScriptWhy). has_cause x (checks nodes p w) ≡ true) k h in cc

shape-step : (lib : Library) (nodes : ℕ) (p : Progress) (d : Data) (o : Option Word) → word_of d ≡ o → ((or_else o why.Shape >>= worded lib nodes p) ≡ Err why.Shape ↔ o ≡ None)
shape-step lib nodes p d None e = (λ h. refl, λ h. refl)
shape-step lib nodes p d (Some w) e = (λ h. absurd (no-shape nodes p w (word-cause lib nodes p w why.Shape (declared-formed d w e) h)), λ h. absurd cc)

pub command-shape : (lib : Library) (nodes : ℕ) (p : Progress) (d : Data) → (word_read lib nodes p d ≡ Err why.Shape ↔ word_of d ≡ None)
command-shape lib nodes p d = of-same (word_read lib nodes p d) _ (Err why.Shape) (word-checks lib nodes p d) (shape-step lib nodes p d (word_of d) refl)

only-step : (lib : Library) (nodes : ℕ) (p : Progress) (d : Data) (e : ScriptWhy) (o : Option Word) → word_of d ≡ o → (or_else o why.Shape >>= worded lib nodes p) ≡ Err e → IsCommandCause e
only-step lib nodes p d e None is h = subst IsCommandCause (let same : why.Shape ≡ e = cc in same) tt
only-step lib nodes p d e (Some w) is h = other-cause e (no-json nodes p w e (word-cause lib nodes p w e (declared-formed d w is) h))

pub command-only : (lib : Library) (nodes : ℕ) (p : Progress) (d : Data) (e : ScriptWhy) → word_read lib nodes p d ≡ Err e → IsCommandCause e
command-only lib nodes p d e h = only-step lib nodes p d e (word_of d) refl (sym (word-checks lib nodes p d) ∙ h)

-- ---- the table

-- each check of the table passes
pub record Passing (nodes : ℕ) (p : Progress) (w : Word) : Type 0 where
  pub node : has_node nodes w ≡ true
  pub var : has_var p.stage.graph w ≡ true
  pub known : has_mark p.names w ≡ true
  pub new : has_new_mark p.names w ≡ true
  pub right : is_right nodes p w ≡ true
  pub brought : is_brought w ≡ true
  pub sent : was_sent p.stage.sent w ≡ true
  pub room : has_room p w ≡ true

passing : (nodes : ℕ) (p : Progress) (w : Word) → AllPass (checks nodes p w) → Passing nodes p w
passing nodes p w a = record {
  node = a.0;
  var = a.1.0;
  known = a.1.1.0;
  new = a.1.1.1.0;
  right = a.1.1.1.1.0;
  brought = a.1.1.1.1.1.0;
  sent = a.1.1.1.1.1.1.0;
  room = a.1.1.1.1.1.1.1.0;
}

passes-all : (nodes : ℕ) (p : Progress) (w : Word) → Passing nodes p w → AllPass (checks nodes p w)
passes-all nodes p w a = (a.node, (a.var, (a.known, (a.new, (a.right, (a.brought, (a.sent, (a.room, tt))))))))

module _ (lib : Library) (nodes : ℕ) (p : Progress) (d : Data) (w : Word) (is : word_of d ≡ Some w) where
  pub to-word : word_read lib nodes p d ≡ worded lib nodes p w
  to-word = word-checks lib nodes p d ∙ ap (λ (o : Option Word). or_else o why.Shape >>= worded lib nodes p) is

  to-table : CanDeclare lib p.stage.graph w → word_read lib nodes p d ≡ tabled w (checks nodes p w)
  to-table can = to-word ∙ ap (λ (r : Result (Unit {0}) ScriptWhy). r >>= λ _. tabled w (checks nodes p w)) (can-checked lib p.stage.graph w can)

  -- behind the checks that pass, the first that is left fails exactly where it has to
  row : {P : Type 0} (e : ScriptWhy) (b : Bool) (cs : List (Bool × ScriptWhy)) → CanDeclare lib p.stage.graph w → all_checked (checks nodes p w) ≡ all_checked ((b, e) ∷ cs) → has_cause e cs ≡ false → Decides b P
      → (word_read lib nodes p d ≡ Err e ↔ ¬ P)
  row e b cs can past other decides =
      of-same (word_read lib nodes p d) (tabled w (checks nodes p w)) (Err e) (to-table can)
      (via (kept-refusal (all_checked (checks nodes p w)) (λ _. w) e)
      (of-same (all_checked (checks nodes p w)) (all_checked ((b, e) ∷ cs)) (Err e) past (fails-first e cs b other decides)))

  pub row-node : CanDeclare lib p.stage.graph w → (word_read lib nodes p d ≡ Err why.NoSuchNode ↔ ¬ HasNode nodes w)
  row-node can = row why.NoSuchNode (has_node nodes w) (drop 1 (checks nodes p w)) can refl refl (node-Decides nodes w)

  past-node : HasNode nodes w → all_checked (checks nodes p w) ≡ all_checked (drop 1 (checks nodes p w))
  past-node node = passes-first why.NoSuchNode (drop 1 (checks nodes p w)) (has_node nodes w) ((node-Decides nodes w).1 node)

  pub row-var : CanDeclare lib p.stage.graph w → HasNode nodes w → (word_read lib nodes p d ≡ Err why.UnknownVar ↔ ¬ HasVar p.stage.graph w)
  row-var can node = row why.UnknownVar (has_var p.stage.graph w) (drop 2 (checks nodes p w)) can (past-node node) refl (var-Decides p.stage.graph w)

  past-var : HasNode nodes w → HasVar p.stage.graph w → all_checked (checks nodes p w) ≡ all_checked (drop 2 (checks nodes p w))
  past-var node var = past-node node ∙ passes-first why.UnknownVar (drop 2 (checks nodes p w)) (has_var p.stage.graph w) ((var-Decides p.stage.graph w).1 var)

  pub row-mark : CanDeclare lib p.stage.graph w → HasNode nodes w → HasVar p.stage.graph w → (word_read lib nodes p d ≡ Err why.UnknownMark ↔ ¬ HasMark p.names w)
  row-mark can node var = row why.UnknownMark (has_mark p.names w) (drop 3 (checks nodes p w)) can (past-var node var) refl (mark-Decides p.names w)

  past-mark : HasNode nodes w → HasVar p.stage.graph w → HasMark p.names w → all_checked (checks nodes p w) ≡ all_checked (drop 3 (checks nodes p w))
  past-mark node var known = past-var node var ∙ passes-first why.UnknownMark (drop 3 (checks nodes p w)) (has_mark p.names w) ((mark-Decides p.names w).1 known)

  pub row-new_mark : CanDeclare lib p.stage.graph w → HasNode nodes w → HasVar p.stage.graph w → HasMark p.names w → (word_read lib nodes p d ≡ Err why.MarkTaken ↔ ¬ HasNewMark p.names w)
  row-new_mark can node var known = row why.MarkTaken (has_new_mark p.names w) (drop 4 (checks nodes p w)) can (past-mark node var known) refl (new_mark-Decides p.names w)

  past-new_mark : HasNode nodes w → HasVar p.stage.graph w → HasMark p.names w → HasNewMark p.names w → all_checked (checks nodes p w) ≡ all_checked (drop 4 (checks nodes p w))
  past-new_mark node var known new_mark = past-mark node var known ∙ passes-first why.MarkTaken (drop 4 (checks nodes p w)) (has_new_mark p.names w) ((new_mark-Decides p.names w).1 new_mark)

  pub row-right : CanDeclare lib p.stage.graph w → HasNode nodes w → HasVar p.stage.graph w → HasMark p.names w → HasNewMark p.names w → (word_read lib nodes p d ≡ Err why.WrongOp ↔ ¬ IsRight nodes p w)
  row-right can node var known new_mark = row why.WrongOp (is_right nodes p w) (drop 5 (checks nodes p w)) can (past-new_mark node var known new_mark) refl (right-Decides nodes p w ((var-Decides p.stage.graph w).1 var) ((mark-Decides p.names w).1 known))

  past-right : HasNode nodes w → HasVar p.stage.graph w → HasMark p.names w → HasNewMark p.names w → IsRight nodes p w → all_checked (checks nodes p w) ≡ all_checked (drop 5 (checks nodes p w))
  past-right node var known new_mark right = past-new_mark node var known new_mark ∙ passes-first why.WrongOp (drop 5 (checks nodes p w)) (is_right nodes p w) ((right-Decides nodes p w ((var-Decides p.stage.graph w).1 var) ((mark-Decides p.names w).1 known)).1 right)

  pub row-brought : CanDeclare lib p.stage.graph w → HasNode nodes w → HasVar p.stage.graph w → HasMark p.names w → HasNewMark p.names w → IsRight nodes p w → (word_read lib nodes p d ≡ Err why.ValueRefused ↔ ¬ IsBrought w)
  row-brought can node var known new_mark right = row why.ValueRefused (is_brought w) (drop 6 (checks nodes p w)) can (past-right node var known new_mark right) refl (brought-Decides w)

  past-brought : HasNode nodes w → HasVar p.stage.graph w → HasMark p.names w → HasNewMark p.names w → IsRight nodes p w → IsBrought w → all_checked (checks nodes p w) ≡ all_checked (drop 6 (checks nodes p w))
  past-brought node var known new_mark right brought = past-right node var known new_mark right ∙ passes-first why.ValueRefused (drop 6 (checks nodes p w)) (is_brought w) ((brought-Decides w).1 brought)

  pub row-sent : CanDeclare lib p.stage.graph w → HasNode nodes w → HasVar p.stage.graph w → HasMark p.names w → HasNewMark p.names w → IsRight nodes p w → IsBrought w → (word_read lib nodes p d ≡ Err why.NotSent ↔ ¬ WasSent p.stage.sent w)
  row-sent can node var known new_mark right brought = row why.NotSent (was_sent p.stage.sent w) (drop 7 (checks nodes p w)) can (past-brought node var known new_mark right brought) refl (sent-Decides p.stage.sent w)

  past-sent : HasNode nodes w → HasVar p.stage.graph w → HasMark p.names w → HasNewMark p.names w → IsRight nodes p w → IsBrought w → WasSent p.stage.sent w → all_checked (checks nodes p w) ≡ all_checked (drop 7 (checks nodes p w))
  past-sent node var known new_mark right brought sent = past-brought node var known new_mark right brought ∙ passes-first why.NotSent (drop 7 (checks nodes p w)) (was_sent p.stage.sent w) ((sent-Decides p.stage.sent w).1 sent)

  pub row-room : CanDeclare lib p.stage.graph w → HasNode nodes w → HasVar p.stage.graph w → HasMark p.names w → HasNewMark p.names w → IsRight nodes p w → IsBrought w → WasSent p.stage.sent w → (word_read lib nodes p d ≡ Err why.TooMany ↔ ¬ HasRoom p w)
  row-room can node var known new_mark right brought sent = row why.TooMany (has_room p w) (drop 8 (checks nodes p w)) can (past-sent node var known new_mark right brought sent) refl (room-Decides p w)

  can-word : CanDeclare lib p.stage.graph w → all_checked (checks nodes p w) ≡ Ok tt → word_read lib nodes p d ≡ Ok w
  can-word can passed = to-table can ∙ ap (λ (r : Result (Unit {0}) ScriptWhy). r >>= λ _. Ok w) passed

  pub passing-read : CanDeclare lib p.stage.graph w → Passing nodes p w → word_read lib nodes p d ≡ Ok w
  passing-read can a = can-word can (all-pass (checks nodes p w) (passes-all nodes p w a))

  word-step : (r s : Result (Unit {0}) ScriptWhy) → declared_checked lib p.stage.graph w ≡ r → all_checked (checks nodes p w) ≡ s → (r >>= λ _. s >>= λ _. Ok w) ≡ Ok w
      → CanDeclare lib p.stage.graph w × Passing nodes p w
  word-step (Ok t) (Ok u) e f h = (checked-can lib p.stage.graph w e, passing nodes p w (all-passed (checks nodes p w) f))
  word-step (Ok t) (Err x) e f h = absurd cc
  word-step (Err x) s e f h = absurd cc

  -- a word that is read can be declared, and passes each check of the table
  pub word-passed : word_read lib nodes p d ≡ Ok w → CanDeclare lib p.stage.graph w × Passing nodes p w
  word-passed h = word-step (declared_checked lib p.stage.graph w) (all_checked (checks nodes p w)) refl refl (sym to-word ∙ h)

  pub command-accepted : (word_read lib nodes p d ≡ Ok w ↔ (CanDeclare lib p.stage.graph w × HasNode nodes w × HasVar p.stage.graph w × HasMark p.names w × HasNewMark p.names w × IsRight nodes p w × IsBrought w × WasSent p.stage.sent w × HasRoom p w))
  command-accepted = (
    λ h. let a = word-passed h in (
      a.0,
      (node-Decides nodes w).0 a.1.node,
      (var-Decides p.stage.graph w).0 a.1.var,
      (mark-Decides p.names w).0 a.1.known,
      (new_mark-Decides p.names w).0 a.1.new,
      (right-Decides nodes p w a.1.var a.1.known).0 a.1.right,
      (brought-Decides w).0 a.1.brought,
      (sent-Decides p.stage.sent w).0 a.1.sent,
      (room-Decides p w).0 a.1.room,
    ),
    λ h.
        let var = (var-Decides p.stage.graph w).1 h.2 in
        let known = (mark-Decides p.names w).1 h.3 in
        passing-read h.0 (record {
          node = (node-Decides nodes w).1 h.1;
          var = var;
          known = known;
          new = (new_mark-Decides p.names w).1 h.4;
          right = (right-Decides nodes p w var known).1 h.5;
          brought = (brought-Decides w).1 h.6;
          sent = (sent-Decides p.stage.sent w).1 h.7;
          room = (room-Decides p w).1 h.8;
        }),
  )

pub command-declared : (lib : Library) (nodes : ℕ) (p : Progress) (d tree : Data) (e : GraphWhy) → word_of d ≡ Some (declare tree) → IsDeclarationCause e
    → (word_read lib nodes p d ≡ Err (why_declared e) ↔ decl_read lib p.stage.graph tree ≡ Err e)
command-declared lib nodes p d tree e is h =
    of-same (word_read lib nodes p d) (worded lib nodes p (declare tree)) (Err (why_declared e)) (to-word lib nodes p d (declare tree) is)
    (declare-step (declare tree) (checks nodes p (declare tree)) (decl_read lib p.stage.graph tree) e (declared-apart nodes p (declare tree) e h))

-- ---- the next command

next-checks : (lib : Library) (nodes : ℕ) (p : Progress) (d : Data) → next_read lib nodes p d ≡ (word_read lib nodes p d >>= λ w. Ok (after nodes p w (command_of lib nodes p w)))
unfolding next_read
next-checks lib nodes p d = refl

pub next-refused : (lib : Library) (nodes : ℕ) (p : Progress) (d : Data) (e : ScriptWhy) → (next_read lib nodes p d ≡ Err e ↔ word_read lib nodes p d ≡ Err e)
next-refused lib nodes p d e =
    of-same (next_read lib nodes p d) (word_read lib nodes p d >>= λ w. Ok (after nodes p w (command_of lib nodes p w))) (Err e) (next-checks lib nodes p d)
    (kept-refusal (word_read lib nodes p d) (λ w. after nodes p w (command_of lib nodes p w)) e)

pub next-accepted : (lib : Library) (nodes : ℕ) (p : Progress) (d : Data) (w : Word) → word_read lib nodes p d ≡ Ok w → next_read lib nodes p d ≡ Ok (after nodes p w (command_of lib nodes p w))
next-accepted lib nodes p d w h = next-checks lib nodes p d ∙ ap (λ (r : Result Word ScriptWhy). r >>= λ w. Ok (after nodes p w (command_of lib nodes p w))) h
