-- A command that was made, and has room, may follow: its mark is new, and what it declares may stand behind the graph.
use Rattle.std.proofs.Common.{◌≡◌, ◌∙◌, refl, sym, subst, ℕ, ◌+◌, ◌<◌, List, [], ◌∷◌, ◌++◌, length, Bool, true, false, Option, Some, None, is_none, Result, Ok, Err}
use Rattle.std.proofs.lemmas.Bool.{ltb-true}
use Rattle.serde_json.specs.Data.{Data}
use Rattle.model_functions.specs.Library.{Library}
use Rattle.model_graph.specs.Chain.{◌>>=◌, check, refusing}
use Rattle.model_graph.specs.Graph.{Decl, is_source}
use Rattle.model_readings.specs.declared.graph_why.GraphWhy.{GraphWhy}
use Rattle.model_readings.specs.Graph.{decl_read}
use Rattle.model_readings.specs.Lawful.{IsNext}
use Rattle.model_readings.proofs.Graphs.{next-decl_read}
use Rattle.model_world.specs.Command as command
use Rattle.model_world.specs.Command.{Command}
use Rattle.model_world.specs.Lawful.{stage_after, mark_limit, is_mark}
use Rattle.model_scripts.specs.declared.script_why.ScriptWhy.{ScriptWhy}
use Rattle.model_scripts.specs.declared.script_why.ScriptWhy.TheVariants as why
use Rattle.model_scripts.specs.Word.{Target, Word, word_of, add, remove, insert, inc, max, print, mark, bind, send, deliver, sync, settle, read, await, declare}
use Rattle.model_scripts.specs.Progress.{Progress, mark_of, names_after, after}
use Rattle.model_scripts.specs.Check.{command_limit, has_room, new_mark_in}
use Rattle.model_scripts.specs.Script.{why_declared, next_read}
use Rattle.model_scripts.proofs.DoneLaws.{room-beside, room-number}
use Rattle.std.proofs.lemmas.List.{append-nil}
use Rattle.lasp_script.specs.declared.refused.CommandRefused.{CommandRefused}
use Rattle.lasp_script.specs.declared.refused.CommandRefused.TheVariants.{Because, Memory}
use Rattle.lasp_script.specs.Answers.{Causes}
use Rattle.lasp_script.proofs.Table.{next-made}
use Rattle.lasp_script.specs.Made.{node_read, message_read, place_read, kind_checked, change_read, mark_read, bind_read, asked_read, declared_read, made, roomy, command_read}
use Rattle.lasp_script.specs.Marks as marks
use Rattle.lasp_script.specs.Marks.{names_of}
use Rattle.lasp_script.specs.Progress.{Left, count_among, progress_over, marks_by, behind, MayMark, MayGrow}

abbrev told : Command → Result Command ScriptWhy
told k = Ok k

same-told : (x y : Command) → told x ≡ told y → x ≡ y
same-told x y e = cc

of-one : (P : Command → Type 0) (x k : Command) → P x → told x ≡ told k → P k
of-one P x k h e = subst P (same-told x k e) h

-- what holds of each command that a part leads to holds of the one that was made
of-part : {A : Type 0} (P : Command → Type 0) (r : Result A ScriptWhy) (form : A → Command) (k : Command) → ((a : A) → r ≡ Ok a → P (form a)) → (r >>= λ a. told (form a)) ≡ told k → P k
of-part P (Ok a) form k all e = of-one P (form a) k (all a refl) e
of-part P (Err e) form k all is = absurd cc

of-parts : {A B : Type 0} (P : Command → Type 0) (r : Result A ScriptWhy) (s : Result B ScriptWhy) (form : A → B → Command) (k : Command) → ((a : A) (b : B) → P (form a b)) → (r >>= λ a. s >>= λ b. told (form a b)) ≡ told k → P k
of-parts P (Ok a) s form k all e = of-part P s (form a) k (λ b _. all a b) e
of-parts P (Err e) s form k all is = absurd cc

new-mark : (g : List Decl) (nodes : ℕ) (names : List (List ℕ)) (t : Target) (m : List ℕ) (place : ℕ × ℕ) → mark_read g nodes names t m ≡ Ok place → mark_of m names ≡ None
unfolding mark_read
new-mark g nodes names t m place e = by (place_read g nodes t) (mark_of m names) e where
  by : (r : Result (ℕ × ℕ) ScriptWhy) (o : Option ℕ) → (r >>= λ p. check (is_none o) why.MarkTaken >>= λ _. kind_checked is_source g p.1 >>= λ _. Ok p) ≡ Ok place → o ≡ None
  by (Ok p) None e = refl
  by (Ok p) (Some n) e = absurd cc
  by (Err f) o e = absurd cc

read-ok : (r : Result Decl GraphWhy) (d : Decl) → refusing why_declared r ≡ Ok d → r ≡ Ok d
read-ok (Ok x) d e = cc
read-ok (Err f) d e = absurd cc

next-declared : (lib : Library) (g : List Decl) (d : Data) (decl : Decl) → declared_read lib g d ≡ Ok decl → IsNext g decl
unfolding declared_read
next-declared lib g d decl e = (next-decl_read lib g d decl (read-ok (decl_read lib g d) decl e)).next

-- both at once, and the names behind it
abbrev May : Progress → List marks.Mark → Word → Command → Type 0
May p ms w k = MayMark ms k (new_mark_in w) × MayGrow p.stage.graph k × (names_after p.names w ≡ p.names ++ names_of (marks_by k (new_mark_in w)))

module _ (lib : Library) (nodes : ℕ) (g : List Decl) (l : Left) (counted : length l.marks ≡ count_among is_mark l.commands) where
  abbrev p : Progress
  p = progress_over g l

  abbrev P : Word → Command → Type 0
  P w k = May p l.marks w k

  unnamed : p.names ≡ p.names ++ []
  unnamed = sym (append-nil p.names)

  pub made-may : (w : Word) (k : Command) → has_room p w ≡ true → made lib nodes p w ≡ Ok k → P w k
  made-may (add t v) k room e = of-part (P (add t v)) (change_read _ p.stage.graph nodes t _) (λ c. command.Add c.0 c.1 c.2) k (λ c _. (tt, tt, unnamed)) e
  made-may (remove t v) k room e = of-part (P (remove t v)) (change_read _ p.stage.graph nodes t _) (λ c. command.Remove c.0 c.1 c.2) k (λ c _. (tt, tt, unnamed)) e
  made-may (insert t v) k room e = of-part (P (insert t v)) (change_read _ p.stage.graph nodes t _) (λ c. command.Insert c.0 c.1 c.2) k (λ c _. (tt, tt, unnamed)) e
  made-may (inc t n) k room e = of-part (P (inc t n)) (change_read _ p.stage.graph nodes t _) (λ c. command.Inc c.0 c.1 c.2) k (λ c _. (tt, tt, unnamed)) e
  made-may (max t n) k room e = of-part (P (max t n)) (change_read _ p.stage.graph nodes t _) (λ c. command.Max c.0 c.1 c.2) k (λ c _. (tt, tt, unnamed)) e
  made-may (print t) k room e = of-part (P (print t)) (place_read p.stage.graph nodes t) (λ place. command.Print place.0 place.1) k (λ c _. (tt, tt, unnamed)) e
  made-may (mark t m) k room e =
      of-part (P (mark t m)) (mark_read p.stage.graph nodes p.names t m) (λ place. command.Mark place.0 place.1) k
      (λ place is. ((new-mark p.stage.graph nodes p.names t m place is, subst (λ (n : ℕ). n < mark_limit) (sym counted) (ltb-true _ _ (room-beside p (mark t m) room))), tt, refl)) e
  made-may (bind t m) k room e = of-part (P (bind t m)) (bind_read p.stage.graph nodes p.names p.stage.marked t m) (λ c. command.Bind c.0 c.1 c.2) k (λ c _. (tt, tt, unnamed)) e
  made-may (send n) k room e = of-part (P (send n)) (node_read nodes n) (λ node. command.Send node) k (λ c _. (tt, tt, unnamed)) e
  made-may (deliver n i) k room e = of-parts (P (deliver n i)) (node_read nodes n) (message_read p.stage.sent i) (λ node message. command.Deliver node message) k (λ c d. (tt, tt, unnamed)) e
  made-may sync k room e = of-one (P sync) command.Sync k (tt, tt, unnamed) e
  made-may settle k room e = of-one (P settle) command.Settle k (tt, tt, unnamed) e
  made-may (read t b) k room e = of-part (P (read t b)) (asked_read p.stage.graph nodes p.names p.stage.marked t b) (λ c. command.Read c.0 c.1 c.2) k (λ c _. (tt, tt, unnamed)) e
  made-may (await t b) k room e = of-part (P (await t b)) (asked_read p.stage.graph nodes p.names p.stage.marked t b) (λ c. command.Await c.0 c.1 c.2) k (λ c _. (tt, tt, unnamed)) e
  made-may (declare d) k room e =
      of-part (P (declare d)) (declared_read lib p.stage.graph d) (λ decl. command.Declare decl) k
      (λ decl is. (tt, (next-declared lib p.stage.graph d decl is, ltb-true _ _ (room-beside p (declare d) room)), unnamed)) e

  -- what was read was made, with room
  has-made : (w : Word) (k : Command) (r : Result Command ScriptWhy) (room : Bool) → roomy room r ≡ told k → (room ≡ true) × (r ≡ told k)
  has-made w k (Ok x) true e = (refl, e)
  has-made w k (Ok x) false e = absurd cc
  has-made w k (Err f) room e = absurd cc

  pub read-may : (w : Word) (k : Command) → command_read lib nodes p w ≡ told k → P w k
  read-may w k e = let have = has-made w k (made lib nodes p w) (has_room p w) e in made-may w k have.0 have.1

  pub read-room : (w : Word) (k : Command) → command_read lib nodes p w ≡ told k → length l.commands + 1 < command_limit
  read-room w k e = room-number p w (has-made w k (made lib nodes p w) (has_room p w) e).0

  -- the next progress is the one behind the command and its mark
  pub next-behind : (d : Data) (w : Word) (k : Command) → word_of d ≡ Some w → command_read lib nodes p w ≡ told k → next_read lib nodes p d ≡ Ok (behind nodes p k (new_mark_in w))
  next-behind d w k form e =
      next-made lib nodes p d w form
      ∙ (λ i. e i >>= λ j. Ok (after nodes p w j))
      ∙ (λ i. Ok (record { commands = p.commands ++ k ∷ []; stage = stage_after nodes p.stage k; names = (read-may w k e).2 i }))

-- the next command is refused as its word is
pub next_refused : (lib : Library) (nodes : ℕ) (p : Progress) (d : Data) (w : Word) (e : CommandRefused) → word_of d ≡ Some w → Causes e (command_read lib nodes p w) → Causes e (next_read lib nodes p d)
next_refused lib nodes p d w (Because cause) form is = next-made lib nodes p d w form ∙ (λ i. is i >>= λ k. Ok (after nodes p w k))
next_refused lib nodes p d w Memory form is = tt
