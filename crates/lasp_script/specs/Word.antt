-- The forms of commands as plain data, by what stands behind the word.
use Rattle.std.specs.Prelude.{List, ℕ, map, if◌then◌else◌, Option, Some, None, option_map, option_and_then, codes}
use Rattle.serde_json.specs.Data.{Data, Num}
use Rattle.serde_json.specs.Find.{at}
use Rattle.serde_json.specs.View.{view, number_view}
use Rattle.model_readings.specs.Tree.{text_at, number_at, is_word_at, two}
use Rattle.model_scripts.specs.Word as plain
use Rattle.lasp_script.specs.declared.bound.Bound.{Bound}
use Rattle.lasp_script.specs.declared.bound.Bound.TheVariants.{AtLeast, Above, Count, Added, Removed}
use Rattle.lasp_script.specs.declared.word.Target.{Target}
use Rattle.lasp_script.specs.declared.word.Update.{Update}
use Rattle.lasp_script.specs.declared.word.Update.TheVariants as update
use Rattle.lasp_script.specs.declared.word.Word as words
use Rattle.lasp_script.specs.declared.word.Word.TheVariants as word

abbrev pub target_view : Target → plain.Target
target_view t = record { node = number_view t.node.now; var = t.var.now }

abbrev pub bound_view : Bound → plain.Bound
bound_view (AtLeast m) = plain.at_least m.now
bound_view (Above m) = plain.above m.now
bound_view (Count n) = plain.count (number_view n.now)
bound_view (Added vs) = plain.added (map view vs.now)
bound_view (Removed vs) = plain.removed (map view vs.now)

abbrev pub update_view : plain.Target → Update → plain.Word
update_view t (update.Add v) = plain.add t (view v.now)
update_view t (update.Remove v) = plain.remove t (view v.now)
update_view t (update.Insert v) = plain.insert t (view v.now)
update_view t (update.Inc n) = plain.inc t (number_view n.now)
update_view t (update.Max n) = plain.max t (number_view n.now)

abbrev pub word_view : words.Word → plain.Word
word_view (word.Update t u) = update_view (target_view t) u
word_view (word.Mark t m) = plain.mark (target_view t) m.now
word_view (word.Bind t m) = plain.bind (target_view t) m.now
word_view (word.Send n) = plain.send (number_view n.now)
word_view (word.Deliver n i) = plain.deliver (number_view n.now) (number_view i.now)
word_view word.Sync = plain.sync
word_view word.Settle = plain.settle
word_view (word.Print t) = plain.print (target_view t)
word_view (word.Read t b) = plain.read (target_view t) (bound_view b)
word_view (word.Await t b) = plain.await (target_view t) (bound_view b)
word_view (word.Declare d) = plain.declare (view d.now)

-- both, side by side
abbrev pub pair : {A B : Type 0} → A → B → A × B
pair a b = (a, b)

-- a form of both parts
abbrev pub joined : {A B C : Type 0} → (A → B → C) → A × B → C
joined form p = form p.0 p.1

-- a node and a variable alone
unfoldable pub place_part : Data → Option plain.Target
place_part d = plain.of_size 3 d (plain.target_of d)

-- a node, a variable and any tree
unfoldable pub tree_parts : Data → Option (plain.Target × Data)
tree_parts d = plain.of_size 4 d (two pair (plain.target_of d) (at 3 d))

-- a node, a variable and a number
unfoldable pub number_parts : Data → Option (plain.Target × Num)
number_parts d = plain.of_size 4 d (two pair (plain.target_of d) (number_at 3 d))

-- a node, a variable and a name of a name's shape
unfoldable pub new_mark_parts : Data → Option (plain.Target × List ℕ)
new_mark_parts d = plain.of_size 4 d (two pair (plain.target_of d) (option_and_then plain.named (text_at 3 d)))

-- a node, a variable and a name
unfoldable pub mark_parts : Data → Option (plain.Target × List ℕ)
mark_parts d = plain.of_size 4 d (two pair (plain.target_of d) (text_at 3 d))

-- a node, a variable and a threshold
unfoldable pub bound_parts : Data → Option (plain.Target × plain.Bound)
bound_parts d = plain.of_size 4 d (two pair (plain.target_of d) (option_and_then plain.bound_of (at 3 d)))

-- a node and a message
unfoldable pub delivery_parts : Data → Option (Num × Num)
delivery_parts d = plain.of_size 3 d (two pair (number_at 1 d) (number_at 2 d))

-- a tree that has the form of a declaration
unfoldable pub declared_part : Data → Option Data
declared_part d = plain.of_size 2 d (option_and_then plain.formed (at 1 d))

-- a threshold, by its parts
unfoldable pub bound_from : Data → Option plain.Bound
bound_from d =
    if is_word_at 0 (codes "at_least") d then option_map plain.at_least (plain.of_size 2 d (text_at 1 d))
    else (if is_word_at 0 (codes "above") d then option_map plain.above (plain.of_size 2 d (text_at 1 d))
    else (if is_word_at 0 (codes "count") d then option_map plain.count (plain.of_size 2 d (number_at 1 d))
    else (if is_word_at 0 (codes "added") d then option_map plain.added (plain.of_size 2 d (plain.list_at 1 d))
    else (if is_word_at 0 (codes "removed") d then option_map plain.removed (plain.of_size 2 d (plain.list_at 1 d))
    else None))))

-- a command that is no update, by its parts
unfoldable pub later_word : Data → Option plain.Word
later_word d =
    if is_word_at 0 (codes "print") d then option_map plain.print (place_part d)
    else (if is_word_at 0 (codes "mark") d then option_map (joined plain.mark) (new_mark_parts d)
    else (if is_word_at 0 (codes "bind") d then option_map (joined plain.bind) (mark_parts d)
    else (if is_word_at 0 (codes "send") d then option_map plain.send (plain.of_size 2 d (number_at 1 d))
    else (if is_word_at 0 (codes "deliver") d then option_map (joined plain.deliver) (delivery_parts d)
    else (if is_word_at 0 (codes "sync") d then plain.of_size 1 d (Some plain.sync)
    else (if is_word_at 0 (codes "settle") d then plain.of_size 1 d (Some plain.settle)
    else (if is_word_at 0 (codes "read") d then option_map (joined plain.read) (bound_parts d)
    else (if is_word_at 0 (codes "await") d then option_map (joined plain.await) (bound_parts d)
    else (if is_word_at 0 (codes "declare") d then option_map plain.declare (declared_part d)
    else None)))))))))

-- a command by its parts, updates first
unfoldable pub first_word : Data → Option plain.Word
first_word d =
    if is_word_at 0 (codes "add") d then option_map (joined plain.add) (tree_parts d)
    else (if is_word_at 0 (codes "remove") d then option_map (joined plain.remove) (tree_parts d)
    else (if is_word_at 0 (codes "insert") d then option_map (joined plain.insert) (tree_parts d)
    else (if is_word_at 0 (codes "inc") d then option_map (joined plain.inc) (number_parts d)
    else (if is_word_at 0 (codes "max") d then option_map (joined plain.max) (number_parts d)
    else later_word d))))
