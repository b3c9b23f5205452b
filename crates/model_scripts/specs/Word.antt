-- The commands of a script as they are written: the word, and the parts of the tree that stand behind it.
use Rattle.std.specs.Prelude.{ℕ, List, if◌then◌else◌, Option, Some, None, is_some, option_map, option_and_then, codes}
use Rattle.serde_json.specs.Data.{Data, Num}
use Rattle.serde_json.specs.Find.{at, as_array}
use Rattle.model_values.specs.Name.{is_name}
use Rattle.model_readings.specs.Tree.{list_of, text_at, number_at, is_word_at, has_items, two}
use Rattle.model_readings.specs.Graph.{written_of}

-- what a command is about, as it is written: a number of JSON for the node, the variable's name
pub record Target : Type 0 where
  pub node : Num
  pub var : List ℕ

-- a threshold as it is written: the name of a mark, a number of JSON, or trees for values
pub data Bound : Type 0 where
  at_least : List ℕ → Bound
  above : List ℕ → Bound
  count : Num → Bound
  added : List Data → Bound
  removed : List Data → Bound

-- a command as it is written: numbers of JSON for node and message, names for variable and mark, trees for values and a declaration
pub data Word : Type 0 where
  add : Target → Data → Word
  remove : Target → Data → Word
  insert : Target → Data → Word
  inc : Target → Num → Word
  max : Target → Num → Word
  print : Target → Word
  mark : Target → List ℕ → Word
  bind : Target → List ℕ → Word
  send : Num → Word
  deliver : Num → Num → Word
  sync : Word
  settle : Word
  read : Target → Bound → Word
  await : Target → Bound → Word
  declare : Data → Word

abbrev pub target : Num → List ℕ → Target
target node var = record { node = node; var = var }

-- the node and the variable, which stand behind the word
abbrev pub target_of : Data → Option Target
target_of d = two target (number_at 1 d) (text_at 2 d)

-- what an array of so many parts is
abbrev pub of_size : {A : Type 0} → ℕ → Data → Option A → Option A
of_size n d form = if has_items n d then form else None

-- the parts of the array at a place of an array
abbrev pub list_at : ℕ → Data → Option (List Data)
list_at i d = option_map list_of (option_and_then as_array (at i d))

-- `["at_least",m]`, `["above",m]`, `["count",k]`, `["added",[v,..]]` and `["removed",[v,..]]`
unfoldable pub bound_of : Data → Option Bound
bound_of d =
    if is_word_at 0 (codes "at_least") d then of_size 2 d (option_map at_least (text_at 1 d))
    else (if is_word_at 0 (codes "above") d then of_size 2 d (option_map above (text_at 1 d))
    else (if is_word_at 0 (codes "count") d then of_size 2 d (option_map count (number_at 1 d))
    else (if is_word_at 0 (codes "added") d then of_size 2 d (option_map added (list_at 1 d))
    else (if is_word_at 0 (codes "removed") d then of_size 2 d (option_map removed (list_at 1 d))
    else None))))

-- a text of a name's shape
abbrev pub named : List ℕ → Option (List ℕ)
named m = if is_name m then Some m else None

-- a tree that has the form of a declaration
abbrev pub formed : Data → Option Data
formed d = if is_some (written_of d) then Some d else None

-- a node, a variable and a threshold
abbrev pub bound_form : (Target → Bound → Word) → Data → Option Word
bound_form form d = of_size 4 d (two form (target_of d) (option_and_then bound_of (at 3 d)))

-- `["add",p,x,v]`, `["remove",p,x,v]`, `["insert",p,x,v]`, `["inc",p,x,k]`, `["max",p,x,k]`, `["print",p,x]`, `["mark",p,x,m]` where m has a name's shape, `["bind",p,x,m]`,
-- `["send",p]`, `["deliver",p,i]`, `["sync"]`, `["settle"]`, `["read",p,x,t]`, `["await",p,x,t]`, and `["declare",d]` where d has the form of a declaration
unfoldable pub word_of : Data → Option Word
word_of d =
    if is_word_at 0 (codes "add") d then of_size 4 d (two add (target_of d) (at 3 d))
    else (if is_word_at 0 (codes "remove") d then of_size 4 d (two remove (target_of d) (at 3 d))
    else (if is_word_at 0 (codes "insert") d then of_size 4 d (two insert (target_of d) (at 3 d))
    else (if is_word_at 0 (codes "inc") d then of_size 4 d (two inc (target_of d) (number_at 3 d))
    else (if is_word_at 0 (codes "max") d then of_size 4 d (two max (target_of d) (number_at 3 d))
    else (if is_word_at 0 (codes "print") d then of_size 3 d (option_map print (target_of d))
    else (if is_word_at 0 (codes "mark") d then of_size 4 d (two mark (target_of d) (option_and_then named (text_at 3 d)))
    else (if is_word_at 0 (codes "bind") d then of_size 4 d (two bind (target_of d) (text_at 3 d))
    else (if is_word_at 0 (codes "send") d then of_size 2 d (option_map send (number_at 1 d))
    else (if is_word_at 0 (codes "deliver") d then of_size 3 d (two deliver (number_at 1 d) (number_at 2 d))
    else (if is_word_at 0 (codes "sync") d then of_size 1 d (Some sync)
    else (if is_word_at 0 (codes "settle") d then of_size 1 d (Some settle)
    else (if is_word_at 0 (codes "read") d then bound_form read d
    else (if is_word_at 0 (codes "await") d then bound_form await d
    else (if is_word_at 0 (codes "declare") d then of_size 2 d (option_map declare (option_and_then formed (at 1 d)))
    else None))))))))))))))
