-- The command of a word, a node and a variable, and one part more, by the word.
use Rattle.std.proofs.Common.{◌≡◌, refl, ℕ, ◌+◌, ◌≤◌, arith, List, [], ◌∷◌, Bool, true, Some}
use Rattle.std.specs.Prelude.{codes}
use Rattle.std.specs.Str.{bytes_eq}
use Rattle.std.proofs.lemmas.Slice.Eq.{bytes_eq-Decides}
use Rattle.json.specs.Token as plain
use Rattle.json.specs.Lex.{token, comma}
use Rattle.serde_json.specs.Data.{Num, Data, number, string}
use Rattle.serde_json.specs.Find.{as_number, as_str}
use Rattle.model_values.specs.Name.{is_name}
use Rattle.model_readings.specs.Tree.{is_word_at, has_items}
use Rattle.model_scripts.specs.Word.{Bound, bound_of, target, word_of, add, remove, insert, inc, max, print, mark, bind, read, await}
use Rattle.lasp_spelling.specs.Spelling.{Begins, number_lexeme, IsWritten, Spells, Opens}
use Rattle.lasp_spelling.proofs.Arrays.{opens-first, opens-more}
use Rattle.lasp_script.specs.Usual.{placed}

module _ (word : List ℕ) (node : Num) (var : List ℕ) where
  pub placed-print : bytes_eq word (codes "print") ≡ true → word_of (placed word node var []) ≡ Some (print (target node var))
  unfolding word_of is_word_at has_items
  placed-print e = rw ((bytes_eq-Decides word (codes "print")).0 e) refl

  module _ (v : Data) where
    pub placed-add : bytes_eq word (codes "add") ≡ true → word_of (placed word node var (v ∷ [])) ≡ Some (add (target node var) v)
    unfolding word_of is_word_at has_items
    placed-add e = rw ((bytes_eq-Decides word (codes "add")).0 e) refl

    pub placed-remove : bytes_eq word (codes "remove") ≡ true → word_of (placed word node var (v ∷ [])) ≡ Some (remove (target node var) v)
    unfolding word_of is_word_at has_items
    placed-remove e = rw ((bytes_eq-Decides word (codes "remove")).0 e) refl

    pub placed-insert : bytes_eq word (codes "insert") ≡ true → word_of (placed word node var (v ∷ [])) ≡ Some (insert (target node var) v)
    unfolding word_of is_word_at has_items
    placed-insert e = rw ((bytes_eq-Decides word (codes "insert")).0 e) refl

    pub placed-inc : (k : Num) → bytes_eq word (codes "inc") ≡ true → as_number v ≡ Some k → word_of (placed word node var (v ∷ [])) ≡ Some (inc (target node var) k)
    unfolding word_of is_word_at has_items
    placed-inc k e is = rw ((bytes_eq-Decides word (codes "inc")).0 e) (rw is refl)

    pub placed-max : (k : Num) → bytes_eq word (codes "max") ≡ true → as_number v ≡ Some k → word_of (placed word node var (v ∷ [])) ≡ Some (max (target node var) k)
    unfolding word_of is_word_at has_items
    placed-max k e is = rw ((bytes_eq-Decides word (codes "max")).0 e) (rw is refl)

    pub placed-mark : (m : List ℕ) → bytes_eq word (codes "mark") ≡ true → as_str v ≡ Some m → is_name m ≡ true → word_of (placed word node var (v ∷ [])) ≡ Some (mark (target node var) m)
    unfolding word_of is_word_at has_items
    placed-mark m e is shaped = rw ((bytes_eq-Decides word (codes "mark")).0 e) (rw is (rw shaped refl))

    pub placed-bind : (m : List ℕ) → bytes_eq word (codes "bind") ≡ true → as_str v ≡ Some m → word_of (placed word node var (v ∷ [])) ≡ Some (bind (target node var) m)
    unfolding word_of is_word_at has_items
    placed-bind m e is = rw ((bytes_eq-Decides word (codes "bind")).0 e) (rw is refl)

    pub placed-read : (b : Bound) → bytes_eq word (codes "read") ≡ true → bound_of v ≡ Some b → word_of (placed word node var (v ∷ [])) ≡ Some (read (target node var) b)
    unfolding word_of is_word_at has_items
    placed-read b e is = rw ((bytes_eq-Decides word (codes "read")).0 e) (rw is refl)

    pub placed-await : (b : Bound) → bytes_eq word (codes "await") ≡ true → bound_of v ≡ Some b → word_of (placed word node var (v ∷ [])) ≡ Some (await (target node var) b)
    unfolding word_of is_word_at has_items
    placed-await b e is = rw ((bytes_eq-Decides word (codes "await")).0 e) (rw is refl)

pub ruleset words = (placed-print, placed-add, placed-remove, placed-insert, placed-inc, placed-max, placed-mark, placed-bind, placed-read, placed-await)

-- ---- parts, as they are spelled

pub Spells-text : (nesting : ℕ) (old new s : List ℕ) → Begins old (token (plain.string s) ∷ []) new → Spells nesting old (string s) new
Spells-text nesting old new s lexed = record { lexemes = lexed; plain = tt; nests = omega arith }

pub Spells-number : (nesting : ℕ) (old new : List ℕ) (n : Num) → Begins old (number_lexeme n ∷ []) new → IsWritten n → Spells nesting old (number n) new
Spells-number nesting old new n lexed written = record { lexemes = lexed; plain = written; nests = omega arith }

-- a word, a node and a variable, as they are spelled
pub Opens-placed : (bytes inside word_end node_at node_end var_at var_end word : List ℕ) (node : Num) (var : List ℕ)
    → Begins bytes (token plain.begin_array ∷ []) inside → Begins inside (token (plain.string word) ∷ []) word_end
    → Begins word_end (comma ∷ []) node_at → Begins node_at (number_lexeme node ∷ []) node_end → IsWritten node
    → Begins node_end (comma ∷ []) var_at → Begins var_at (token (plain.string var) ∷ []) var_end
    → Opens 125 bytes (string word ∷ number node ∷ string var ∷ []) var_end
Opens-placed bytes inside word_end node_at node_end var_at var_end word node var opened first parted second written parted_again third =
    let with_word = opens-first 125 bytes inside word_end (string word) opened (Spells-text 125 inside word_end word first) in
    let with_node = opens-more 125 bytes word_end node_at node_end (string word ∷ []) (number node) with_word parted (Spells-number 125 node_at node_end node second written) in
    opens-more 125 bytes node_end var_at var_end (string word ∷ number node ∷ []) (string var) with_node parted_again (Spells-text 125 var_at var_end var third)
