-- The forms of words by what stands behind the word.
use Rattle.std.proofs.Common.{◌≡◌, refl, Bool, true, false, Option, Some, None, option_map}
use Rattle.std.specs.Prelude.{if◌then◌else◌, option_and_then, codes}
use Rattle.serde_json.specs.Data.{Data}
use Rattle.serde_json.specs.Find.{at}
use Rattle.model_readings.specs.Tree.{text_at, number_at, is_word_at, has_items, two}
use Rattle.model_scripts.specs.Word as plain
use Rattle.lasp_script.specs.Word.{pair, joined, place_part, tree_parts, number_parts, new_mark_parts, mark_parts, bound_parts, delivery_parts, declared_part, bound_from, later_word, first_word}

both_formed : {A B C : Type 0} (form : A → B → C) (many : Bool) (a : Option A) (b : Option B)
    → (if many then two form a b else None) ≡ option_map (joined form) (if many then two pair a b else None)
both_formed form true None b = refl
both_formed form true (Some a) None = refl
both_formed form true (Some a) (Some b) = refl
both_formed form false a b = refl

one_formed : {A B : Type 0} (form : A → B) (many : Bool) (a : Option A) → (if many then option_map form a else None) ≡ option_map form (if many then a else None)
one_formed form true a = refl
one_formed form false a = refl

pub bound_of-from : (d : Data) → plain.bound_of d ≡ bound_from d
unfolding plain.bound_of bound_from
bound_of-from d = λ i.
    if is_word_at 0 (codes "at_least") d then one_formed plain.at_least (has_items 2 d) (text_at 1 d) i
    else (if is_word_at 0 (codes "above") d then one_formed plain.above (has_items 2 d) (text_at 1 d) i
    else (if is_word_at 0 (codes "count") d then one_formed plain.count (has_items 2 d) (number_at 1 d) i
    else (if is_word_at 0 (codes "added") d then one_formed plain.added (has_items 2 d) (plain.list_at 1 d) i
    else (if is_word_at 0 (codes "removed") d then one_formed plain.removed (has_items 2 d) (plain.list_at 1 d) i
    else None))))

pub word_of-first : (d : Data) → plain.word_of d ≡ first_word d
unfolding plain.word_of first_word later_word place_part tree_parts number_parts new_mark_parts mark_parts bound_parts delivery_parts declared_part
word_of-first d = λ i.
    if is_word_at 0 (codes "add") d then both_formed plain.add (has_items 4 d) (plain.target_of d) (at 3 d) i
    else (if is_word_at 0 (codes "remove") d then both_formed plain.remove (has_items 4 d) (plain.target_of d) (at 3 d) i
    else (if is_word_at 0 (codes "insert") d then both_formed plain.insert (has_items 4 d) (plain.target_of d) (at 3 d) i
    else (if is_word_at 0 (codes "inc") d then both_formed plain.inc (has_items 4 d) (plain.target_of d) (number_at 3 d) i
    else (if is_word_at 0 (codes "max") d then both_formed plain.max (has_items 4 d) (plain.target_of d) (number_at 3 d) i
    else (if is_word_at 0 (codes "print") d then one_formed plain.print (has_items 3 d) (plain.target_of d) i
    else (if is_word_at 0 (codes "mark") d then both_formed plain.mark (has_items 4 d) (plain.target_of d) (option_and_then plain.named (text_at 3 d)) i
    else (if is_word_at 0 (codes "bind") d then both_formed plain.bind (has_items 4 d) (plain.target_of d) (text_at 3 d) i
    else (if is_word_at 0 (codes "send") d then one_formed plain.send (has_items 2 d) (number_at 1 d) i
    else (if is_word_at 0 (codes "deliver") d then both_formed plain.deliver (has_items 3 d) (number_at 1 d) (number_at 2 d) i
    else (if is_word_at 0 (codes "sync") d then plain.of_size 1 d (Some plain.sync)
    else (if is_word_at 0 (codes "settle") d then plain.of_size 1 d (Some plain.settle)
    else (if is_word_at 0 (codes "read") d then both_formed plain.read (has_items 4 d) (plain.target_of d) (option_and_then plain.bound_of (at 3 d)) i
    else (if is_word_at 0 (codes "await") d then both_formed plain.await (has_items 4 d) (plain.target_of d) (option_and_then plain.bound_of (at 3 d)) i
    else (if is_word_at 0 (codes "declare") d then one_formed plain.declare (has_items 2 d) (option_and_then plain.formed (at 1 d)) i
    else None))))))))))))))

pub ruleset bounds = (bound_of-from)

pub ruleset words = (word_of-first)
