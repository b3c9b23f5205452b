-- The usual spelling of a script, part after part.
use Rattle.std.proofs.Common.{◌≡◌, ◌∙◌, refl, sym, ap, subst, ℕ, Result, Ok, Err, Some, List, [], ◌∷◌, ◌++◌}
use Rattle.std.specs.Str.{IsUtf8}
use Rattle.json.specs.Token.{end_array}
use Rattle.json.specs.Lex.{token, comma, between, lex}
use Rattle.serde_json.specs.Data.{Data, array}
use Rattle.serde_json.specs.View.{items_of}
use Rattle.model_functions.specs.Library.{Library}
use Rattle.model_graph.specs.Chain.{◌>>=◌}
use Rattle.model_graph.specs.Graph.{Decl}
use Rattle.model_readings.specs.Tree.{list_of}
use Rattle.model_readings.specs.Graph.{numbered}
use Rattle.model_scripts.specs.declared.script_why.ScriptWhy.{ScriptWhy}
use Rattle.model_scripts.specs.Progress.{Progress, opening, next_number}
use Rattle.model_scripts.specs.Script.{next_read, commands_read, parts_read, tree_read, script_from, script_of}
use Rattle.lasp_spelling.specs.Spelling.{Begins, Spells, Opens}
use Rattle.lasp_spelling.proofs.Arrays.{opens-more, opens-closes}
use Rattle.lasp_spelling.proofs.Trees.{read-Spells}
use Rattle.lasp_script.specs.Usual.{nesting_limit, IsBegun, IsReadTo, IsNext}
use Rattle.lasp_script.proofs.Bytes.{script_of-tree}
use Rattle.lasp_script.proofs.Steps.{commands_read-next, commands_read-end}

abbrev told : Progress → Result Progress (ℕ × ScriptWhy)
told p = Ok p

list_of-items_of : (ds : List Data) → list_of (items_of ds) ≡ ds
list_of-items_of [] = refl
list_of-items_of (d ∷ ds) = ap (λ es. d ∷ es) (list_of-items_of ds)

module _ (lib : Library) (nodes : ℕ) where
  commands_read-first : (p q : Progress) (d : Data) (ds : List Data) → commands_read lib nodes p (d ∷ ds) ≡ Ok q → (n : Progress) × (next_read lib nodes p d ≡ Ok n) × (commands_read lib nodes n ds ≡ Ok q)
  unfolding commands_read
  commands_read-first p q d ds read = by (next_read lib nodes p d) refl read where
    by : (r : Result Progress ScriptWhy) → next_read lib nodes p d ≡ r → (numbered (next_number p) r >>= λ n. commands_read lib nodes n ds) ≡ Ok q → (n : Progress) × (next_read lib nodes p d ≡ Ok n) × (commands_read lib nodes n ds ≡ Ok q)
    by (Ok n) is rest = (n, is, rest)
    by (Err why) is rest = absurd cc

  commands_read-one : (p q r : Progress) (d : Data) → told p ≡ told q → next_read lib nodes q d ≡ Ok r → commands_read lib nodes p (d ∷ []) ≡ Ok r
  commands_read-one p q r d same next =
      let is : p ≡ q = cc in
      subst (λ (x : Progress). commands_read lib nodes x (d ∷ []) ≡ Ok r) (sym is) (commands_read-next lib nodes q r d [] next ∙ commands_read-end lib nodes r)

  commands_read-push : (p q r : Progress) (ds : List Data) (d : Data) → commands_read lib nodes p ds ≡ Ok q → next_read lib nodes q d ≡ Ok r → commands_read lib nodes p (ds ++ d ∷ []) ≡ Ok r
  commands_read-push p q r [] d before next = commands_read-one p q r d (sym (commands_read-end lib nodes p) ∙ before) next
  commands_read-push p q r (e ∷ ds) d before next =
      let first = commands_read-first p q e ds before in
      commands_read-next lib nodes p first.0 e (ds ++ d ∷ []) first.1 ∙ commands_read-push first.0 q r ds d first.2 next

module _ (lib : Library) (g : List Decl) (bytes : List ℕ) (nodes : ℕ) where
  pub read_to-begun : (rest : List ℕ) → IsBegun bytes nodes rest → IsReadTo lib g bytes nodes (opening g) rest
  read_to-begun rest begun = record { first = begun.first; others = []; opens = begun.opens; told = begun.told; read = commands_read-end lib nodes (opening g) }

  pub read_to-next : (p q : Progress) (rest next new : List ℕ) → IsReadTo lib g bytes nodes p rest → Begins rest (comma ∷ []) next → IsNext lib nodes p next q new → IsReadTo lib g bytes nodes q new
  read_to-next p q rest next new done parted more = record {
    first = done.first;
    others = done.others ++ more.tree ∷ [];
    opens = opens-more nesting_limit bytes rest next new (done.first ∷ done.others) more.tree done.opens parted more.spelled;
    told = done.told;
    read = commands_read-push lib nodes (opening g) p q done.others more.tree done.read more.read;
  }

  pub read_to-end : (p : Progress) (rest end : List ℕ) → IsUtf8 bytes → IsReadTo lib g bytes nodes p rest → Begins rest (token end_array ∷ []) end → lex between end ≡ [] → script_of lib g bytes ≡ Ok (script_from nodes p.commands)
  unfolding tree_read parts_read
  read_to-end p rest end utf8 done closed over =
      let parts : List Data = done.first ∷ done.others in
      script_of-tree lib g bytes (array (items_of parts)) utf8 (read-Spells bytes end (array (items_of parts)) (opens-closes nesting_limit bytes rest end parts done.opens closed) over)
      ∙ ap (parts_read lib g) (list_of-items_of parts)
      ∙ rw (done.told, done.read) refl
