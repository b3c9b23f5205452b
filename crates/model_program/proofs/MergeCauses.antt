-- The files of a merge over told contents, one after the other.
use Rattle.std.proofs.Common.{refl, sym, ap, ◌∙◌, arith}
use Rattle.std.specs.Prelude.{◌≡◌, ◌≢◌, ◌<◌, ◌≤◌, ℕ, ◌+◌, ◌-◌, zero, suc, List, [], ◌∷◌, ◌++◌, length, Bool, Option, Some, None, Result, Ok, Err}
use Rattle.std.proofs.lemmas.List.{length-append}
use Rattle.std.proofs.lemmas.Bool.{false_from_ne_true}
use Rattle.model_graph.specs.Chain.{◌>>=◌, check, refusing}
use Rattle.model_graph.specs.Graph.{Decl, name_at}
use Rattle.model_graph.specs.Evaluation.{eval, first_large}
use Rattle.model_graph.specs.Message.{Message}
use Rattle.model_wire.specs.Message.{decoded}
use Rattle.model_wire.specs.declared.wire_why.WireWhy.{WireWhy}
use Rattle.model_world.specs.World.{Peer, delivered}
use Rattle.model_program.specs.Plan.{Answer, Plan, Says, exactly, told_answer, word_at, file_limit, checked}
use Rattle.model_program.specs.Merge.{file_at, state_refused, large_refused, may_take, replica_before, message_joined, file_joined, merge_answer, merge_text, merging_more, merging_files, nodes_in, joined}
use Rattle.model_program.specs.Listed.{IsListed, plain, delta, check as a_check, dots, export, merge, run, trace, live, load}
use Rattle.model_program.specs.Program.{form}
use Rattle.model_program.specs.declared.form.Form.{Form}
use Rattle.model_program.specs.declared.form.Form.TheVariants as form_of
use Rattle.model_program.specs.declared.refusal.Refusal.{Refusal}
use Rattle.model_program.specs.declared.refusal.Refusal.TheVariants as refusal
use Rattle.model_program.specs.declared.state_why.StateWhy.TheVariants.{Wire, WrongGraph}
use Rattle.model_program.proofs.FormLaws.{form-listed}
use Rattle.model_program.proofs.MergeLaws.{take-Decides, more-none, more-file, replica_of, joined-push, AreOfNodes, before-nodes, nodes-push}
use Rattle.model_program.specs.Told.{IsFileTold, IsOfGraph, IsOfNodes, IsJoined, AreJoined, none, more}
use Rattle.model_program.proofs.CauseLaws.{told-short, told-long, told-checked, told-refused, told-answer}

-- ---- one file

module _ (g : List Decl) (before : List Message) (bytes : List ℕ) where
  abbrev number : ℕ
  number = length before

  abbrev replica : Message → Peer
  replica m = replica_before g (replica_of g before) m

  abbrev read : Result Peer Refusal
  read = file_joined g number (replica_of g before) bytes

  pub read-none : (place : ℕ) (why : WireWhy) → decoded bytes ≡ Err (place, why) → read ≡ Err (refusal.State (file_at number) place (Wire why))
  unfolding file_joined
  read-none place why e = ap (λ (r : Result Message (ℕ × WireWhy)). refusing (state_refused number) r >>= λ m. message_joined g number (replica m) m) e

  read-message : (m : Message) → decoded bytes ≡ Ok m → read ≡ message_joined g number (replica m) m
  unfolding file_joined
  read-message m e = ap (λ (r : Result Message (ℕ × WireWhy)). refusing (state_refused number) r >>= λ k. message_joined g number (replica k) k) e

  -- what is left to be looked at of a message that may be taken
  abbrev after_check : Bool → Message → Result Peer Refusal
  after_check b m = check b (refusal.State (file_at number) 0 WrongGraph) >>= λ _. large_refused g number (first_large 0 (delivered g m (replica m)).contents) >>= λ _. Ok (delivered g m (replica m))

  abbrev after_large : Option ℕ → Peer → Result Peer Refusal
  after_large large r = large_refused g number large >>= λ _. Ok r

  pub read-wrong : AreOfNodes (nodes_in before) before → (m : Message) → decoded bytes ≡ Ok m → ¬ (IsOfGraph g m × IsOfNodes before m) → read ≡ Err (refusal.State (file_at number) 0 WrongGraph)
  read-wrong same m e wrong =
      read-message m e
      ∙ ap (λ (b : Bool). after_check b m) (false_from_ne_true (may_take g (replica m) m) (λ t. let takes = (take-Decides g (replica m) m).0 t in wrong (takes.0, takes.1 ∙ before-nodes g before m same)))

  read-taken : AreOfNodes (nodes_in before) before → (m : Message) → decoded bytes ≡ Ok m → IsOfGraph g m → IsOfNodes before m
      → read ≡ after_large (first_large 0 (joined g (before ++ m ∷ [])).contents) (joined g (before ++ m ∷ []))
  read-taken same m e graph nodes =
      read-message m e
      ∙ ap (λ (b : Bool). after_check b m) ((take-Decides g (replica m) m).1 (graph, nodes ∙ sym (before-nodes g before m same)))
      ∙ ap (λ (r : Peer). after_large (first_large 0 r.contents) r) (joined-push g before m)

  pub read-large : AreOfNodes (nodes_in before) before → (m : Message) (x : ℕ) → decoded bytes ≡ Ok m → IsOfGraph g m → IsOfNodes before m → first_large 0 (joined g (before ++ m ∷ [])).contents ≡ Some x
      → read ≡ Err (refusal.TooLarge number 0 (name_at g x))
  read-large same m x e graph nodes large = read-taken same m e graph nodes ∙ ap (λ (o : Option ℕ). after_large o (joined g (before ++ m ∷ []))) large

  pub read-joined : AreOfNodes (nodes_in before) before → (m : Message) → decoded bytes ≡ Ok m → IsOfGraph g m → IsOfNodes before m → first_large 0 (joined g (before ++ m ∷ [])).contents ≡ None
      → read ≡ Ok (joined g (before ++ m ∷ []))
  read-joined same m e graph nodes small = read-taken same m e graph nodes ∙ ap (λ (o : Option ℕ). after_large o (joined g (before ++ m ∷ []))) small

-- ---- one file after the other

-- the plan once the files of these messages are joined, so many being left
abbrev pub rest_plan : List Decl → List Message → ℕ → Plan
rest_plan g [] zero = Says (Err refusal.Usage)
rest_plan g [] (suc left) = merging_files g left
rest_plan g (m ∷ ms) left = merging_more g (length (m ∷ ms)) left (joined g (m ∷ ms))

-- one message more
rest-push : (g : List Decl) (ms : List Message) (m : Message) (left : ℕ) → merging_more g (length ms + 1) left (joined g (ms ++ m ∷ [])) ≡ rest_plan g (ms ++ m ∷ []) left
rest-push g [] m left = refl
rest-push g (k ∷ ms) m left =
    ap (λ (n : ℕ). merging_more g n left (joined g (k ∷ (ms ++ m ∷ [])))) (let long : length (k ∷ ms) + 1 ≡ length (k ∷ (ms ++ m ∷ [])) = omega (arith, length-append ms (m ∷ [])) in long)

pub joined-nodes : (g : List Decl) (content : List ℕ → Option (List ℕ)) (words : List (List ℕ)) (ms : List Message) → AreJoined g content words ms → AreOfNodes (nodes_in ms) ms
joined-nodes g content words ms none = tt
joined-nodes g content words ms (more {before = before} {m = m} there here) = nodes-push before m (joined-nodes g content words before there) here.nodes

module _ (g : List Decl) (content : List ℕ → Option (List ℕ)) (words : List (List ℕ)) where
  abbrev pub answered : Plan → Option Answer
  answered p = told_answer content words p

  -- what the plan does with the next file
  abbrev pub next : List Message → ℕ → List ℕ → Plan
  next ms left bytes = checked (λ e. e) (file_joined g (length ms) (replica_of g ms) bytes) (λ r. merging_more g (length ms + 1) left r)

  pub file-short : (ms : List Message) (left : ℕ) (bytes : List ℕ) → IsFileTold content words (file_at (length ms)) bytes → answered (rest_plan g ms (suc left)) ≡ answered (next ms left bytes)
  file-short [] left bytes file = told-short content words (file_at 0) bytes (next [] left) file.told file.short
  file-short (m ∷ ms) left bytes file =
      ap answered (more-file g (length (m ∷ ms)) left (joined g (m ∷ ms))) ∙ told-short content words (file_at (length (m ∷ ms))) bytes (next (m ∷ ms) left) file.told file.short

  pub file-long : (ms : List Message) (left : ℕ) (bytes : List ℕ) → content (word_at words (file_at (length ms))) ≡ Some bytes → file_limit < length bytes
      → answered (rest_plan g ms (suc left)) ≡ Some (Err (refusal.TooLong (file_at (length ms))))
  file-long [] left bytes told long = told-long content words (file_at 0) bytes (next [] left) told long
  file-long (m ∷ ms) left bytes told long =
      ap answered (more-file g (length (m ∷ ms)) left (joined g (m ∷ ms))) ∙ told-long content words (file_at (length (m ∷ ms))) bytes (next (m ∷ ms) left) told long

  pub file-refused : (ms : List Message) (left : ℕ) (bytes : List ℕ) (e : Refusal) → IsFileTold content words (file_at (length ms)) bytes → file_joined g (length ms) (replica_of g ms) bytes ≡ Err e
      → answered (rest_plan g ms (suc left)) ≡ Some (Err e)
  file-refused ms left bytes e file refused =
      file-short ms left bytes file ∙ told-refused content words (λ x. x) (file_joined g (length ms) (replica_of g ms) bytes) e (λ r. merging_more g (length ms + 1) left r) refused

  pub file-joined : (ms : List Message) (m : Message) (left : ℕ) → AreJoined g content words ms → IsJoined g content words ms m → answered (rest_plan g ms (suc left)) ≡ answered (rest_plan g (ms ++ m ∷ []) left)
  file-joined ms m left there here =
      file-short ms left here.bytes here.file
      ∙ told-checked content words (λ x. x) (file_joined g (length ms) (replica_of g ms) here.bytes) (joined g (ms ++ m ∷ [])) (λ r. merging_more g (length ms + 1) left r)
      (read-joined g ms here.bytes (joined-nodes g content words ms there) m here.read here.graph here.nodes here.small)
      ∙ ap answered (rest-push g ms m left)

  -- so many files are joined
  pub files-joined : (ms : List Message) (more_files left : ℕ) → AreJoined g content words ms → suc more_files ≡ length ms + left → answered (merging_files g more_files) ≡ answered (rest_plan g ms left)
  files-joined ms more_files left none e = ap (λ (n : ℕ). answered (rest_plan g [] n)) (let same : suc more_files ≡ left = omega (arith, e) in same)
  files-joined ms more_files left (more {before = before} {m = m} there here) e =
      files-joined before more_files (suc left) there (omega (arith, e, length-append before (m ∷ [])))
      ∙ file-joined before m left there here

  -- where this answer comes behind these files, it comes of all
  pub next-answer : (ms : List Message) (is : Option Answer) → AreJoined g content words ms → file_at (length ms) < length words → ((left : ℕ) → answered (rest_plan g ms (suc left)) ≡ is)
      → answered (merging_files g (length words - 3)) ≡ is
  next-answer ms is there within h =
      files-joined ms (length words - 3) (suc (length words - 3 - length ms)) there (omega (arith, within)) ∙ h (length words - 3 - length ms)

  last-plan : (ms : List Message) → 1 ≤ length ms → rest_plan g ms 0 ≡ Says (exactly (merge_answer g (length ms) (joined g ms)))
  last-plan [] h = absurd (omega (arith, h))
  last-plan (m ∷ ms) h = more-none g (length (m ∷ ms)) (joined g (m ∷ ms))

  pub last-answer : (ms : List Message) (is : Result (List ℕ) Refusal) → AreJoined g content words ms → 3 ≤ length words → file_at (length ms) ≡ length words → merge_answer g (length ms) (joined g ms) ≡ is
      → answered (merging_files g (length words - 3)) ≡ Some (exactly is)
  last-answer ms is there many all e =
      files-joined ms (length words - 3) 0 there (omega (arith, many, all))
      ∙ ap answered (last-plan ms (omega (arith, many, all)))
      ∙ told-answer content words (exactly (merge_answer g (length ms) (joined g ms))) (exactly is) (ap exactly e)

-- ---- what is answered behind the last file

abbrev after_shown : List Decl → ℕ → Peer → Option ℕ → Result (List ℕ) Refusal
after_shown g files r large = large_refused g files large >>= λ _. Ok (merge_text g r)

pub shown-answer : (g : List Decl) (files : ℕ) (r : Peer) (large : Option ℕ) → first_large 0 (eval g r.contents) ≡ large → merge_answer g files r ≡ after_shown g files r large
shown-answer g files r large e = ap (after_shown g files r) e

-- ---- words

listed-many : (words : List (List ℕ)) (f : Form) → IsListed words f → f ≡ form_of.Merge → 3 ≤ length words
listed-many words f plain e = absurd cc
listed-many words f a_check e = absurd cc
listed-many words f delta e = absurd cc
listed-many words f dots e = absurd cc
listed-many words f (export few) e = absurd cc
listed-many words f (merge some few) e = omega (arith, some)
listed-many words f (run are) e = absurd cc
listed-many words f (trace are) e = absurd cc
listed-many words f (live are) e = absurd cc
listed-many words f (load small some few are) e = absurd cc

merge-right : form_of.Merge ≢ form_of.Wrong
merge-right e = absurd cc

pub merge-many : (words : List (List ℕ)) → form words ≡ form_of.Merge → 3 ≤ length words
merge-many words is = listed-many words form_of.Merge ((form-listed words form_of.Merge merge-right).0 is) refl
