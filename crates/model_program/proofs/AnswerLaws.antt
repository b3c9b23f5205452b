-- What a call that followed its plan answered, where the contents of the files that it read are told.
use Rattle.std.proofs.Common.{refl, sym, ap, subst, ◌∙◌}
use Rattle.std.specs.Prelude.{◌≡◌, ◌≢◌, ◌⊎◌, ℕ, List, Option, Some, None, option_and_then, Result, Ok, Err}
use Rattle.std.proofs.lemmas.Option.{same_Some}
use mathlib.Core.Logic.{inl, inr}
use Rattle.model_values.specs.Faults.{Rose}
use Rattle.model_values.specs.Told.{Sees}
use Rattle.model_program.specs.Plan.{Text, Answer, Plan, Says, Reads, Comes, AreTold, word_at, told_answer}
use Rattle.model_program.specs.Follows.{View, Fails, AllowsText, Allows, Follows}
use Rattle.model_program.specs.Line.{status_of}
use Rattle.model_program.specs.Call.{Writes, Begins}
use Rattle.model_program.specs.Ends.{Writing, Ends, Settles, MeetsFault, NoFault}
use Rattle.model_program.specs.declared.refusal.Refusal.{Refusal}
use Rattle.model_program.specs.declared.failure.Failure.{Failure}
use Rattle.model_program.specs.declared.failure.Failure.TheVariants.{Refused, ReadFault, Memory}

settles-says : (words : List (List ℕ)) (v : View) (answer a : Answer) (r : Result (List ℕ) Failure) → Allows answer r → answer ≡ a → Settles words v (Says answer) a r
settles-says words v answer a (Ok text) h e = subst (λ (b : Answer). AllowsText b text) e h
settles-says words v answer a (Err (Refused x)) h e = sym e ∙ h
settles-says words v answer a (Err (ReadFault f)) h e = absurd h
settles-says words v answer a (Err Memory) h e = tt

settles-fails : (words : List (List ℕ)) (v : View) (f : ℕ) (next : List ℕ → Plan) (a : Answer) (r : Result (List ℕ) Failure) → Fails words v f r → Settles words v (Reads f next) a r
unfolding Comes
settles-fails words v f next a (Ok text) h = absurd h
settles-fails words v f next a (Err (Refused x)) h = absurd h
settles-fails words v f next a (Err (ReadFault e)) h = (inl h.0, subst (λ (n : ℕ). Rose (v.before (word_at words n)) (v.after (word_at words n))) (sym h.0) h.2)
settles-fails words v f next a (Err Memory) h = tt

-- what settles the rest of a plan settles the whole
settles-rest : (words : List (List ℕ)) (v : View) (f : ℕ) (next : List ℕ → Plan) (bytes : List ℕ) (a : Answer) (r : Result (List ℕ) Failure)
    → v.content (word_at words f) ≡ Some bytes → Settles words v (next bytes) a r → Settles words v (Reads f next) a r
unfolding Comes
settles-rest words v f next bytes a (Ok text) told h = h
settles-rest words v f next bytes a (Err (Refused x)) told h = h
settles-rest words v f next bytes a (Err (ReadFault e)) told h = (inr (bytes, told, h.0), h.1)
settles-rest words v f next bytes a (Err Memory) told h = tt

pub told-seen : {X : Type 0} (next : List ℕ → Option X) (told : Option (List ℕ)) (bytes : List ℕ) (a : X) → Sees told bytes → option_and_then next told ≡ Some a → (told ≡ Some bytes) × (next bytes ≡ Some a)
told-seen next None bytes a sees e = absurd cc
told-seen next (Some content) bytes a sees e = (ap Some (sym sees), ap next sees ∙ e)

-- where the plan comes to an answer over what is told, the result is that answer, want of memory, or a fault of a file to which the plan comes
pub follows-told : (words : List (List ℕ)) (v : View) (p : Plan) (r : Result (List ℕ) Failure) (a : Answer) → Follows words v p r → told_answer v.content words p ≡ Some a → Settles words v p a r
unfolding Follows told_answer
follows-told words v (Says answer) r a h e = settles-says words v answer a r h (same_Some answer a e)
follows-told words v (Reads f next) r a (inl fails) e = settles-fails words v f next a r fails
follows-told words v (Reads f next) r a (inr (bytes, sees, rest)) e =
    let seen = told-seen (λ read. told_answer v.content words (next read)) (v.content (word_at words f)) bytes a sees e in
    settles-rest words v f next bytes a r seen.0 (follows-told words v (next bytes) r a rest seen.1)

pub err-same : (x y : Refusal) → ◌≡◌ {A = Answer} (Err x) (Err y) → x ≡ y
err-same x y e = cc

-- a refusal that the contents decide: its status, or that of want of memory or of a fault
pub refused-ends : (words : List (List ℕ)) (v : View) (p : Plan) (x : Refusal) (answer : Result (List ℕ) Failure) (out err : Writing) (status : ℕ)
    → Settles words v p (Err x) answer → Ends words answer out err status
    → (status ≡ status_of (Refused x)) ⊎ ((status ≡ 7) ⊎ ((status ≡ 4) × MeetsFault words v p))
unfolding Ends
refused-ends words v p x (Ok text) out err status settles ends = absurd settles
refused-ends words v p x (Err (Refused e)) out err status settles ends = inl (ends.0 ∙ ap (λ (y : Refusal). status_of (Refused y)) (sym (err-same x e settles)))
refused-ends words v p x (Err (ReadFault f)) out err status settles ends = inr (inr (ends.0, (f, settles.0, settles.1)))
refused-ends words v p x (Err Memory) out err status settles ends = inr (inl ends.0)

-- an answer that the contents decide: it was written whole with status 0, or memory was wanting, where nothing failed
pub complete-ends : (words : List (List ℕ)) (v : View) (p : Plan) (text : Text) (answer : Result (List ℕ) Failure) (out err : Writing) (status : ℕ)
    → NoFault words v p → ¬ Rose out.faults_before out.faults_after → Settles words v p (Ok text) answer → Ends words answer out err status
    → ((status ≡ 0) × Writes out text) ⊎ (status ≡ 7)
unfolding Ends
complete-ends words v p text (Ok written) out err status quiet sound settles (inl (zero_is, appends, same)) =
    inl (zero_is, (written, settles, appends))
complete-ends words v p text (Ok written) out err status quiet sound settles (inr (five, some, rose, part, line)) = absurd (sound rose)
complete-ends words v p text (Err (Refused e)) out err status quiet sound settles ends = absurd cc
complete-ends words v p text (Err (ReadFault f)) out err status quiet sound settles ends = absurd (quiet f settles.0 settles.1)
complete-ends words v p text (Err Memory) out err status quiet sound settles ends = inr ends.0

-- an answer that the contents decide: it was written whole or begun, or memory was wanting, or a read failed
pub written-ends : (words : List (List ℕ)) (v : View) (p : Plan) (text : Text) (answer : Result (List ℕ) Failure) (out err : Writing) (status : ℕ)
    → Settles words v p (Ok text) answer → Ends words answer out err status
    → ((status ≡ 0) × Writes out text) ⊎ (((status ≡ 5) × Begins out text) ⊎ ((status ≡ 7) ⊎ ((status ≡ 4) × MeetsFault words v p)))
unfolding Ends
written-ends words v p text (Ok bytes) out err status settles (inl (zero_is, appends, same)) = inl (zero_is, (bytes, settles, appends))
written-ends words v p text (Ok bytes) out err status settles (inr (five, some, rose, part, line)) = inr (inl (five, (bytes, settles, some, rose, part)))
written-ends words v p text (Err (Refused e)) out err status settles ends = absurd cc
written-ends words v p text (Err (ReadFault f)) out err status settles ends = inr (inr (inr (ends.0, (f, settles.0, settles.1))))
written-ends words v p text (Err Memory) out err status settles ends = inr (inr (inl ends.0))

-- with another status than 0 and 5 nothing was written
pub quiet-ends : (words : List (List ℕ)) (answer : Result (List ℕ) Failure) (out err : Writing) (status : ℕ) → status ≢ 0 → status ≢ 5 → Ends words answer out err status → out.after ≡ out.before
unfolding Ends
quiet-ends words (Ok text) out err status not_done not_fault (inl (done, appends, same)) = absurd (not_done done)
quiet-ends words (Ok text) out err status not_done not_fault (inr (fault, some, rose, part, line)) = absurd (not_fault fault)
quiet-ends words (Err failure) out err status not_done not_fault ends = ends.1

-- where each file to which the plan comes is told, it comes to an answer
pub told-decides : (content : List ℕ → Option (List ℕ)) (words : List (List ℕ)) (p : Plan) → AreTold content words p → (answer : Answer) × (told_answer content words p ≡ Some answer)
unfolding Comes told_answer
told-decides content words (Says answer) told = (answer, refl)
told-decides content words (Reads f next) told =
    let here = told f (inl refl) in
    let rest = told-decides content words (next here.0) (λ e comes. told e (inr (here.0, here.1, comes))) in
    (rest.0, ap (λ (found : Option (List ℕ)). option_and_then (λ bytes. told_answer content words (next bytes)) found) here.1 ∙ rest.1)
