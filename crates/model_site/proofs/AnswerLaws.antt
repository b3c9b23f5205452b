-- What a call that followed its plan answered, where the contents of the files that it read are told.
use Rattle.std.proofs.Common.{refl, sym, ap, subst, ◌∙◌}
use Rattle.std.specs.Prelude.{◌≡◌, ◌≢◌, ◌⊎◌, ℕ, List, Some, Result, Ok, Err}
use Rattle.std.proofs.lemmas.Option.{same_Some}
use mathlib.Core.Logic.{inl, inr}
use Rattle.model_values.specs.Faults.{Rose}
use Rattle.model_program.specs.Ends.{Writing}
use Rattle.model_program.specs.Follows.{View}
use Rattle.model_program.specs.Line.{refusal_status}
use Rattle.model_program.specs.Plan.{word_at}
use Rattle.model_program.specs.declared.refusal.Refusal.{Refusal}
use Rattle.model_program.specs.declared.refusal.Refusal.TheVariants as shared
use Rattle.model_program.proofs.AnswerLaws.{told-seen}
use Rattle.model_site.specs.Call.{Writes, Begins}
use Rattle.model_site.specs.Ends.{Ends, Settles, MeetsFault, NoFault}
use Rattle.model_site.specs.Follows.{Fails, Allows, Follows}
use Rattle.model_site.specs.Line.{site_refusal_status, status_of}
use Rattle.model_site.specs.Plan.{Answer, Plan, Says, Reads, Comes, told_answer}
use Rattle.model_site.specs.declared.site_refusal.SiteRefusal.{SiteRefusal}
use Rattle.model_site.specs.declared.site_refusal.SiteRefusal.TheVariants.{Shared, NotLocal, FileTooLarge, UpdatesFull}
use Rattle.model_site.specs.declared.site_failure.SiteFailure.{SiteFailure}
use Rattle.model_site.specs.declared.site_failure.SiteFailure.TheVariants.{Refused, ReadFault, Memory}

settles-says : (words : List (List ℕ)) (v : View) (answer a : Answer) (r : Result (List ℕ) SiteFailure) → Allows answer r → answer ≡ a → Settles words v (Says answer) a r
settles-says words v answer a (Ok bytes) h e = sym e ∙ h
settles-says words v answer a (Err (Refused x)) h e = sym e ∙ h
settles-says words v answer a (Err (ReadFault f)) h e = absurd h
settles-says words v answer a (Err Memory) h e = tt

settles-fails : (words : List (List ℕ)) (v : View) (f : ℕ) (next : List ℕ → Plan) (a : Answer) (r : Result (List ℕ) SiteFailure) → Fails words v f r → Settles words v (Reads f next) a r
unfolding Comes
settles-fails words v f next a (Ok bytes) h = absurd h
settles-fails words v f next a (Err (Refused x)) h = absurd h
settles-fails words v f next a (Err (ReadFault e)) h = (inl h.0, subst (λ (n : ℕ). Rose (v.before (word_at words n)) (v.after (word_at words n))) (sym h.0) h.2)
settles-fails words v f next a (Err Memory) h = tt

-- what settles the rest of a plan settles the whole
settles-rest : (words : List (List ℕ)) (v : View) (f : ℕ) (next : List ℕ → Plan) (bytes : List ℕ) (a : Answer) (r : Result (List ℕ) SiteFailure)
    → v.content (word_at words f) ≡ Some bytes → Settles words v (next bytes) a r → Settles words v (Reads f next) a r
unfolding Comes
settles-rest words v f next bytes a (Ok written) told h = h
settles-rest words v f next bytes a (Err (Refused x)) told h = h
settles-rest words v f next bytes a (Err (ReadFault e)) told h = (inr (bytes, told, h.0), h.1)
settles-rest words v f next bytes a (Err Memory) told h = tt

-- where the plan comes to an answer over what is told, the result is that answer, want of memory, or a fault of a file to which the plan comes
pub follows-told : (words : List (List ℕ)) (v : View) (p : Plan) (r : Result (List ℕ) SiteFailure) (a : Answer) → Follows words v p r → told_answer v.content words p ≡ Some a → Settles words v p a r
unfolding Follows told_answer
follows-told words v (Says answer) r a h e = settles-says words v answer a r h (same_Some answer a e)
follows-told words v (Reads f next) r a (inl fails) e = settles-fails words v f next a r fails
follows-told words v (Reads f next) r a (inr (bytes, sees, rest)) e =
    let seen = told-seen (λ read. told_answer v.content words (next read)) (v.content (word_at words f)) bytes a sees e in
    settles-rest words v f next bytes a r seen.0 (follows-told words v (next bytes) r a rest seen.1)

pub err-same : {A : Type 0} (x y : SiteRefusal) → ◌≡◌ {A = Result A SiteRefusal} (Err x) (Err y) → x ≡ y
err-same x y e = cc

bytes-same : (x y : List ℕ) → ◌≡◌ {A = Answer} (Ok x) (Ok y) → x ≡ y
bytes-same x y e = cc

-- a refusal that the contents decide: its status, or that of want of memory or of a fault
pub refused-ends : (words : List (List ℕ)) (v : View) (p : Plan) (x : SiteRefusal) (answer : Result (List ℕ) SiteFailure) (out err : Writing) (status : ℕ)
    → Settles words v p (Err x) answer → Ends words answer out err status
    → (status ≡ status_of (Refused x)) ⊎ ((status ≡ 7) ⊎ ((status ≡ 4) × MeetsFault words v p))
unfolding Ends
refused-ends words v p x (Ok bytes) out err status settles ends = absurd cc
refused-ends words v p x (Err (Refused e)) out err status settles ends = inl (ends.0 ∙ ap (λ (y : SiteRefusal). status_of (Refused y)) (sym (err-same x e settles)))
refused-ends words v p x (Err (ReadFault f)) out err status settles ends = inr (inr (ends.0, (f, settles.0, settles.1)))
refused-ends words v p x (Err Memory) out err status settles ends = inr (inl ends.0)

-- bytes that the contents decide: written whole or begun, or memory was wanting, or a read failed
pub written-ends : (words : List (List ℕ)) (v : View) (p : Plan) (bytes : List ℕ) (answer : Result (List ℕ) SiteFailure) (out err : Writing) (status : ℕ)
    → Settles words v p (Ok bytes) answer → Ends words answer out err status
    → ((status ≡ 0) × Writes out bytes) ⊎ (((status ≡ 5) × Begins out bytes) ⊎ ((status ≡ 7) ⊎ ((status ≡ 4) × MeetsFault words v p)))
unfolding Ends
written-ends words v p bytes (Ok done) out err status settles (inl (zero_is, appends, same)) =
    inl (zero_is, subst (λ (b : List ℕ). Writes out b) (sym (bytes-same bytes done settles)) appends)
written-ends words v p bytes (Ok done) out err status settles (inr (five, some, rose, part, line)) =
    inr (inl (five, subst (λ (b : List ℕ). Begins out b) (sym (bytes-same bytes done settles)) (some, rose, part)))
written-ends words v p bytes (Err (Refused e)) out err status settles ends = absurd cc
written-ends words v p bytes (Err (ReadFault f)) out err status settles ends = inr (inr (inr (ends.0, (f, settles.0, settles.1))))
written-ends words v p bytes (Err Memory) out err status settles ends = inr (inr (inl ends.0))

-- bytes that the contents decide: written whole with status 0, or memory was wanting, where nothing failed
pub complete-ends : (words : List (List ℕ)) (v : View) (p : Plan) (bytes : List ℕ) (answer : Result (List ℕ) SiteFailure) (out err : Writing) (status : ℕ)
    → NoFault words v p → ¬ Rose out.faults_before out.faults_after → Settles words v p (Ok bytes) answer → Ends words answer out err status
    → ((status ≡ 0) × Writes out bytes) ⊎ (status ≡ 7)
unfolding Ends
complete-ends words v p bytes (Ok done) out err status quiet sound settles (inl (zero_is, appends, same)) =
    inl (zero_is, subst (λ (b : List ℕ). Writes out b) (sym (bytes-same bytes done settles)) appends)
complete-ends words v p bytes (Ok done) out err status quiet sound settles (inr (five, some, rose, part, line)) = absurd (sound rose)
complete-ends words v p bytes (Err (Refused e)) out err status quiet sound settles ends = absurd cc
complete-ends words v p bytes (Err (ReadFault f)) out err status quiet sound settles ends = absurd (quiet f settles.0 settles.1)
complete-ends words v p bytes (Err Memory) out err status quiet sound settles ends = inr ends.0

-- no refusal has status 0
no-shared : (e : Refusal) → 0 ≡ refusal_status e → ⊥
no-shared shared.Usage h = absurd cc
no-shared (shared.TooLong f) h = absurd cc
no-shared (shared.Graph number why) h = absurd cc
no-shared (shared.Script number why) h = absurd cc
no-shared (shared.NotDots number) h = absurd cc
no-shared (shared.NotLive number) h = absurd cc
no-shared (shared.TooLarge number node name) h = absurd cc
no-shared (shared.NetworkFull number) h = absurd cc
no-shared (shared.NotReached number) h = absurd cc
no-shared (shared.State f place why) h = absurd cc

no-refusal : (e : SiteRefusal) → 0 ≡ site_refusal_status e → ⊥
no-refusal (Shared e) h = no-shared e h
no-refusal (NotLocal number) h = absurd cc
no-refusal (FileTooLarge f node name) h = absurd cc
no-refusal (UpdatesFull number node) h = absurd cc

-- with status 0 the answer is bytes, which were written whole
pub done-ends : (words : List (List ℕ)) (answer : Result (List ℕ) SiteFailure) (out err : Writing) (status : ℕ) → status ≡ 0 → Ends words answer out err status → (bytes : List ℕ) × (answer ≡ Ok bytes) × Writes out bytes
unfolding Ends
done-ends words (Ok bytes) out err status done (inl (zero_is, appends, same)) = (bytes, refl, appends)
done-ends words (Ok bytes) out err status done (inr (five, some, rose, part, line)) = absurd cc
done-ends words (Err (Refused e)) out err status done ends = absurd (no-refusal e (sym done ∙ ends.0))
done-ends words (Err (ReadFault f)) out err status done ends = absurd cc
done-ends words (Err Memory) out err status done ends = absurd cc

-- with another status than 0 and 5 nothing was written
pub quiet-ends : (words : List (List ℕ)) (answer : Result (List ℕ) SiteFailure) (out err : Writing) (status : ℕ) → status ≢ 0 → status ≢ 5 → Ends words answer out err status → out.after ≡ out.before
unfolding Ends
quiet-ends words (Ok bytes) out err status not_done not_fault (inl (done, appends, same)) = absurd (not_done done)
quiet-ends words (Ok bytes) out err status not_done not_fault (inr (fault, some, rose, part, line)) = absurd (not_fault fault)
quiet-ends words (Err failure) out err status not_done not_fault ends = ends.1
