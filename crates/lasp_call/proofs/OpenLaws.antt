-- How a file is opened: it is read, and then its bytes are read as something.
use Rattle.std.proofs.Common.{refl, sym, ap, subst, ◌∙◌}
use Rattle.std.specs.Prelude.{◌≡◌, ◌<◌, ◌≤◌, ℕ, List, length, Result, Ok, Err, if◌then◌else◌, Bool}
use Rattle.std.proofs.lemmas.Bool.{le-ltb, lt-ltb}
use Rattle.model_graph.specs.Chain.{◌>>=◌}
use Rattle.model_values.specs.Told.{Sees}
use Rattle.model_program.specs.Follows.{View, Gives}
use Rattle.model_program.specs.Plan.{within, file_limit, word_at}
use Rattle.model_program.specs.declared.refusal.Refusal.{Refusal}
use Rattle.model_program.specs.declared.refusal.Refusal.TheVariants.{TooLong}
use Rattle.model_program.specs.declared.failure.Failure.{Failure}
use Rattle.model_program.specs.declared.failure.Failure.TheVariants.{Refused, ReadFault, Memory}
use Rattle.lasp_call.specs.Opens.{Opens}

abbrev pub as_it_is : List ℕ → Result (List ℕ) Refusal
as_it_is bytes = Ok bytes

abbrev choice : ℕ → List ℕ → Bool → Result (List ℕ) Refusal
choice f bytes long = (if long then Err (TooLong f) else Ok bytes) >>= as_it_is

-- ---- a file that is read

pub read-whole : (f : ℕ) (bytes : List ℕ) → length bytes ≤ file_limit → (within f bytes >>= as_it_is) ≡ Ok bytes
read-whole f bytes short = ap (λ (long : Bool). choice f bytes long) (le-ltb file_limit (length bytes) short)

pub read-long : (f : ℕ) (bytes : List ℕ) → file_limit < length bytes → (within f bytes >>= as_it_is) ≡ Err (TooLong f)
read-long f bytes long = ap (λ (long : Bool). choice f bytes long) (lt-ltb file_limit (length bytes) long)

-- ---- and then read as something

then-read : {B : Type 0} (read : Result (List ℕ) Refusal) (reader : List ℕ → Result B Refusal) (bytes : List ℕ) → (read >>= as_it_is) ≡ Ok bytes → (read >>= reader) ≡ reader bytes
then-read (Ok told) reader bytes e = let same : told ≡ bytes = cc in ap reader same
then-read (Err x) reader bytes e = absurd cc

then-refused : {B : Type 0} (read : Result (List ℕ) Refusal) (reader : List ℕ → Result B Refusal) (e : Refusal) → (read >>= as_it_is) ≡ Err e → (read >>= reader) ≡ Err e
then-refused (Ok told) reader e h = absurd cc
then-refused (Err x) reader e h = let same : x ≡ e = cc in ap (λ (r : Refusal). Err r) same

-- the bytes were read, and the call gives what a reader gives of them
pub opens-then : {A B : Type 0} (shown : A → B) (words : List (List ℕ)) (v : View) (f : ℕ) (bytes : List ℕ) (reader : List ℕ → Result B Refusal) (result : Result A Failure)
    → ((told : List ℕ) × Sees (v.content (word_at words f)) told × ((within f told >>= as_it_is) ≡ Ok bytes)) → Gives shown (reader bytes) result → Opens shown words v f reader result
opens-then shown words v f bytes reader (Ok a) (told, sees, is) gives = (told, sees, then-read (within f told) reader bytes is ∙ gives)
opens-then shown words v f bytes reader (Err (Refused e)) (told, sees, is) gives = (told, sees, then-read (within f told) reader bytes is ∙ gives)
opens-then shown words v f bytes reader (Err (ReadFault e)) read gives = absurd gives
opens-then shown words v f bytes reader (Err Memory) read gives = tt

-- no bytes were read
pub opens-failed : {A R B : Type 0} (told : R → List ℕ) (shown : A → B) (words : List (List ℕ)) (v : View) (f : ℕ) (reader : List ℕ → Result B Refusal) (failure : Failure)
    → Opens told words v f as_it_is (Err failure) → Opens shown words v f reader (Err failure)
opens-failed told shown words v f reader (Refused e) (bytes, sees, is) = (bytes, sees, then-refused (within f bytes) reader e is)
opens-failed told shown words v f reader (ReadFault e) h = h
opens-failed told shown words v f reader Memory h = tt
