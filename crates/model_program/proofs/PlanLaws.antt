-- Laws of plans: calls that did parts of a plan, one after the other, followed the whole.
use Rattle.std.proofs.Common.{refl, sym, ap, subst, arith, ◌∙◌}
use Rattle.std.specs.Prelude.{◌≡◌, ◌<◌, ◌≤◌, ℕ, List, length, Option, Result, Ok, Err, if◌then◌else◌, Bool}
use mathlib.Core.Logic.{inl, inr}
use Rattle.std.proofs.lemmas.Bool.{le-ltb, lt-ltb}
use Rattle.model_graph.specs.Chain.{refusing}
use Rattle.model_values.specs.Faults.{Rose}
use Rattle.model_values.specs.Told.{Sees}
use Rattle.model_program.specs.Plan.{Plan, Says, exactly, Reads, checked, within, reading, file_limit, word_at}
use Rattle.model_program.specs.Follows.{View, Fails, Allows, Gives, Follows, IsPartOf, Passes, Stops, Performs}
use Rattle.model_program.specs.declared.refusal.Refusal.{Refusal}
use Rattle.model_program.specs.declared.refusal.Refusal.TheVariants.{TooLong}
use Rattle.model_program.specs.declared.failure.Failure.{Failure}
use Rattle.model_program.specs.declared.failure.Failure.TheVariants.{Refused, ReadFault, Memory}

-- ---- calls that are parts of one

-- a call is a part of itself
pub part-itself : (v : View) → IsPartOf v v
part-itself v = record { content = λ n. refl; before = λ n. omega arith; after = λ n. omega arith }

-- a part of a part is a part of the whole
pub part-of-part : (u v w : View) → IsPartOf u v → IsPartOf v w → IsPartOf u w
part-of-part u v w h k = record {
  content = λ name. h.content name ∙ k.content name;
  before = λ name. omega (arith, h.before name, k.before name);
  after = λ name. omega (arith, h.after name, k.after name);
}

-- memory may be wanting at any place
pub follows-memory : (words : List (List ℕ)) (v : View) (p : Plan) → Follows words v p (Err Memory)
unfolding Follows
follows-memory words v (Says answer) = tt
follows-memory words v (Reads f next) = inl tt

pub rose-wider : (a b c d : ℕ) → a ≤ b → c ≤ d → Rose b c → Rose a d
rose-wider a b c d h k rose = omega (arith, h, k, rose)

fails-wider : (words : List (List ℕ)) (v w : View) (f : ℕ) (r : Result (List ℕ) Failure) → IsPartOf v w → Fails words v f r → Fails words w f r
fails-wider words v w f (Ok text) part h = h
fails-wider words v w f (Err (Refused e)) part h = h
fails-wider words v w f (Err (ReadFault e)) part h =
    (h.0, h.1, rose-wider (w.before (word_at words f)) (v.before (word_at words f)) (v.after (word_at words f)) (w.after (word_at words f)) (part.before (word_at words f)) (part.after (word_at words f)) h.2)
fails-wider words v w f (Err Memory) part h = tt

-- what a part of a call saw, the call saw
pub seen-in : (v w : View) (words : List (List ℕ)) (f : ℕ) (bytes : List ℕ) → IsPartOf v w → Sees (v.content (word_at words f)) bytes → Sees (w.content (word_at words f)) bytes
seen-in v w words f bytes part sees = subst (λ (told : Option (List ℕ)). Sees told bytes) (part.content (word_at words f)) sees

-- what a part of a call followed, the call followed
pub follows-wider : (words : List (List ℕ)) (v w : View) (p : Plan) (r : Result (List ℕ) Failure) → IsPartOf v w → Follows words v p r → Follows words w p r
unfolding Follows
follows-wider words v w (Says answer) r part h = h
follows-wider words v w (Reads f next) r part (inl fails) = inl (fails-wider words v w f r part fails)
follows-wider words v w (Reads f next) r part (inr (bytes, sees, rest)) =
    inr (bytes, seen-in v w words f bytes part sees, follows-wider words v w (next bytes) r part rest)

abbrev pub choice : ℕ → List ℕ → Bool → Result (List ℕ) Refusal
choice f bytes long = if long then Err (TooLong f) else Ok bytes

within-short : (f : ℕ) (bytes : List ℕ) → length bytes ≤ file_limit → within f bytes ≡ Ok bytes
within-short f bytes short = ap (λ (long : Bool). choice f bytes long) (le-ltb file_limit (length bytes) short)

within-long : (f : ℕ) (bytes : List ℕ) → file_limit < length bytes → within f bytes ≡ Err (TooLong f)
within-long f bytes long = ap (λ (long : Bool). choice f bytes long) (lt-ltb file_limit (length bytes) long)

-- a file was read
pub passes-read : (words : List (List ℕ)) (v : View) (f : ℕ) (bytes : List ℕ) → Sees (v.content (word_at words f)) bytes → length bytes ≤ file_limit → Passes words v (reading f) bytes
unfolding Follows
passes-read words v f bytes sees short w part next r h =
    inr (
      bytes,
      seen-in v w words f bytes part sees,
      subst (λ (read : Result (List ℕ) Refusal). Follows words w (checked (λ e. e) read next) r) (sym (within-short f bytes short)) h,
    )

-- a file is too long
pub stops-too_long : (words : List (List ℕ)) (v : View) (f : ℕ) (bytes : List ℕ) → Sees (v.content (word_at words f)) bytes → file_limit < length bytes → Stops words v (reading f) (Refused (TooLong f))
unfolding Follows
stops-too_long words v f bytes sees long w part next =
    inr (
      bytes,
      seen-in v w words f bytes part sees,
      subst (λ (read : Result (List ℕ) Refusal). Follows words w (checked (λ e. e) read next) (Err (Refused (TooLong f)))) (sym (within-long f bytes long)) refl,
    )

-- a read failed
pub stops-fault : (words : List (List ℕ)) (v : View) (f : ℕ) → f < length words → Rose (v.before (word_at words f)) (v.after (word_at words f)) → Stops words v (reading f) (ReadFault f)
unfolding Follows
stops-fault words v f named rose w part next = inl (fails-wider words v w f (Err (ReadFault f)) part (refl, named, rose))

pub checked-ok : {B E : Type 0} (refuse : E → Refusal) (read : Result B E) (b : B) (next : B → Plan) → refusing refuse read ≡ Ok b → checked refuse read next ≡ next b
checked-ok refuse (Ok x) b next e = ap (λ (r : Result _ Refusal). checked (λ e. e) r next) e
checked-ok refuse (Err x) b next e = absurd cc

pub checked-err : {B E : Type 0} (refuse : E → Refusal) (read : Result B E) (e : Refusal) (next : B → Plan) → refusing refuse read ≡ Err e → checked refuse read next ≡ Says (Err e)
checked-err refuse (Ok x) e next h = absurd cc
checked-err refuse (Err x) e next h = ap (λ (r : Result _ Refusal). checked (λ e. e) r next) h

pub says-err : (words : List (List ℕ)) (w : View) (e : Refusal) → Follows words w (Says (Err e)) (Err (Refused e))
unfolding Follows
says-err words w e = refl

-- after a read, the bytes are read as something: the call gives what a reader of bytes gives
pub performs-checked : {A B E : Type 0} (shown : A → B) (words : List (List ℕ)) (v : View) (f : ℕ) (bytes : List ℕ) (refuse : E → Refusal) (reader : List ℕ → Result B E) (result : Result A Failure)
    → Passes words v (reading f) bytes → Gives shown (refusing refuse (reader bytes)) result
    → Performs shown words v (λ (next : B → Plan). reading f (λ read. checked refuse (reader read) next)) result
performs-checked shown words v f bytes refuse reader (Ok a) passes gives = λ w part next r h.
    passes w part (λ read. checked refuse (reader read) next) r (subst (λ (p : Plan). Follows words w p r) (sym (checked-ok refuse (reader bytes) (shown a) next gives)) h)
performs-checked shown words v f bytes refuse reader (Err (Refused e)) passes gives = λ w part next.
    passes w part (λ read. checked refuse (reader read) next) (Err (Refused e)) (subst (λ (p : Plan). Follows words w p (Err (Refused e))) (sym (checked-err refuse (reader bytes) e next gives)) (says-err words w e))
performs-checked shown words v f bytes refuse reader (Err (ReadFault e)) passes gives = absurd gives
performs-checked shown words v f bytes refuse reader (Err Memory) passes gives = λ w part next. follows-memory words w (reading f (λ read. checked refuse (reader read) next))

-- where one text alone is lawful, a result is allowed exactly where it is what a function gives
pub gives-allows : (answer : Result (List ℕ) Refusal) (r : Result (List ℕ) Failure) → Gives (λ (t : List ℕ). t) answer r → Allows (exactly answer) r
gives-allows (Ok text) (Ok bytes) h = let same : bytes ≡ text = cc in same
gives-allows (Err e) (Ok bytes) h = absurd cc
gives-allows answer (Err (Refused e)) h = ap exactly h
gives-allows answer (Err (ReadFault f)) h = h
gives-allows answer (Err Memory) h = tt

-- the end of a plan
pub follows-says : (words : List (List ℕ)) (v : View) (answer : Result (List ℕ) Refusal) (r : Result (List ℕ) Failure) → Gives (λ (t : List ℕ). t) answer r → Follows words v (Says (exactly answer)) r
unfolding Follows
follows-says words v answer r h = gives-allows answer r h
