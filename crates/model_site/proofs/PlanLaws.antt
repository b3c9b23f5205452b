-- Laws of plans: calls that did parts of a plan, one after the other, followed the whole.
use Rattle.std.proofs.Common.{refl, sym, ap, subst}
use Rattle.std.specs.Prelude.{◌≡◌, ◌<◌, ◌≤◌, ℕ, List, length, Result, Ok, Err, if◌then◌else◌, Bool}
use mathlib.Core.Logic.{inl, inr}
use Rattle.std.proofs.lemmas.Bool.{le-ltb, lt-ltb}
use Rattle.model_graph.specs.Chain.{refusing}
use Rattle.model_values.specs.Faults.{Rose}
use Rattle.model_values.specs.Told.{Sees}
use Rattle.model_program.specs.Follows.{View, IsPartOf}
use Rattle.model_program.specs.Plan.{file_limit, word_at}
use Rattle.model_program.specs.declared.refusal.Refusal.TheVariants.{TooLong}
use Rattle.model_program.proofs.PlanLaws.{rose-wider, seen-in, part-itself}
use Rattle.model_site.specs.Follows.{Fails, Gives, Follows, Part, Passes, Stops, Performs}
use Rattle.model_site.specs.Plan.{Plan, Says, Reads, checked, given, within, reading}
use Rattle.model_site.specs.declared.site_refusal.SiteRefusal.{SiteRefusal}
use Rattle.model_site.specs.declared.site_refusal.SiteRefusal.TheVariants.{Shared}
use Rattle.model_site.specs.declared.site_failure.SiteFailure.{SiteFailure}
use Rattle.model_site.specs.declared.site_failure.SiteFailure.TheVariants.{Refused, ReadFault, Memory}

-- what a part of a call followed, the call followed
fails-wider : (words : List (List ℕ)) (v w : View) (f : ℕ) (r : Result (List ℕ) SiteFailure) → IsPartOf v w → Fails words v f r → Fails words w f r
fails-wider words v w f (Ok bytes) part h = h
fails-wider words v w f (Err (Refused e)) part h = h
fails-wider words v w f (Err (ReadFault e)) part h =
    (h.0, h.1, rose-wider (w.before (word_at words f)) (v.before (word_at words f)) (v.after (word_at words f)) (w.after (word_at words f)) (part.before (word_at words f)) (part.after (word_at words f)) h.2)
fails-wider words v w f (Err Memory) part h = tt

pub follows-wider : (words : List (List ℕ)) (v w : View) (p : Plan) (r : Result (List ℕ) SiteFailure) → IsPartOf v w → Follows words v p r → Follows words w p r
unfolding Follows
follows-wider words v w (Says answer) r part h = h
follows-wider words v w (Reads f next) r part (inl fails) = inl (fails-wider words v w f r part fails)
follows-wider words v w (Reads f next) r part (inr (bytes, sees, rest)) =
    inr (bytes, seen-in v w words f bytes part sees, follows-wider words v w (next bytes) r part rest)

-- a part was done by one call, and what comes after it by a later one, both within a third
pub follows-then : {B : Type 0} (words : List (List ℕ)) (u v w : View) (part : Part B) (b : B) (next : B → Plan) (r : Result (List ℕ) SiteFailure) → IsPartOf u w → IsPartOf v w
    → Passes words u part b → Follows words v (next b) r → Follows words w (part next) r
follows-then words u v w part b next r early late passes rest = passes w early next r (follows-wider words v w (next b) r late rest)

-- a part ended the call
pub follows-stop : {B : Type 0} (words : List (List ℕ)) (v : View) (part : Part B) (next : B → Plan) (failure : SiteFailure) → Stops words v part failure → Follows words v (part next) (Err failure)
follows-stop words v part next failure stops = stops v (part-itself v) next

-- ---- one file

-- memory may be wanting at any place
pub follows-memory : (words : List (List ℕ)) (v : View) (p : Plan) → Follows words v p (Err Memory)
unfolding Follows
follows-memory words v (Says answer) = tt
follows-memory words v (Reads f next) = inl tt

abbrev pub choice : ℕ → List ℕ → Bool → Result (List ℕ) SiteRefusal
choice f bytes long = if long then Err (Shared (TooLong f)) else Ok bytes

pub within-short : (f : ℕ) (bytes : List ℕ) → length bytes ≤ file_limit → within f bytes ≡ Ok bytes
within-short f bytes short = ap (λ (long : Bool). choice f bytes long) (le-ltb file_limit (length bytes) short)

pub within-long : (f : ℕ) (bytes : List ℕ) → file_limit < length bytes → within f bytes ≡ Err (Shared (TooLong f))
within-long f bytes long = ap (λ (long : Bool). choice f bytes long) (lt-ltb file_limit (length bytes) long)

-- a file was read
pub passes-read : (words : List (List ℕ)) (v : View) (f : ℕ) (bytes : List ℕ) → Sees (v.content (word_at words f)) bytes → length bytes ≤ file_limit → Passes words v (reading f) bytes
unfolding Follows
passes-read words v f bytes sees short w part next r h =
    inr (
      bytes,
      seen-in v w words f bytes part sees,
      subst (λ (read : Result (List ℕ) SiteRefusal). Follows words w (given read next) r) (sym (within-short f bytes short)) h,
    )

-- a file is too long
pub stops-too_long : (words : List (List ℕ)) (v : View) (f : ℕ) (bytes : List ℕ) → Sees (v.content (word_at words f)) bytes → file_limit < length bytes → Stops words v (reading f) (Refused (Shared (TooLong f)))
unfolding Follows
stops-too_long words v f bytes sees long w part next =
    inr (
      bytes,
      seen-in v w words f bytes part sees,
      subst (λ (read : Result (List ℕ) SiteRefusal). Follows words w (given read next) (Err (Refused (Shared (TooLong f))))) (sym (within-long f bytes long)) refl,
    )

-- a read failed
pub stops-fault : (words : List (List ℕ)) (v : View) (f : ℕ) → f < length words → Rose (v.before (word_at words f)) (v.after (word_at words f)) → Stops words v (reading f) (ReadFault f)
unfolding Follows
stops-fault words v f named rose w part next =
    inl (refl, named, rose-wider (w.before (word_at words f)) (v.before (word_at words f)) (v.after (word_at words f)) (w.after (word_at words f)) (part.before (word_at words f)) (part.after (word_at words f)) rose)

-- memory may be wanting in any part
pub stops-memory : {B : Type 0} (words : List (List ℕ)) (v : View) (part : Part B) → Stops words v part Memory
stops-memory words v part w within next = follows-memory words w (part next)

-- ---- what is answered

-- the end of a plan
pub follows-says : (words : List (List ℕ)) (v : View) (answer : Result (List ℕ) SiteRefusal) (r : Result (List ℕ) SiteFailure) → Gives (λ (t : List ℕ). t) answer r → Follows words v (Says answer) r
unfolding Follows
follows-says words v answer r h = h

-- after a read, the bytes are read as something
pub passes-given : {B : Type 0} (words : List (List ℕ)) (v : View) (f : ℕ) (bytes : List ℕ) (reader : List ℕ → Result B SiteRefusal) (b : B)
    → Passes words v (reading f) bytes → reader bytes ≡ Ok b → Passes words v (λ (next : B → Plan). reading f (λ read. given (reader read) next)) b
passes-given {B} words v f bytes reader b passes e w part next r h =
    passes w part (λ read. given (reader read) next) r (subst (λ (read : Result B SiteRefusal). Follows words w (given read next) r) (sym e) h)

pub stops-given : {B : Type 0} (words : List (List ℕ)) (v : View) (f : ℕ) (bytes : List ℕ) (reader : List ℕ → Result B SiteRefusal) (e : SiteRefusal)
    → Passes words v (reading f) bytes → reader bytes ≡ Err e → Stops words v (λ (next : B → Plan). reading f (λ read. given (reader read) next)) (Refused e)
stops-given {B} words v f bytes reader e passes is w part next =
    passes w part (λ read. given (reader read) next) (Err (Refused e))
    (subst (λ (read : Result B SiteRefusal). Follows words w (given read next) (Err (Refused e))) (sym is) (follows-says words w (Err e) (Err (Refused e)) refl))

pub performs-given : {A B : Type 0} (shown : A → B) (words : List (List ℕ)) (v : View) (f : ℕ) (bytes : List ℕ) (reader : List ℕ → Result B SiteRefusal) (result : Result A SiteFailure)
    → Passes words v (reading f) bytes → Gives shown (reader bytes) result → Performs shown words v (λ (next : B → Plan). reading f (λ read. given (reader read) next)) result
performs-given shown words v f bytes reader (Ok a) passes gives = passes-given words v f bytes reader (shown a) passes gives
performs-given shown words v f bytes reader (Err (Refused e)) passes gives = stops-given words v f bytes reader e passes gives
performs-given shown words v f bytes reader (Err (ReadFault e)) passes gives = absurd gives
performs-given shown words v f bytes reader (Err Memory) passes gives = stops-memory words v (λ (next : _ → Plan). reading f (λ read. given (reader read) next))

-- after a read, the bytes are read as something, a refusal of which is said otherwise
checked-given : {B E : Type 0} (refuse : E → SiteRefusal) (read : Result B E) (next : B → Plan) → checked refuse read next ≡ given (refusing refuse read) next
checked-given refuse (Ok x) next = refl
checked-given refuse (Err e) next = refl

pub passes-checked : {B E : Type 0} (words : List (List ℕ)) (v : View) (f : ℕ) (bytes : List ℕ) (refuse : E → SiteRefusal) (reader : List ℕ → Result B E) (b : B)
    → Passes words v (reading f) bytes → refusing refuse (reader bytes) ≡ Ok b → Passes words v (λ (next : B → Plan). reading f (λ read. checked refuse (reader read) next)) b
passes-checked {B} words v f bytes refuse reader b passes e w part next r h =
    passes w part (λ read. checked refuse (reader read) next) r
    (subst (λ (p : Plan). Follows words w p r) (sym (checked-given refuse (reader bytes) next)) (subst (λ (read : Result B SiteRefusal). Follows words w (given read next) r) (sym e) h))

pub stops-checked : {B E : Type 0} (words : List (List ℕ)) (v : View) (f : ℕ) (bytes : List ℕ) (refuse : E → SiteRefusal) (reader : List ℕ → Result B E) (e : SiteRefusal)
    → Passes words v (reading f) bytes → refusing refuse (reader bytes) ≡ Err e → Stops words v (λ (next : B → Plan). reading f (λ read. checked refuse (reader read) next)) (Refused e)
stops-checked {B} words v f bytes refuse reader e passes is w part next =
    passes w part (λ read. checked refuse (reader read) next) (Err (Refused e))
    (subst (λ (p : Plan). Follows words w p (Err (Refused e))) (sym (checked-given refuse (reader bytes) next))
    (subst (λ (read : Result B SiteRefusal). Follows words w (given read next) (Err (Refused e))) (sym is) (follows-says words w (Err e) (Err (Refused e)) refl)))

pub performs-checked : {A B E : Type 0} (shown : A → B) (words : List (List ℕ)) (v : View) (f : ℕ) (bytes : List ℕ) (refuse : E → SiteRefusal) (reader : List ℕ → Result B E) (result : Result A SiteFailure)
    → Passes words v (reading f) bytes → Gives shown (refusing refuse (reader bytes)) result → Performs shown words v (λ (next : B → Plan). reading f (λ read. checked refuse (reader read) next)) result
performs-checked shown words v f bytes refuse reader (Ok a) passes gives = passes-checked words v f bytes refuse reader (shown a) passes gives
performs-checked shown words v f bytes refuse reader (Err (Refused e)) passes gives = stops-checked words v f bytes refuse reader e passes gives
performs-checked shown words v f bytes refuse reader (Err (ReadFault e)) passes gives = absurd gives
performs-checked shown words v f bytes refuse reader (Err Memory) passes gives = stops-memory words v (λ (next : _ → Plan). reading f (λ read. checked refuse (reader read) next))
