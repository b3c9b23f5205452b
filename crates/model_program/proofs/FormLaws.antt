-- Which words are of which form.
use Rattle.std.proofs.Common.{refl, sym, ap, subst, ◌∙◌, arith}
use Rattle.std.specs.Prelude.{◌≡◌, ◌≢◌, ◌↔◌, ℕ, ◌<◌, ◌≤◌, ◌&&◌, ◌==◌, List, [], ◌∷◌, length, codes, Bool, true, false, if◌then◌else◌, nat_lt, Option, Some, None}
use Rattle.std.specs.Fmt.{decimal}
use Rattle.std.specs.Str.{bytes_eq}
use Rattle.std.proofs.lemmas.Bool.{ltb-true, lt-ltb, and_parts, and_right, and_from}
use Rattle.std.proofs.lemmas.Bool.Decides.{Decides-eqb}
use Rattle.std.proofs.lemmas.Slice.Eq.{bytes_eq-Decides}
use Rattle.model_program.specs.Plan.{word_at}
use Rattle.model_program.specs.Program.{node_word, export_form, workers_word, with_workers, number_in, load_form, threaded_form, form}
use Rattle.model_program.proofs.NumberLaws.{number-decimal, number-spelled}
use Rattle.model_program.specs.Listed.{AreWorkers, IsListed, plain, delta, check, dots, export, merge, run, trace, live, load}
use Rattle.model_program.specs.declared.form.Form.{Form}
use Rattle.model_program.specs.declared.form.Form.TheVariants.{Plain, Delta, Check, Dots, Export, Merge, Threaded, Wrong}
use Rattle.model_program.specs.declared.threaded.Threaded as threads
use Rattle.model_program.specs.declared.threaded.Threaded.TheVariants.{Run, Trace, Live, Load}

-- ---- a node's number

node-decimal : (node : ℕ) → node < 8 → node_word (decimal node) ≡ Some node
node-decimal node few = number-decimal 0 7 node (omega (arith, few)) (omega arith) (omega (arith, few))

-- the word is a node's number in digits
record IsNodeWord (word : List ℕ) (node : ℕ) : Type 0 where
  few : node < 8
  is : word ≡ decimal node

word-node : (word : List ℕ) (node : ℕ) → node_word word ≡ Some node → IsNodeWord word node
word-node word node e = let found = number-spelled word 0 7 node e in record { few = omega (arith, found.high); is = found.is }

-- ---- a number of workers

workers-decimal : (workers : ℕ) → AreWorkers workers → workers_word (decimal workers) ≡ Some workers
workers-decimal workers are = number-decimal 1 16 workers (omega (arith, are.1)) are.0 are.1

-- the word is a number of workers in digits
record IsWorkersWord (word : List ℕ) (workers : ℕ) : Type 0 where
  are : AreWorkers workers
  is : word ≡ decimal workers

word-workers : (word : List ℕ) (workers : ℕ) → workers_word word ≡ Some workers → IsWorkersWord word workers
word-workers word workers e = let found = number-spelled word 1 16 workers e in record { are = (found.low, found.high); is = found.is }

-- ---- forms by their words

word-true : (word text : List ℕ) → bytes_eq word text ≡ true → word ≡ text
word-true word text h = (bytes_eq-Decides word text).0 h

-- the tests of the forms, one after the other
abbrev chosen : Bool → Bool → Bool → Bool → Option ℕ → Bool → Form → Form
chosen a b e c node d rest = if a then Plain else if b then Check else if e then Dots else if c then export_form node else if d then Merge else rest

abbrev is_delta : List (List ℕ) → Bool
is_delta words = length words == 3 && bytes_eq (word_at words 0) (codes "delta")

-- the form of other words
abbrev rest_form : List (List ℕ) → Form
rest_form words = if length words == 4 then threaded_form words else if is_delta words then Delta else Wrong

abbrev is_plain : List (List ℕ) → Bool
is_plain words = length words == 3 && bytes_eq (word_at words 0) (codes "plain")

abbrev is_check : List (List ℕ) → Bool
is_check words = length words == 2 && bytes_eq (word_at words 0) (codes "check")

abbrev is_dots : List (List ℕ) → Bool
is_dots words = length words == 2 && bytes_eq (word_at words 0) (codes "dots")

abbrev is_export : List (List ℕ) → Bool
is_export words = length words == 4 && bytes_eq (word_at words 0) (codes "export")

abbrev is_merge : List (List ℕ) → Bool
is_merge words = nat_lt 2 (length words) && nat_lt (length words) 11 && bytes_eq (word_at words 0) (codes "merge")

form-chosen : (words : List (List ℕ)) → form words ≡ chosen (is_plain words) (is_check words) (is_dots words) (is_export words) (node_word (word_at words 3)) (is_merge words) (rest_form words)
unfolding form
form-chosen words = refl

plain-listed : (words : List (List ℕ)) → is_plain words ≡ true → IsListed words Plain
plain-listed [] h = absurd cc
plain-listed (a ∷ []) h = absurd cc
plain-listed (a ∷ b ∷ []) h = absurd cc
plain-listed (a ∷ b ∷ c ∷ []) h = subst (λ (w : List ℕ). IsListed (w ∷ b ∷ c ∷ []) Plain) (sym (word-true a (codes "plain") h)) plain
plain-listed (a ∷ b ∷ c ∷ d ∷ rest) h = absurd (omega (arith, (Decides-eqb (length (a ∷ b ∷ c ∷ d ∷ rest)) 3).0 (and_parts _ _ h).0))

delta-listed : (words : List (List ℕ)) → is_delta words ≡ true → IsListed words Delta
delta-listed [] h = absurd cc
delta-listed (a ∷ []) h = absurd cc
delta-listed (a ∷ b ∷ []) h = absurd cc
delta-listed (a ∷ b ∷ c ∷ []) h = subst (λ (w : List ℕ). IsListed (w ∷ b ∷ c ∷ []) Delta) (sym (word-true a (codes "delta") h)) delta
delta-listed (a ∷ b ∷ c ∷ d ∷ rest) h = absurd (omega (arith, (Decides-eqb (length (a ∷ b ∷ c ∷ d ∷ rest)) 3).0 (and_parts _ _ h).0))

check-listed : (words : List (List ℕ)) → is_check words ≡ true → IsListed words Check
check-listed [] h = absurd cc
check-listed (a ∷ []) h = absurd cc
check-listed (a ∷ b ∷ []) h = subst (λ (w : List ℕ). IsListed (w ∷ b ∷ []) Check) (sym (word-true a (codes "check") h)) check
check-listed (a ∷ b ∷ c ∷ rest) h = absurd (omega (arith, (Decides-eqb (length (a ∷ b ∷ c ∷ rest)) 2).0 (and_parts _ _ h).0))

dots-listed : (words : List (List ℕ)) → is_dots words ≡ true → IsListed words Dots
dots-listed [] h = absurd cc
dots-listed (a ∷ []) h = absurd cc
dots-listed (a ∷ b ∷ []) h = subst (λ (w : List ℕ). IsListed (w ∷ b ∷ []) Dots) (sym (word-true a (codes "dots") h)) dots
dots-listed (a ∷ b ∷ c ∷ rest) h = absurd (omega (arith, (Decides-eqb (length (a ∷ b ∷ c ∷ rest)) 2).0 (and_parts _ _ h).0))

export-word : (b c word : List ℕ) (node : ℕ) → IsNodeWord word node → IsListed (codes "export" ∷ b ∷ c ∷ word ∷ []) (Export node)
export-word b c word node h = subst (λ (w : List ℕ). IsListed (codes "export" ∷ b ∷ c ∷ w ∷ []) (Export node)) (sym h.is) (export h.few)

export-listed : (words : List (List ℕ)) (node : ℕ) → is_export words ≡ true → node_word (word_at words 3) ≡ Some node → IsListed words (Export node)
export-listed [] node h e = absurd cc
export-listed (a ∷ []) node h e = absurd cc
export-listed (a ∷ b ∷ []) node h e = absurd cc
export-listed (a ∷ b ∷ c ∷ []) node h e = absurd cc
export-listed (a ∷ b ∷ c ∷ d ∷ []) node h e = subst (λ (w : List ℕ). IsListed (w ∷ b ∷ c ∷ d ∷ []) (Export node)) (sym (word-true a (codes "export") h)) (export-word b c d node (word-node d node e))
export-listed (a ∷ b ∷ c ∷ d ∷ f ∷ rest) node h e = absurd (omega (arith, (Decides-eqb (length (a ∷ b ∷ c ∷ d ∷ f ∷ rest)) 4).0 (and_parts _ _ h).0))

merge-listed : (words : List (List ℕ)) → is_merge words ≡ true → IsListed words Merge
merge-listed [] h = absurd cc
merge-listed (a ∷ []) h = absurd cc
merge-listed (a ∷ b ∷ files) h =
    let parts = and_parts (nat_lt 2 (length (a ∷ b ∷ files)) && nat_lt (length (a ∷ b ∷ files)) 11) (bytes_eq a (codes "merge")) h in
    let many = and_parts (nat_lt 2 (length (a ∷ b ∷ files))) (nat_lt (length (a ∷ b ∷ files)) 11) parts.0 in
    let some = ltb-true 2 (length (a ∷ b ∷ files)) many.0 in
    let few = ltb-true (length (a ∷ b ∷ files)) 11 many.1 in
    subst (λ (w : List ℕ). IsListed (w ∷ b ∷ files) Merge) (sym (word-true a (codes "merge") parts.1)) (merge (omega (arith, some)) (omega (arith, few)))

-- the words are of no listed form, or of this one
data FormAnswer (words : List (List ℕ)) : Form → Type 0 where
  none : FormAnswer words Wrong
  listed : {f : Form} → IsListed words f → FormAnswer words f

-- ---- the forms for several threads

answer-workers : (words : List (List ℕ)) (make : ℕ → threads.Threaded) (word : List ℕ) (workers : Option ℕ) → workers_word word ≡ workers
    → ((n : ℕ) → IsWorkersWord word n → IsListed words (Threaded (make n))) → FormAnswer words (with_workers make workers)
answer-workers words make word None e is = none
answer-workers words make word (Some n) e is = listed (is n (word-workers word n e))

-- words of a form with a graph, a script and a number of workers
with-word : (form : List ℕ) (make : ℕ → threads.Threaded) (a b c d : List ℕ) (n : ℕ) → ((graph script : List ℕ) (workers : ℕ) → AreWorkers workers → IsListed (form ∷ graph ∷ script ∷ decimal workers ∷ []) (Threaded (make workers)))
    → a ≡ form → IsWorkersWord d n → IsListed (a ∷ b ∷ c ∷ d ∷ []) (Threaded (make n))
with-word form make a b c d n lists first last =
    subst (λ (w : List ℕ). IsListed (w ∷ b ∷ c ∷ d ∷ []) (Threaded (make n))) (sym first)
    (subst (λ (w : List ℕ). IsListed (form ∷ b ∷ c ∷ w ∷ []) (Threaded (make n))) (sym last.is) (lists b c n last.are))

load-word : (a b c d : List ℕ) (seed count n : ℕ) → a ≡ codes "load" → number_in b 0 2147483647 ≡ Some seed → number_in c 1 20000 ≡ Some count → IsWorkersWord d n → IsListed (a ∷ b ∷ c ∷ d ∷ []) (Threaded (Load seed count n))
load-word a b c d seed count n first seeded counted last =
    let seeds = number-spelled b 0 2147483647 seed seeded in
    let counts = number-spelled c 1 20000 count counted in
    subst (λ (w : List ℕ). IsListed (w ∷ b ∷ c ∷ d ∷ []) (Threaded (Load seed count n))) (sym first)
    (subst (λ (w : List ℕ). IsListed (codes "load" ∷ w ∷ c ∷ d ∷ []) (Threaded (Load seed count n))) (sym seeds.is)
    (subst (λ (w : List ℕ). IsListed (codes "load" ∷ decimal seed ∷ w ∷ d ∷ []) (Threaded (Load seed count n))) (sym counts.is)
    (subst (λ (w : List ℕ). IsListed (codes "load" ∷ decimal seed ∷ decimal count ∷ w ∷ []) (Threaded (Load seed count n))) (sym last.is) (load seeds.high counts.low counts.high last.are))))

answer-load : (a b c d : List ℕ) (seed count : Option ℕ) → a ≡ codes "load" → number_in b 0 2147483647 ≡ seed → number_in c 1 20000 ≡ count → FormAnswer (a ∷ b ∷ c ∷ d ∷ []) (load_form seed count (workers_word d))
answer-load a b c d None count first seeded counted = none
answer-load a b c d (Some seed) None first seeded counted = none
answer-load a b c d (Some seed) (Some count) first seeded counted =
    answer-workers (a ∷ b ∷ c ∷ d ∷ []) (Load seed count) d (workers_word d) refl (λ n last. load-word a b c d seed count n first seeded counted last)

-- the tests of the forms for several threads, one after the other
abbrev picked : Bool → Bool → Bool → Bool → List ℕ → List ℕ → List ℕ → Form
picked r t l o b c d =
    if r then with_workers Run (workers_word d) else if t then with_workers Trace (workers_word d) else if l then with_workers Live (workers_word d)
    else if o then load_form (number_in b 0 2147483647) (number_in c 1 20000) (workers_word d) else Wrong

answer-picked : (a b c d : List ℕ) (r t l o : Bool) → bytes_eq a (codes "run") ≡ r → bytes_eq a (codes "trace") ≡ t → bytes_eq a (codes "live") ≡ l → bytes_eq a (codes "load") ≡ o
    → FormAnswer (a ∷ b ∷ c ∷ d ∷ []) (picked r t l o b c d)
answer-picked a b c d true t l o e h k m = answer-workers (a ∷ b ∷ c ∷ d ∷ []) Run d (workers_word d) refl (λ n last. with-word (codes "run") Run a b c d n (λ graph script workers are. run are) (word-true a (codes "run") e) last)
answer-picked a b c d false true l o e h k m = answer-workers (a ∷ b ∷ c ∷ d ∷ []) Trace d (workers_word d) refl (λ n last. with-word (codes "trace") Trace a b c d n (λ graph script workers are. trace are) (word-true a (codes "trace") h) last)
answer-picked a b c d false false true o e h k m = answer-workers (a ∷ b ∷ c ∷ d ∷ []) Live d (workers_word d) refl (λ n last. with-word (codes "live") Live a b c d n (λ graph script workers are. live are) (word-true a (codes "live") k) last)
answer-picked a b c d false false false true e h k m = answer-load a b c d (number_in b 0 2147483647) (number_in c 1 20000) (word-true a (codes "load") m) refl refl
answer-picked a b c d false false false false e h k m = none

answer-threaded : (a b c d : List ℕ) → FormAnswer (a ∷ b ∷ c ∷ d ∷ []) (threaded_form (a ∷ b ∷ c ∷ d ∷ []))
unfolding threaded_form
answer-threaded a b c d = answer-picked a b c d (bytes_eq a (codes "run")) (bytes_eq a (codes "trace")) (bytes_eq a (codes "live")) (bytes_eq a (codes "load")) refl refl refl refl

answer-delta : (words : List (List ℕ)) (d : Bool) → is_delta words ≡ d → FormAnswer words (if d then Delta else Wrong)
answer-delta words true e = listed (delta-listed words e)
answer-delta words false e = none

answer-more : (words : List (List ℕ)) (four : Bool) → (length words == 4) ≡ four → 5 ≤ length words → FormAnswer words (if four then threaded_form words else if is_delta words then Delta else Wrong)
answer-more words true e many = absurd (omega (arith, (Decides-eqb (length words) 4).0 e, many))
answer-more words false e many = answer-delta words (is_delta words) refl

answer-rest : (words : List (List ℕ)) → FormAnswer words (rest_form words)
answer-rest [] = none
answer-rest (a ∷ []) = none
answer-rest (a ∷ b ∷ []) = none
answer-rest (a ∷ b ∷ c ∷ []) = answer-delta (a ∷ b ∷ c ∷ []) (is_delta (a ∷ b ∷ c ∷ [])) refl
answer-rest (a ∷ b ∷ c ∷ d ∷ []) = answer-threaded a b c d
answer-rest (a ∷ b ∷ c ∷ d ∷ f ∷ rest) = answer-more (a ∷ b ∷ c ∷ d ∷ f ∷ rest) (length (a ∷ b ∷ c ∷ d ∷ f ∷ rest) == 4) refl (omega arith)

-- ---- the other forms

answer-merge : (words : List (List ℕ)) (d : Bool) → is_merge words ≡ d → FormAnswer words (if d then Merge else rest_form words)
answer-merge words true e = listed (merge-listed words e)
answer-merge words false e = answer-rest words

answer-node : (words : List (List ℕ)) (node : Option ℕ) → is_export words ≡ true → node_word (word_at words 3) ≡ node → FormAnswer words (export_form node)
answer-node words None h e = none
answer-node words (Some node) h e = listed (export-listed words node h e)

answer-export : (words : List (List ℕ)) (c : Bool) → is_export words ≡ c → FormAnswer words (if c then export_form (node_word (word_at words 3)) else if is_merge words then Merge else rest_form words)
answer-export words true e = answer-node words (node_word (word_at words 3)) e refl
answer-export words false e = answer-merge words (is_merge words) refl

answer-dots : (words : List (List ℕ)) (e : Bool) → is_dots words ≡ e → FormAnswer words (if e then Dots else if is_export words then export_form (node_word (word_at words 3)) else if is_merge words then Merge else rest_form words)
answer-dots words true h = listed (dots-listed words h)
answer-dots words false h = answer-export words (is_export words) refl

answer-check : (words : List (List ℕ)) (b : Bool) → is_check words ≡ b → FormAnswer words (if b then Check else if is_dots words then Dots else if is_export words then export_form (node_word (word_at words 3)) else if is_merge words then Merge else rest_form words)
answer-check words true e = listed (check-listed words e)
answer-check words false e = answer-dots words (is_dots words) refl

answer-plain : (words : List (List ℕ)) (a : Bool) → is_plain words ≡ a → FormAnswer words (chosen a (is_check words) (is_dots words) (is_export words) (node_word (word_at words 3)) (is_merge words) (rest_form words))
answer-plain words true e = listed (plain-listed words e)
answer-plain words false e = answer-check words (is_check words) refl

form-answer : (words : List (List ℕ)) → FormAnswer words (form words)
form-answer words = subst (FormAnswer words) (sym (form-chosen words)) (answer-plain words (is_plain words) refl)

-- ---- words by their forms

merge-form : (graph : List ℕ) (files : List (List ℕ)) → 1 ≤ length files → length files ≤ 8 → form (codes "merge" ∷ graph ∷ files) ≡ Merge
merge-form graph files some few =
    let words : List (List ℕ) = codes "merge" ∷ graph ∷ files in
    form-chosen words
    ∙ ap (λ (a : Bool). chosen a (is_check words) (is_dots words) (is_export words) (node_word (word_at words 3)) (is_merge words) (rest_form words)) ((and_right (length words == 3) false refl))
    ∙ ap (λ (b : Bool). chosen false b (is_dots words) (is_export words) (node_word (word_at words 3)) (is_merge words) (rest_form words)) ((and_right (length words == 2) false refl))
    ∙ ap (λ (e : Bool). chosen false false e (is_export words) (node_word (word_at words 3)) (is_merge words) (rest_form words)) ((and_right (length words == 2) false refl))
    ∙ ap (λ (c : Bool). chosen false false false c (node_word (word_at words 3)) (is_merge words) (rest_form words)) ((and_right (length words == 4) false refl))
    ∙ ap (λ (d : Bool). chosen false false false false (node_word (word_at words 3)) (d && true) (rest_form words)) (and_from (nat_lt 2 (length words)) (nat_lt (length words) 11) (lt-ltb 2 (length words) (omega (arith, some))) (lt-ltb (length words) 11 (omega (arith, few))))

-- words of a listed form have this form
pub listed-form : (words : List (List ℕ)) (f : Form) → IsListed words f → form words ≡ f
unfolding form threaded_form
listed-form words f plain = refl
listed-form words f delta = refl
listed-form words f check = refl
listed-form words f dots = refl
listed-form words f (export {node = node} few) = ap export_form (node-decimal node few)
listed-form words f (merge {graph = graph} {files = files} some few) = merge-form graph files some few
listed-form words f (run {workers = workers} are) = ap (with_workers Run) (workers-decimal workers are)
listed-form words f (trace {workers = workers} are) = ap (with_workers Trace) (workers-decimal workers are)
listed-form words f (live {workers = workers} are) = ap (with_workers Live) (workers-decimal workers are)
listed-form words f (load {seed = seed} {count = count} {workers = workers} small some few are) =
    ap (λ (found : Option ℕ). load_form found (number_in (decimal count) 1 20000) (workers_word (decimal workers))) (number-decimal 0 2147483647 seed (omega (arith, small)) (omega arith) small)
    ∙ ap (λ (found : Option ℕ). load_form (Some seed) found (workers_word (decimal workers))) (number-decimal 1 20000 count (omega (arith, few)) some few)
    ∙ ap (with_workers (Load seed count)) (workers-decimal workers are)

not-wrong : (words : List (List ℕ)) (f : Form) → IsListed words f → f ≡ Wrong → ⊥
not-wrong words f plain e = absurd cc
not-wrong words f delta e = absurd cc
not-wrong words f check e = absurd cc
not-wrong words f dots e = absurd cc
not-wrong words f (export few) e = absurd cc
not-wrong words f (merge some few) e = absurd cc
not-wrong words f (run are) e = absurd cc
not-wrong words f (trace are) e = absurd cc
not-wrong words f (live are) e = absurd cc
not-wrong words f (load small some few are) e = absurd cc

none-listed : (words : List (List ℕ)) (f : Form) → FormAnswer words f → ((g : Form) → ¬ IsListed words g) → f ≡ Wrong
none-listed words f none h = refl
none-listed words f (listed is) h = absurd (h f is)

some-listed : (words : List (List ℕ)) (f : Form) → FormAnswer words f → f ≢ Wrong → IsListed words f
some-listed words f none h = absurd (h refl)
some-listed words f (listed is) h = is

-- words have a form exactly where they are of it
pub form-listed : (words : List (List ℕ)) (f : Form) → f ≢ Wrong → (form words ≡ f ↔ IsListed words f)
form-listed words f right = (
  λ e. some-listed words f (subst (FormAnswer words) e (form-answer words)) right,
  λ is. listed-form words f is,
)

-- words have no form exactly where they are of none
pub form-wrong : (words : List (List ℕ)) → (form words ≡ Wrong ↔ ((f : Form) → ¬ IsListed words f))
form-wrong words = (
  λ e f is. not-wrong words f is (sym (listed-form words f is) ∙ e),
  λ h. none-listed words (form words) (form-answer words) h,
)
