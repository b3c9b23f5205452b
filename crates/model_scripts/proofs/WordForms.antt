-- What holds of each form holds of a word.
use Rattle.std.proofs.Common.{refl, subst}
use Rattle.std.specs.Prelude.{◌≡◌, Bool, true, false, if◌then◌else◌, Option, Some, None, is_some, option_map, option_and_then, IfSome, codes}
use Rattle.serde_json.specs.Data.{Data, Num}
use Rattle.serde_json.specs.Find.{at}
use Rattle.model_readings.specs.Tree.{text_at, number_at, is_word_at, has_items, two}
use Rattle.model_readings.specs.Graph.{Written, written_of}
use Rattle.model_readings.proofs.Graphs.{if-some}
use Rattle.model_scripts.specs.Word.{target_of, Bound, Word, add, remove, insert, inc, max, print, mark, bind, send, deliver, sync, settle, read, await, declare, bound_of, named, formed, word_of}

pub size-some : {A : Type 0} (P : A → Type 0) (b : Bool) (o : Option A) → IfSome o P → IfSome (if b then o else None) P
size-some P true o h = h
size-some P false o h = tt

pub map-some : {A B : Type 0} (P : B → Type 0) (Q : A → Type 0) (f : A → B) (o : Option A) → ((a : A) → Q a → P (f a)) → IfSome o Q → IfSome (option_map f o) P
map-some P Q f None h k = tt
map-some P Q f (Some a) h k = h a k

pub then-some : {A B : Type 0} (P : B → Type 0) (Q : A → Type 0) (f : A → Option B) (o : Option A) → ((a : A) → Q a → IfSome (f a) P) → IfSome o Q → IfSome (option_and_then f o) P
then-some P Q f None h k = tt
then-some P Q f (Some a) h k = h a k

-- what follows from the second of two holds of both put together
pub two-some : {A B C : Type 0} (P : C → Type 0) (Q : B → Type 0) (f : A → B → C) (o : Option A) (p : Option B) → ((a : A) (b : B) → Q b → P (f a b)) → IfSome p Q → IfSome (two f o p) P
two-some P Q f None p h k = tt
two-some P Q f (Some a) None h k = tt
two-some P Q f (Some a) (Some b) h k = h a b k

pub any-some : {A : Type 0} (o : Option A) → IfSome o (λ _. Unit {0})
any-some None = tt
any-some (Some a) = tt

-- what each part of a tree is like
pub record AreParts (V : Data → Type 0) (N : Num → Type 0) (B : Bound → Type 0) (D : Data → Type 0) (d : Data) : Type 0 where
  pub value : IfSome (at 3 d) V
  pub number : IfSome (number_at 3 d) N
  pub bound : IfSome (option_and_then bound_of (at 3 d)) B
  pub tree : IfSome (option_and_then formed (at 1 d)) D

-- what holds of a word by what its parts are like
abbrev pub Has : (Data → Type 0) → (Num → Type 0) → (Bound → Type 0) → (Data → Type 0) → Word → Type 0
Has V N B D (add t v) = V v
Has V N B D (remove t v) = V v
Has V N B D (insert t v) = V v
Has V N B D (inc t k) = N k
Has V N B D (max t k) = N k
Has V N B D (print t) = Unit {0}
Has V N B D (mark t m) = Unit {0}
Has V N B D (bind t m) = Unit {0}
Has V N B D (send n) = Unit {0}
Has V N B D (deliver n i) = Unit {0}
Has V N B D sync = Unit {0}
Has V N B D settle = Unit {0}
Has V N B D (read t b) = B b
Has V N B D (await t b) = B b
Has V N B D (declare d) = D d

pub word-has : (V : Data → Type 0) (N : Num → Type 0) (B : Bound → Type 0) (D : Data → Type 0) (d : Data) → AreParts V N B D d → IfSome (word_of d) (Has V N B D)
unfolding word_of
word-has V N B D d h =
    let P : Word → Type 0 = Has V N B D in
    if-some P (is_word_at 0 (codes "add") d) _ _ (size-some P (has_items 4 d) _ (two-some P V add (target_of d) (at 3 d) (λ t v k. k) h.value))
    (if-some P (is_word_at 0 (codes "remove") d) _ _ (size-some P (has_items 4 d) _ (two-some P V remove (target_of d) (at 3 d) (λ t v k. k) h.value))
    (if-some P (is_word_at 0 (codes "insert") d) _ _ (size-some P (has_items 4 d) _ (two-some P V insert (target_of d) (at 3 d) (λ t v k. k) h.value))
    (if-some P (is_word_at 0 (codes "inc") d) _ _ (size-some P (has_items 4 d) _ (two-some P N inc (target_of d) (number_at 3 d) (λ t n k. k) h.number))
    (if-some P (is_word_at 0 (codes "max") d) _ _ (size-some P (has_items 4 d) _ (two-some P N max (target_of d) (number_at 3 d) (λ t n k. k) h.number))
    (if-some P (is_word_at 0 (codes "print") d) _ _ (size-some P (has_items 3 d) _ (map-some P (λ _. Unit {0}) print (target_of d) (λ t k. tt) (any-some (target_of d))))
    (if-some P (is_word_at 0 (codes "mark") d) _ _ (size-some P (has_items 4 d) _ (two-some P (λ _. Unit {0}) mark (target_of d) (option_and_then named (text_at 3 d)) (λ t m k. tt) (any-some (option_and_then named (text_at 3 d)))))
    (if-some P (is_word_at 0 (codes "bind") d) _ _ (size-some P (has_items 4 d) _ (two-some P (λ _. Unit {0}) bind (target_of d) (text_at 3 d) (λ t m k. tt) (any-some (text_at 3 d))))
    (if-some P (is_word_at 0 (codes "send") d) _ _ (size-some P (has_items 2 d) _ (map-some P (λ _. Unit {0}) send (number_at 1 d) (λ n k. tt) (any-some (number_at 1 d))))
    (if-some P (is_word_at 0 (codes "deliver") d) _ _ (size-some P (has_items 3 d) _ (two-some P (λ _. Unit {0}) deliver (number_at 1 d) (number_at 2 d) (λ n i k. tt) (any-some (number_at 2 d))))
    (if-some P (is_word_at 0 (codes "sync") d) _ _ (size-some P (has_items 1 d) (Some sync) tt)
    (if-some P (is_word_at 0 (codes "settle") d) _ _ (size-some P (has_items 1 d) (Some settle) tt)
    (if-some P (is_word_at 0 (codes "read") d) _ _ (size-some P (has_items 4 d) _ (two-some P B read (target_of d) (option_and_then bound_of (at 3 d)) (λ t b k. k) h.bound))
    (if-some P (is_word_at 0 (codes "await") d) _ _ (size-some P (has_items 4 d) _ (two-some P B await (target_of d) (option_and_then bound_of (at 3 d)) (λ t b k. k) h.bound))
    (if-some P (is_word_at 0 (codes "declare") d) _ None (size-some P (has_items 2 d) _ (map-some P D declare (option_and_then formed (at 1 d)) (λ e k. k) h.tree)) tt))))))))))))))

-- a declared tree has the form of a declaration
pub record IsFormed (d : Data) : Type 0 where
  pub form : Written
  pub written : written_of d ≡ Some form

formed-step : (d : Data) (o : Option Written) → written_of d ≡ o → IfSome (if is_some o then Some d else None) IsFormed
formed-step d None e = tt
formed-step d (Some w) e = record { form = w; written = e }

pub formed-some : (o : Option Data) → IfSome (option_and_then formed o) IsFormed
formed-some o = then-some IsFormed (λ _. Unit {0}) formed o (λ d k. formed-step d (written_of d) refl) (any-some o)

pub some-here : {A : Type 0} (P : A → Type 0) (o : Option A) (a : A) → o ≡ Some a → IfSome o P → P a
some-here P None a e h = absurd cc
some-here P (Some b) a e h = let same : b ≡ a = cc in subst P same h

pub declared-formed : (d : Data) (w : Word) → word_of d ≡ Some w → Has (λ _. Unit {0}) (λ _. Unit {0}) (λ _. Unit {0}) IsFormed w
declared-formed d w e =
    let any : Data → Type 0 = λ _. Unit {0} in
    some-here _ (word_of d) w e
    (word-has any (λ _. Unit {0}) (λ _. Unit {0}) IsFormed d (record { value = any-some (at 3 d); number = any-some (number_at 3 d); bound = any-some (option_and_then bound_of (at 3 d)); tree = formed-some (at 1 d) }))
