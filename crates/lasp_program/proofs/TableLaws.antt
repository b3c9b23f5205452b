-- A table of named functions, entry by entry: what each adds, and that its name is a name and free.
use Rattle.std.proofs.Common.{◌≡◌, sym, ap, ◌∙◌, ℕ, suc, zero, ◌+◌, ◌<◌, ◌≤◌, List, [], ◌∷◌, ◌++◌, length, take, map, slice_index_or, Bool, true, false, not, ◌&&◌, subst, append_assoc, arith}
use Rattle.std.proofs.lemmas.List.{length-map, take_more, take_all, append-nil}
use Rattle.std.specs.Cmp.{first_so, second_so}
use Rattle.std.proofs.Math.ListN.{get_or-map}
use Rattle.std.proofs.lemmas.Bool.{not-true}
use Rattle.model_values.specs.Name.{is_name}
use Rattle.lasp_fns.specs.Named.{is_named}

-- each name behind these is a name, and stands under none before it
abbrev pub are_free : {B : Type 0} → List (List ℕ × B) → List (List ℕ × B) → Bool
are_free before [] = true
are_free before (e ∷ es) = is_name e.0 && (not (is_named e.0 before) && are_free (before ++ e ∷ []) es)

pub name-at : {B : Type 0} (before es : List (List ℕ × B)) (i : ℕ) (d : List ℕ × B) → are_free before es ≡ true → i < length es → is_name (slice_index_or es i d).0 ≡ true
name-at before [] i d free inside = absurd (omega (arith, inside))
name-at before (e ∷ es) zero d free inside = first_so (is_name e.0) _ free
name-at before (e ∷ es) (suc i) d free inside =
    name-at (before ++ e ∷ []) es i d (second_so (not (is_named e.0 before)) _ (second_so (is_name e.0) _ free)) (omega (arith, inside))

pub free-at : {B : Type 0} (before es : List (List ℕ × B)) (i : ℕ) (d : List ℕ × B) → are_free before es ≡ true → i < length es → is_named (slice_index_or es i d).0 (before ++ take i es) ≡ false
free-at before [] i d free inside = absurd (omega (arith, inside))
free-at before (e ∷ es) zero d free inside =
    rw (append-nil before) (not-true (is_named e.0 before) (first_so (not (is_named e.0 before)) _ (second_so (is_name e.0) _ free)))
free-at before (e ∷ es) (suc i) d free inside =
    rw (← append_assoc before (e ∷ []) (take i es)) (free-at (before ++ e ∷ []) es i d (second_so (not (is_named e.0 before)) _ (second_so (is_name e.0) _ free)) (omega (arith, inside)))

pub length-take-most : {B : Type 0} (es : List B) (i : ℕ) → length (take i es) ≤ length es
length-take-most [] zero = omega arith
length-take-most [] (suc i) = omega arith
length-take-most (e ∷ es) zero = omega arith
length-take-most (e ∷ es) (suc i) = let h : length (take i es) ≤ length es = length-take-most es i in omega (arith, h)

-- the entry of a table at a place: what it adds, and that its name is a name and free
pub entry-added : {A B : Type 0} (f : A → B) (table : List A) (entries : List B) (i : ℕ) (d : A) → map f table ≡ entries → i < length table → take (i + 1) entries ≡ take i entries ++ f (slice_index_or table i d) ∷ []
entry-added f table entries i d e inside =
    subst (λ es. take (i + 1) es ≡ take i es ++ f (slice_index_or table i d) ∷ []) e
    (subst (λ x. take (i + 1) (map f table) ≡ take i (map f table) ++ x ∷ []) (get_or-map f table i d) (take_more (map f table) i (f d) (rw (length-map table f) inside)))

pub entry-named : {A B : Type 0} (f : A → List ℕ × B) (table : List A) (entries : List (List ℕ × B)) (i : ℕ) (d : A) → map f table ≡ entries → are_free [] entries ≡ true → i < length table → is_name (f (slice_index_or table i d)).0 ≡ true
entry-named f table entries i d e free inside =
    subst (λ x. is_name x.0 ≡ true) (get_or-map f table i d) (name-at [] (map f table) i (f d) (subst (λ es. are_free [] es ≡ true) (sym e) free) (rw (length-map table f) inside))

pub entry-free : {A B : Type 0} (f : A → List ℕ × B) (table : List A) (entries : List (List ℕ × B)) (i : ℕ) (d : A) → map f table ≡ entries → are_free [] entries ≡ true → i < length table → is_named (f (slice_index_or table i d)).0 (take i entries) ≡ false
entry-free f table entries i d e free inside =
    subst (λ es. is_named (f (slice_index_or table i d)).0 (take i es) ≡ false) e
    (subst (λ x. is_named x.0 (take i (map f table)) ≡ false) (get_or-map f table i d) (free-at [] (map f table) i (f d) (subst (λ es. are_free [] es ≡ true) (sym e) free) (rw (length-map table f) inside)))

pub entries-added : {A B : Type 0} (f : A → B) (table : List A) (entries : List B) (i : ℕ) → map f table ≡ entries → length table ≤ i → take i entries ≡ entries
entries-added f table entries i e all = take_all i entries (subst (λ es. length es ≤ i) e (rw (length-map table f) all))

-- where a table has few entries, so has what was added of it
pub few-added : {B : Type 0} (added entries : List B) (i : ℕ) → added ≡ take i entries → length entries ≤ 100 → length added < 4294967295
few-added added entries i e few = let h : length (take i entries) ≤ length entries = length-take-most entries i in rw e (omega (arith, h, few))

pub free-in : {B : Type 0} (name : List ℕ) (added entries : List (List ℕ × B)) → added ≡ entries → is_named name entries ≡ false → is_named name added ≡ false
free-in name added entries e free = rw e free

-- with the entry at a place, what was added reaches one place further
pub one-more : {A B : Type 0} (f : A → B) (table : List A) (entries : List B) (i : ℕ) (d : A) → map f table ≡ entries → i < length table → (before after : List B) → before ≡ take i entries → after ≡ before ++ f (slice_index_or table i d) ∷ [] → after ≡ take (i + 1) entries
one-more f table entries i d e inside before after was is = is ∙ (ap (λ xs. xs ++ f (slice_index_or table i d) ∷ []) was ∙ sym (entry-added f table entries i d e inside))
