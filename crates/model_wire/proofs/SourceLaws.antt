-- Counts, registers, names and sources beside their spellings, in either version.
use Rattle.std.proofs.Common.{◌≡◌, ℕ, zero, suc, ◌<◌, ◌≤◌, true, false, cond, eqb, ltb, leb, List, [], ◌∷◌, ◌++◌, length, Option, Some, None, Ok, ℤ, pos, refl, sym, ap, subst, ◌∙◌, arith}
use Rattle.std.specs.Prelude.{FitsSigned}
use Rattle.std.specs.Int.{w8, w64, to_be_bytes}
use Rattle.std.proofs.lemmas.Bool.{and_parts, leb-true, ltb-true}
use mir.Syntax as words
use Rattle.model_values.specs.Value.{Val}
use Rattle.model_values.specs.Row.{Row}
use Rattle.model_states.specs.Counts.{count_max}
use Rattle.model_states.specs.Content.{Content, of_set, of_grow, of_counts, of_top}
use Rattle.model_graph.specs.Graph.{Kind, OrSet, GSet, Counter, MaxReg, Union, Product, Intersection, Map, Filter, Fold}
use Rattle.model_graph.specs.Message.{Sent}
use Rattle.model_graph.specs.Spelling.{signed_number, spelled_values, spelled_rows, spelled_counts, spelled_top}
use Rattle.model_values.specs.Name.{is_name}
use Rattle.model_wire.specs.declared.wire_why.WireWhy.TheVariants as why
use Rattle.model_wire.specs.Reader.{bytes_at, nothing_at, tested, both_at, counted, made, list_at, ranged_at, kind_at}
use Rattle.model_wire.specs.Value.{signed_at}
use Rattle.model_wire.specs.Message.{single_rows_at, grouped_rows_at, rows_at, elements_at, limited_at, nothing_more, numbers_at, no_number, some_number, top_behind, top_at, Held, held_set, held_elements, held_counts, held_top, held_behind, held_at, name_at, source_made, source_at}
use Rattle.model_wire.specs.Spelling.{spelled_single_rows, spelled_rows_in, spelled_content_in, spelled_source_in}
use Rattle.model_states.specs.Register.{FitsTop}
use Rattle.model_wire.specs.Lawful.{IsNodes, AreRows, AreElements, AreAtMost, IsSource, IsSent}
use Rattle.model_wire.proofs.Codecs.{Takes, IsCodec, IsLong, itself, bytes_codec, wide8, wide64, HasTested, tested_codec, HasBoth, spell_both, both_codec, spell_counted, HasCounted, counted_codec, made_codec, has_codec, spelled_codec, AllHave, HasMany, list_codec}
use Rattle.model_wire.proofs.ValueLaws.{HasRange, ranged_codec, kind_codec, signed_codec, within_range, in_range}
use Rattle.model_wire.proofs.SetLaws.{single_rows_codec, elements_codec}
use Rattle.model_wire.proofs.GroupLaws.{grouped_rows_codec}

-- ---- numbers

abbrev pub Ranged : ℕ → Unit {0} → ℕ → Type 0
Ranged most _ = HasRange 18446744073709551616 0 most

pub numbers_known : (most : ℕ) (xs : List ℕ) → AllHave (Unit {0}) ℕ (Ranged most) nothing_more tt xs → AreAtMost most xs
numbers_known most [] h = tt
numbers_known most (x ∷ xs) h = ((within_range 0 most x h.0.1).1, numbers_known most xs h.1)

pub numbers_ranged : (most : ℕ) → most < 18446744073709551616 → (xs : List ℕ) → AreAtMost most xs → AllHave (Unit {0}) ℕ (Ranged most) nothing_more tt xs
numbers_ranged most small [] h = tt
numbers_ranged most small (x ∷ xs) h = ((omega (arith, h.0, small), in_range 0 most x (omega arith) h.0), numbers_ranged most small xs h.1)

abbrev pub HasNumbers : ℕ → ℕ → List ℕ → Type 0
HasNumbers most n xs = (length xs ≡ n) × AreAtMost most xs

pub limited_codec : (most : ℕ) → IsCodec ℕ (Ranged most tt) (to_be_bytes w64) (limited_at most tt)
limited_codec most = ranged_codec w64 18446744073709551616 wide64 0 most

pub numbers_codec : (most n : ℕ) → most < 18446744073709551616 → IsCodec (List ℕ) (HasNumbers most n) spelled_counts (numbers_at most n)
unfolding numbers_at
numbers_codec most n small =
    has_codec (List ℕ) (HasMany (Unit {0}) ℕ (Ranged most) nothing_more n tt) (HasNumbers most n) spelled_counts (list_at (limited_at most) nothing_more n tt)
    (list_codec (Unit {0}) ℕ (Ranged most) (to_be_bytes w64) (limited_at most) nothing_more (λ _. limited_codec most) n tt)
    (λ xs h. (h.0, numbers_known most xs h.1)) (λ xs h. (h.0, numbers_ranged most small xs h.1))

-- ---- registers

abbrev present : Option ℤ → ℕ
present None = 0
present (Some n) = 1

abbrev HasTop : ℕ → Option ℤ → Type 0
HasTop n o = (present o ≡ n) × FitsTop o

abbrev number_of : Option ℤ → List ℕ
number_of None = []
number_of (Some n) = signed_number n

abbrev no_bytes : Unit {0} → List ℕ
no_bytes u = []

abbrev Anything : Unit {0} → Type 0
Anything u = Unit {0}

nothing_codec : IsCodec (Unit {0}) Anything no_bytes nothing_at
nothing_codec = record {
  took = λ bytes x fits e. subst (λ (q : Unit {0} × List ℕ). Takes bytes [] q.1 × Unit {0}) (pair-is bytes x e) (record { parts = refl; behind = fits }, tt);
  again = λ x rest h. refl;
}
  where
    pair-is : (bytes : List ℕ) (x : Unit {0} × List ℕ) → nothing_at bytes ≡ Ok x → (tt, bytes) ≡ x
    pair-is bytes x e = cc

abbrev from_top : Option ℤ → ℤ
from_top None = pos 0
from_top (Some n) = n

some_codec : IsCodec (Option ℤ) (HasTop 1) number_of (made some_number signed_at)
some_codec =
    made_codec ℤ (Option ℤ) (FitsSigned words.w64) (HasTop 1) signed_number number_of some_number from_top signed_at signed_codec
    (record { has = λ n h. (refl, h); spelled = λ n h. refl; has_parts = parts; remakes = back })
  where
    parts : (o : Option ℤ) → HasTop 1 o → FitsSigned words.w64 (from_top o)
    parts None h = absurd (omega (arith, h.0))
    parts (Some n) h = h.1

    back : (o : Option ℤ) → HasTop 1 o → some_number (from_top o) ≡ o
    back None h = absurd (omega (arith, h.0))
    back (Some n) h = refl

none_codec : IsCodec (Option ℤ) (HasTop 0) number_of (made no_number nothing_at)
none_codec =
    made_codec (Unit {0}) (Option ℤ) Anything (HasTop 0) no_bytes number_of no_number (λ o. tt) nothing_at nothing_codec
    (record { has = λ u h. (refl, tt); spelled = λ u h. refl; has_parts = λ o h. tt; remakes = back })
  where
    back : (o : Option ℤ) → HasTop 0 o → no_number tt ≡ o
    back None h = refl
    back (Some n) h = absurd (omega (arith, h.0))

behind_codec : (n : ℕ) → HasRange 256 0 1 n → IsCodec (Option ℤ) (HasTop n) number_of (top_behind n)
behind_codec zero h = none_codec
behind_codec (suc zero) h = some_codec
behind_codec (suc (suc n)) h = absurd (omega (arith, (within_range 0 1 (suc (suc n)) h.1).1))

top_told : (o : Option ℤ) → to_be_bytes w8 (present o) ++ number_of o ≡ spelled_top o
top_told None = refl
top_told (Some n) = refl

present_ranged : (o : Option ℤ) → HasRange 256 0 1 (present o)
present_ranged None = (omega arith, refl)
present_ranged (Some n) = (omega arith, refl)

pub top_codec : IsCodec (Option ℤ) FitsTop spelled_top top_at
unfolding top_at
top_codec =
    has_codec (Option ℤ) (HasCounted ℕ (Option ℤ) (HasRange 256 0 1) present HasTop) FitsTop spelled_top top_at
    (spelled_codec (Option ℤ) (HasCounted ℕ (Option ℤ) (HasRange 256 0 1) present HasTop) (spell_counted ℕ (Option ℤ) (to_be_bytes w8) present number_of) spelled_top (counted (kind_at 0 1) top_behind)
    (counted_codec ℕ (Option ℤ) (HasRange 256 0 1) HasTop (to_be_bytes w8) number_of present (kind_at 0 1) top_behind (kind_codec 0 1) behind_codec (λ n o _ h. h.0))
    (λ o h. top_told o))
    (λ o h. h.1.1) (λ o h. (present_ranged o, (refl, h)))

-- ---- what a source holds

pub rows_codec : (version nodes : ℕ) → IsNodes nodes → IsCodec (List Row) (AreRows nodes) (spelled_rows_in version) (rows_at version nodes)
rows_codec version nodes n =
    elim (eqb version 1) as (λ b. IsCodec (List Row) (AreRows nodes) (λ rows. cond b (spelled_single_rows rows) (spelled_rows rows)) (cond b (single_rows_at nodes) (grouped_rows_at nodes))) [
      | true ↦ single_rows_codec nodes n
      | false ↦ grouped_rows_codec nodes n
    ]

abbrev kind_number : Kind → ℕ
kind_number OrSet = 1
kind_number GSet = 2
kind_number Counter = 3
kind_number MaxReg = 4
kind_number _ = 0

abbrev number_of_held : Held → ℕ
number_of_held h = kind_number h.0

abbrev IsHeld : ℕ → Held → Type 0
IsHeld nodes h = IsSource nodes h.0 h.1

abbrev HasKind : ℕ → ℕ → Held → Type 0
HasKind nodes k h = (number_of_held h ≡ k) × IsHeld nodes h

-- what stands behind the kind
abbrev behind_kind : ℕ → Held → List ℕ
behind_kind version (OrSet, s) = spelled_rows_in version s.rows
behind_kind version (GSet, s) = spelled_values s.values
behind_kind version (Counter, s) = spelled_counts s.counts
behind_kind version (MaxReg, s) = spelled_top s.top
behind_kind version (Union x y, s) = []
behind_kind version (Product x y, s) = []
behind_kind version (Intersection x y, s) = []
behind_kind version (Map x place ops, s) = []
behind_kind version (Filter x place ops, s) = []
behind_kind version (Fold x op place lift, s) = []

-- the kind with a number
abbrev kind_from : ℕ → Kind
kind_from zero = OrSet
kind_from (suc zero) = OrSet
kind_from (suc (suc zero)) = GSet
kind_from (suc (suc (suc zero))) = Counter
kind_from (suc (suc (suc (suc n)))) = MaxReg

kind_back : (nodes : ℕ) (k : Kind) (s : Content) → IsSource nodes k s → kind_from (kind_number k) ≡ k
kind_back nodes OrSet s h = refl
kind_back nodes GSet s h = refl
kind_back nodes Counter s h = refl
kind_back nodes MaxReg s h = refl
kind_back nodes (Union x y) s h = absurd h
kind_back nodes (Product x y) s h = absurd h
kind_back nodes (Intersection x y) s h = absurd h
kind_back nodes (Map x place ops) s h = absurd h
kind_back nodes (Filter x place ops) s h = absurd h
kind_back nodes (Fold x op place lift) s h = absurd h

kind_is : (nodes n : ℕ) (h : Held) → HasKind nodes n h → kind_from n ≡ h.0
kind_is nodes n h has = ap kind_from (sym has.0) ∙ kind_back nodes h.0 h.1 has.1

-- what is held, by its kind
source_of : (nodes n : ℕ) (h : Held) → HasKind nodes n h → IsSource nodes (kind_from n) h.1
source_of nodes n h has = subst (λ (k : Kind). IsSource nodes k h.1) (sym (kind_is nodes n h has)) has.1

made_back : (nodes n : ℕ) (h : Held) (s : Content) → HasKind nodes n h → h.1 ≡ s → (kind_from n, s) ≡ h
made_back nodes n h s has same = λ i. (kind_is nodes n h has i, sym same i)

set_codec : (version nodes : ℕ) → IsNodes nodes → IsCodec Held (HasKind nodes 1) (behind_kind version) (made held_set (rows_at version nodes))
set_codec version nodes n =
    made_codec (List Row) Held (AreRows nodes) (HasKind nodes 1) (spelled_rows_in version) (behind_kind version) held_set (λ h. h.1.rows) (rows_at version nodes) (rows_codec version nodes n)
    (record {
      has = λ rows h. (refl, (h, refl));
      spelled = λ rows h. refl;
      has_parts = λ h has. (source_of nodes 1 h has).0;
      remakes = λ h has. made_back nodes 1 h (of_set h.1.rows) has (source_of nodes 1 h has).1;
    })

grow_codec : (version nodes : ℕ) → IsCodec Held (HasKind nodes 2) (behind_kind version) (made held_elements elements_at)
grow_codec version nodes =
    made_codec (List Val) Held AreElements (HasKind nodes 2) spelled_values (behind_kind version) held_elements (λ h. h.1.values) elements_at elements_codec
    (record {
      has = λ values h. (refl, (h, refl));
      spelled = λ values h. refl;
      has_parts = λ h has. (source_of nodes 2 h has).0;
      remakes = λ h has. made_back nodes 2 h (of_grow h.1.values) has (source_of nodes 2 h has).1;
    })

counter_codec : (version nodes : ℕ) → IsCodec Held (HasKind nodes 3) (behind_kind version) (made held_counts (numbers_at count_max nodes))
counter_codec version nodes =
    made_codec (List ℕ) Held (HasNumbers count_max nodes) (HasKind nodes 3) spelled_counts (behind_kind version) held_counts (λ h. h.1.counts) (numbers_at count_max nodes) (numbers_codec count_max nodes (omega arith))
    (record {
      has = λ counts h. (refl, (h, refl));
      spelled = λ counts h. refl;
      has_parts = λ h has. (source_of nodes 3 h has).0;
      remakes = λ h has. made_back nodes 3 h (of_counts h.1.counts) has (source_of nodes 3 h has).1;
    })

register_codec : (version nodes : ℕ) → IsCodec Held (HasKind nodes 4) (behind_kind version) (made held_top top_at)
register_codec version nodes =
    made_codec (Option ℤ) Held FitsTop (HasKind nodes 4) spelled_top (behind_kind version) held_top (λ h. h.1.top) top_at top_codec
    (record {
      has = λ top h. (refl, (h, refl));
      spelled = λ top h. refl;
      has_parts = λ h has. (source_of nodes 4 h has).0;
      remakes = λ h has. made_back nodes 4 h (of_top h.1.top) has (source_of nodes 4 h has).1;
    })

behind_kind_codec : (version nodes : ℕ) → IsNodes nodes → (k : ℕ) → HasRange 256 1 4 k → IsCodec Held (HasKind nodes k) (behind_kind version) (held_behind version nodes k)
behind_kind_codec version nodes n zero h = absurd (omega (arith, (within_range 1 4 zero h.1).0))
behind_kind_codec version nodes n (suc zero) h = set_codec version nodes n
behind_kind_codec version nodes n (suc (suc zero)) h = grow_codec version nodes
behind_kind_codec version nodes n (suc (suc (suc zero))) h = counter_codec version nodes
behind_kind_codec version nodes n (suc (suc (suc (suc zero)))) h = register_codec version nodes
behind_kind_codec version nodes n (suc (suc (suc (suc (suc k))))) h = absurd (omega (arith, (within_range 1 4 (suc (suc (suc (suc (suc k))))) h.1).1))

abbrev spelled_held : ℕ → Held → List ℕ
spelled_held version h = spelled_content_in version h.0 h.1

held_spelled : (version nodes : ℕ) (h : Held) → IsHeld nodes h → to_be_bytes w8 (kind_number h.0) ++ behind_kind version h ≡ spelled_held version h
held_spelled version nodes (OrSet, s) h = refl
held_spelled version nodes (GSet, s) h = refl
held_spelled version nodes (Counter, s) h = refl
held_spelled version nodes (MaxReg, s) h = refl
held_spelled version nodes (Union x y, s) h = absurd h
held_spelled version nodes (Product x y, s) h = absurd h
held_spelled version nodes (Intersection x y, s) h = absurd h
held_spelled version nodes (Map x place ops, s) h = absurd h
held_spelled version nodes (Filter x place ops, s) h = absurd h
held_spelled version nodes (Fold x op place lift, s) h = absurd h

kind_ranged : (nodes : ℕ) (h : Held) → IsHeld nodes h → HasRange 256 1 4 (kind_number h.0)
kind_ranged nodes (OrSet, s) h = (omega arith, refl)
kind_ranged nodes (GSet, s) h = (omega arith, refl)
kind_ranged nodes (Counter, s) h = (omega arith, refl)
kind_ranged nodes (MaxReg, s) h = (omega arith, refl)
kind_ranged nodes (Union x y, s) h = absurd h
kind_ranged nodes (Product x y, s) h = absurd h
kind_ranged nodes (Intersection x y, s) h = absurd h
kind_ranged nodes (Map x place ops, s) h = absurd h
kind_ranged nodes (Filter x place ops, s) h = absurd h
kind_ranged nodes (Fold x op place lift, s) h = absurd h

abbrev HeldHas : ℕ → Held → Type 0
HeldHas nodes = HasCounted ℕ Held (HasRange 256 1 4) number_of_held (HasKind nodes)

pub held_codec : (version nodes : ℕ) → IsNodes nodes → IsCodec Held (IsHeld nodes) (spelled_held version) (held_at version nodes)
unfolding held_at
held_codec version nodes n =
    has_codec Held (HeldHas nodes) (IsHeld nodes) (spelled_held version) (held_at version nodes)
    (spelled_codec Held (HeldHas nodes) (spell_counted ℕ Held (to_be_bytes w8) number_of_held (behind_kind version)) (spelled_held version) (counted (kind_at 1 4) (held_behind version nodes))
    (counted_codec ℕ Held (HasRange 256 1 4) (HasKind nodes) (to_be_bytes w8) (behind_kind version) number_of_held (kind_at 1 4) (held_behind version nodes) (kind_codec 1 4) (behind_kind_codec version nodes n) (λ k h _ has. has.0))
    (λ h has. held_spelled version nodes h has.1.1))
    (λ h has. has.1.1) (λ h has. (kind_ranged nodes h has, (refl, has)))

-- ---- names and sources

abbrev NameHas : List ℕ → Type 0
NameHas = HasCounted ℕ (List ℕ) (HasRange 256 1 32) length (λ n. HasTested (List ℕ) (IsLong n) is_name)

abbrev pub IsName : List ℕ → Type 0
IsName t = is_name t ≡ true

abbrev spelled_name : List ℕ → List ℕ
spelled_name t = to_be_bytes w8 (length t) ++ t

pub name_long : (t : List ℕ) → IsName t → (1 ≤ length t) × (length t ≤ 32)
name_long t h =
    let most = and_parts _ _ h in
    let first = and_parts _ _ most.0 in
    let both = and_parts (ltb 0 (length t)) (leb (length t) 32) first.0 in
    (omega (arith, ltb-true 0 (length t) both.0), leb-true (length t) 32 both.1)

pub name_codec : IsCodec (List ℕ) IsName spelled_name name_at
unfolding name_at
name_codec =
    has_codec (List ℕ) NameHas IsName spelled_name name_at
    (counted_codec ℕ (List ℕ) (HasRange 256 1 32) (λ n. HasTested (List ℕ) (IsLong n) is_name) (to_be_bytes w8) itself length (ranged_at w8 1 32) (λ n. tested (bytes_at n) is_name why.Text)
    (ranged_codec w8 256 wide8 1 32) (λ n _. tested_codec (List ℕ) (IsLong n) itself (bytes_at n) is_name why.Text (bytes_codec n)) (λ n t _ h. h.0))
    (λ t h. h.1.1) (λ t h. let long = name_long t h in ((omega (arith, long.1), in_range 1 32 (length t) long.0 long.1), (refl, h)))

pub source_codec : (version nodes : ℕ) → IsNodes nodes → IsCodec Sent (IsSent nodes) (spelled_source_in version) (source_at version nodes)
unfolding source_at
source_codec version nodes n =
    made_codec (List ℕ × Held) Sent (HasBoth (List ℕ) Held IsName (λ _. IsHeld nodes)) (IsSent nodes) (spell_both (List ℕ) Held spelled_name (spelled_held version)) (spelled_source_in version) source_made
    (λ s. (s.decl.name, (s.decl.kind, s.content))) (both_at name_at (λ _. held_at version nodes))
    (both_codec (List ℕ) Held IsName (λ _. IsHeld nodes) spelled_name (spelled_held version) name_at (λ _. held_at version nodes) name_codec (λ _ _. held_codec version nodes n))
    (record { has = λ p h. h; spelled = λ p h. refl; has_parts = λ s h. h; remakes = λ s h. refl })
