-- Where the rows of a set, in either version, and the elements of a grow-only set fail.
use Rattle.std.proofs.Common.{◌≡◌, ◌⊎◌, inl, inr, ℕ, ◌+◌, ◌-◌, ◌<◌, Bool, true, List, [], ◌∷◌, ◌++◌, length, map, Option, Some, None, refl, sym, ap, subst, ◌∙◌, arith}
use Rattle.std.specs.List.{AllByRecursion, flat_map}
use Rattle.std.specs.Int.{w32}
use Rattle.std.specs.Cmp.{IsTotalOrder}
use Rattle.std.specs.FinMap.Entries.{is_sorted}
use Rattle.std.specs.declared.cmp.Ordering.{Ordering}
use Rattle.std.proofs.lemmas.List.{map-id, length-append}
use Rattle.model_values.specs.Value.{Val, val_cmp, val_total}
use Rattle.model_values.specs.Token.{Tok, tok_cmp, tok_total}
use Rattle.model_values.specs.Row.{Row, Key, key_cmp, key_total}
use Rattle.model_values.proofs.ListLaws.{each-push}
use Rattle.model_sets.specs.Rows.{IsAscending}
use Rattle.model_sets.specs.Values.{AreAscending}
use Rattle.model_graph.specs.Spelling.{Group, spelled_value, spelled_group}
use Rattle.model_wire.specs.declared.wire_why.WireWhy.TheVariants as why
use Rattle.model_wire.specs.Reader.{Reader, tested, both_at, counted, list_at, ranged_at}
use Rattle.model_wire.specs.Value.{value_at, token_at, row_at, is_above, latest}
use Rattle.model_wire.specs.Message.{row_after_at, single_rows_at, token_after_at, tokens_at, Before, value_after_at, group_made, group_at, after_group, rows_of, groups_at, grouped_rows_at, rows_at, elements_at}
use Rattle.model_wire.specs.Spelling.{spelled_row}
use Rattle.model_wire.specs.Lawful.{IsSourceValue, IsNodes, IsToken, IsRow, AreRows, AreElements}
use Rattle.model_wire.specs.Stuck.{Failure, FailsBehind, EitherFails, FailsAmong, FailsOrLow, FailsValue, FailsToken, FailsRow, FailsSingleRows, spelled_mark, AreTokens, IsGroup, values_of, tokens_of, AreGroups, FailsTokens, IsAboveAll, FailsGroup, FailsGroups, FailsRows, FailsElements}
use Rattle.model_wire.proofs.Codecs.{IsCodec, wide32, HasTested, tested_codec, AllHave}
use Rattle.model_wire.proofs.ValueLaws.{value_codec}
use Rattle.model_wire.proofs.RowLaws as marks
use Rattle.model_wire.proofs.OrderLaws.{rise_sorted, rise_each, sorted_rise}
use Rattle.model_wire.proofs.GroupLaws as groups
use Rattle.model_wire.proofs.Failing.{FailsAs, made_fail, both_fail, tested_fail, after, FailsNext, list_fail, Implies, fail_as, either_as, refused_as, behind_as, as_it_is}
use Rattle.model_wire.proofs.FieldFails.{numbered_fail, value_fail, token_fail, row_fail}
use Rattle.model_wire.proofs.SetLaws.{same_row, entry}

-- ---- one item more behind the others

have_more : (S X : Type 0) (Has : S → X → Type 0) (next : S → X → S) (s : S) (xs : List X) (x : X) → AllHave S X Has next s xs → Has (after next s xs) x → AllHave S X Has next s (xs ++ x ∷ [])
have_more S X Has next s [] x h k = (k, tt)
have_more S X Has next s (y ∷ ys) x h k = (h.0, have_more S X Has next (next s y) ys x h.1 k)

has_last : (S X : Type 0) (Has : S → X → Type 0) (next : S → X → S) (s : S) (xs : List X) (x : X) → AllHave S X Has next s (xs ++ x ∷ []) → Has (after next s xs) x
has_last S X Has next s [] x h = h.0
has_last S X Has next s (y ∷ ys) x h = has_last S X Has next (next s y) ys x h.1

-- ---- items that rise

module _ (A K X : Type 0) (entry : A → K × X) (order : K → K → Ordering) (total : IsTotalOrder order) (Has : A → Type 0) where
  abbrev pub by_key : A → A → Ordering
  by_key a b = order (entry a).0 (entry b).0

  abbrev pub Stands : Option A → A → Type 0
  Stands before = HasTested A Has (is_above by_key before)

  abbrev pub Sorted : List A → Type 0
  Sorted xs = is_sorted order (map entry xs) ≡ true

  abbrev pub AreSorted : List A → Type 0
  AreSorted xs = Sorted xs × AllByRecursion Has xs

  abbrev pub Rising : List A → Type 0
  Rising xs = AllHave (Option A) A Stands latest None xs

  pub are_sorted : (xs : List A) → Rising xs → AreSorted xs
  are_sorted xs h = (rise_sorted A K X entry order total Has None xs h, rise_each A K X entry order total Has None xs h)

  pub are_rising : (xs : List A) → AreSorted xs → Rising xs
  are_rising xs h = sorted_rise A K X entry order total Has xs h.0 h.1

  pub above_all : (xs : List A) (x : A) → Rising xs → Has x → is_above by_key (after latest None xs) x ≡ true → Sorted (xs ++ x ∷ [])
  above_all xs x h has above = (are_sorted (xs ++ x ∷ []) (have_more (Option A) A Stands latest None xs x h (has, above))).0

  pub above_last : (xs : List A) (x : A) → Rising xs → Has x → Sorted (xs ++ x ∷ []) → is_above by_key (after latest None xs) x ≡ true
  above_last xs x h has sorted = (has_last (Option A) A Stands latest None xs x (are_rising (xs ++ x ∷ []) (sorted, each-push Has xs x (are_sorted xs h).1 has))).1

  -- an item behind others that can't be read, or is none above them
  abbrev pub FailsAfter : Failure → (A → List ℕ) → Option A → Failure
  FailsAfter Where spell before = FailsOrLow Where Has spell (λ x. is_above by_key before x ≡ true)

  abbrev pub FailsSorted : Failure → (A → List ℕ) → List A → Failure
  FailsSorted Where spell xs = FailsOrLow Where Has spell (λ x. Sorted (xs ++ x ∷ []))

  pub sorted_fail : (spell : A → List ℕ) (Where : Failure) (read : Reader A) → IsCodec A Has spell read → FailsAs A read Where → (n : ℕ) → FailsAs (List A) (list_at (λ s. tested read (is_above by_key s) why.Order) latest n None) (FailsAmong n AreSorted spell (FailsSorted Where spell))
  sorted_fail spell Where read codec fails n =
      fail_as (List A) (list_at (λ s. tested read (is_above by_key s) why.Order) latest n None) (FailsNext (Option A) A Stands spell latest (FailsAfter Where spell) n None) (FailsAmong n AreSorted spell (FailsSorted Where spell))
      (list_fail (Option A) A Stands spell (FailsAfter Where spell) (λ s. tested read (is_above by_key s) why.Order) latest (λ s. tested_codec A Has spell read (is_above by_key s) why.Order codec)
      (λ s. tested_fail A Has spell Where read (is_above by_key s) why.Order codec fails) n None)
      (behind_as (List A) (λ xs. (length xs < n) × Rising xs) (λ xs. (length xs < n) × AreSorted xs) (flat_map spell) (λ xs. FailsAfter Where spell (after latest None xs)) (FailsSorted Where spell) (λ xs h. (h.0, are_sorted xs h.1))
      (λ xs h. either_as Where Where _ _ (as_it_is Where) (refused_as A Has Has spell (λ x. is_above by_key (after latest None xs) x ≡ true) (λ x. Sorted (xs ++ x ∷ [])) why.Order (λ x k. k) (λ x k m. above_last xs x h.1 k m))))
      (behind_as (List A) (λ xs. (length xs < n) × AreSorted xs) (λ xs. (length xs < n) × Rising xs) (flat_map spell) (FailsSorted Where spell) (λ xs. FailsAfter Where spell (after latest None xs)) (λ xs h. (h.0, are_rising xs h.1))
      (λ xs h. either_as Where Where _ _ (as_it_is Where)
      (refused_as A Has Has spell (λ x. Sorted (xs ++ x ∷ [])) (λ x. is_above by_key (after latest None xs) x ≡ true) why.Order (λ x k. k) (λ x k m. above_all xs x (are_rising xs h.1) k m))))

-- the same with those before, and what stands above them, said otherwise
among_as : (A : Type 0) (n : ℕ) (Are Are' : List A → Type 0) (spell : A → List ℕ) (Where : Failure) (Has : A → Type 0) (Above Above' : List A → A → Type 0)
    → ((xs : List A) → length xs < n → Are xs → Are' xs) → ((xs : List A) (x : A) → Above' xs x → Above xs x)
    → Implies (FailsAmong n Are spell (λ xs. FailsOrLow Where Has spell (Above xs))) (FailsAmong n Are' spell (λ xs. FailsOrLow Where Has spell (Above' xs)))
among_as A n Are Are' spell Where Has Above Above' are above =
    behind_as (List A) (λ xs. (length xs < n) × Are xs) (λ xs. (length xs < n) × Are' xs) (flat_map spell) (λ xs. FailsOrLow Where Has spell (Above xs)) (λ xs. FailsOrLow Where Has spell (Above' xs))
    (λ xs h. (h.0, are xs h.0 h.1)) (λ xs h. either_as Where Where _ _ (as_it_is Where) (refused_as A Has Has spell (Above xs) (Above' xs) why.Order (λ x k. k) (λ x k m. above xs x m)))

-- ---- version 1

pub single_rows_fail : (nodes : ℕ) → IsNodes nodes → FailsAs (List Row) (single_rows_at nodes) (FailsSingleRows nodes)
unfolding single_rows_at
single_rows_fail nodes n =
    numbered_fail (List Row) w32 4294967296 wide32 0 65536 why.Range (λ m. list_at (row_after_at nodes) latest m None) _ (omega arith)
    (λ m range. fail_as (List Row) (list_at (row_after_at nodes) latest m None) _ _ (sorted_fail Row Key Bool same_row key_cmp key_total (IsRow nodes) spelled_row (FailsRow nodes) (row_at nodes) (marks.row_codec nodes n) (row_fail nodes n) m)
    (among_as Row m (AreSorted Row Key Bool same_row key_cmp key_total (IsRow nodes)) (AreRows nodes) spelled_row (FailsRow nodes) (IsRow nodes) (λ rows r. Sorted Row Key Bool same_row key_cmp key_total (IsRow nodes) (rows ++ r ∷ [])) (λ rows r. IsAscending (rows ++ r ∷ []))
    (λ rows few h. record { ascending = ap (is_sorted key_cmp) (sym (map-id rows)) ∙ h.0; few = omega (arith, few, range.1); each = h.1 }) (λ rows r h. ap (is_sorted key_cmp) (map-id (rows ++ r ∷ [])) ∙ h))
    (among_as Row m (AreRows nodes) (AreSorted Row Key Bool same_row key_cmp key_total (IsRow nodes)) spelled_row (FailsRow nodes) (IsRow nodes) (λ rows r. IsAscending (rows ++ r ∷ [])) (λ rows r. Sorted Row Key Bool same_row key_cmp key_total (IsRow nodes) (rows ++ r ∷ []))
    (λ rows few h. (ap (is_sorted key_cmp) (map-id rows) ∙ h.ascending, h.each)) (λ rows r h. ap (is_sorted key_cmp) (sym (map-id (rows ++ r ∷ []))) ∙ h)))

-- ---- elements

pub elements_fail : FailsAs (List Val) elements_at FailsElements
unfolding elements_at
elements_fail =
    numbered_fail (List Val) w32 4294967296 wide32 0 65536 why.Range (λ m. list_at value_after_at latest m None) _ (omega arith)
    (λ m range. fail_as (List Val) (list_at value_after_at latest m None) _ _ (sorted_fail Val Val (Unit {0}) entry val_cmp val_total IsSourceValue spelled_value FailsValue value_at value_codec value_fail m)
    (among_as Val m (AreSorted Val Val (Unit {0}) entry val_cmp val_total IsSourceValue) AreElements spelled_value FailsValue IsSourceValue (λ vs v. Sorted Val Val (Unit {0}) entry val_cmp val_total IsSourceValue (vs ++ v ∷ [])) (λ vs v. AreAscending (vs ++ v ∷ []))
    (λ vs few h. record { ascending = h.0; few = omega (arith, few, range.1); each = h.1 }) (λ vs v h. h))
    (among_as Val m AreElements (AreSorted Val Val (Unit {0}) entry val_cmp val_total IsSourceValue) spelled_value FailsValue IsSourceValue (λ vs v. AreAscending (vs ++ v ∷ [])) (λ vs v. Sorted Val Val (Unit {0}) entry val_cmp val_total IsSourceValue (vs ++ v ∷ []))
    (λ vs few h. (h.ascending, h.each)) (λ vs v h. h)))

-- ---- tokens of a value

abbrev Mark : Type 0
Mark = Tok × Bool

abbrev same_mark : Mark → Mark
same_mark t = t

marks_are : (nodes : ℕ) (ts : List Mark) → AreSorted Mark Tok Bool same_mark tok_cmp tok_total (IsToken nodes) ts → AreTokens nodes ts
marks_are nodes ts h = record { ascending = ap (is_sorted tok_cmp) (sym (map-id ts)) ∙ h.0; each = h.1 }

marks_sorted : (nodes : ℕ) (ts : List Mark) → AreTokens nodes ts → AreSorted Mark Tok Bool same_mark tok_cmp tok_total (IsToken nodes) ts
marks_sorted nodes ts h = (ap (is_sorted tok_cmp) (map-id ts) ∙ h.ascending, h.each)

tokens_fail : (nodes before : ℕ) → IsNodes nodes → FailsAs (List Mark) (counted (ranged_at w32 1 (65536 - before)) (tokens_at nodes)) (FailsTokens nodes before)
unfolding tokens_at
tokens_fail nodes before n =
    numbered_fail (List Mark) w32 4294967296 wide32 1 (65536 - before) why.Range (λ m. list_at (token_after_at nodes) latest m None) _ (omega arith)
    (λ m range. fail_as (List Mark) (list_at (token_after_at nodes) latest m None) _ _ (sorted_fail Mark Tok Bool same_mark tok_cmp tok_total (IsToken nodes) spelled_mark (FailsToken nodes) (token_at nodes) (marks.token_codec nodes n) (token_fail nodes n) m)
    (among_as Mark m (AreSorted Mark Tok Bool same_mark tok_cmp tok_total (IsToken nodes)) (AreTokens nodes) spelled_mark (FailsToken nodes) (IsToken nodes) (λ ts t. Sorted Mark Tok Bool same_mark tok_cmp tok_total (IsToken nodes) (ts ++ t ∷ [])) (λ ts t. is_sorted tok_cmp (ts ++ t ∷ []) ≡ true)
    (λ ts few h. marks_are nodes ts h) (λ ts t h. ap (is_sorted tok_cmp) (map-id (ts ++ t ∷ [])) ∙ h))
    (among_as Mark m (AreTokens nodes) (AreSorted Mark Tok Bool same_mark tok_cmp tok_total (IsToken nodes)) spelled_mark (FailsToken nodes) (IsToken nodes) (λ ts t. is_sorted tok_cmp (ts ++ t ∷ []) ≡ true) (λ ts t. Sorted Mark Tok Bool same_mark tok_cmp tok_total (IsToken nodes) (ts ++ t ∷ []))
    (λ ts few h. marks_sorted nodes ts h) (λ ts t h. ap (is_sorted tok_cmp) (sym (map-id (ts ++ t ∷ []))) ∙ h)))

-- ---- values with their tokens

abbrev ValuesRise : Option Val → List Val → Type 0
ValuesRise before vs = AllHave (Option Val) Val (λ s. HasTested Val IsSourceValue (is_above val_cmp s)) latest before vs

values_rise : (nodes : ℕ) (before : Option Val) (gs : List Group) → groups.Rise nodes before gs → ValuesRise before (values_of gs)
values_rise nodes before [] h = tt
values_rise nodes before (g ∷ gs) h = ((h.1, h.0), values_rise nodes (Some g.value) gs h.4)

groups_each : (nodes : ℕ) (before : Option Val) (gs : List Group) → groups.Rise nodes before gs → AllByRecursion (IsGroup nodes) gs
groups_each nodes before [] h = tt
groups_each nodes before (g ∷ gs) h = (
  record { value = h.1; some = h.2; tokens = marks_are nodes g.tokens (are_sorted Mark Tok Bool same_mark tok_cmp tok_total (IsToken nodes) g.tokens h.3) },
  groups_each nodes (Some g.value) gs h.4,
)

groups_rise : (nodes : ℕ) (before : Option Val) (gs : List Group) → ValuesRise before (values_of gs) → AllByRecursion (IsGroup nodes) gs → groups.Rise nodes before gs
groups_rise nodes before [] h each = tt
groups_rise nodes before (g ∷ gs) h each = (
  h.0.1,
  each.0.value,
  each.0.some,
  are_rising Mark Tok Bool same_mark tok_cmp tok_total (IsToken nodes) g.tokens (marks_sorted nodes g.tokens each.0.tokens),
  groups_rise nodes (Some g.value) gs h.1 each.1,
)

sources_each : (nodes : ℕ) (gs : List Group) → AllByRecursion (IsGroup nodes) gs → AllByRecursion IsSourceValue (values_of gs)
sources_each nodes [] h = tt
sources_each nodes (g ∷ gs) h = (h.0.value, sources_each nodes gs h.1)

rows_tokens : (gs : List Group) → length (rows_of gs) ≡ length (tokens_of gs)
rows_tokens [] = refl
rows_tokens (g ∷ gs) = omega (arith, groups.length_group g gs, length-append g.tokens (tokens_of gs), rows_tokens gs)

groups_are : (nodes : ℕ) (gs : List Group) → groups.GroupsHave nodes (None, 0) gs → AreGroups nodes gs
groups_are nodes gs h =
    let rise = groups.groups_rise nodes (None, 0) gs h in
    record {
      ascending = (are_sorted Val Val (Unit {0}) entry val_cmp val_total IsSourceValue (values_of gs) (values_rise nodes None gs rise)).0;
      few = omega (arith, rows_tokens gs, groups.groups_fit nodes (None, 0) gs (omega arith) h);
      each = groups_each nodes None gs rise;
    }

groups_have : (nodes : ℕ) (gs : List Group) → AreGroups nodes gs → groups.GroupsHave nodes (None, 0) gs
groups_have nodes gs h =
    groups.groups_have nodes (None, 0) gs
    (groups_rise nodes None gs (are_rising Val Val (Unit {0}) entry val_cmp val_total IsSourceValue (values_of gs) (h.ascending, sources_each nodes gs h.each)) h.each)
    (omega (arith, rows_tokens gs, h.few))

-- what is known behind groups
known_value : (s : Before) (gs : List Group) → (after after_group s gs).0 ≡ after latest s.0 (values_of gs)
known_value s [] = refl
known_value s (g ∷ gs) = known_value (after_group s g) gs

known_rows : (s : Before) (gs : List Group) → (after after_group s gs).1 ≡ s.1 + length (tokens_of gs)
known_rows s [] = omega arith
known_rows s (g ∷ gs) = omega (arith, known_rows (after_group s g) gs, length-append g.tokens (tokens_of gs))

rows_behind : (gs : List Group) → (after after_group (None, 0) gs).1 ≡ length (tokens_of gs)
rows_behind gs = omega (arith, known_rows (None, 0) gs)

-- a value that can't be read or is none above those before it; and its tokens
abbrev FailsBefore : ℕ → Before → Failure
FailsBefore nodes s = EitherFails (FailsOrLow FailsValue IsSourceValue spelled_value (λ v. is_above val_cmp s.0 v ≡ true)) (FailsBehind (HasTested Val IsSourceValue (is_above val_cmp s.0)) spelled_value (λ _. FailsTokens nodes s.1))

group_fail : (nodes : ℕ) → IsNodes nodes → (s : Before) → FailsAs Group (group_at nodes s) (FailsBefore nodes s)
unfolding group_at
group_fail nodes n s =
    made_fail (Val × List Mark) Group group_made (both_at (value_after_at s.0) (λ _. counted (ranged_at w32 1 (65536 - s.1)) (tokens_at nodes))) (FailsBefore nodes s)
    (both_fail Val (List Mark) (HasTested Val IsSourceValue (is_above val_cmp s.0)) spelled_value (FailsOrLow FailsValue IsSourceValue spelled_value (λ v. is_above val_cmp s.0 v ≡ true)) (λ _. FailsTokens nodes s.1)
    (value_after_at s.0) (λ _. counted (ranged_at w32 1 (65536 - s.1)) (tokens_at nodes)) (tested_codec Val IsSourceValue spelled_value value_at (is_above val_cmp s.0) why.Order value_codec)
    (tested_fail Val IsSourceValue spelled_value FailsValue value_at (is_above val_cmp s.0) why.Order value_codec value_fail) (λ v _. tokens_fail nodes s.1 n))

above_there : (nodes : ℕ) (gs : List Group) → AreGroups nodes gs → (v : Val) → IsSourceValue v → is_above val_cmp (after after_group (None, 0) gs).0 v ≡ true → IsAboveAll gs v
above_there nodes gs h v is above =
    above_all Val Val (Unit {0}) entry val_cmp val_total IsSourceValue (values_of gs) v (are_rising Val Val (Unit {0}) entry val_cmp val_total IsSourceValue (values_of gs) (h.ascending, sources_each nodes gs h.each)) is
    (ap (λ (o : Option Val). is_above val_cmp o v) (sym (known_value (None, 0) gs)) ∙ above)

above_back : (nodes : ℕ) (gs : List Group) → AreGroups nodes gs → (v : Val) → IsSourceValue v → IsAboveAll gs v → is_above val_cmp (after after_group (None, 0) gs).0 v ≡ true
above_back nodes gs h v is above =
    ap (λ (o : Option Val). is_above val_cmp o v) (known_value (None, 0) gs)
    ∙ above_last Val Val (Unit {0}) entry val_cmp val_total IsSourceValue (values_of gs) v (are_rising Val Val (Unit {0}) entry val_cmp val_total IsSourceValue (values_of gs) (h.ascending, sources_each nodes gs h.each)) is above

tokens_as : (nodes m n : ℕ) → m ≡ n → Implies (FailsTokens nodes m) (FailsTokens nodes n)
tokens_as nodes m n is bytes place w f = subst (λ (k : ℕ). FailsTokens nodes k bytes place w) is f

next_there : (nodes : ℕ) (gs : List Group) → AreGroups nodes gs → Implies (FailsBefore nodes (after after_group (None, 0) gs)) (FailsGroup nodes gs)
next_there nodes gs h =
    either_as _ _ _ _ (either_as FailsValue FailsValue _ _ (as_it_is FailsValue) (refused_as Val IsSourceValue IsSourceValue spelled_value _ (IsAboveAll gs) why.Order (λ v k. k) (λ v k m. above_back nodes gs h v k m)))
    (behind_as Val _ (λ v. IsSourceValue v × IsAboveAll gs v) spelled_value _ (λ _. FailsTokens nodes (length (tokens_of gs))) (λ v k. (k.0, above_there nodes gs h v k.0 k.1)) (λ v k. tokens_as nodes _ _ (rows_behind gs)))

next_back : (nodes : ℕ) (gs : List Group) → AreGroups nodes gs → Implies (FailsGroup nodes gs) (FailsBefore nodes (after after_group (None, 0) gs))
next_back nodes gs h =
    either_as _ _ _ _ (either_as FailsValue FailsValue _ _ (as_it_is FailsValue) (refused_as Val IsSourceValue IsSourceValue spelled_value (IsAboveAll gs) _ why.Order (λ v k. k) (λ v k m. above_there nodes gs h v k m)))
    (behind_as Val (λ v. IsSourceValue v × IsAboveAll gs v) _ spelled_value (λ _. FailsTokens nodes (length (tokens_of gs))) _ (λ v k. (k.0, above_back nodes gs h v k.0 k.1)) (λ v k. tokens_as nodes _ _ (sym (rows_behind gs))))

groups_fail : (nodes : ℕ) → IsNodes nodes → FailsAs (List Group) (groups_at nodes) (FailsGroups nodes)
unfolding groups_at
groups_fail nodes n =
    numbered_fail (List Group) w32 4294967296 wide32 0 65536 why.Range (λ m. list_at (group_at nodes) after_group m (None, 0)) _ (omega arith)
    (λ m range. fail_as (List Group) (list_at (group_at nodes) after_group m (None, 0)) (FailsNext Before Group (groups.HasGroup nodes) spelled_group after_group (FailsBefore nodes) m (None, 0)) (FailsAmong m (AreGroups nodes) spelled_group (FailsGroup nodes))
    (list_fail Before Group (groups.HasGroup nodes) spelled_group (FailsBefore nodes) (group_at nodes) after_group (groups.group_codec nodes n) (group_fail nodes n) m (None, 0))
    (behind_as (List Group) (λ gs. (length gs < m) × groups.GroupsHave nodes (None, 0) gs) (λ gs. (length gs < m) × AreGroups nodes gs) (flat_map spelled_group) (λ gs. FailsBefore nodes (after after_group (None, 0) gs)) (FailsGroup nodes)
    (λ gs h. (h.0, groups_are nodes gs h.1)) (λ gs h. next_there nodes gs (groups_are nodes gs h.1)))
    (behind_as (List Group) (λ gs. (length gs < m) × AreGroups nodes gs) (λ gs. (length gs < m) × groups.GroupsHave nodes (None, 0) gs) (flat_map spelled_group) (FailsGroup nodes) (λ gs. FailsBefore nodes (after after_group (None, 0) gs))
    (λ gs h. (h.0, groups_have nodes gs h.1)) (λ gs h. next_back nodes gs h.1)))

grouped_rows_fail : (nodes : ℕ) → IsNodes nodes → FailsAs (List Row) (grouped_rows_at nodes) (FailsGroups nodes)
unfolding grouped_rows_at
grouped_rows_fail nodes n = made_fail (List Group) (List Row) rows_of (groups_at nodes) (FailsGroups nodes) (groups_fail nodes n)

-- ---- by the version

pub rows_fail : (version nodes : ℕ) → (version ≡ 1) ⊎ (version ≡ 2) → IsNodes nodes → FailsAs (List Row) (rows_at version nodes) (FailsRows version nodes)
rows_fail version nodes (inl one) n =
    subst (λ (v : ℕ). FailsAs (List Row) (rows_at v nodes) (FailsRows v nodes)) (sym one)
    (fail_as (List Row) (single_rows_at nodes) (FailsSingleRows nodes) (FailsRows 1 nodes) (single_rows_fail nodes n) (λ bytes place w f. inl (refl, f)) back)
  where
    back : Implies (FailsRows 1 nodes) (FailsSingleRows nodes)
    back bytes place w (inl f) = f.1
    back bytes place w (inr f) = absurd (omega (arith, f.0))
rows_fail version nodes (inr two) n =
    subst (λ (v : ℕ). FailsAs (List Row) (rows_at v nodes) (FailsRows v nodes)) (sym two)
    (fail_as (List Row) (grouped_rows_at nodes) (FailsGroups nodes) (FailsRows 2 nodes) (grouped_rows_fail nodes n) (λ bytes place w f. inr (refl, f)) back)
  where
    back : Implies (FailsRows 2 nodes) (FailsGroups nodes)
    back bytes place w (inl f) = absurd (omega (arith, f.0))
    back bytes place w (inr f) = f.1
