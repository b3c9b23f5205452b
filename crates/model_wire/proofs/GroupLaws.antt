-- The rows of a set by their values: lawful rows are lawful groups, and the other way round.
use Rattle.std.proofs.Common.{◌≡◌, ℕ, ◌+◌, ◌-◌, ◌≤◌, Bool, true, false, cond, List, [], ◌∷◌, ◌++◌, length, map, Option, Some, None, refl, sym, ap, subst, ◌∙◌, append_assoc, arith}
use Rattle.std.specs.Int.{w32, to_be_bytes}
use Rattle.std.specs.Ordering.{eq_by_cmp, is_eq, is_lt, ordering_then}
use Rattle.std.specs.Cmp.{tied_itself}
use Rattle.std.specs.declared.cmp.Ordering.{Ordering}
use Rattle.std.specs.declared.cmp.Ordering.TheVariants.{Less, Equal, Greater}
use Rattle.std.proofs.lemmas.List.{length-append, length-map}
use Rattle.model_values.specs.Value.{Val, val_cmp, val_total, val_exact}
use Rattle.model_values.specs.Token.{Tok, tok_cmp}
use Rattle.model_values.specs.Row.{Row, row_cmp}
use Rattle.model_graph.specs.Spelling.{Group, with_row, groups_of, spelled_value, spelled_group, spelled_rows}
use Rattle.model_wire.specs.declared.wire_why.WireWhy.TheVariants as why
use Rattle.model_wire.specs.Reader.{both_at, counted, list_at, ranged_at}
use Rattle.model_wire.specs.Value.{value_at, token_at, is_above, mark_cmp, latest}
use Rattle.model_wire.specs.Message.{token_after_at, tokens_at, Before, value_after_at, group_made, group_at, after_group, row_of, rows_of_group, rows_of, groups_at, grouped_rows_at}
use Rattle.model_wire.specs.Lawful.{IsSourceValue, IsNodes, IsToken, IsRow, AreRows}
use Rattle.model_wire.proofs.Codecs.{IsCodec, wide32, HasTested, tested_codec, HasBoth, spell_both, both_codec, spell_counted, HasCounted, counted_codec, made_codec, AllHave, HasMany, spell_all, list_codec}
use Rattle.model_wire.proofs.ValueLaws.{HasRange, ranged_codec, within_range, in_range, value_codec}
use Rattle.model_wire.proofs.RowLaws.{spelled_mark, token_codec}
use Rattle.model_wire.proofs.SetLaws.{RowsRise, rows_known, rows_rise}
use Rattle.model_wire.proofs.OrderLaws.{less}

abbrev pub Mark : Type 0
Mark = Tok × Bool

abbrev pub MarksRise : ℕ → Option Mark → List Mark → Type 0
MarksRise nodes before marks = AllHave (Option Mark) Mark (λ s. HasTested Mark (IsToken nodes) (is_above mark_cmp s)) latest before marks

-- ---- rows of groups are the rows that were grouped

same_value : (v : Val) → eq_by_cmp val_cmp v v ≡ true
same_value v = ap is_eq (tied_itself val_total v)

with_row_back : (r : Row) (gs : List Group) → rows_of (with_row r gs) ≡ r ∷ rows_of gs
with_row_back r [] = refl
with_row_back r (g ∷ gs) = by (val_cmp r.0.0 g.value) refl
  where
    by : (o : Ordering) → val_cmp r.0.0 g.value ≡ o
        → rows_of (cond (is_eq o) (record { value = g.value; tokens = (r.0.1, r.1) ∷ g.tokens } ∷ gs) (record { value = r.0.0; tokens = (r.0.1, r.1) ∷ [] } ∷ g ∷ gs)) ≡ r ∷ rows_of (g ∷ gs)
    by Less e = refl
    by Greater e = refl
    by Equal e = ap (λ (v : Val). ((v, r.0.1), r.1) ∷ rows_of (g ∷ gs)) (sym (val_exact r.0.0 g.value e))

pub groups_back : (rows : List Row) → rows_of (groups_of rows) ≡ rows
groups_back [] = refl
groups_back (r ∷ rows) = with_row_back r (groups_of rows) ∙ ap (λ (s : List Row). r ∷ s) (groups_back rows)

-- ---- groups whose values rise, each with tokens that rise

-- the groups behind a value: each has tokens, and its value stands above the one before it
abbrev pub Rise : ℕ → Option Val → List Group → Type 0
Rise nodes before [] = Unit {0}
Rise nodes before (g ∷ gs) = (is_above val_cmp before g.value ≡ true) × IsSourceValue g.value × (1 ≤ length g.tokens) × MarksRise nodes None g.tokens × Rise nodes (Some g.value) gs

-- the tokens of one value, and what stands behind its rows
marks_rows : (nodes : ℕ) (v : Val) (t : Mark) (marks : List Mark) (rest : List Row) → IsSourceValue v → MarksRise nodes (Some t) marks → ((s : Mark) → RowsRise nodes (Some (row_of v s)) rest)
    → RowsRise nodes (Some (row_of v t)) (map (row_of v) marks ++ rest)
marks_rows nodes v t [] rest value marks after = after t
marks_rows nodes v t (s ∷ marks) rest value h after =
    let tied = tied_itself val_total v in
    let above : is_lt (row_cmp (row_of v t) (row_of v s)) ≡ true = rw tied h.0.1 in
    (((value, h.0.0), above), marks_rows nodes v s marks rest value h.1 after)

-- the rows of one group before rows that may stand behind each of them
first_rows : (nodes : ℕ) (before : Option Val) (q : Option Row) (g : Group) (rest : List Row) → ((v : Val) (t : Mark) → is_above val_cmp before v ≡ true → is_above row_cmp q (row_of v t) ≡ true)
    → is_above val_cmp before g.value ≡ true → IsSourceValue g.value → 1 ≤ length g.tokens → MarksRise nodes None g.tokens → ((s : Mark) → RowsRise nodes (Some (row_of g.value s)) rest)
    → RowsRise nodes q (rows_of_group g ++ rest)
first_rows nodes before q g rest allows above value some rise next = from g.tokens some rise
  where
    from : (marks : List Mark) → 1 ≤ length marks → MarksRise nodes None marks → RowsRise nodes q (map (row_of g.value) marks ++ rest)
    from [] few h = absurd (omega arith)
    from (t ∷ marks) few h = (((value, h.0.0), allows g.value t above), marks_rows nodes g.value t marks rest value h.1 next)

-- the rows of groups behind a row that is allowed below each value above the last
groups_rows : (nodes : ℕ) (before : Option Val) (q : Option Row) (gs : List Group) → ((v : Val) (t : Mark) → is_above val_cmp before v ≡ true → is_above row_cmp q (row_of v t) ≡ true) → Rise nodes before gs → RowsRise nodes q (rows_of gs)
groups_rows nodes before q [] allows h = tt
groups_rows nodes before q (g ∷ gs) allows h =
    first_rows nodes before q g (rows_of gs) allows h.0 h.1 h.2 h.3
    (λ s. groups_rows nodes (Some g.value) (Some (row_of g.value s)) gs (λ v t above. rw (less (val_cmp g.value v) above) refl) h.4)

-- grouping the rows of one value that stand before those of greater values
marks_grouped : (v : Val) (t : Mark) (marks : List Mark) (rest : List Row) (gs : List Group) → groups_of rest ≡ gs → with_row (row_of v t) gs ≡ record { value = v; tokens = t ∷ [] } ∷ gs
    → groups_of (row_of v t ∷ (map (row_of v) marks ++ rest)) ≡ record { value = v; tokens = t ∷ marks } ∷ gs
marks_grouped v t [] rest gs is first = rw is first
marks_grouped v t (s ∷ marks) rest gs is first =
    rw (marks_grouped v s marks rest gs is (other gs first), same_value v) refl
  where
    other : (hs : List Group) → with_row (row_of v t) hs ≡ record { value = v; tokens = t ∷ [] } ∷ hs → with_row (row_of v s) hs ≡ record { value = v; tokens = s ∷ [] } ∷ hs
    other [] k = refl
    other (g ∷ hs) k = by (eq_by_cmp val_cmp v g.value) k
      where
        by : (b : Bool) → cond b (record { value = g.value; tokens = t ∷ g.tokens } ∷ hs) (record { value = v; tokens = t ∷ [] } ∷ g ∷ hs) ≡ record { value = v; tokens = t ∷ [] } ∷ g ∷ hs
            → cond b (record { value = g.value; tokens = s ∷ g.tokens } ∷ hs) (record { value = v; tokens = s ∷ [] } ∷ g ∷ hs) ≡ record { value = v; tokens = s ∷ [] } ∷ g ∷ hs
        by true k = absurd (omega (arith, ap (λ (l : List Group). length l) k))
        by false k = refl

group_back : (v : Val) (marks : List Mark) (rest : List Row) (gs : List Group) → 1 ≤ length marks → groups_of rest ≡ gs → ((t : Mark) → with_row (row_of v t) gs ≡ record { value = v; tokens = t ∷ [] } ∷ gs)
    → groups_of (map (row_of v) marks ++ rest) ≡ record { value = v; tokens = marks } ∷ gs
group_back v [] rest gs some is first = absurd (omega arith)
group_back v (t ∷ marks) rest gs some is first = marks_grouped v t marks rest gs is (first t)

before_greater : (nodes : ℕ) (v : Val) (gs : List Group) (t : Mark) → Rise nodes (Some v) gs → with_row (row_of v t) gs ≡ record { value = v; tokens = t ∷ [] } ∷ gs
before_greater nodes v [] t h = refl
before_greater nodes v (g ∷ gs) t h = rw (less (val_cmp v g.value) h.0) refl

pub grouped_back : (nodes : ℕ) (before : Option Val) (gs : List Group) → Rise nodes before gs → groups_of (rows_of gs) ≡ gs
grouped_back nodes before [] h = refl
grouped_back nodes before (g ∷ gs) h =
    group_back g.value g.tokens (rows_of gs) gs h.2 (grouped_back nodes (Some g.value) gs h.4) (λ t. before_greater nodes g.value gs t h.4)

-- ---- rows that rise are groups that rise

-- the groups of rows of which the first is r
record Headed (nodes : ℕ) (r : Row) (rows : List Row) : Type 0 where
  pub marks : List Mark
  pub gs : List Group
  pub is : groups_of (r ∷ rows) ≡ record { value = r.0.0; tokens = (r.0.1, r.1) ∷ marks } ∷ gs
  pub rise : MarksRise nodes (Some (r.0.1, r.1)) marks
  pub behind : Rise nodes (Some r.0.0) gs

abbrev headed_group : Row → List Mark → Group
headed_group r marks = record { value = r.0.0; tokens = (r.0.1, r.1) ∷ marks }

headed_before : (nodes : ℕ) (r s : Row) (rows : List Row) → IsRow nodes s → is_lt (row_cmp r s) ≡ true → Headed nodes s rows → Headed nodes r (s ∷ rows)
headed_before nodes r s rows row above h = by (val_cmp r.0.0 s.0.0) refl
  where
    by : (o : Ordering) → val_cmp r.0.0 s.0.0 ≡ o → Headed nodes r (s ∷ rows)
    by Less e = record {
      marks = [];
      gs = headed_group s h.marks ∷ h.gs;
      is = rw (h.is, e) refl;
      rise = tt;
      behind = (ap is_lt e, row.0, omega arith, ((row.1, refl), h.rise), h.behind);
    }
    by Equal e = record {
      marks = (s.0.1, s.1) ∷ h.marks;
      gs = h.gs;
      is = rw (h.is, e) (ap (λ (v : Val). record { value = v; tokens = (r.0.1, r.1) ∷ (s.0.1, s.1) ∷ h.marks } ∷ h.gs) (sym (val_exact r.0.0 s.0.0 e)));
      rise = ((row.1, ap (λ (o : Ordering). is_lt (ordering_then o (tok_cmp r.0.1 s.0.1))) (sym e) ∙ above), h.rise);
      behind = subst (λ (v : Val). Rise nodes (Some v) h.gs) (sym (val_exact r.0.0 s.0.0 e)) h.behind;
    }
    by Greater e = absurd (different (ap (λ (o : Ordering). is_lt (ordering_then o (tok_cmp r.0.1 s.0.1))) (sym e) ∙ above))
      where
        different : false ≡ true → ⊥
        different k = absurd cc

headed : (nodes : ℕ) (r : Row) (rows : List Row) → RowsRise nodes (Some r) rows → Headed nodes r rows
headed nodes r [] h = record { marks = []; gs = []; is = refl; rise = tt; behind = tt }
headed nodes r (s ∷ rows) h = headed_before nodes r s rows h.0.0 h.0.1 (headed nodes s rows h.1)

rows_groups : (nodes : ℕ) (rows : List Row) → RowsRise nodes None rows → Rise nodes None (groups_of rows)
rows_groups nodes [] h = tt
rows_groups nodes (r ∷ rows) h =
    let head = headed nodes r rows h.1 in
    subst (Rise nodes None) (sym head.is) (refl, h.0.0.0, omega arith, ((h.0.0.1, refl), head.rise), head.behind)

-- ---- how many rows the groups have

pub length_group : (g : Group) (gs : List Group) → length (rows_of (g ∷ gs)) ≡ length g.tokens + length (rows_of gs)
length_group g gs = length-append (rows_of_group g) (rows_of gs) ∙ ap (λ (n : ℕ). n + length (rows_of gs)) (length-map g.tokens (row_of g.value))

groups_few : (nodes : ℕ) (before : Option Val) (gs : List Group) → Rise nodes before gs → length gs ≤ length (rows_of gs)
groups_few nodes before [] h = omega arith
groups_few nodes before (g ∷ gs) h = omega (arith, h.2, length_group g gs, groups_few nodes (Some g.value) gs h.4)

abbrev pub HasMarks : ℕ → ℕ → List Mark → Type 0
HasMarks nodes room = HasCounted ℕ (List Mark) (HasRange 4294967296 1 room) length (λ n. HasMany (Option Mark) Mark (λ s. HasTested Mark (IsToken nodes) (is_above mark_cmp s)) latest n None)

abbrev pub HasGroup : ℕ → Before → Group → Type 0
HasGroup nodes before g = HasTested Val IsSourceValue (is_above val_cmp before.0) g.value × HasMarks nodes (65536 - before.1) g.tokens

abbrev pub GroupsHave : ℕ → Before → List Group → Type 0
GroupsHave nodes before gs = AllHave Before Group (HasGroup nodes) after_group before gs

pub groups_rise : (nodes : ℕ) (before : Before) (gs : List Group) → GroupsHave nodes before gs → Rise nodes before.0 gs
groups_rise nodes before [] h = tt
groups_rise nodes before (g ∷ gs) h =
    (h.0.0.1, h.0.0.0, (within_range 1 (65536 - before.1) (length g.tokens) h.0.1.0.1).0, h.0.1.1.1, groups_rise nodes (after_group before g) gs h.1)

pub groups_fit : (nodes : ℕ) (before : Before) (gs : List Group) → before.1 ≤ 65536 → GroupsHave nodes before gs → before.1 + length (rows_of gs) ≤ 65536
groups_fit nodes before [] few h = omega arith
groups_fit nodes before (g ∷ gs) few h =
    let fits = (within_range 1 (65536 - before.1) (length g.tokens) h.0.1.0.1).1 in
    omega (arith, fits, length_group g gs, groups_fit nodes (after_group before g) gs (omega (arith, fits)) h.1)

pub groups_have : (nodes : ℕ) (before : Before) (gs : List Group) → Rise nodes before.0 gs → before.1 + length (rows_of gs) ≤ 65536 → GroupsHave nodes before gs
groups_have nodes before [] h few = tt
groups_have nodes before (g ∷ gs) h few =
    let long = length_group g gs in
    let room : length g.tokens ≤ 65536 - before.1 = omega (arith, few, long) in (
      ((h.1, h.0), ((omega (arith, room), in_range 1 (65536 - before.1) (length g.tokens) h.2 room), (refl, h.3))),
      groups_have nodes (after_group before g) gs h.4 (omega (arith, few, long)),
    )

-- ---- version 2

pub group_codec : (nodes : ℕ) → IsNodes nodes → (before : Before) → IsCodec Group (HasGroup nodes before) spelled_group (group_at nodes before)
unfolding group_at tokens_at
group_codec nodes n before =
    made_codec (Val × List Mark) Group (HasBoth Val (List Mark) (HasTested Val IsSourceValue (is_above val_cmp before.0)) (λ _. HasMarks nodes (65536 - before.1))) (HasGroup nodes before)
    (spell_both Val (List Mark) spelled_value (spell_counted ℕ (List Mark) (to_be_bytes w32) length (spell_all Mark spelled_mark))) spelled_group group_made (λ g. (g.value, g.tokens))
    (both_at (value_after_at before.0) (λ _. counted (ranged_at w32 1 (65536 - before.1)) (tokens_at nodes)))
    (both_codec Val (List Mark) (HasTested Val IsSourceValue (is_above val_cmp before.0)) (λ _. HasMarks nodes (65536 - before.1)) spelled_value (spell_counted ℕ (List Mark) (to_be_bytes w32) length (spell_all Mark spelled_mark))
    (value_after_at before.0) (λ _. counted (ranged_at w32 1 (65536 - before.1)) (tokens_at nodes))
    (tested_codec Val IsSourceValue spelled_value value_at (is_above val_cmp before.0) why.Order value_codec)
    (λ _ _. counted_codec ℕ (List Mark) (HasRange 4294967296 1 (65536 - before.1)) (λ m. HasMany (Option Mark) Mark (λ s. HasTested Mark (IsToken nodes) (is_above mark_cmp s)) latest m None) (to_be_bytes w32) (spell_all Mark spelled_mark) length
    (ranged_at w32 1 (65536 - before.1)) (tokens_at nodes) (ranged_codec w32 4294967296 wide32 1 (65536 - before.1))
    (λ m _. list_codec (Option Mark) Mark (λ s. HasTested Mark (IsToken nodes) (is_above mark_cmp s)) spelled_mark (token_after_at nodes) latest
    (λ s. tested_codec Mark (IsToken nodes) spelled_mark (token_at nodes) (is_above mark_cmp s) why.Order (token_codec nodes n)) m None)
    (λ m marks _ h. h.0)))
    (record { has = λ p h. h; spelled = λ p h. sym (append_assoc (spelled_value p.0) (to_be_bytes w32 (length p.1)) (spell_all Mark spelled_mark p.1)); has_parts = λ g h. h; remakes = λ g h. refl })

abbrev GroupsHad : ℕ → List Group → Type 0
GroupsHad nodes = HasCounted ℕ (List Group) (HasRange 4294967296 0 65536) length (λ n. HasMany Before Group (HasGroup nodes) after_group n (None, 0))

abbrev spelled_groups : List Group → List ℕ
spelled_groups = spell_counted ℕ (List Group) (to_be_bytes w32) length (spell_all Group spelled_group)

groups_codec : (nodes : ℕ) → IsNodes nodes → IsCodec (List Group) (GroupsHad nodes) spelled_groups (groups_at nodes)
unfolding groups_at
groups_codec nodes n =
    counted_codec ℕ (List Group) (HasRange 4294967296 0 65536) (λ m. HasMany Before Group (HasGroup nodes) after_group m (None, 0)) (to_be_bytes w32) (spell_all Group spelled_group) length
    (ranged_at w32 0 65536) (λ m. list_at (group_at nodes) after_group m (None, 0)) (ranged_codec w32 4294967296 wide32 0 65536)
    (λ m _. list_codec Before Group (HasGroup nodes) spelled_group (group_at nodes) after_group (group_codec nodes n) m (None, 0))
    (λ m groups _ h. h.0)

groups_known : (nodes : ℕ) (gs : List Group) → GroupsHad nodes gs → AreRows nodes (rows_of gs)
groups_known nodes gs h =
    let few = groups_fit nodes (None, 0) gs (omega arith) h.1.1 in
    rows_known nodes None (rows_of gs) (omega (arith, few)) (groups_rows nodes None None gs (λ v t above. refl) (groups_rise nodes (None, 0) gs h.1.1))

rows_had : (nodes : ℕ) (rows : List Row) → AreRows nodes rows → GroupsHad nodes (groups_of rows)
rows_had nodes rows h =
    let rise = rows_groups nodes rows (rows_rise nodes rows h) in
    let same : length (rows_of (groups_of rows)) ≡ length rows = ap (λ (s : List Row). length s) (groups_back rows) in
    let few : length (groups_of rows) ≤ 65536 = omega (arith, h.few, same, groups_few nodes None (groups_of rows) rise) in
    ((omega (arith, few), in_range 0 65536 (length (groups_of rows)) (omega arith) few), (refl, groups_have nodes (None, 0) (groups_of rows) rise (omega (arith, h.few, same))))

pub grouped_rows_codec : (nodes : ℕ) → IsNodes nodes → IsCodec (List Row) (AreRows nodes) spelled_rows (grouped_rows_at nodes)
unfolding grouped_rows_at
grouped_rows_codec nodes n =
    made_codec (List Group) (List Row) (GroupsHad nodes) (AreRows nodes) spelled_groups spelled_rows rows_of groups_of (groups_at nodes) (groups_codec nodes n)
    (record {
      has = groups_known nodes;
      spelled = λ gs h. ap spelled_groups (sym (grouped_back nodes None gs (groups_rise nodes (None, 0) gs h.1.1)));
      has_parts = rows_had nodes;
      remakes = λ rows h. groups_back rows;
    })
