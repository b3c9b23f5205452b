-- Rows that are written first to last are written by their values.
use Rattle.std.proofs.Common.{◌≡◌, ℕ, suc, Bool, true, false, not, cond, if◌then◌else◌, List, [], ◌∷◌, ◌++◌, length, Option, Some, None, refl, ap, ◌∙◌, append_assoc}
use Rattle.std.specs.List.{flat_map}
use Rattle.std.specs.Ordering.{is_eq, eq_by_cmp}
use Rattle.std.specs.declared.cmp.Ordering.{Ordering}
use Rattle.std.specs.declared.cmp.Ordering.TheVariants.{Less, Equal, Greater}
use Rattle.model_values.specs.Value.{Val, val_cmp, val_exact}
use Rattle.model_values.specs.Token.{Tok}
use Rattle.model_values.specs.Row.{Row}
use Rattle.model_graph.specs.Spelling.{number, truth, spelled_value, spelled_token, Group, with_row, groups_of, spelled_group, spelled_rows}
use Rattle.lasp_wire.specs.Written.{spelled_mark, run, is_first, spelled_after, values_after}

abbrev same : Val → Val → Bool
same v w = eq_by_cmp val_cmp v w

equal : (o : Ordering) → is_eq o ≡ true → o ≡ Equal
equal Less h = absurd cc
equal Equal h = refl
equal Greater h = absurd cc

is_same : (v w : Val) → same v w ≡ true → v ≡ w
is_same v w h = val_exact v w (equal (val_cmp v w) h)

abbrev mark : Tok × Bool → List ℕ
mark t = spelled_token t.0 ++ truth t.1

abbrev mark_in : Row → Tok × Bool
mark_in r = (r.0.1, r.1)

abbrev is_new : Option Val → Val → Bool
is_new None v = true
is_new (Some u) v = not (same u v)

new_row : (before : Option Val) (r : Row) → is_first before r ≡ is_new before r.0.0
new_row None r = refl
new_row (Some v) r = refl

-- ---- the rows of the first value

abbrev run_of : Val → List Group → ℕ
run_of v [] = 0
run_of v (g ∷ gs) = if same v g.value then length g.tokens else 0

run_joined : (v w : Val) (n : ℕ) → cond (same v w) (suc (cond (same v w) n 0)) 0 ≡ cond (same v w) (suc n) 0
run_joined v w n = elim (same v w) as (λ b. cond b (suc (cond b n 0)) 0 ≡ cond b (suc n) 0) [ true ↦ refl | false ↦ refl ]

run_apart : (v u w : Val) (n : ℕ) (b : Bool) → same v u ≡ b → same u w ≡ false → cond b (suc (cond (same v w) n 0)) 0 ≡ cond b 1 0
run_apart v u w n true h apart =
    let e : same v w ≡ false = ap (λ (x : Val). same x w) (is_same v u h) ∙ apart in
    ap (λ (b : Bool). suc (cond b n 0)) e
run_apart v u w n false h apart = refl

run_more : (v : Val) (r : Row) (g : Group) (gs : List Group) (b : Bool) → same r.0.0 g.value ≡ b
    → cond (same v r.0.0) (suc (run_of v (g ∷ gs))) 0 ≡ run_of v (cond b (record { value = g.value; tokens = mark_in r ∷ g.tokens } ∷ gs) (record { value = r.0.0; tokens = mark_in r ∷ [] } ∷ g ∷ gs))
run_more v r g gs true h =
    ap (λ (w : Val). cond (same v w) (suc (cond (same v g.value) (length g.tokens) 0)) 0) (is_same r.0.0 g.value h) ∙ run_joined v g.value (length g.tokens)
run_more v r g gs false h = run_apart v r.0.0 g.value (length g.tokens) (same v r.0.0) refl h

run_with : (v : Val) (r : Row) (gs : List Group) → cond (same v r.0.0) (suc (run_of v gs)) 0 ≡ run_of v (with_row r gs)
run_with v r [] = refl
run_with v r (g ∷ gs) = run_more v r g gs (same r.0.0 g.value) refl

run_is : (v : Val) (rows : List Row) → run v rows ≡ run_of v (groups_of rows)
run_is v [] = refl
run_is v (r ∷ rows) = ap (λ (n : ℕ). cond (same v r.0.0) (suc n) 0) (run_is v rows) ∙ run_with v r (groups_of rows)

-- ---- how many values

abbrev count_of : Option Val → List Group → ℕ
count_of before [] = 0
count_of before (g ∷ gs) = if is_new before g.value then suc (length gs) else length gs

count_more : (before : Option Val) (r : Row) (g : Group) (gs : List Group) (b : Bool) → same r.0.0 g.value ≡ b
    → cond (is_new before r.0.0) (suc (count_of (Some r.0.0) (g ∷ gs))) (count_of (Some r.0.0) (g ∷ gs))
    ≡ count_of before (cond b (record { value = g.value; tokens = mark_in r ∷ g.tokens } ∷ gs) (record { value = r.0.0; tokens = mark_in r ∷ [] } ∷ g ∷ gs))
count_more before r g gs true h =
    let n : count_of (Some r.0.0) (g ∷ gs) ≡ length gs = ap (λ (b : Bool). cond (not b) (suc (length gs)) (length gs)) h in
    rw n (ap (λ (w : Val). cond (is_new before w) (suc (length gs)) (length gs)) (is_same r.0.0 g.value h))
count_more before r g gs false h =
    let n : count_of (Some r.0.0) (g ∷ gs) ≡ suc (length gs) = ap (λ (b : Bool). cond (not b) (suc (length gs)) (length gs)) h in
    rw n refl

count_with : (before : Option Val) (r : Row) (gs : List Group) → cond (is_new before r.0.0) (suc (count_of (Some r.0.0) gs)) (count_of (Some r.0.0) gs) ≡ count_of before (with_row r gs)
count_with before r [] = refl
count_with before r (g ∷ gs) = count_more before r g gs (same r.0.0 g.value) refl

values_are : (before : Option Val) (rows : List Row) → values_after before rows ≡ count_of before (groups_of rows)
values_are before [] = refl
values_are before (r ∷ rows) =
    ap (λ (b : Bool). cond b (suc (values_after (Some r.0.0) rows)) (values_after (Some r.0.0) rows)) (new_row before r)
    ∙ ap (λ (n : ℕ). cond (is_new before r.0.0) (suc n) n) (values_are (Some r.0.0) rows) ∙ count_with before r (groups_of rows)

counts_all : (gs : List Group) → count_of None gs ≡ length gs
counts_all [] = refl
counts_all (g ∷ gs) = refl

-- ---- the bytes

abbrev start : Option Val → Val → ℕ → List ℕ
start before v n = if is_new before v then spelled_value v ++ number 4 n else []

abbrev text_of : Option Val → List Group → List ℕ
text_of before [] = []
text_of before (g ∷ gs) = start before g.value (length g.tokens) ++ (flat_map mark g.tokens ++ flat_map spelled_group gs)

text_all : (gs : List Group) → text_of None gs ≡ flat_map spelled_group gs
text_all [] = refl
text_all (g ∷ gs) = simp append_assoc

regroup : (a m b c : List ℕ) → (a ++ m) ++ (b ++ c) ≡ a ++ ((m ++ b) ++ c)
regroup a m b c = simp append_assoc

text_more : (before : Option Val) (r : Row) (g : Group) (gs : List Group) (b : Bool) → same r.0.0 g.value ≡ b
    → (start before r.0.0 (suc (run_of r.0.0 (g ∷ gs))) ++ mark (mark_in r)) ++ text_of (Some r.0.0) (g ∷ gs)
    ≡ text_of before (cond b (record { value = g.value; tokens = mark_in r ∷ g.tokens } ∷ gs) (record { value = r.0.0; tokens = mark_in r ∷ [] } ∷ g ∷ gs))
text_more before r g gs true h =
    let n : run_of r.0.0 (g ∷ gs) ≡ length g.tokens = ap (λ (b : Bool). cond b (length g.tokens) 0) h in
    let t : text_of (Some r.0.0) (g ∷ gs) ≡ flat_map mark g.tokens ++ flat_map spelled_group gs =
    ap (λ (b : Bool). cond (not b) (spelled_value g.value ++ number 4 (length g.tokens)) [] ++ (flat_map mark g.tokens ++ flat_map spelled_group gs)) h in
    rw (n, t) (ap (λ (w : Val). (start before w (suc (length g.tokens)) ++ mark (mark_in r)) ++ (flat_map mark g.tokens ++ flat_map spelled_group gs)) (is_same r.0.0 g.value h)
    ∙ regroup (start before g.value (suc (length g.tokens))) (mark (mark_in r)) (flat_map mark g.tokens) (flat_map spelled_group gs))
text_more before r g gs false h =
    let n : run_of r.0.0 (g ∷ gs) ≡ 0 = ap (λ (b : Bool). cond b (length g.tokens) 0) h in
    let t : text_of (Some r.0.0) (g ∷ gs) ≡ flat_map spelled_group (g ∷ gs) =
    ap (λ (b : Bool). cond (not b) (spelled_value g.value ++ number 4 (length g.tokens)) [] ++ (flat_map mark g.tokens ++ flat_map spelled_group gs)) h ∙ text_all (g ∷ gs) in
    rw (n, t) (regroup (start before r.0.0 1) (mark (mark_in r)) [] (flat_map spelled_group (g ∷ gs)))

text_with : (before : Option Val) (r : Row) (gs : List Group) → (start before r.0.0 (suc (run_of r.0.0 gs)) ++ mark (mark_in r)) ++ text_of (Some r.0.0) gs ≡ text_of before (with_row r gs)
text_with before r [] = regroup (start before r.0.0 1) (mark (mark_in r)) [] []
text_with before r (g ∷ gs) = text_more before r g gs (same r.0.0 g.value) refl

rows_are : (before : Option Val) (rows : List Row) → spelled_after before rows ≡ text_of before (groups_of rows)
rows_are before [] = refl
rows_are before (r ∷ rows) =
    ap (λ (b : Bool). (cond b (spelled_value r.0.0 ++ number 4 (suc (run r.0.0 rows))) [] ++ spelled_mark r) ++ spelled_after (Some r.0.0) rows) (new_row before r)
    ∙ (λ i. (start before r.0.0 (suc (run_is r.0.0 rows i)) ++ spelled_mark r) ++ rows_are (Some r.0.0) rows i) ∙ text_with before r (groups_of rows)

-- the number of values and the rows
pub written_rows : (rows : List Row) → number 4 (values_after None rows) ++ spelled_after None rows ≡ spelled_rows rows
written_rows rows = λ i. number 4 ((values_are None rows ∙ counts_all (groups_of rows)) i) ++ (rows_are None rows ∙ text_all (groups_of rows)) i
