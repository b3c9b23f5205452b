-- Places of all values: they stay while rows come, take a row in, and tell what a table shows.
use Rattle.std.proofs.Common.{◌≡◌, ℕ, zero, suc, ◌+◌, ◌<◌, ◌≤◌, max, Bool, true, false, nat_lt, ◌&&◌, IsTrue, if◌then◌else◌, List, [], ◌∷◌, ◌++◌, take, drop, length, slice_get, get_or, append-nil, refl, sym, ap, subst, ◌∙◌, append_assoc, arith, Option, Some, None, Result, Ok, Err, IfOk, IfSome}
use Rattle.std.proofs.lemmas.Bool.Decides.{nat_tests}
use Rattle.std.proofs.lemmas.List.{take-append-drop, drop_all}
use Rattle.std.specs.Ordering.{is_eq, is_lt, eq_by_cmp}
use Rattle.std.specs.declared.cmp.Ordering.{Ordering}
use Rattle.std.specs.declared.cmp.Ordering.TheVariants.{Less, Equal}
use Rattle.std.specs.Cmp.{tied_itself}
use Rattle.std.specs.Option.{option_map}
use Rattle.model_values.specs.Value.{Val, val_cmp, val_exact, val_total}
use Rattle.model_values.specs.Row.{Key, Row}
use Rattle.model_values.proofs.ListLaws.{drop-at}
use Rattle.model_sets.specs.Values.{is_value, held, of_values, IsWithin, live_values}
use Rattle.model_sets.proofs.RowLaws.{is-Equal}
use Rattle.model_sets.proofs.ValueLaws.{held-small, held-append, held-of_values, same_from_held, ascending-of_values}
use Rattle.lasp_logset.specs.Chains.{value_hash, AreChained, StayRows}
use Rattle.lasp_logset.specs.Few.{value_of, values_at, AreSeen, IsStanding}
use Rattle.lasp_logset.specs.Kept.{AreKept, IsSet}
use Rattle.lasp_logset.specs.Live.{IsLiveRow}
use Rattle.lasp_logset.specs.Places.{AreFound}
use Rattle.lasp_logset.specs.Shown.{order_behind, thinned, rises}
use Rattle.lasp_logset.proofs.ChainLaws.{row-live, chained-stay, below-or-last}
use Rattle.lasp_logset.proofs.LiveLaws.{some-inj, got-within}
use Rattle.lasp_logset.proofs.PlaceLaws.{found-stay}
use Rattle.lasp_logset.proofs.ShownLaws.{held-live, thin-values}

-- ---- live rows and their values

own-value : (v : Val) → is_value v v ≡ 1
own-value v = ap (λ (o : Ordering). if is_eq o then 1 else 0) (tied_itself val_total v)

pub live-held : (rows : List Row) (i : ℕ) (v : Val) → IsLiveRow rows v i → 0 < held (live_values rows) v
live-held [] i v live = absurd (omega (arith, got-within [] i ((v, live.0), false) live.1))
live-held (r ∷ rows) zero v live =
    subst (λ (q : Row). 0 < held (live_values (q ∷ rows)) v) (sym (some-inj r ((v, live.0), false) live.1)) (omega (arith, own-value v, held-live ((v, live.0), false) rows v))
live-held (r ∷ rows) (suc i) v live = omega (arith, held-live r rows v, live-held rows i v live)

same-value : (w v : Val) → 0 < is_value w v → v ≡ w
same-value w v h = choose (eq_by_cmp val_cmp v w) refl h where
  choose : (b : Bool) → eq_by_cmp val_cmp v w ≡ b → 0 < (if b then 1 else 0) → v ≡ w
  choose true e some = val_exact v w (is-Equal (val_cmp v w) e)
  choose false e some = absurd (omega (arith, some))

pub held-row : (rows : List Row) (v : Val) → 0 < held (live_values rows) v → (i : ℕ) × IsLiveRow rows v i
held-row [] v h = absurd (omega (arith, h))
held-row ((k, true) ∷ rows) v h = let later = held-row rows v h in (suc later.0, later.1)
held-row ((k, false) ∷ rows) v h = choose (is_value k.0 v) refl (held-row rows v) where
  choose : (n : ℕ) → is_value k.0 v ≡ n → (0 < held (live_values rows) v → (i : ℕ) × IsLiveRow rows v i) → (i : ℕ) × IsLiveRow ((k, false) ∷ rows) v i
  choose zero e rest = let later = rest (omega (arith, h, e)) in (suc later.0, later.1)
  choose (suc n) e rest = (0, (k.1, ap (λ (w : Val). Some ((w, k.1), false)) (sym (same-value k.0 v (omega (arith, e))))))

-- ---- rows come

live-stay : (before after : List Row) (v : Val) (i : ℕ) → StayRows before after → i < length before → IsLiveRow after v i → IsLiveRow before v i
live-stay before after v i stay within live =
    let was = stay.live (value_hash v) i within (row-live after v i live) in
    let key : (v, live.0) ≡ was.0.0 = some-inj (v, live.0) was.0.0 (ap (λ (o : Option Row). option_map (λ (r : Row). r.0) o) (sym live.1) ∙ stay.keys i within ∙ ap (λ (o : Option Row). option_map (λ (r : Row). r.0) o) was.1) in
    (live.0, was.1 ∙ (λ i. Some (sym key i, was.2 i)))

value-key : (o p : Option Row) → option_map (λ (r : Row). r.0) o ≡ option_map (λ (r : Row). r.0) p → value_of o ≡ value_of p
value-key None None e = refl
value-key None (Some r) e = cc
value-key (Some q) None e = cc
value-key (Some q) (Some r) e = ap (λ (k : Key). k.0 ∷ []) (some-inj q.0 r.0 e)

none-past : (rows : List Row) (place : ℕ) → length rows ≤ place → slice_get rows place ≡ None
none-past [] place h = refl
none-past (r ∷ rows) zero h = absurd (omega (arith, h))
none-past (r ∷ rows) (suc place) h = none-past rows place (omega (arith, h))

held-stay : (before after : List Row) (places : List ℕ) (v : Val) → StayRows before after → held (values_at before places) v ≤ held (values_at after places) v
held-stay before after [] v stay = omega arith
held-stay before after (place ∷ places) v stay =
    omega (arith, held-append (value_of (slice_get before place)) (values_at before places) v, held-append (value_of (slice_get after place)) (values_at after places) v, one (nat_lt place (length before)) refl, held-stay before after places v stay) where
      one : (b : Bool) → nat_lt place (length before) ≡ b → held (value_of (slice_get before place)) v ≤ held (value_of (slice_get after place)) v
      one true e = let same = ap (λ (s : List Val). held s v) (value-key (slice_get after place) (slice_get before place) (stay.keys place (grind (arith, nat_tests, e)))) in omega (arith, same)
      one false e = let none = ap (λ (o : Option Row). held (value_of o) v) (none-past before place (grind (arith, nat_tests, e))) in omega (arith, none)

pub seen-none : (rows : List Row) → AreSeen rows [] 0
seen-none rows = record { within = omega arith; seen = λ v i lt live. absurd (omega (arith, lt)) }

pub seen-stay : (before after : List Row) (places : List ℕ) (upto : ℕ) → AreSeen before places upto → StayRows before after → AreSeen after places upto
seen-stay before after places upto seen stay = record {
  within = omega (arith, seen.within, stay.grows);
  seen = λ v i lt live.
      let was = seen.seen v i lt (live-stay before after v i stay (omega (arith, lt, seen.within)) live) in
      omega (arith, was, held-stay before after places v stay);
}

-- a set whose rows stay keeps what leads to them
pub set-after : (rows rows' log : List Row) (newest : List (ℕ × ℕ)) (older : List ℕ) (all_newest : List (ℕ × ℕ)) (all_older : List ℕ) (places : List ℕ) (upto : ℕ) → AreKept rows' log → AreChained rows newest older → AreFound rows all_newest all_older
    → AreSeen rows places upto → StayRows rows rows' → IsSet rows' log newest older all_newest all_older places upto
set-after rows rows' log newest older all_newest all_older places upto kept chained found seen stay = record {
  kept = kept;
  chained = chained-stay rows rows' newest older chained stay;
  found = found-stay rows rows' all_newest all_older found stay;
  seen = seen-stay rows rows' places upto seen stay;
}

-- ---- the next row is looked at

pub seen-next : (rows : List Row) (places places' : List ℕ) (upto : ℕ) → AreSeen rows places upto → upto < length rows → ((v : Val) → held (values_at rows places) v ≤ held (values_at rows places') v) → ((v : Val) → IsLiveRow rows v upto → 0 < held (values_at rows places') v)
    → AreSeen rows places' (upto + 1)
seen-next rows places places' upto seen more within here = record {
  within = omega (arith, more);
  seen = λ v i lt live. below-or-last i upto (0 < held (values_at rows places') v) (omega (arith, lt))
      (λ less. omega (arith, seen.seen v i less live, within v))
      (λ last. here v (subst (IsLiveRow rows v) last live));
}

values-append : (rows : List Row) (s t : List ℕ) → values_at rows (s ++ t) ≡ values_at rows s ++ values_at rows t
values-append rows [] t = refl
values-append rows (place ∷ s) t = ap (λ (u : List Val). value_of (slice_get rows place) ++ u) (values-append rows s t) ∙ sym (append_assoc (value_of (slice_get rows place)) (values_at rows s) (values_at rows t))

-- a place among others
pub held-put : (rows : List Row) (places : List ℕ) (at place : ℕ) (v : Val) → held (values_at rows (take at places ++ place ∷ drop at places)) v ≡ max (held (value_of (slice_get rows place)) v) (held (values_at rows places) v)
held-put rows places at place v =
    let put = ap (λ (s : List Val). held s v) (values-append rows (take at places) (place ∷ drop at places)) in
    let whole = ap (λ (s : List Val). held s v) (sym (values-append rows (take at places) (drop at places)) ∙ ap (λ (s : List ℕ). values_at rows s) (take-append-drop at places)) in
    omega (
      arith,
      put,
      whole,
      held-append (values_at rows (take at places)) (value_of (slice_get rows place) ++ values_at rows (drop at places)) v,
      held-append (values_at rows (take at places)) (values_at rows (drop at places)) v,
      held-append (value_of (slice_get rows place)) (values_at rows (drop at places)) v,
    )

-- the row's place was put among them
pub seen-put : (rows : List Row) (places places' : List ℕ) (at upto : ℕ) → AreSeen rows places upto → upto < length rows → places' ≡ take at places ++ upto ∷ drop at places → AreSeen rows places' (upto + 1)
seen-put rows places places' at upto seen more is = seen-next rows places places' upto seen more (λ v. omega (arith, put v)) (λ v live. omega (arith, put v, here v live)) where
  put : (v : Val) → held (values_at rows places') v ≡ max (held (value_of (slice_get rows upto)) v) (held (values_at rows places) v)
  put v = ap (λ (s : List ℕ). held (values_at rows s) v) is ∙ held-put rows places at upto v

  here : (v : Val) → IsLiveRow rows v upto → 0 < held (value_of (slice_get rows upto)) v
  here v live = subst (λ (o : Option Row). 0 < held (value_of o) v) (sym live.1) (omega (arith, own-value v))

-- the row's value has a place
pub seen-known : (rows : List Row) (places : List ℕ) (upto : ℕ) (k : Key) (dead : Bool) (u : Val) → AreSeen rows places upto → Some (k, dead) ≡ slice_get rows upto → u ≡ k.0 → 0 < held (values_at rows places) u → AreSeen rows places (upto + 1)
seen-known rows places upto k dead u seen at key some = seen-next rows places places upto seen (got-within rows upto (k, dead) (sym at)) (λ v. omega arith)
    (λ v live. subst (λ (w : Val). 0 < held (values_at rows places) w) (key ∙ ap (λ (r : Row). r.0.0) (some-inj (k, dead) ((v, live.0), false) (at ∙ live.1))) some)

-- the row is dead
pub seen-dead : (rows : List Row) (places : List ℕ) (upto : ℕ) (k : Key) (dead : Bool) → AreSeen rows places upto → Some (k, dead) ≡ slice_get rows upto → dead ≡ true → AreSeen rows places (upto + 1)
seen-dead rows places upto k dead seen at died = seen-next rows places places upto seen (got-within rows upto (k, dead) (sym at)) (λ v. omega arith)
    (λ v live. (let no : true ≡ false = sym died ∙ ap (λ (r : Row). r.1) (some-inj (k, dead) ((v, live.0), false) (at ∙ live.1)) in cc))

pub if-found : {T E : Type 0} (r : Result (Option T) E) (P Q : T → Type 0) → ((x : T) → P x → Q x) → IfOk r (λ o. IfSome o P) → IfOk r (λ o. IfSome o Q)
if-found (Ok (Some x)) P Q more told = more x told
if-found (Ok None) P Q more told = told
if-found (Err e) P Q more told = told

pub seen-same : (rows : List Row) (places places' : List ℕ) (upto upto' : ℕ) → places' ≡ places → upto' ≡ upto → AreSeen rows places upto → AreSeen rows places' upto'
seen-same rows places places' upto upto' same far seen = subst (λ (s : List ℕ). AreSeen rows s upto') (sym same) (subst (λ (n : ℕ). AreSeen rows places n) (sym far) seen)

-- a row's value is that of a place where it compares as equal
pub held-order : (o : Option Row) (k : Key) (dead : Bool) (u v : Val) (order : Ordering) → Some (k, dead) ≡ o → order ≡ val_cmp u v → u ≡ k.0 → order ≡ Equal → 0 < held (value_of o) v
held-order o k dead u v order at is key equal =
    let same : k.0 ≡ v = sym key ∙ val_exact u v (sym is ∙ equal) in
    subst (λ (p : Option Row). 0 < held (value_of p) v) at (subst (λ (w : Val). 0 < held (w ∷ []) v) (sym same) (omega (arith, own-value v)))

pub held-middle : (rows : List Row) (places : List ℕ) (i place : ℕ) (v : Val) → i < length places → place ≡ get_or places i place → 0 < held (value_of (slice_get rows place)) v → 0 < held (values_at rows places) v
held-middle rows [] i place v within at some = absurd (omega (arith, within))
held-middle rows (q ∷ places) zero place v within at some =
    omega (arith, held-append (value_of (slice_get rows q)) (values_at rows places) v, subst (λ (p : ℕ). 0 < held (value_of (slice_get rows p)) v) at some)
held-middle rows (q ∷ places) (suc i) place v within at some =
    omega (arith, held-append (value_of (slice_get rows q)) (values_at rows places) v, held-middle rows places i place v (omega (arith, within)) at some)

-- ---- what is shown

values-next : (rows : List Row) (places : List ℕ) (i place : ℕ) (v : Val) → slice_get places i ≡ Some place → IsLiveRow rows v place → values_at rows (drop i places) ≡ v ∷ values_at rows (drop (i + 1) places)
values-next rows places i place v at live =
    ap (λ (s : List ℕ). values_at rows s) (drop-at places i place at) ∙ ap (λ (o : Option Row). value_of o ++ values_at rows (drop (i + 1) places)) live.1

pub rises-next : (rows : List Row) (places : List ℕ) (i place : ℕ) (last : Option Val) (v : Val) → slice_get places i ≡ Some place → IsLiveRow rows v place → order_behind last v ≡ Less
    → (IsTrue (rises last (values_at rows (drop i places))) → IsTrue (rises None (values_at rows places))) → IsTrue (rises (Some v) (values_at rows (drop (i + 1) places))) → IsTrue (rises None (values_at rows places))
rises-next rows places i place last v at live less whole rest =
    whole (subst (λ (s : List Val). IsTrue (rises last s)) (sym (values-next rows places i place v at live))
    (subst (λ (o : Ordering). IsTrue (if is_eq o then rises last (values_at rows (drop (i + 1) places)) else (is_lt o && rises (Some v) (values_at rows (drop (i + 1) places))))) (sym less) rest))

pub within-next : (rows : List Row) (place : ℕ) (v : Val) (values : List Val) → IsLiveRow rows v place → IsWithin values (live_values rows) → IsWithin (values ++ v ∷ []) (live_values rows)
within-next rows place v values live within w =
    omega (arith, held-append values (v ∷ []) w, within w, one w) where
      one : (w : Val) → is_value v w ≤ held (live_values rows) w
      one w = choose (eq_by_cmp val_cmp w v) refl where
        choose : (b : Bool) → eq_by_cmp val_cmp w v ≡ b → (if b then 1 else 0) ≤ held (live_values rows) w
        choose true e = subst (λ (u : Val). 1 ≤ held (live_values rows) u) (sym (val_exact w v (is-Equal (val_cmp w v) e))) (live-held rows place v live)
        choose false e = omega arith

pub standing-done : (rows : List Row) (places : List ℕ) (i : ℕ) (last : Option Val) (values : List Val) → length places ≤ i → values ++ thinned last (values_at rows (drop i places)) ≡ thinned None (values_at rows places)
    → (IsTrue (rises last (values_at rows (drop i places))) → IsTrue (rises None (values_at rows places))) → IsWithin values (live_values rows) → IsStanding rows places values
standing-done rows places i last values all whole up within = record {
  is =
      let none : drop i places ≡ [] = drop_all i places all in
      sym (append-nil values) ∙ ap (λ (s : List ℕ). values ++ thinned last (values_at rows s)) (sym none) ∙ whole ∙ thin-values (values_at rows places) (up (subst (λ (s : List ℕ). IsTrue (rises last (values_at rows s))) (sym none) refl));
  live = within;
}

-- a pass over places goes on behind a live row whose value is more than the one before
pub standing-next : (rows : List Row) (places : List ℕ) (i place : ℕ) (last : Option Val) (v : Val) (values : List Val) → slice_get places i ≡ Some place → IsLiveRow rows v place → order_behind last v ≡ Less
    → values ++ thinned last (values_at rows (drop i places)) ≡ thinned None (values_at rows places) → (values ++ v ∷ []) ++ thinned (Some v) (values_at rows (drop (i + 1) places)) ≡ thinned None (values_at rows places)
standing-next rows places i place last v values at live less whole =
    append_assoc values (v ∷ []) (thinned (Some v) (values_at rows (drop (i + 1) places)))
    ∙ ap (λ (o : Ordering). values ++ (if is_eq o then thinned last (values_at rows (drop (i + 1) places)) else v ∷ thinned (Some v) (values_at rows (drop (i + 1) places)))) (sym less)
    ∙ ap (λ (s : List Val). values ++ thinned last s) (sym (values-next rows places i place v at live)) ∙ whole

pub few-shown : (rows : List Row) (places : List ℕ) (upto : ℕ) (values : List Val) → AreSeen rows places upto → length rows ≤ upto → IsStanding rows places values → values ≡ of_values (live_values rows)
few-shown rows places upto values seen all standing =
    standing.is ∙ same_from_held (of_values (values_at rows places)) (of_values (live_values rows)) (ascending-of_values (values_at rows places)) (ascending-of_values (live_values rows))
    (λ v. omega (arith, held-of_values (values_at rows places) v, held-of_values (live_values rows) v, low v, high v)) where
      low : (v : Val) → held (values_at rows places) v ≤ held (live_values rows) v
      low v = omega (arith, standing.live v, ap (λ (s : List Val). held s v) standing.is, held-of_values (values_at rows places) v)

      high : (v : Val) → held (live_values rows) v ≤ held (values_at rows places) v
      high v = choose (held (live_values rows) v) refl where
        choose : (n : ℕ) → held (live_values rows) v ≡ n → held (live_values rows) v ≤ held (values_at rows places) v
        choose zero e = omega (arith, e)
        choose (suc n) e =
            let row = held-row rows v (omega (arith, e)) in
            let there = seen.seen v row.0 (omega (arith, all, got-within rows row.0 ((v, row.1.0), false) row.1.1)) row.1 in
            omega (arith, there, held-small (live_values rows) v)
