-- Chains of rows: they grow by a row, stay while others come, and lead past rows that aren't sought.
use Rattle.std.proofs.Common.{◌≡◌, ℕ, zero, suc, ◌+◌, ◌<◌, ◌≤◌, Bool, true, false, cond, if◌then◌else◌, nat_eq, nat_lt, IsTrue, ◌-◌, get_or, List, [], ◌∷◌, ◌++◌, length, slice_get, refl, sym, ap, subst, ◌∙◌, length-append, arith, Option, Some}
use Rattle.std.proofs.lemmas.Bool.Decides.{nat_tests}
use Rattle.std.specs.Ordering.{eq_by_cmp}
use Rattle.std.specs.Option.{option_map, unwrap_or}
use Rattle.std.specs.Map.{lookup}
use Rattle.indexmap.specs.IndexMap.{insert_entry}
use Rattle.model_values.specs.Value.{Val}
use Rattle.model_values.specs.Row.{Key, Row, key_cmp, key_exact}
use Rattle.model_sets.specs.Rows.{level, mark}
use Rattle.model_sets.proofs.RowLaws.{own_mark, is-Equal}
use Rattle.model_sets.proofs.RiseLaws.{level-some}
use Rattle.lasp_logset.specs.Live.{IsLiveRow}
use Rattle.lasp_logset.proofs.LiveLaws.{some-inj, got-within}
use Rattle.lasp_logset.specs.Chains.{value_hash, newest_of, key_at, hash_at, IsLiveAt, IsBehind, AreChained, StayRows}

-- ---- places

pub got-push : {X : Type 0} (xs : List X) (y : X) (i : ℕ) (x : X) (Q : Type 0) → slice_get (xs ++ y ∷ []) i ≡ Some x → (slice_get xs i ≡ Some x → Q) → (i ≡ length xs → y ≡ x → Q) → Q
got-push [] y zero x Q e before last = last refl (some-inj y x e)
got-push [] y (suc i) x Q e before last = cc
got-push (z ∷ xs) y zero x Q e before last = before e
got-push (z ∷ xs) y (suc i) x Q e before last = got-push xs y i x Q e before (λ at is. last (ap suc at) is)

pub below-or-last : (i n : ℕ) (Q : Type 0) → i < suc n → (i < n → Q) → (i ≡ n → Q) → Q
below-or-last i n Q h less same = by (nat_lt i n) refl where
  by : (b : Bool) → nat_lt i n ≡ b → Q
  by true e = less (grind (arith, nat_tests, e))
  by false e = same (grind (arith, nat_tests, e, h))

live-hash : (rows : List Row) (h i : ℕ) → IsLiveAt rows h i → hash_at rows i ≡ Some h
live-hash rows h i live = ap (λ (o : Option Row). option_map (λ (r : Row). value_hash r.0.0) o) live.1 ∙ ap (λ (n : ℕ). Some n) live.3

pub row-live : (rows : List Row) (v : Val) (i : ℕ) → IsLiveRow rows v i → IsLiveAt rows (value_hash v) i
row-live rows v i live = (((v, live.0), false), live.1, refl, refl)

-- ---- a chain is followed

-- past a row that isn't sought all that are sought stand before the row before it
pub step-back : (rows : List Row) (newest : List (ℕ × ℕ)) (older : List ℕ) (h : ℕ) (P : ℕ → Type 0) (k b : ℕ) → AreChained rows newest older → ((i : ℕ) → P i → IsLiveAt rows h i) → slice_get older k ≡ Some b → hash_at rows k ≡ Some h
    → (P k → ⊥) → (i : ℕ) → P i → i < suc k → i < b
step-back rows newest older h P k b chained live at hash not_it i sought before =
    below-or-last i k (i < b) before (λ less. chained.older_live k b h i at hash less (live i sought)) (λ same. absurd (not_it (subst P same sought)))

-- ---- rows that come

pub stay-none : (rows : List Row) → StayRows rows rows
stay-none rows = record { grows = omega arith; keys = λ i h. refl; hashes = λ i h. refl; live = λ h i lt live. live }

pub stay-more : (s t u : List Row) → StayRows s t → StayRows t u → StayRows s u
stay-more s t u a b = record {
  grows = omega (arith, a.grows, b.grows);
  keys = λ i h. b.keys i (omega (arith, h, a.grows)) ∙ a.keys i h;
  hashes = λ i h. b.hashes i (omega (arith, h, a.grows)) ∙ a.hashes i h;
  live = λ h i lt live. a.live h i lt (b.live h i (omega (arith, lt, a.grows)) live);
}

grows-insert : (es : List Row) (k : Key) (dead : Bool) → length es ≤ length (insert_entry (eq_by_cmp key_cmp) es k dead)
grows-insert [] k dead = omega arith
grows-insert (e ∷ es) k dead = choose (eq_by_cmp key_cmp k e.0) (grows-insert es k dead) where
  choose : (b : Bool) → length es ≤ length (insert_entry (eq_by_cmp key_cmp) es k dead) → length (e ∷ es) ≤ length (if b then (e.0, dead) ∷ es else e ∷ insert_entry (eq_by_cmp key_cmp) es k dead)
  choose true rest = omega arith
  choose false rest = omega (arith, rest)

keys-insert : (es : List Row) (k : Key) (dead : Bool) (i : ℕ) → i < length es → key_at (insert_entry (eq_by_cmp key_cmp) es k dead) i ≡ key_at es i
keys-insert [] k dead i h = absurd (omega (arith, h))
keys-insert (e ∷ es) k dead zero h = choose (eq_by_cmp key_cmp k e.0) where
  choose : (b : Bool) → key_at (if b then (e.0, dead) ∷ es else e ∷ insert_entry (eq_by_cmp key_cmp) es k dead) 0 ≡ key_at (e ∷ es) 0
  choose true = refl
  choose false = refl
keys-insert (e ∷ es) k dead (suc i) h = choose (eq_by_cmp key_cmp k e.0) (keys-insert es k dead i (omega (arith, h))) where
  choose : (b : Bool) → key_at (insert_entry (eq_by_cmp key_cmp) es k dead) i ≡ key_at es i → key_at (if b then (e.0, dead) ∷ es else e ∷ insert_entry (eq_by_cmp key_cmp) es k dead) (suc i) ≡ key_at (e ∷ es) (suc i)
  choose true rest = refl
  choose false rest = rest

hashes-insert : (es : List Row) (k : Key) (dead : Bool) (i : ℕ) → i < length es → hash_at (insert_entry (eq_by_cmp key_cmp) es k dead) i ≡ hash_at es i
hashes-insert [] k dead i h = absurd (omega (arith, h))
hashes-insert (e ∷ es) k dead zero h = choose (eq_by_cmp key_cmp k e.0) where
  choose : (b : Bool) → hash_at (if b then (e.0, dead) ∷ es else e ∷ insert_entry (eq_by_cmp key_cmp) es k dead) 0 ≡ hash_at (e ∷ es) 0
  choose true = refl
  choose false = refl
hashes-insert (e ∷ es) k dead (suc i) h = choose (eq_by_cmp key_cmp k e.0) (hashes-insert es k dead i (omega (arith, h))) where
  choose : (b : Bool) → hash_at (insert_entry (eq_by_cmp key_cmp) es k dead) i ≡ hash_at es i → hash_at (if b then (e.0, dead) ∷ es else e ∷ insert_entry (eq_by_cmp key_cmp) es k dead) (suc i) ≡ hash_at (e ∷ es) (suc i)
  choose true rest = refl
  choose false rest = rest

-- a row that was there and is dead now isn't live, nor is one that stays live where it is put
live-over : (e : Row) (k : Key) (dead : Bool) (rest : List Row) (h : ℕ) → k ≡ e.0 → mark (e ∷ rest) k.0 k.1 < level dead → IsLiveAt ((e.0, dead) ∷ rest) h 0 → IsLiveAt (e ∷ rest) h 0
live-over e k dead rest h same up live = absurd (
    let own : level e.1 ≤ mark (e ∷ rest) k.0 k.1 = subst (λ (l : Key). level e.1 ≤ mark (e ∷ rest) l.0 l.1) (sym same) (omega (arith, own_mark e)) in
    let alive : dead ≡ false = ap (λ (r : Row). r.1) (some-inj (e.0, dead) live.0 live.1) ∙ live.2 in
    let low : level dead ≡ 1 = ap level alive in
    omega (arith, own, up, low, level-some e.1)
    )

live-insert : (es : List Row) (k : Key) (dead : Bool) → mark es k.0 k.1 < level dead → (h i : ℕ) → i < length es → IsLiveAt (insert_entry (eq_by_cmp key_cmp) es k dead) h i → IsLiveAt es h i
live-insert [] k dead up h i lt live = absurd (omega (arith, lt))
live-insert (e ∷ es) k dead up h zero lt live = choose (eq_by_cmp key_cmp k e.0) refl live where
  choose : (b : Bool) → eq_by_cmp key_cmp k e.0 ≡ b → IsLiveAt (if b then (e.0, dead) ∷ es else e ∷ insert_entry (eq_by_cmp key_cmp) es k dead) h 0 → IsLiveAt (e ∷ es) h 0
  choose true same l = live-over e k dead es h (key_exact k e.0 (is-Equal (key_cmp k e.0) same)) up l
  choose false same l = l
live-insert (e ∷ es) k dead up h (suc i) lt live = choose (eq_by_cmp key_cmp k e.0) (live-insert es k dead (omega (arith, up)) h i (omega (arith, lt))) live where
  choose : (b : Bool) → (IsLiveAt (insert_entry (eq_by_cmp key_cmp) es k dead) h i → IsLiveAt es h i) → IsLiveAt (if b then (e.0, dead) ∷ es else e ∷ insert_entry (eq_by_cmp key_cmp) es k dead) h (suc i) → IsLiveAt (e ∷ es) h (suc i)
  choose true rest l = l
  choose false rest l = rest l

pub stay-insert : (es : List Row) (k : Key) (dead : Bool) → mark es k.0 k.1 < level dead → StayRows es (insert_entry (eq_by_cmp key_cmp) es k dead)
stay-insert es k dead up = record { grows = grows-insert es k dead; keys = keys-insert es k dead; hashes = hashes-insert es k dead; live = live-insert es k dead up }

-- chains stay
pub chained-stay : (before after : List Row) (newest : List (ℕ × ℕ)) (older : List ℕ) → AreChained before newest older → StayRows before after → AreChained after newest older
chained-stay before after newest older chained stay = record {
  covered = omega (arith, chained.covered, stay.grows);
  begins = λ h. record {
    within = (chained.begins h).within;
    hash = λ k e. stay.hashes k (omega (arith, e, (chained.begins h).within, chained.covered)) ∙ (chained.begins h).hash k e;
  };
  newest_live = λ h i lt live. chained.newest_live h i lt (stay.live h i (omega (arith, lt, chained.covered)) live);
  goes_on = λ j b h at hash.
      let lt : j < length older = got-within older j b at in
      let was : hash_at before j ≡ Some h = sym (stay.hashes j (omega (arith, lt, chained.covered))) ∙ hash in
      record {
        within = (chained.goes_on j b h at was).within;
        hash = λ k e. stay.hashes k (omega (arith, e, (chained.goes_on j b h at was).within, lt, chained.covered)) ∙ (chained.goes_on j b h at was).hash k e;
      };
  older_live = λ j b h i at hash less live.
      let lt : j < length older = got-within older j b at in
      chained.older_live j b h i at (sym (stay.hashes j (omega (arith, lt, chained.covered))) ∙ hash) less (stay.live h i (omega (arith, less, lt, chained.covered)) live);
}

pub chained-none : (rows : List Row) → AreChained rows [] []
chained-none rows = record {
  covered = omega arith;
  begins = λ h. record { within = omega arith; hash = λ k e. absurd (omega (arith, e)) };
  newest_live = λ h i lt live. absurd (omega (arith, lt));
  goes_on = λ j b h at hash. cc;
  older_live = λ j b h i at hash less live. cc;
}

-- ---- a row is linked

pub same-hash : (h q : ℕ) → nat_eq h q ≡ true → h ≡ q
same-hash h q e = grind (arith, nat_tests, e)

pub hash-test : (h q : ℕ) → h ≡ q → nat_eq h q ≡ true
hash-test h q e = grind (arith, nat_tests, e)

pub newest-linked : (newest newest' : List (ℕ × ℕ)) (h n q : ℕ) → lookup (nat_eq q) newest' ≡ cond (nat_eq h q) (Some (n + 1)) (lookup (nat_eq q) newest) → newest_of newest' q ≡ (if nat_eq h q then n + 1 else newest_of newest q)
newest-linked newest newest' h n q e = ap (λ (o : Option ℕ). unwrap_or o 0) e ∙ turn (nat_eq h q) where
  turn : (b : Bool) → unwrap_or (cond b (Some (n + 1)) (lookup (nat_eq q) newest)) 0 ≡ (if b then n + 1 else newest_of newest q)
  turn true = refl
  turn false = refl

pub chained-link : (rows : List Row) (newest newest' : List (ℕ × ℕ)) (older : List ℕ) (h n b : ℕ) → AreChained rows newest older → n ≡ length older → n < length rows → hash_at rows n ≡ Some h
    → IsBehind rows h n b → ((i : ℕ) → i < n → IsLiveAt rows h i → i < b) → ((q : ℕ) → lookup (nat_eq q) newest' ≡ cond (nat_eq h q) (Some (n + 1)) (lookup (nat_eq q) newest)) → AreChained rows newest' (older ++ b ∷ [])
chained-link rows newest newest' older h n b chained many more hash behind live linked = record {
  covered = omega (arith, many, more, length-append older (b ∷ []));
  begins = λ q. subst (λ (m : ℕ). IsBehind rows q (length (older ++ b ∷ [])) m) (sym (newest-linked newest newest' h n q (linked q))) (begins-as q (nat_eq h q) refl);
  newest_live = λ q i lt there. subst (λ (m : ℕ). i < m) (sym (newest-linked newest newest' h n q (linked q))) (live-as q i (omega (arith, lt, many, length-append older (b ∷ []))) there (nat_eq h q) refl);
  goes_on = λ j b' q at is. got-push older b j b' (IsBehind rows q j b') at
      (λ before. chained.goes_on j b' q before is)
      (λ last same.
      let here : hash_at rows n ≡ Some q = ap (λ (m : ℕ). hash_at rows m) (many ∙ sym last) ∙ is in
      let one : h ≡ q = some-inj h q (sym hash ∙ here) in
      subst (λ (m : ℕ). IsBehind rows q j m) same (subst (λ (m : ℕ). IsBehind rows q m b) (many ∙ sym last) (subst (λ (m : ℕ). IsBehind rows m n b) one behind)));
  older_live = λ j b' q i at is less there. got-push older b j b' (i < b') at
      (λ before. chained.older_live j b' q i before is less there)
      (λ last same.
      let here : hash_at rows n ≡ Some q = ap (λ (m : ℕ). hash_at rows m) (many ∙ sym last) ∙ is in
      let one : q ≡ h = some-inj q h (sym here ∙ hash) in
      omega (arith, same, live i (omega (arith, less, last, many)) (subst (λ (m : ℕ). IsLiveAt rows m i) one there)));
} where
  begins-as : (q : ℕ) (same : Bool) → nat_eq h q ≡ same → IsBehind rows q (length (older ++ b ∷ [])) (if same then n + 1 else newest_of newest q)
  begins-as q true e = record {
    within = omega (arith, many, length-append older (b ∷ []));
    hash = λ k is. subst (λ (m : ℕ). hash_at rows m ≡ Some q) (let last : n ≡ k = omega (arith, is) in last) (hash ∙ ap (λ (m : ℕ). Some m) (same-hash h q e));
  }
  begins-as q false e = record { within = omega (arith, (chained.begins q).within, length-append older (b ∷ [])); hash = (chained.begins q).hash }

  live-as : (q i : ℕ) → i < n + 1 → IsLiveAt rows q i → (same : Bool) → nat_eq h q ≡ same → i < (if same then n + 1 else newest_of newest q)
  live-as q i lt there true e = lt
  live-as q i lt there false e = below-or-last i n (i < newest_of newest q) (omega (arith, lt))
      (λ less. chained.newest_live q i (omega (arith, less, many)) there)
      (λ last. absurd (
      let here : hash_at rows n ≡ Some q = subst (λ (m : ℕ). hash_at rows m ≡ Some q) last (live-hash rows q i there) in
      let one : h ≡ q = some-inj h q (sym hash ∙ here) in
      let yes_it : true ≡ false = sym (hash-test h q one) ∙ e in cc))

-- ---- the newest rows that are dead are left out

pub chained-pruned : (rows : List Row) (newest newest' : List (ℕ × ℕ)) (older : List ℕ) (h b : ℕ) → AreChained rows newest older → IsBehind rows h (length older) b → ((i : ℕ) → i < length older → IsLiveAt rows h i → i < b)
    → ((q : ℕ) → lookup (nat_eq q) newest' ≡ cond (nat_eq h q) (Some b) (lookup (nat_eq q) newest)) → AreChained rows newest' older
chained-pruned rows newest newest' older h b chained behind live pruned = record {
  covered = chained.covered;
  begins = λ q. subst (λ (m : ℕ). IsBehind rows q (length older) m) (sym (newest-is q)) (begins-as q (nat_eq h q) refl);
  newest_live = λ q i lt there. subst (λ (m : ℕ). i < m) (sym (newest-is q)) (live-as q i lt there (nat_eq h q) refl);
  goes_on = chained.goes_on;
  older_live = chained.older_live;
} where
  newest-is : (q : ℕ) → newest_of newest' q ≡ (if nat_eq h q then b else newest_of newest q)
  newest-is q = ap (λ (o : Option ℕ). unwrap_or o 0) (pruned q) ∙ turn (nat_eq h q) where
    turn : (same : Bool) → unwrap_or (cond same (Some b) (lookup (nat_eq q) newest)) 0 ≡ (if same then b else newest_of newest q)
    turn true = refl
    turn false = refl

  begins-as : (q : ℕ) (same : Bool) → nat_eq h q ≡ same → IsBehind rows q (length older) (if same then b else newest_of newest q)
  begins-as q true e = subst (λ (m : ℕ). IsBehind rows m (length older) b) (same-hash h q e) behind
  begins-as q false e = chained.begins q

  live-as : (q i : ℕ) → i < length older → IsLiveAt rows q i → (same : Bool) → nat_eq h q ≡ same → i < (if same then b else newest_of newest q)
  live-as q i lt there true e = live i lt (subst (λ (m : ℕ). IsLiveAt rows m i) (sym (same-hash h q e)) there)
  live-as q i lt there false e = chained.newest_live q i lt there

-- ---- one step of a walk

pub got-index : {X : Type 0} (xs : List X) (i : ℕ) (x : X) → i < length xs → x ≡ get_or xs i x → slice_get xs i ≡ Some x
got-index [] i x h e = absurd (omega (arith, h))
got-index (y ∷ xs) zero x h e = ap Some (sym e)
got-index (y ∷ xs) (suc i) x h e = got-index xs i x (omega (arith, h)) e

-- what stands behind a row of a chain
pub record IsStep (rows : List Row) (older : List ℕ) (h k x : ℕ) : Type 0 where
  pub at : slice_get older k ≡ Some x
  pub hash : hash_at rows k ≡ Some h
  pub behind : IsBehind rows h k x

pub step-from : (rows : List Row) (newest : List (ℕ × ℕ)) (older : List ℕ) (h k x : ℕ) → AreChained rows newest older → IsBehind rows h (length older) (suc k) → x ≡ get_or older k x → IsStep rows older h k x
step-from rows newest older h k x chained behind is =
    let within : k < length older = omega (arith, behind.within) in
    let at : slice_get older k ≡ Some x = got-index older k x within is in
    let hash : hash_at rows k ≡ Some h = behind.hash k refl in
    record { at = at; hash = hash; behind = chained.goes_on k x h at hash }

-- the same from one behind the row
pub step-before : (rows : List Row) (newest : List (ℕ × ℕ)) (older : List ℕ) (h b x : ℕ) → AreChained rows newest older → IsBehind rows h (length older) b → 0 < b → x ≡ get_or older (b - 1) x → IsStep rows older h (b - 1) x
step-before rows newest older h b x chained behind some is =
    let whole : b ≡ suc (b - 1) = omega (arith, some) in
    step-from rows newest older h (b - 1) x chained (subst (λ (n : ℕ). IsBehind rows h (length older) n) whole behind) is

pub behind-wider : (rows : List Row) (h n m b : ℕ) → IsBehind rows h n b → n ≤ m → IsBehind rows h m b
behind-wider rows h n m b behind less = record { within = omega (arith, behind.within, less); hash = behind.hash }

pub not-of : (b : Bool) (P : Type 0) → (P → IsTrue b) → b ≡ false → P → ⊥
not-of b P test not_it p = let clash : true ≡ false = sym (test p) ∙ not_it in cc

pub hash-here : (rows : List Row) (n : ℕ) (k : Key) (dead : Bool) (h : ℕ) → Some (k, dead) ≡ slice_get rows n → h ≡ value_hash k.0 → hash_at rows n ≡ Some h
hash-here rows n k dead h at is = ap (λ (o : Option Row). option_map (λ (r : Row). value_hash r.0.0) o) (sym at) ∙ ap (λ (m : ℕ). Some m) (sym is)

pub chained-linked : (rows : List Row) (newest newest' : List (ℕ × ℕ)) (older older' : List ℕ) (h n b : ℕ) (k : Key) (dead : Bool) → AreChained rows newest older → n ≡ length older → Some (k, dead) ≡ slice_get rows n → h ≡ value_hash k.0
    → IsBehind rows h (length older) b → ((i : ℕ) → i < length older → IsLiveAt rows h i → i < b) → ((q : ℕ) → lookup (nat_eq q) newest' ≡ cond (nat_eq h q) (Some (n + 1)) (lookup (nat_eq q) newest))
    → older' ≡ older ++ b ∷ [] → AreChained rows newest' older'
chained-linked rows newest newest' older older' h n b k dead chained many at is behind live linked made =
    subst (λ (o : List ℕ). AreChained rows newest' o) (sym made)
    (chained-link rows newest newest' older h n b chained many (got-within rows n (k, dead) (sym at)) (hash-here rows n k dead h at is) (subst (λ (m : ℕ). IsBehind rows h m b) (sym many) behind)
    (λ i lt there. live i (omega (arith, lt, many)) there) linked)
