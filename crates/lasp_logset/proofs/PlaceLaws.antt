-- Chains that lead to all rows of a value: they grow by a row, stay while others come, and lead past rows of other values.
use Rattle.std.proofs.Common.{◌≡◌, ◌↔◌, IsTrue, ℕ, suc, ◌+◌, ◌-◌, ◌<◌, Bool, true, false, cond, if◌then◌else◌, nat_eq, List, [], ◌∷◌, ◌++◌, length, slice_get, get_or, refl, sym, ap, subst, ◌∙◌, length-append, arith, Option, Some}
use Rattle.std.specs.Option.{option_map}
use Rattle.std.specs.Map.{lookup}
use Rattle.model_values.specs.Value.{Val}
use Rattle.model_values.specs.Row.{Key, Row}
use Rattle.lasp_logset.specs.Chains.{value_hash, newest_of, hash_at, IsBehind, StayRows}
use Rattle.lasp_logset.specs.Places.{AreFound, IsRowOf}
use Rattle.lasp_logset.proofs.LiveLaws.{some-inj, got-within}
use Rattle.lasp_logset.proofs.ChainLaws.{got-push, below-or-last, same-hash, hash-test, newest-linked, got-index, IsStep}

pub row-here : (rows : List Row) (place : ℕ) (k : Key) (dead : Bool) (v : Val) (is : Bool) → Some (k, dead) ≡ slice_get rows place → IsTrue is ↔ (k.0 ≡ v) → IsTrue is ↔ IsRowOf rows v place
row-here rows place k dead v is at test = (
  λ h. (k.1, dead, sym at ∙ (λ i. Some ((test.0 h i, k.1), dead))),
  λ row. test.1 (ap (λ (r : Row). r.0.0) (some-inj (k, dead) ((v, row.0), row.1) (at ∙ row.2))),
)

pub row-hash : (rows : List Row) (v : Val) (i : ℕ) → IsRowOf rows v i → hash_at rows i ≡ Some (value_hash v)
row-hash rows v i row = ap (λ (o : Option Row). option_map (λ (r : Row). value_hash r.0.0) o) row.2

-- past a row of another value all rows of the value stand before the row before it
pub place-back : (rows : List Row) (newest : List (ℕ × ℕ)) (older : List ℕ) (v : Val) (k b : ℕ) → AreFound rows newest older → slice_get older k ≡ Some b → hash_at rows k ≡ Some (value_hash v)
    → (IsRowOf rows v k → ⊥) → (i : ℕ) → IsRowOf rows v i → i < suc k → i < b
place-back rows newest older v k b found at hash not_it i sought before =
    below-or-last i k (i < b) before (λ less. found.older_row k b (value_hash v) i at hash less (row-hash rows v i sought)) (λ same. absurd (not_it (subst (IsRowOf rows v) same sought)))

pub found-none : (rows : List Row) → AreFound rows [] []
found-none rows = record {
  covered = omega arith;
  begins = λ h. record { within = omega arith; hash = λ k e. absurd (omega (arith, e)) };
  newest_row = λ h i lt is. absurd (omega (arith, lt));
  goes_on = λ j b h at hash. cc;
  older_row = λ j b h i at hash less is. cc;
}

-- chains stay
pub found-stay : (before after : List Row) (newest : List (ℕ × ℕ)) (older : List ℕ) → AreFound before newest older → StayRows before after → AreFound after newest older
found-stay before after newest older found stay = record {
  covered = omega (arith, found.covered, stay.grows);
  begins = λ h. record {
    within = (found.begins h).within;
    hash = λ k e. stay.hashes k (omega (arith, e, (found.begins h).within, found.covered)) ∙ (found.begins h).hash k e;
  };
  newest_row = λ h i lt is. found.newest_row h i lt (sym (stay.hashes i (omega (arith, lt, found.covered))) ∙ is);
  goes_on = λ j b h at hash.
      let lt : j < length older = got-within older j b at in
      let was : hash_at before j ≡ Some h = sym (stay.hashes j (omega (arith, lt, found.covered))) ∙ hash in
      record {
        within = (found.goes_on j b h at was).within;
        hash = λ k e. stay.hashes k (omega (arith, e, (found.goes_on j b h at was).within, lt, found.covered)) ∙ (found.goes_on j b h at was).hash k e;
      };
  older_row = λ j b h i at hash less is.
      let lt : j < length older = got-within older j b at in
      found.older_row j b h i at (sym (stay.hashes j (omega (arith, lt, found.covered))) ∙ hash) less (sym (stay.hashes i (omega (arith, less, lt, found.covered))) ∙ is);
}

-- ---- a row is linked

pub found-link : (rows : List Row) (newest newest' : List (ℕ × ℕ)) (older : List ℕ) (h n b : ℕ) → AreFound rows newest older → n ≡ length older → n < length rows → hash_at rows n ≡ Some h
    → b ≡ newest_of newest h → ((q : ℕ) → lookup (nat_eq q) newest' ≡ cond (nat_eq h q) (Some (n + 1)) (lookup (nat_eq q) newest)) → AreFound rows newest' (older ++ b ∷ [])
found-link rows newest newest' older h n b found many more hash is_newest linked = record {
  covered = omega (arith, many, more, length-append older (b ∷ []));
  begins = λ q. subst (λ (m : ℕ). IsBehind rows q (length (older ++ b ∷ [])) m) (sym (newest-linked newest newest' h n q (linked q))) (begins-as q (nat_eq h q) refl);
  newest_row = λ q i lt there. subst (λ (m : ℕ). i < m) (sym (newest-linked newest newest' h n q (linked q))) (row-as q i (omega (arith, lt, many, length-append older (b ∷ []))) there (nat_eq h q) refl);
  goes_on = λ j b' q at is. got-push older b j b' (IsBehind rows q j b') at
      (λ before. found.goes_on j b' q before is)
      (λ last same.
      let here : hash_at rows n ≡ Some q = ap (λ (m : ℕ). hash_at rows m) (many ∙ sym last) ∙ is in
      let one : h ≡ q = some-inj h q (sym hash ∙ here) in
      subst (λ (m : ℕ). IsBehind rows q j m) same (subst (λ (m : ℕ). IsBehind rows q m b) (many ∙ sym last) (subst (λ (m : ℕ). IsBehind rows m n b) one behind)));
  older_row = λ j b' q i at is less there. got-push older b j b' (i < b') at
      (λ before. found.older_row j b' q i before is less there)
      (λ last same.
      let here : hash_at rows n ≡ Some q = ap (λ (m : ℕ). hash_at rows m) (many ∙ sym last) ∙ is in
      let one : q ≡ h = some-inj q h (sym here ∙ hash) in
      omega (arith, same, is_newest, found.newest_row h i (omega (arith, less, last)) (subst (λ (m : ℕ). hash_at rows i ≡ Some m) one there)));
} where
  behind : IsBehind rows h n b
  behind = subst (λ (m : ℕ). IsBehind rows h m b) (sym many) (subst (λ (m : ℕ). IsBehind rows h (length older) m) (sym is_newest) (found.begins h))

  begins-as : (q : ℕ) (same : Bool) → nat_eq h q ≡ same → IsBehind rows q (length (older ++ b ∷ [])) (if same then n + 1 else newest_of newest q)
  begins-as q true e = record {
    within = omega (arith, many, length-append older (b ∷ []));
    hash = λ k is. subst (λ (m : ℕ). hash_at rows m ≡ Some q) (let last : n ≡ k = omega (arith, is) in last) (hash ∙ ap (λ (m : ℕ). Some m) (same-hash h q e));
  }
  begins-as q false e = record { within = omega (arith, (found.begins q).within, length-append older (b ∷ [])); hash = (found.begins q).hash }

  row-as : (q i : ℕ) → i < n + 1 → hash_at rows i ≡ Some q → (same : Bool) → nat_eq h q ≡ same → i < (if same then n + 1 else newest_of newest q)
  row-as q i lt there true e = lt
  row-as q i lt there false e = below-or-last i n (i < newest_of newest q) (omega (arith, lt))
      (λ less. found.newest_row q i (omega (arith, less, many)) there)
      (λ last. absurd (
      let here : hash_at rows n ≡ Some q = subst (λ (m : ℕ). hash_at rows m ≡ Some q) last there in
      let one : h ≡ q = some-inj h q (sym hash ∙ here) in
      let yes_it : true ≡ false = sym (hash-test h q one) ∙ e in cc))

-- ---- one step of a walk

pub place-step : (rows : List Row) (newest : List (ℕ × ℕ)) (older : List ℕ) (h k x : ℕ) → AreFound rows newest older → k < length older → hash_at rows k ≡ Some h → x ≡ get_or older k x → IsStep rows older h k x
place-step rows newest older h k x found within hash is =
    let at : slice_get older k ≡ Some x = got-index older k x within is in
    record { at = at; hash = hash; behind = found.goes_on k x h at hash }

pub place-before : (rows : List Row) (newest : List (ℕ × ℕ)) (older : List ℕ) (h b x : ℕ) → AreFound rows newest older → IsBehind rows h (length older) b → 0 < b → x ≡ get_or older (b - 1) x → IsStep rows older h (b - 1) x
place-before rows newest older h b x found behind some is =
    place-step rows newest older h (b - 1) x found (omega (arith, some, behind.within)) (behind.hash (b - 1) (omega (arith, some))) is
