-- Chains of row numbers: by the hash of a value one more than the number of its newest row, and for each row one more than the number of the row before it; 0 ends a chain.
use Rattle.std.specs.Prelude.{◌≡◌, ℕ, suc, ◌<◌, ◌≤◌, nat_eq, false, fold, List, length, slice_get, Option, Some}
use Rattle.std.specs.Option.{option_map, unwrap_or}
use Rattle.std.specs.Map.{lookup}
use Rattle.std.specs.Hash.FoldHasher as folding
use Rattle.model_values.specs.Value.{Val}
use Rattle.model_values.specs.Row.{Key, Row}
use Rattle.lasp_logset.specs.Fed.{val_fed}

abbrev pub value_hash : Val → ℕ
value_hash v = folding.finish (fold folding.write folding.initial (val_fed v))

-- where the chain of a hash begins
abbrev pub newest_of : List (ℕ × ℕ) → ℕ → ℕ
newest_of newest h = unwrap_or (lookup (nat_eq h) newest) 0

-- the hash of the value of the row at a place
abbrev pub hash_at : List Row → ℕ → Option ℕ
hash_at rows i = option_map (λ (r : Row). value_hash r.0.0) (slice_get rows i)

-- the key of the row at a place
abbrev pub key_at : List Row → ℕ → Option Key
key_at rows i = option_map (λ (r : Row). r.0) (slice_get rows i)

-- the row at a place is live, and its value has the hash
abbrev pub IsLiveAt : List Row → ℕ → ℕ → Type 0
IsLiveAt rows h i = (r : Row) × (slice_get rows i ≡ Some r) × (r.1 ≡ false) × (value_hash r.0.0 ≡ h)

-- a place in the chain of a hash, among the first n: its end, or one behind a row of the hash
pub record IsBehind (rows : List Row) (h n b : ℕ) : Type 0 where
  pub within : b ≤ n
  pub hash : (k : ℕ) → b ≡ suc k → hash_at rows k ≡ Some h

-- the chains lead to each live row among the first
pub record AreChained (rows : List Row) (newest : List (ℕ × ℕ)) (older : List ℕ) : Type 0 where
  pub covered : length older ≤ length rows
  pub begins : (h : ℕ) → IsBehind rows h (length older) (newest_of newest h)
  pub newest_live : (h i : ℕ) → i < length older → IsLiveAt rows h i → i < newest_of newest h
  pub goes_on : (j b h : ℕ) → slice_get older j ≡ Some b → hash_at rows j ≡ Some h → IsBehind rows h j b
  pub older_live : (j b h i : ℕ) → slice_get older j ≡ Some b → hash_at rows j ≡ Some h → i < j → IsLiveAt rows h i → i < b

-- the rows of a table after others came: at each place the same key, and live only where it was
pub record StayRows (before after : List Row) : Type 0 where
  pub grows : length before ≤ length after
  pub keys : (i : ℕ) → i < length before → key_at after i ≡ key_at before i
  pub hashes : (i : ℕ) → i < length before → hash_at after i ≡ hash_at before i
  pub live : (h i : ℕ) → i < length before → IsLiveAt after h i → IsLiveAt before h i
