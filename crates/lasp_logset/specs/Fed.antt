-- What is written into a hash for a value, a token and a key, and the hash by which a table finds a key.
use Rattle.std.specs.Prelude.{◌≡◌, ℕ, IsTrue, ◌++◌, fold}
use Rattle.std.proofs.Common.{ap}
use Rattle.std.specs.Ordering.{eq_by_cmp}
use Rattle.std.specs.Cmp.{IsEquivalence, eq_by_cmp_equiv}
use Rattle.std.specs.Hash as fed
use Rattle.std.specs.Hash.{HashWrites}
use Rattle.std.specs.Hash.FoldHasher as folding
use Rattle.model_values.specs.Value.{Val, int, text, pair}
use Rattle.model_values.specs.Token.{Tok, single, both}
use Rattle.model_values.specs.Row.{Key, key_cmp, key_total, key_exact}
use Rattle.model_sets.proofs.RowLaws.{is-Equal}

abbrev pub val_fed : Val → HashWrites
val_fed (int n) = fed.i64 n
val_fed (text t) = fed.str t
val_fed (pair a b) = val_fed a ++ val_fed b

abbrev pub tok_fed : Tok → HashWrites
tok_fed (single q k) = fed.u8 q ++ fed.u64 k
tok_fed (both t s) = tok_fed t ++ tok_fed s

abbrev pub key_fed : Key → HashWrites
key_fed k = val_fed k.0 ++ tok_fed k.1

-- the hash that is kept beside a key
abbrev pub key_hash : Key → ℕ
key_hash k = folding.finish (fold folding.write folding.initial (key_fed k))

-- what a table is told of a key
abbrev pub name_fed : Key → HashWrites
name_fed k = fed.u64 (key_hash k)

pub key_equivalence : IsEquivalence (eq_by_cmp key_cmp)
key_equivalence = eq_by_cmp_equiv key_total

-- equal keys are one key, and so any function gives the same at them
pub fed_alike : (k l : Key) → IsTrue (eq_by_cmp key_cmp k l) → name_fed k ≡ name_fed l
fed_alike k l e = ap name_fed (key_exact k l (is-Equal (key_cmp k l) e))
