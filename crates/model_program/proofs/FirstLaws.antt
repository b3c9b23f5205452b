-- Items are refused exactly at the first that is refused, and accepted exactly where each is accepted, whatever reads one item.
use Rattle.std.proofs.Common.{refl, ap, subst, ◌∙◌}
use Rattle.std.specs.Prelude.{◌≡◌, ℕ, List, [], ◌∷◌, ◌++◌, Result, Ok, Err}
use Rattle.model_graph.specs.Chain.{◌>>=◌}
use Rattle.model_readings.specs.Graph.{numbered}
use Rattle.model_program.specs.First.{AreRead, none, more, IsRefused}

-- one item after the other
unfoldable pub all_read : {D A E : Type 0} → (List A → D → Result A E) → (List A → ℕ) → List A → List D → Result (List A) (ℕ × E)
all_read read number_of before [] = Ok before
all_read read number_of before (d ∷ ds) = do
  a ← numbered (number_of before) (read before d)
  all_read read number_of (before ++ a ∷ []) ds

module _ {D A E : Type 0} (read : List A → D → Result A E) (number_of : List A → ℕ) where
  first-same : (m n : ℕ) (w v : E) → ◌≡◌ {A = Result (List A) (ℕ × E)} (Err (m, w)) (Err (n, v)) → m ≡ n
  first-same m n w v h = ap (λ (p : ℕ × E). p.0) (let pairs : ◌≡◌ {A = ℕ × E} (m, w) (n, v) = cc in pairs)

  second-same : (m n : ℕ) (w v : E) → ◌≡◌ {A = Result (List A) (ℕ × E)} (Err (m, w)) (Err (n, v)) → w ≡ v
  second-same m n w v h = ap (λ (p : ℕ × E). p.1) (let pairs : ◌≡◌ {A = ℕ × E} (m, w) (n, v) = cc in pairs)

  refused-step : (before : List A) (d : D) (ds : List D) (number : ℕ) (why : E) (r : Result A E) → read before d ≡ r
      → ((a : A) → all_read read number_of (before ++ a ∷ []) ds ≡ Err (number, why) → IsRefused read number_of (before ++ a ∷ []) ds number why)
      → (numbered (number_of before) r >>= (λ a. all_read read number_of (before ++ a ∷ []) ds)) ≡ Err (number, why) → IsRefused read number_of before (d ∷ ds) number why
  refused-step before d ds number why (Ok a) is found e =
      let r = found a e in
      record { good = d ∷ r.good; bad = r.bad; rest = r.rest; all = r.all; items = ap (λ (xs : List D). d ∷ xs) r.items; read = more is r.read; number_is = r.number_is; refused = r.refused }
  refused-step before d ds number why (Err w) is found e = record {
    good = [];
    bad = d;
    rest = ds;
    all = before;
    items = refl;
    read = none;
    number_is = first-same (number_of before) number w why e;
    refused = is ∙ ap (λ (x : E). Err x) (second-same (number_of before) number w why e);
  }

  pub refused-found : (before : List A) (ds : List D) (number : ℕ) (why : E) → all_read read number_of before ds ≡ Err (number, why) → IsRefused read number_of before ds number why
  unfolding all_read
  refused-found before [] number why e = absurd cc
  refused-found before (d ∷ ds) number why e = refused-step before d ds number why (read before d) refl (λ a h. refused-found (before ++ a ∷ []) ds number why h) e

  read-then : (before all : List A) (good rest : List D) (r : Result (List A) (ℕ × E)) → AreRead read before good all → all_read read number_of all rest ≡ r → all_read read number_of before (good ++ rest) ≡ r
  unfolding all_read
  read-then before all [] rest r (none) e = e
  read-then before all (d ∷ good) rest r (more {a = a} is there) e =
      ap (λ (x : Result A E). numbered (number_of before) x >>= (λ k. all_read read number_of (before ++ k ∷ []) (good ++ rest))) is ∙ read-then (before ++ a ∷ []) all good rest r there e

  bad-first : (all : List A) (bad : D) (rest : List D) (why : E) → read all bad ≡ Err why → all_read read number_of all (bad ∷ rest) ≡ Err (number_of all, why)
  unfolding all_read
  bad-first all bad rest why e = ap (λ (x : Result A E). numbered (number_of all) x >>= (λ k. all_read read number_of (all ++ k ∷ []) rest)) e

  pub refused-is : (before : List A) (ds : List D) (number : ℕ) (why : E) → IsRefused read number_of before ds number why → all_read read number_of before ds ≡ Err (number, why)
  refused-is before ds number why r =
      subst (λ (xs : List D). all_read read number_of before xs ≡ Err (number, why)) r.items
      (read-then before r.all r.good (r.bad ∷ r.rest) (Err (number, why)) r.read (bad-first r.all r.bad r.rest why r.refused ∙ ap (λ (n : ℕ). Err (n, why)) r.number_is))

  accepted-step : (before : List A) (d : D) (ds : List D) (all : List A) (r : Result A E) → read before d ≡ r
      → ((a : A) → all_read read number_of (before ++ a ∷ []) ds ≡ Ok all → AreRead read (before ++ a ∷ []) ds all)
      → (numbered (number_of before) r >>= (λ a. all_read read number_of (before ++ a ∷ []) ds)) ≡ Ok all → AreRead read before (d ∷ ds) all
  accepted-step before d ds all (Ok a) is found e = more is (found a e)
  accepted-step before d ds all (Err w) is found e = absurd cc

  pub accepted-found : (before : List A) (ds : List D) (all : List A) → all_read read number_of before ds ≡ Ok all → AreRead read before ds all
  unfolding all_read
  accepted-found before [] all e = subst (λ (g : List A). AreRead read before [] g) (let same : before ≡ all = cc in same) none
  accepted-found before (d ∷ ds) all e = accepted-step before d ds all (read before d) refl (λ a h. accepted-found (before ++ a ∷ []) ds all h) e

  append-nothing : (xs : List D) → xs ++ [] ≡ xs
  append-nothing [] = refl
  append-nothing (x ∷ xs) = ap (λ (ys : List D). x ∷ ys) (append-nothing xs)

  nothing-read : (all : List A) → all_read read number_of all [] ≡ Ok all
  unfolding all_read
  nothing-read all = refl

  pub accepted-is : (before : List A) (ds : List D) (all : List A) → AreRead read before ds all → all_read read number_of before ds ≡ Ok all
  accepted-is before ds all r =
      subst (λ (xs : List D). all_read read number_of before xs ≡ Ok all) (append-nothing ds) (read-then before all ds [] (Ok all) r (nothing-read all))
