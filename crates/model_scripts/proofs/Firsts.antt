-- Commands are refused exactly at the first that is refused, and accepted exactly where each is.
use Rattle.std.proofs.Common.{refl, ap, subst, ◌∙◌}
use Rattle.std.specs.Prelude.{◌≡◌, ℕ, List, [], ◌∷◌, ◌++◌, Result, Ok, Err}
use Rattle.serde_json.specs.Data.{Data}
use Rattle.model_functions.specs.Library.{Library}
use Rattle.model_graph.specs.Chain.{◌>>=◌}
use Rattle.model_readings.specs.Graph.{numbered}
use Rattle.model_scripts.specs.declared.script_why.ScriptWhy.{ScriptWhy}
use Rattle.model_scripts.specs.Progress.{Progress, next_number}
use Rattle.model_scripts.specs.Script.{next_read, commands_read}
use Rattle.model_scripts.specs.First.{AreRead, none, more, IsRefused}

module _ (lib : Library) (nodes : ℕ) where
  first-same : (m n : ℕ) (w v : ScriptWhy) → ◌≡◌ {A = Result Progress (ℕ × ScriptWhy)} (Err (m, w)) (Err (n, v)) → m ≡ n
  first-same m n w v h = ap (λ (p : ℕ × ScriptWhy). p.0) (let pairs : ◌≡◌ {A = ℕ × ScriptWhy} (m, w) (n, v) = cc in pairs)

  second-same : (m n : ℕ) (w v : ScriptWhy) → ◌≡◌ {A = Result Progress (ℕ × ScriptWhy)} (Err (m, w)) (Err (n, v)) → w ≡ v
  second-same m n w v h = ap (λ (p : ℕ × ScriptWhy). p.1) (let pairs : ◌≡◌ {A = ℕ × ScriptWhy} (m, w) (n, v) = cc in pairs)

  -- a first command that was read, and the others
  abbrev then_others : ℕ → List Data → Result Progress ScriptWhy → Result Progress (ℕ × ScriptWhy)
  then_others number ds r = numbered number r >>= λ next. commands_read lib nodes next ds

  refused-step : (p : Progress) (d : Data) (ds : List Data) (number : ℕ) (why : ScriptWhy) (r : Result Progress ScriptWhy) → next_read lib nodes p d ≡ r
      → ((next : Progress) → commands_read lib nodes next ds ≡ Err (number, why) → IsRefused lib nodes next ds number why)
      → then_others (next_number p) ds r ≡ Err (number, why) → IsRefused lib nodes p (d ∷ ds) number why
  refused-step p d ds number why (Ok next) is found e =
      let r = found next e in
      record { good = d ∷ r.good; bad = r.bad; rest = r.rest; last = r.last; items = ap (λ (xs : List Data). d ∷ xs) r.items; read = more is r.read; number_is = r.number_is; refused = r.refused }
  refused-step p d ds number why (Err w) is found e = record {
    good = [];
    bad = d;
    rest = ds;
    last = p;
    items = refl;
    read = none;
    number_is = first-same (next_number p) number w why e;
    refused = is ∙ ap (λ (x : ScriptWhy). Err x) (second-same (next_number p) number w why e);
  }

  pub refused-found : (p : Progress) (ds : List Data) (number : ℕ) (why : ScriptWhy) → commands_read lib nodes p ds ≡ Err (number, why) → IsRefused lib nodes p ds number why
  unfolding commands_read
  refused-found p [] number why e = absurd cc
  refused-found p (d ∷ ds) number why e = refused-step p d ds number why (next_read lib nodes p d) refl (λ next h. refused-found next ds number why h) e

  -- a command that is read, and then the others
  pub read-one : (p next : Progress) (d : Data) (ds : List Data) (r : Result Progress (ℕ × ScriptWhy)) → next_read lib nodes p d ≡ Ok next → commands_read lib nodes next ds ≡ r → commands_read lib nodes p (d ∷ ds) ≡ r
  unfolding commands_read
  read-one p next d ds r is there = ap (then_others (next_number p) ds) is ∙ there

  read-then : (p last : Progress) (good rest : List Data) (r : Result Progress (ℕ × ScriptWhy)) → AreRead lib nodes p good last → commands_read lib nodes last rest ≡ r → commands_read lib nodes p (good ++ rest) ≡ r
  read-then p last [] rest r (none) e = e
  read-then p last (d ∷ good) rest r (more {next = next} is there) e = read-one p next d (good ++ rest) r is (read-then next last good rest r there e)

  bad-first : (p : Progress) (bad : Data) (rest : List Data) (why : ScriptWhy) → next_read lib nodes p bad ≡ Err why → commands_read lib nodes p (bad ∷ rest) ≡ Err (next_number p, why)
  unfolding commands_read
  bad-first p bad rest why e = ap (then_others (next_number p) rest) e

  pub refused-is : (p : Progress) (ds : List Data) (number : ℕ) (why : ScriptWhy) → IsRefused lib nodes p ds number why → commands_read lib nodes p ds ≡ Err (number, why)
  refused-is p ds number why r =
      subst (λ (xs : List Data). commands_read lib nodes p xs ≡ Err (number, why)) r.items
      (read-then p r.last r.good (r.bad ∷ r.rest) (Err (number, why)) r.read (bad-first r.last r.bad r.rest why r.refused ∙ ap (λ (n : ℕ). Err (n, why)) r.number_is))

  accepted-step : (p : Progress) (d : Data) (ds : List Data) (last : Progress) (r : Result Progress ScriptWhy) → next_read lib nodes p d ≡ r
      → ((next : Progress) → commands_read lib nodes next ds ≡ Ok last → AreRead lib nodes next ds last)
      → then_others (next_number p) ds r ≡ Ok last → AreRead lib nodes p (d ∷ ds) last
  accepted-step p d ds last (Ok next) is found e = more is (found next e)
  accepted-step p d ds last (Err w) is found e = absurd cc

  pub accepted-found : (p : Progress) (ds : List Data) (last : Progress) → commands_read lib nodes p ds ≡ Ok last → AreRead lib nodes p ds last
  unfolding commands_read
  accepted-found p [] last e = subst (λ (q : Progress). AreRead lib nodes p [] q) (let same : p ≡ last = cc in same) none
  accepted-found p (d ∷ ds) last e = accepted-step p d ds last (next_read lib nodes p d) refl (λ next h. accepted-found next ds last h) e

  pub accepted-is : (p : Progress) (ds : List Data) (last : Progress) → AreRead lib nodes p ds last → commands_read lib nodes p ds ≡ Ok last
  unfolding commands_read
  accepted-is p [] last (none) = refl
  accepted-is p (d ∷ ds) last (more {next = next} is there) = read-one p next d ds (Ok last) is (accepted-is next ds last there)
