-- The entries of the map are legal.
use Rattle.std.proofs.Common.{◌≡◌, ◌≢◌, ℕ, zero, suc, ◌≤◌, ◌<◌, pos, negsuc, IsTrue, List, [], ◌∷◌, codes, slice_index_or, refl, sym, ap, subst, arith}
use Rattle.model_values.specs.Value.{int}
use Rattle.model_functions.specs.Map.{mapped}
use Rattle.model_states.specs.Counts.{count_at}
use Rattle.model_states.specs.Content.{size_of, row_limit}
use Rattle.model_states.specs.Update.{Add}
use Rattle.model_graph.specs.Graph.{Decl, name_at, kind_at, is_set}
use Rattle.model_graph.specs.Evaluation.{content_at}
use Rattle.model_graph.specs.Lawful.{IsGraph}
use Rattle.model_journal.specs.Entry.{Update, Bind, Entry, entry}
use Rattle.model_journal.specs.Journal.{journal}
use Rattle.model_journal.specs.Legal.{count_limit, IsWithinLimits, IsLegal}
use Rattle.model_journal.proofs.LimitLaws.{step-legal}
use Rattle.model_examples.specs.Processes.{map_graph}
use Rattle.model_examples.specs.Binds.{map_frame, map_entries}

map-graph : IsGraph map_graph
map-graph zero low = record {
  new = λ x h. absurd (omega (arith, h));
  earlier = λ x i. absurd i;
  sets = λ x i. absurd i;
  kind = tt;
  narrow = omega arith;
  room = omega arith;
}
map-graph (suc zero) low = record {
  new = new;
  earlier = λ x i. omega (arith, i);
  sets = λ x i. subst (λ (z : ℕ). IsTrue (is_set (kind_at (take_one map_graph) z))) (sym i) refl;
  kind = tt;
  narrow = omega arith;
  room = omega arith;
} where
  take_one : List Decl → List Decl
  take_one [] = []
  take_one (d ∷ g) = d ∷ []

  new : (x : ℕ) → x < 1 → name_at (take_one map_graph) x ≢ codes "m"
  new zero h e = let differ : 97 ≡ 109 = ap (λ (name : List ℕ). slice_index_or name 0 0) e in omega (arith, differ)
  new (suc x) h e = omega (arith, h)
map-graph (suc (suc y)) low = absurd (omega (arith, low))

-- the entries, one more each time
abbrev first_add : Entry
first_add = entry 0 (Update 0 (Add (int (pos 1))))

abbrev second_add : Entry
second_add = entry 0 (Update 0 (Add (int (negsuc 0))))

abbrev later_bind : Entry
later_bind = entry 2 (Bind 1 2)

abbrev earlier_bind : Entry
earlier_bind = entry 1 (Bind 1 1)

abbrev Small : List Entry → Type 0
Small entries = IsWithinLimits (journal map_frame entries).now

no-entries : IsLegal map_frame []
no-entries = record { opening = map-graph; member = omega arith; in_turn = tt }

small-one : Small (first_add ∷ [])
small-one = record { few = few; counts = counts } where
  few : (x : ℕ) → x < 2 → size_of (content_at (journal map_frame (first_add ∷ [])).now.contents x) ≤ row_limit
  few zero low = omega arith
  few (suc zero) low = omega arith
  few (suc (suc x)) low = absurd (omega (arith, low))

  counts : (q : ℕ) → count_at (journal map_frame (first_add ∷ [])).now.counts q ≤ count_limit
  counts zero = omega arith
  counts (suc q) = omega arith

one-entry : IsLegal map_frame (first_add ∷ [])
one-entry = step-legal map_frame [] no-entries first_add (omega arith, refl, (record { leaves = omega arith; bytes = omega arith }, record { sfits = omega arith })) tt small-one

small-two : Small (first_add ∷ second_add ∷ [])
small-two = record { few = few; counts = counts } where
  few : (x : ℕ) → x < 2 → size_of (content_at (journal map_frame (first_add ∷ second_add ∷ [])).now.contents x) ≤ row_limit
  few zero low = omega arith
  few (suc zero) low = omega arith
  few (suc (suc x)) low = absurd (omega (arith, low))

  counts : (q : ℕ) → count_at (journal map_frame (first_add ∷ second_add ∷ [])).now.counts q ≤ count_limit
  counts zero = omega arith
  counts (suc q) = omega arith

two-entries : IsLegal map_frame (first_add ∷ second_add ∷ [])
two-entries = step-legal map_frame (first_add ∷ []) one-entry second_add (omega arith, refl, (record { leaves = omega arith; bytes = omega arith }, record { sfits = omega arith })) tt small-two

small-three : Small (first_add ∷ second_add ∷ later_bind ∷ [])
unfolding mapped
small-three = record { few = few; counts = counts } where
  few : (x : ℕ) → x < 2 → size_of (content_at (journal map_frame (first_add ∷ second_add ∷ later_bind ∷ [])).now.contents x) ≤ row_limit
  few zero low = omega arith
  few (suc zero) low = omega arith
  few (suc (suc x)) low = absurd (omega (arith, low))

  counts : (q : ℕ) → count_at (journal map_frame (first_add ∷ second_add ∷ later_bind ∷ [])).now.counts q ≤ count_limit
  counts zero = omega arith
  counts (suc q) = omega arith

three-entries : IsLegal map_frame (first_add ∷ second_add ∷ later_bind ∷ [])
three-entries = step-legal map_frame (first_add ∷ second_add ∷ []) two-entries later_bind (omega arith, record { declared = omega arith; process = refl }) tt small-three

small-four : Small map_entries
unfolding mapped
small-four = record { few = few; counts = counts } where
  few : (x : ℕ) → x < 2 → size_of (content_at (journal map_frame map_entries).now.contents x) ≤ row_limit
  few zero low = omega arith
  few (suc zero) low = omega arith
  few (suc (suc x)) low = absurd (omega (arith, low))

  counts : (q : ℕ) → count_at (journal map_frame map_entries).now.counts q ≤ count_limit
  counts zero = omega arith
  counts (suc q) = omega arith

pub map-legal : IsLegal map_frame map_entries
map-legal = step-legal map_frame (first_add ∷ second_add ∷ later_bind ∷ []) three-entries earlier_bind (omega arith, record { declared = omega arith; process = refl }) tt small-four

pub ruleset legal = (map-legal)
