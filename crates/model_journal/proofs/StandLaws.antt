-- What stands after legal entries is valid.
use Rattle.std.proofs.Common.{◌≡◌, ℕ, IsTrue, List, [], ◌∷◌, length, sym, ap, subst, arith}
use Rattle.model_states.specs.Content.{Content}
use Rattle.model_states.specs.Shape.{HasShape}
use Rattle.model_states.proofs.CountLaws.{count_at-zeros}
use Rattle.model_graph.specs.Graph.{Kind, OrSet, GSet, Counter, MaxReg, Union, Product, Intersection, Map, Filter, Fold, kind_at, is_set, IsInput, no_decl}
use Rattle.model_graph.specs.Evaluation.{least_of, content_at}
use Rattle.model_graph.specs.Lawful.{width_at, widths, shape_of}
use Rattle.model_graph.proofs.PlaceLaws.{at-map}
use Rattle.model_journal.specs.Entry.{Entry, Frame}
use Rattle.model_journal.specs.Journal.{Journal, snapshot_at, next, run, start, journal, graph, val}
use Rattle.model_journal.specs.Legal.{IsValid, IsValidSnapshot, IsLegalFrom, IsLegal}
use Rattle.model_journal.proofs.GraphLaws.{input-declared, input-set}
use Rattle.model_journal.proofs.GoodLaws.{to-now}
use Rattle.model_journal.proofs.JournalLaws.{journal-good}
use Rattle.model_journal.proofs.ValidLaws.{valid-least_of}

start-valid : (X : Frame) → IsValidSnapshot X.nodes (start X).now
start-valid X = record {
  contents = λ x low. subst (λ (s : Content). IsValid X.nodes (kind_at X.opening x) (width_at (widths X.opening) x) s) (sym (at-map (λ d. least_of X.nodes d.kind) X.opening x no_decl))
      (valid-least_of X.nodes (kind_at X.opening x) (width_at (widths X.opening) x));
  counts = λ q. omega (arith, count_at-zeros X.nodes q);
}

run-valid : (X : Frame) (j : Journal) (h : List Entry) → IsValidSnapshot X.nodes j.now → IsLegalFrom X j h → IsValidSnapshot X.nodes (run X j h).now
run-valid X j [] valid legal = valid
run-valid X j (e ∷ h) valid legal = run-valid X (next X j e) h legal.1 legal.2

pub journal-valid : (X : Frame) (h : List Entry) → IsLegal X h → IsValidSnapshot X.nodes (journal X h).now
journal-valid X h legal = run-valid X (start X) h (start-valid X) legal.in_turn

-- ---- sets have no counts

set-counts : (nodes : ℕ) (k : Kind) (s : Content) → IsTrue (is_set k) → HasShape (shape_of nodes k) s → length s.counts ≡ 0
set-counts nodes OrSet s e h = ap (λ (c : Content). length c.counts) h
set-counts nodes GSet s e h = cc
set-counts nodes Counter s e h = cc
set-counts nodes MaxReg s e h = cc
set-counts nodes (Union x y) s e h = ap (λ (c : Content). length c.counts) h
set-counts nodes (Product x y) s e h = ap (λ (c : Content). length c.counts) h
set-counts nodes (Intersection x y) s e h = ap (λ (c : Content). length c.counts) h
set-counts nodes (Map x place ops) s e h = ap (λ (c : Content). length c.counts) h
set-counts nodes (Filter x place ops) s e h = ap (λ (c : Content). length c.counts) h
set-counts nodes (Fold x op place lift) s e h = ap (λ (c : Content). length c.counts) h

-- an input has no counts, now and at every moment before
pub input-flat : (X : Frame) (h : List Entry) → IsLegal X h → (y x : ℕ) → IsInput (kind_at (graph X h) y) x → length (val X h x).counts ≡ 0
input-flat X h legal y x i =
    let ok = (journal-good X h legal).graph in
    set-counts X.nodes (kind_at (graph X h) x) (val X h x) (input-set (graph X h) ok y x i) ((journal-valid X h legal).contents x (input-declared (graph X h) ok y x i)).shape

pub input-was-flat : (X : Frame) (h : List Entry) → IsLegal X h → (y x n : ℕ) → IsInput (kind_at (graph X h) y) x → length (content_at (snapshot_at (journal X h) n).contents x).counts ≡ length (val X h x).counts
input-was-flat X h legal y x n i = omega (arith, input-flat X h legal y x i, (to-now X (journal X h) (journal-good X h legal) n).wider x)
