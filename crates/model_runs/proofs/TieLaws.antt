-- A node tied to a journal: both have the same, the journal is legal, and what else is needed so that this stays.
use Rattle.std.proofs.Common.{◌≡◌, ℕ, zero, suc, ◌+◌, ◌≤◌, ◌<◌, Bool, true, false, if◌then◌else◌, ◌==◌, nat_lt, List, [], ◌∷◌, ◌++◌, length, slice_index_or, slice_set, Option, Some, None, Result, Ok, Err, refl, sym, ap, subst, arith}
use Rattle.std.proofs.lemmas.Bool.Decides.{nat_tests}
use Rattle.std.proofs.lemmas.Bool.{eq-eqb}
use Rattle.model_states.specs.Counts.{count_at}
use Rattle.model_states.specs.Content.{Content, size_of, row_limit}
use Rattle.model_graph.specs.Graph.{Kind, OrSet, GSet, Counter, MaxReg, Union, Product, Intersection, Map, Filter, Fold, Decl}
use Rattle.model_graph.specs.Evaluation.{least_of, content_at, first_large}
use Rattle.model_graph.proofs.PlaceLaws.{equal-numbers, at-set}
use Rattle.model_world.specs.World as world
use Rattle.model_world.specs.World.{Peer, Run, peer_at, updated, delivered, extended, message_at, no_message, sent_number, no_mark, mark_at, no_peer, act}
use Rattle.model_world.specs.declared.stop.Stop.{Stop}
use Rattle.model_world.specs.Delta.{deltas_at}
use Rattle.model_world.specs.Follow.{Followed}
use Rattle.model_world.proofs.SoundLaws.{IsSound}
use Rattle.model_journal.specs.Entry.{Act, Entry, Frame}
use Rattle.model_journal.specs.Journal.{journal}
use Rattle.model_journal.specs.Legal.{count_limit, IsWithinLimits, IsLawful, BringsValid, IsLegal}
use Rattle.model_journal.proofs.LimitLaws.{step-legal}
use Rattle.model_journal.proofs.StandLaws.{journal-valid}
use Rattle.model_runs.specs.Calls.{frame_of, fed}
use Rattle.model_runs.proofs.MatchLaws.{Matches, MayCome, MayBind, append-nothing}

-- a legal journal that has what the node has
pub record Ties (X : Frame) (h : List Entry) (g : List Decl) (r : Peer) : Type 0 where
  pub legal : IsLegal X h
  pub same : Matches X h g r

pub record Tied (opening : List Decl) (nodes done : ℕ) (h : ℕ → List Entry) (f : Followed) : Type 0 where
  pub sound : IsSound nodes f
  pub ties : (p : ℕ) → p < nodes → Ties (frame_of opening nodes p) (h p) f.run.graph (peer_at f.run.peers p)
  pub sent : (i : ℕ) → i < length f.run.sent → MayCome f.run.graph nodes (sent_number f.run.sent i)
  pub marks : (m : ℕ) → m < length f.marked → MayBind f.run.graph nodes (slice_index_or f.marked m 0) (mark_at f.run.marks m).content
  -- no replica made more updates than commands were done
  pub few : (q : ℕ) → length (deltas_at f.deltas q) ≤ done

-- ---- limits

pub within : (X : Frame) (k : List Entry) (g : List Decl) (r : Peer) → Matches X k g r → ((x : ℕ) → x < length g → size_of (content_at r.contents x) ≤ row_limit) → ((q : ℕ) → count_at r.counts q ≤ count_limit) → IsWithinLimits (journal X k).now
within X k g r same small few = record {
  few = λ x low. subst (λ (ss : List Content). size_of (content_at ss x) ≤ row_limit) (sym same.contents_are) (small x (omega (arith, low, ap (λ (c : List Decl). length c) same.graph_is)));
  counts = λ q. subst (λ (cs : List ℕ). count_at cs q ≤ count_limit) (sym same.counts_are) (few q);
}

pub small-here : (X : Frame) (h : List Entry) (g : List Decl) (r : Peer) → Ties X h g r → (x : ℕ) → x < length g → size_of (content_at r.contents x) ≤ row_limit
small-here X h g r t x low =
    subst (λ (ss : List Content). size_of (content_at ss x) ≤ row_limit) t.same.contents_are
    ((journal-valid X h t.legal).contents x (omega (arith, low, ap (λ (c : List Decl). length c) t.same.graph_is))).few

pub none-large : (n : ℕ) (ss : List Content) → first_large n ss ≡ None → (x : ℕ) → x < length ss → size_of (content_at ss x) ≤ row_limit
none-large n [] e x low = absurd (omega (arith, low))
none-large n (s ∷ ss) e x low = choose (λ h y k. none-large (n + 1) ss h y k) (nat_lt row_limit (size_of s)) refl e x low where
  choose : (first_large (n + 1) ss ≡ None → (y : ℕ) → y < length ss → size_of (content_at ss y) ≤ row_limit)
      → (b : Bool) → nat_lt row_limit (size_of s) ≡ b → (if b then Some n else first_large (n + 1) ss) ≡ None → (y : ℕ) → y < suc (length ss) → size_of (content_at (s ∷ ss) y) ≤ row_limit
  choose later true t h y k = absurd cc
  choose later false t h zero k = grind (arith, nat_tests, t)
  choose later false t h (suc y) k = later h y (omega (arith, k))

pub update-small : (n : ℕ) (stop : Stop) (run next : Run) → (if nat_lt row_limit n then Err stop else Ok run) ≡ Ok next → n ≤ row_limit
update-small n stop run next e = choose (nat_lt row_limit n) refl e where
  choose : (b : Bool) → nat_lt row_limit n ≡ b → (if b then Err stop else Ok run) ≡ Ok next → n ≤ row_limit
  choose true t h = absurd cc
  choose false t h = grind (arith, nat_tests, t)

pub delivery-small : (o : Option ℕ) (c p : ℕ) (rest : Result Run Stop) (next : Run) → world.stop_from o c p rest ≡ Ok next → o ≡ None
delivery-small None c p rest next e = refl
delivery-small (Some x) c p rest next e = absurd cc

pub small-least : (nodes : ℕ) (k : Kind) → size_of (least_of nodes k) ≤ row_limit
small-least nodes OrSet = omega arith
small-least nodes GSet = omega arith
small-least nodes Counter = omega arith
small-least nodes MaxReg = omega arith
small-least nodes (Union x y) = omega arith
small-least nodes (Product x y) = omega arith
small-least nodes (Intersection x y) = omega arith
small-least nodes (Map x place ops) = omega arith
small-least nodes (Filter x place ops) = omega arith
small-least nodes (Fold x op place lift) = omega arith

-- one more lawful entry within the limits
pub ties-step : (X : Frame) (h : List Entry) (a : Act) (g g' : List Decl) (r r' : Peer) → Ties X h g r → Matches X (h ++ fed a ∷ []) g' r' → IsLawful X (journal X h) a → BringsValid X.nodes a
    → ((x : ℕ) → x < length g' → size_of (content_at r'.contents x) ≤ row_limit) → ((q : ℕ) → count_at r'.counts q ≤ count_limit) → Ties X (h ++ fed a ∷ []) g' r'
ties-step X h a g g' r r' t same lawful brings small few = record { legal = step-legal X h t.legal (fed a) lawful brings (within X (h ++ fed a ∷ []) g' r' same small few); same = same }

-- ---- what changes at one node

other-number : (p q : ℕ) → (q ≡ p → ⊥) → (p == q) ≡ false
other-number p q n = choose (p == q) refl where
  choose : (b : Bool) → (p == q) ≡ b → (p == q) ≡ false
  choose true e = absurd (n (sym (equal-numbers p q e)))
  choose false e = e

pub each-node : (P : ℕ → List Entry → Peer → Type 0) (nodes : ℕ) (h : ℕ → List Entry) (peers : List Peer) (p : ℕ) (e : Entry) (after : Peer) → length peers ≡ nodes
    → ((q : ℕ) → q < nodes → P q (h q) (peer_at peers q)) → (p < nodes → P p (h p ++ e ∷ []) after)
    → (q : ℕ) → q < nodes → P q (h q ++ (if p == q then e ∷ [] else [])) (peer_at (slice_set peers p after) q)
each-node P nodes h peers p e after many old new q low =
    at-set (λ (r : Peer). P q (h q ++ (if p == q then e ∷ [] else [])) r) peers p after no_peer q (omega (arith, low, many)) here there where
      here : q ≡ p → P q (h q ++ (if p == q then e ∷ [] else [])) after
      here is = subst (λ (i : ℕ). P i (h i ++ (if p == i then e ∷ [] else [])) after) (sym is)
          (subst (λ (b : Bool). P p (h p ++ (if b then e ∷ [] else [])) after) (sym ((eq-eqb p p refl))) (new (omega (arith, low, is))))

      there : (q ≡ p → ⊥) → P q (h q ++ (if p == q then e ∷ [] else [])) (peer_at peers q)
      there n = subst (λ (b : Bool). P q (h q ++ (if b then e ∷ [] else [])) (peer_at peers q)) (sym (other-number p q n))
          (subst (λ (k : List Entry). P q k (peer_at peers q)) (sym (append-nothing (h q))) (old q low))
