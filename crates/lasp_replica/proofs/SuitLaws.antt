-- The operations of the updates that a journal has are those of their variables, as it goes on.
use Rattle.std.proofs.Common.{◌≡◌, ℕ, zero, suc, ◌<◌, IsTrue, List, [], ◌∷◌, ◌++◌, length, map, slice_get, Some, sym, subst, arith}
use Rattle.std.specs.List.{AllByRecursion}
use Rattle.model_graph.specs.Graph.{Kind, Decl}
use Rattle.model_graph.proofs.PlaceLaws.{length-push}
use Rattle.model_world.proofs.VariableLaws.{kind-append}
use Rattle.lasp_replica.specs.declared.entry.Act.{Act}
use Rattle.lasp_replica.specs.declared.entry.Act.TheVariants as act
use Rattle.lasp_replica.specs.declared.entry.Entry.{Entry}
use Rattle.lasp_replica.specs.Entries.{entry_of}
use Rattle.lasp_replica.specs.Replica.{is_for, SuitsAct, IsSuited}
use Rattle.lasp_replica.specs.declared.replica.Replica.{Replica}
use Rattle.std.specs.Arc.{arc_value}

-- all entries are suited
abbrev pub AreSuited : ℕ → List Decl → List Entry → Type 0
AreSuited nodes g entries = AllByRecursion (IsSuited nodes g) entries

module _ (nodes : ℕ) (g : List Decl) where
  push : (entries : List Entry) (e : Entry) → AreSuited nodes g entries → IsSuited nodes g e → AreSuited nodes g (entries ++ e ∷ [])
  push [] e all one = (one, tt)
  push (d ∷ entries) e all one = (all.0, push entries e all.1 one)

  -- an entry was pushed
  pub suited-pushed : (old new : List Entry) (e : Entry) → new ≡ old ++ e ∷ [] → AreSuited nodes g old → IsSuited nodes g e → AreSuited nodes g new
  suited-pushed old new e is all one = subst (AreSuited nodes g) (sym is) (push old e all one)

  -- no entry is there
  pub suited-none : (entries : List Entry) → map entry_of entries ≡ [] → AreSuited nodes g entries
  suited-none [] none = tt
  suited-none (e ∷ entries) none = absurd cc

  -- the entry at a place
  pub suited-at : (entries : List Entry) (i : ℕ) (e : Entry) → AreSuited nodes g entries → slice_get entries i ≡ Some e → IsSuited nodes g e
  suited-at [] i e all at = absurd cc
  suited-at (d ∷ entries) zero e all at = subst (IsSuited nodes g) (let same : d ≡ e = cc in same) all.0
  suited-at (d ∷ entries) (suc i) e all at = suited-at entries i e all.1 at

  -- a variable more is declared
  later : (d : Decl) (a : Act) → SuitsAct nodes g a → SuitsAct nodes (g ++ d ∷ []) a
  later d (act.Update x o) is = record {
    declared = subst (λ (n : ℕ). x < n) (sym (length-push g d)) (omega (arith, is.declared));
    suits = subst (λ (k : Kind). IsTrue (is_for nodes o k)) (sym (kind-append g (d ∷ []) x is.declared)) is.suits;
  }
  later d (act.Deliver number m) is = tt
  later d (act.Bind y n) is = tt
  later d (act.Extend e) is = tt

  pub suited-longer : (d : Decl) (entries : List Entry) → AreSuited nodes g entries → AreSuited nodes (g ++ d ∷ []) entries
  suited-longer d [] all = tt
  suited-longer d (e ∷ entries) all = (later d e.what all.0, suited-longer d entries all.1)

-- the entries of a replica that has as many nodes, the same graph and the same entries
pub suited-same : (old new : Replica) → length new.counts ≡ length old.counts → arc_value new.graph ≡ arc_value old.graph → new.journal.items ≡ old.journal.items
    → AreSuited (length old.counts) (arc_value old.graph) old.journal.items → AreSuited (length new.counts) (arc_value new.graph) new.journal.items
suited-same old new nodes graph items all =
    subst (λ (entries : List Entry). AreSuited (length new.counts) (arc_value new.graph) entries) (sym items)
    (subst (λ (g : List Decl). AreSuited (length new.counts) g old.journal.items) (sym graph) (subst (λ (n : ℕ). AreSuited n (arc_value old.graph) old.journal.items) (sym nodes) all))

-- one entry more
pub suited-more : (old new : Replica) (e : Entry) → length new.counts ≡ length old.counts → arc_value new.graph ≡ arc_value old.graph → new.journal.items ≡ old.journal.items ++ e ∷ []
    → AreSuited (length old.counts) (arc_value old.graph) old.journal.items → IsSuited (length old.counts) (arc_value old.graph) e → AreSuited (length new.counts) (arc_value new.graph) new.journal.items
suited-more old new e nodes graph items all one =
    subst (λ (g : List Decl). AreSuited (length new.counts) g new.journal.items) (sym graph)
    (subst (λ (n : ℕ). AreSuited n (arc_value old.graph) new.journal.items) (sym nodes) (suited-pushed (length old.counts) (arc_value old.graph) old.journal.items new.journal.items e items all one))
