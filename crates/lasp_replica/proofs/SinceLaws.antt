-- What states tell of what came since an earlier time.
use Rattle.std.proofs.Common.{◌≡◌, ℕ, pos, ◌+◌, ◌<◌, ◌≤◌, ◌⊎◌, inl, inr, true, false, IsTrue, List, [], ◌∷◌, ◌++◌, length, take, refl, sym, ap, subst, ◌∙◌, arith}
use Rattle.std.specs.Arc.{arc_value}
use Rattle.std.specs.Prelude.{Result, Ok, Err, IfOk}
use Rattle.std.specs.declared.alloc.Global.{Global}
use Rattle.std.specs.declared.sync.Arc.{Arc}
use Rattle.model_values.specs.Row.{Row}
use Rattle.model_states.specs.Content.{Content, of_set, least}
use Rattle.model_states.specs.Threshold.{set}
use Rattle.model_graph.specs.Graph as plain
use Rattle.model_graph.specs.Graph.{Decl, is_set, is_source, kind_at}
use Rattle.model_graph.specs.Evaluation.{content_at}
use Rattle.model_graph.proofs.PlaceLaws.{below-or-not, at-append, at-last, length-push}
use Rattle.model_journal.specs.Journal.{vals}
use Rattle.lasp_state.specs.declared.state.State.{State}
use Rattle.lasp_state.specs.declared.state.State.TheVariants as state
use Rattle.lasp_graph.specs.Kind.{kind_of}
use Rattle.lasp_graph.specs.States.{Held, held_of, held_at}
use Rattle.lasp_graph.specs.declared.kind.Kind.{Kind}
use Rattle.lasp_graph.specs.declared.kind.Kind.TheVariants.{OrSet, GSet, Counter, MaxReg, Union, Product, Intersection, Map, Filter, Fold}
use Rattle.lasp_replica.specs.Parts.{history_at}
use Rattle.lasp_replica.specs.Reading.{rows_since}
use Rattle.lasp_replica.specs.Replica.{frame_of, entries_of, parts_of, IsReplica}
use Rattle.lasp_replica.specs.Since.{IsSince, AreSince}
use Rattle.model_graph.specs.Message.{content_since}
use Rattle.lasp_replica.specs.declared.replica.Replica.{Replica}
use Rattle.lasp_replica.proofs.ReadLaws.{kept-changed, kept-width}

-- past the states stands a set without rows
abbrev no_held : Held
no_held = record { shape = set; content = least; number = pos 0 }

-- the rows that changed a source that is a set
pub since-rows : (r : Replica) → IsReplica r → (x n : ℕ) → x < length (arc_value r.graph) → n ≤ length (entries_of r) → kind_at (arc_value r.graph) x ≡ plain.OrSet → (rows : List Row) → rows ≡ rows_since (history_at (parts_of r).histories x) n
    → IsSince (kind_at (arc_value r.graph) x) (content_at (vals (frame_of r) (take n (entries_of r))) x) (held_at r.states x) (held_of (state.Set rows))
since-rows r ok x n low early kind rows are =
    let flat : IsTrue (is_set (kind_at (arc_value r.graph) x)) = ap is_set kind in
    let before = content_at (vals (frame_of r) (take n (entries_of r))) x in
    record {
      content = ap of_set (are ∙ (kept-changed (frame_of r) (entries_of r) (parts_of r) ok.kept x low flat n early).rows_are) ∙ ap (λ (k : plain.Kind). content_since k before (held_at r.states x).content) (sym kind);
      shape = sym (kept-width (frame_of r) (entries_of r) ok.legal (parts_of r) ok.kept x low flat).shape;
      number = λ derived. let both : true ≡ false = ap is_source (sym kind) ∙ derived in cc;
    }

-- of another variable all is told
all-told : (k : Kind) → (k ≡ OrSet → ⊥) → (s t : Content) → content_since (kind_of k) s t ≡ t
all-told OrSet other s t = absurd (other refl)
all-told GSet other s t = refl
all-told Counter other s t = refl
all-told MaxReg other s t = refl
all-told (Union x y) other s t = refl
all-told (Product x y) other s t = refl
all-told (Intersection x y) other s t = refl
all-told (Map x f) other s t = refl
all-told (Filter x p) other s t = refl
all-told (Fold x op l) other s t = refl

pub since-all : (k : Kind) (j : plain.Kind) → j ≡ kind_of k → (k ≡ OrSet → ⊥) → (before : Content) (s : State) (h : Held) → held_of s ≡ h → IsSince j before h (held_of s)
since-all k j kind other before s h same =
    subst (λ (i : plain.Kind). IsSince i before h (held_of s)) (sym kind)
    (subst (λ (z : Held). IsSince (kind_of k) before z (held_of s)) same (record { content = sym (all-told k other before (held_of s).content); shape = refl; number = λ derived. refl }))

-- what holds of a state holds of a share of it
pub shared-state : {E : Type 0} (s : State) (P : State → Type 0) (copy : Result (Arc State Global) E) → IfOk copy (λ t. arc_value t ≡ s) → P s → IfOk copy (λ t. P (arc_value t))
shared-state s P (Ok t) same p = subst P (sym same) p
shared-state s P (Err e) same p = tt

-- one variable more
pub since-pushed : (g : List Decl) (before : List Content) (states : List Held) (x : ℕ) (new : List Held) (h : Held) → AreSince g before states x new → IsSince (kind_at g x) (content_at before x) (held_at states x) h
    → AreSince g before states (x + 1) (new ++ h ∷ [])
since-pushed g before states x new h old here = record { long = omega (arith, length-push new h, old.long); each = λ y low. choose y low (below-or-not y x) } where
  last : held_at (new ++ h ∷ []) x ≡ h
  last = ap (λ (n : ℕ). held_at (new ++ h ∷ []) n) (sym old.long) ∙ at-last new h no_held

  choose : (y : ℕ) → y < x + 1 → (y < x) ⊎ (x ≤ y) → IsSince (kind_at g y) (content_at before y) (held_at states y) (held_at (new ++ h ∷ []) y)
  choose y low (inl less) =
      subst (λ (k : Held). IsSince (kind_at g y) (content_at before y) (held_at states y) k) (sym (at-append new (h ∷ []) y no_held (omega (arith, less, old.long)))) (old.each y less)
  choose y low (inr more) =
      let same : x ≡ y = omega (arith, low, more) in
      subst (λ (z : ℕ). IsSince (kind_at g z) (content_at before z) (held_at states z) (held_at (new ++ h ∷ []) z)) same
      (subst (λ (k : Held). IsSince (kind_at g x) (content_at before x) (held_at states x) k) (sym last) here)

-- no variable yet
pub since-none : (g : List Decl) (before : List Content) (states : List Held) → AreSince g before states 0 []
since-none g before states = record { long = refl; each = λ y low. absurd (omega (arith, low)) }
