-- States of what came to a core since its first entries are those that its replica tells.
use Rattle.std.proofs.Common.{◌≡◌, ℕ, ◌<◌, IsFalse, List, length, take, refl, sym, ap, subst, ◌∙◌}
use Rattle.std.specs.Arc.{arc_value}
use Rattle.std.specs.Prelude.{Result, Ok, Err, IfOk}
use Rattle.model_states.specs.Content.{Content}
use Rattle.model_graph.specs.Graph.{Decl, Kind, OrSet, GSet, Counter, MaxReg, Union, Product, Intersection, Map, Filter, Fold, is_source, kind_at}
use Rattle.model_graph.specs.Lawful.{IsDerived, shape_of}
use Rattle.model_journal.specs.Journal.{graph, val, vals}
use Rattle.lasp_graph.specs.Evaluated.{number_by}
use Rattle.lasp_graph.specs.States.{Held, held_at}
use Rattle.lasp_replica.specs.Replica.{frame_of, entries_of, parts_of, IsReplica}
use Rattle.lasp_replica.specs.Since.{AreSince}
use Rattle.model_graph.specs.Message.{content_since}
use Rattle.lasp_replica.specs.declared.replica.Replica.{Replica}
use Rattle.lasp_replica.proofs.PartLaws.{held-val}
use Rattle.lasp_core.specs.Since.{AreStatesSince}

-- of a variable that is derived all is told
all-derived : (k : Kind) → IsFalse (is_source k) → (s t : Content) → content_since k s t ≡ t
all-derived OrSet derived s t = absurd (cc (derived))
all-derived GSet derived s t = refl
all-derived Counter derived s t = refl
all-derived MaxReg derived s t = refl
all-derived (Union x y) derived s t = refl
all-derived (Product x y) derived s t = refl
all-derived (Intersection x y) derived s t = refl
all-derived (Map x place ops) derived s t = refl
all-derived (Filter x place ops) derived s t = refl
all-derived (Fold x op place lift) derived s t = refl

-- what a replica tells is what is told of its core
pub core-since : (r : Replica) → IsReplica r → (n : ℕ) (states : List Held)
    → AreSince (arc_value r.graph) (vals (frame_of r) (take n (entries_of r))) r.states (length (arc_value r.graph)) states → AreStatesSince (frame_of r) (entries_of r) n states
core-since r is n states since = record {
  long = since.long ∙ ap length is.kept.graph;
  contents = λ x low. (since.each x (here x low)).content
      ∙ ap (λ (k : Kind). content_since k (before x) (held_at r.states x).content) (kind x)
      ∙ ap (content_since (kind_at g x) (before x)) (held-val (frame_of r) (entries_of r) (parts_of r) is.kept x);
  shapes = λ x low. (since.each x (here x low)).shape ∙ is.kept.shapes x (here x low) ∙ ap (shape_of (frame_of r).nodes) (kind x);
  numbers = λ x derived.
      let there : IsDerived (arc_value r.graph) x = subst (λ (ds : List Decl). IsDerived ds x) (sym is.kept.graph) derived in
      let told = since.each x there.declared in
      let all : (held_at states x).content ≡ (held_at r.states x).content = told.content ∙ all-derived (kind_at (arc_value r.graph) x) there.process (before x) (held_at r.states x).content in
      told.number there.process ∙ is.kept.numbers x there ∙ (λ i. number_by (kind x i) (sym all i));
} where
  g : List Decl
  g = graph (frame_of r) (entries_of r)

  before : ℕ → Content
  before x = val (frame_of r) (take n (entries_of r)) x

  here : (x : ℕ) → x < length g → x < length (arc_value r.graph)
  here x low = subst (λ (ds : List Decl). x < length ds) (sym is.kept.graph) low

  kind : (x : ℕ) → kind_at (arc_value r.graph) x ≡ kind_at g x
  kind x = ap (λ (ds : List Decl). kind_at ds x) is.kept.graph

pub if-since : {E : Type 0} (r : Replica) → IsReplica r → (n : ℕ) (told : Result (List Held) E)
    → IfOk told (AreSince (arc_value r.graph) (vals (frame_of r) (take n (entries_of r))) r.states (length (arc_value r.graph))) → IfOk told (AreStatesSince (frame_of r) (entries_of r) n)
if-since r is n (Ok states) since = core-since r is n states since
if-since r is n (Err e) since = tt
