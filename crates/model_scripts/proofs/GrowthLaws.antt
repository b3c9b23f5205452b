-- The graph that commands leave behind.
use Rattle.std.proofs.Common.{refl, sym, ap, ◌∙◌}
use Rattle.std.specs.Prelude.{◌≡◌, ℕ, List, [], ◌∷◌, ◌++◌, length, take}
use Rattle.std.proofs.lemmas.List.{append_assoc, append-nil}
use Rattle.std.proofs.Math.Seq.{take-append_seam}
use Rattle.model_graph.specs.Graph.{Decl}
use Rattle.model_world.specs.Command.{Command, Add, Remove, Insert, Inc, Max, Mark, Bind, Send, Deliver, Sync, Settle, Print, Read, Await, Declare}
use Rattle.model_world.specs.Lawful.{Stage, stage_after}
use Rattle.model_scripts.specs.Progress.{stage_behind, grown_by, grown}

after-graph : (nodes : ℕ) (s : Stage) (k : Command) → (stage_after nodes s k).graph ≡ grown_by s.graph k
after-graph nodes s (Add p x v) = refl
after-graph nodes s (Remove p x v) = refl
after-graph nodes s (Insert p x v) = refl
after-graph nodes s (Inc p x k) = refl
after-graph nodes s (Max p x n) = refl
after-graph nodes s (Mark p x) = refl
after-graph nodes s (Bind p x m) = refl
after-graph nodes s (Send p) = refl
after-graph nodes s (Deliver p i) = refl
after-graph nodes s Sync = refl
after-graph nodes s Settle = refl
after-graph nodes s (Print p x) = refl
after-graph nodes s (Read p x until) = refl
after-graph nodes s (Await p x until) = refl
after-graph nodes s (Declare d) = refl

pub graph-stage_behind : (nodes : ℕ) (s : Stage) (ks : List Command) → (stage_behind nodes s ks).graph ≡ grown s.graph ks
graph-stage_behind nodes s [] = refl
graph-stage_behind nodes s (k ∷ ks) = graph-stage_behind nodes (stage_after nodes s k) ks ∙ ap (λ (g : List Decl). grown g ks) (after-graph nodes s k)

pub grown-append : (g : List Decl) (ks ls : List Command) → grown g (ks ++ ls) ≡ grown (grown g ks) ls
grown-append g [] ls = refl
grown-append g (k ∷ ks) ls = grown-append (grown_by g k) ks ls

-- what a command declares stands behind the graph, whatever that is
by-added : (g : List Decl) (k : Command) → grown_by g k ≡ g ++ grown_by [] k
by-added g (Add p x v) = sym (append-nil g)
by-added g (Remove p x v) = sym (append-nil g)
by-added g (Insert p x v) = sym (append-nil g)
by-added g (Inc p x k) = sym (append-nil g)
by-added g (Max p x n) = sym (append-nil g)
by-added g (Mark p x) = sym (append-nil g)
by-added g (Bind p x m) = sym (append-nil g)
by-added g (Send p) = sym (append-nil g)
by-added g (Deliver p i) = sym (append-nil g)
by-added g Sync = sym (append-nil g)
by-added g Settle = sym (append-nil g)
by-added g (Print p x) = sym (append-nil g)
by-added g (Read p x until) = sym (append-nil g)
by-added g (Await p x until) = sym (append-nil g)
by-added g (Declare d) = refl

pub grown-added : (g : List Decl) (ks : List Command) → grown g ks ≡ g ++ grown [] ks
grown-added g [] = sym (append-nil g)
grown-added g (k ∷ ks) =
    grown-added (grown_by g k) ks
    ∙ ap (λ (h : List Decl). h ++ grown [] ks) (by-added g k)
    ∙ append_assoc g (grown_by [] k) (grown [] ks)
    ∙ ap (λ (h : List Decl). g ++ h) (sym (grown-added (grown_by [] k) ks))

pub take-grown : (g : List Decl) (ks : List Command) → take (length g) (grown g ks) ≡ g
take-grown g ks = ap (λ (h : List Decl). take (length g) h) (grown-added g ks) ∙ take-append_seam g (grown [] ks)
