-- Which messages are of a graph, and what joining messages one after the other comes to.
use Rattle.std.proofs.Common.{refl, sym, ap, ◌∙◌, arith}
use Rattle.std.specs.Prelude.{◌≡◌, ℕ, ◌+◌, ◌==◌, Bool, true, false, if◌then◌else◌, suc, zero, List, [], ◌∷◌, ◌++◌, length, Option, Some, None, Decides}
use Rattle.std.specs.Str.{bytes_eq}
use Rattle.std.proofs.lemmas.Bool.Decides.{Decides-and, Decides-eqb}
use Rattle.std.proofs.lemmas.Slice.Eq.{bytes_eq-Decides}
use Rattle.model_states.specs.Counts.{larger}
use Rattle.model_states.proofs.CountLaws.{length-larger, length-zeros}
use Rattle.model_graph.specs.Graph.{Kind, OrSet, GSet, Counter, MaxReg, Union, Product, Intersection, Map, Filter, Fold, Decl, is_source}
use Rattle.model_graph.specs.Message.{Message}
use Rattle.model_world.specs.World.{Peer, fresh_peer, delivered}
use Rattle.model_readings.specs.Graph.{declaration}
use Rattle.model_program.specs.Plan.{Says, exactly}
use Rattle.model_program.specs.Merge.{declared_in, sources_of, IsPrefixOf, is_same_kind, is_same_source, is_prefix_of, may_take, replica_before, merging_file, merge_answer, merging_more, nodes_in, taking, joined}

-- ---- sources

same-kind : (k l : Kind) → is_same_kind k l ≡ true → k ≡ l
same-kind OrSet OrSet h = refl
same-kind OrSet _ h = absurd cc
same-kind GSet GSet h = refl
same-kind GSet _ h = absurd cc
same-kind Counter Counter h = refl
same-kind Counter _ h = absurd cc
same-kind MaxReg MaxReg h = refl
same-kind MaxReg _ h = absurd cc
same-kind (Union x y) l h = absurd cc
same-kind (Product x y) l h = absurd cc
same-kind (Intersection x y) l h = absurd cc
same-kind (Map x place ops) l h = absurd cc
same-kind (Filter x place ops) l h = absurd cc
same-kind (Fold x op place lift) l h = absurd cc

kind-itself : (k : Kind) → is_source k ≡ true → is_same_kind k k ≡ true
kind-itself OrSet h = refl
kind-itself GSet h = refl
kind-itself Counter h = refl
kind-itself MaxReg h = refl
kind-itself (Union x y) h = absurd cc
kind-itself (Product x y) h = absurd cc
kind-itself (Intersection x y) h = absurd cc
kind-itself (Map x place ops) h = absurd cc
kind-itself (Filter x place ops) h = absurd cc
kind-itself (Fold x op place lift) h = absurd cc

source-Decides : (d e : Decl) → is_source e.kind ≡ true → Decides (is_same_source d e) ((d.name ≡ e.name) × (d.kind ≡ e.kind))
source-Decides d e h =
    Decides-and (bytes_eq d.name e.name) (is_same_kind d.kind e.kind) (bytes_eq-Decides d.name e.name)
    (λ t. same-kind d.kind e.kind t, λ same. ap (λ (k : Kind). is_same_kind k e.kind) same ∙ kind-itself e.kind h)

-- each declaration is of a source
abbrev pub AreSources : List Decl → Type 0
AreSources [] = Unit {0}
AreSources (d ∷ g) = (is_source d.kind ≡ true) × AreSources g

sources-step : (d : Decl) (rest : List Decl) (b : Bool) → is_source d.kind ≡ b → AreSources rest → AreSources (if b then d ∷ rest else rest)
sources-step d rest true e h = (e, h)
sources-step d rest false e h = h

pub sources-are : (g : List Decl) → AreSources (sources_of g)
sources-are [] = tt
sources-are (d ∷ g) = sources-step d (sources_of g) (is_source d.kind) refl (sources-are g)

decl-same : (d e : Decl) → d.name ≡ e.name → d.kind ≡ e.kind → d ≡ e
decl-same d e n k = ap (λ (name : List ℕ). declaration name d.kind) n ∙ ap (λ (kind : Kind). declaration e.name kind) k

head-same : (d e : Decl) (first all rest : List Decl) → d ∷ (first ++ rest) ≡ e ∷ all → (d ≡ e) × (first ++ rest ≡ all)
head-same d e first all rest h = (cc, cc)

prefix-cons : (d e : Decl) (first all : List Decl) → ((d.name ≡ e.name) × (d.kind ≡ e.kind)) × IsPrefixOf first all → IsPrefixOf (d ∷ first) (e ∷ all)
prefix-cons d e first all h = record { rest = h.1.rest; is = ap (λ (x : Decl). x ∷ (first ++ h.1.rest)) (decl-same d e h.0.0 h.0.1) ∙ ap (λ (xs : List Decl). e ∷ xs) h.1.is }

prefix-parts : (d e : Decl) (first all : List Decl) → IsPrefixOf (d ∷ first) (e ∷ all) → ((d.name ≡ e.name) × (d.kind ≡ e.kind)) × IsPrefixOf first all
prefix-parts d e first all p =
    let same = head-same d e first all p.rest p.is in
    ((ap (λ (x : Decl). x.name) same.0, ap (λ (x : Decl). x.kind) same.0), record { rest = p.rest; is = same.1 })

prefix-Decides : (first all : List Decl) → AreSources all → Decides (is_prefix_of first all) (IsPrefixOf first all)
prefix-Decides [] all sources = (λ h. record { rest = all; is = refl }, λ p. refl)
prefix-Decides (d ∷ first) [] sources = (λ h. absurd cc, λ p. let same : d ∷ (first ++ p.rest) ≡ [] = p.is in absurd cc)
prefix-Decides (d ∷ first) (e ∷ all) sources =
    let both = Decides-and (is_same_source d e) (is_prefix_of first all) (source-Decides d e sources.0) (prefix-Decides first all sources.1) in
    (λ h. prefix-cons d e first all (both.0 h), λ p. both.1 (prefix-parts d e first all p))

-- a replica may take a message exactly where its sources begin those of the graph, and it is of as many nodes
pub take-Decides : (g : List Decl) (r : Peer) (m : Message) → Decides (may_take g r m) (IsPrefixOf (declared_in m) (sources_of g) × (length m.counts ≡ length r.counts))
take-Decides g r m =
    Decides-and (is_prefix_of (declared_in m) (sources_of g)) (length m.counts == length r.counts)
    (prefix-Decides (declared_in m) (sources_of g) (sources-are g))
    (Decides-eqb (length m.counts) (length r.counts))

-- ---- files

pub more-none : (g : List Decl) (i : ℕ) (r : Peer) → merging_more g i zero r ≡ Says (exactly (merge_answer g i r))
unfolding merging_more
more-none g i r = refl

pub more-file : (g : List Decl) (i more : ℕ) (r : Peer) → merging_more g i (suc more) r ≡ merging_file g i (Some r) (λ next. merging_more g (i + 1) more next)
unfolding merging_more
more-file g i more r = refl

-- ---- all messages together

-- the replica after these messages; none before the first
abbrev pub replica_of : List Decl → List Message → Option Peer
replica_of g [] = None
replica_of g (m ∷ ms) = Some (joined g (m ∷ ms))

pub taking-push : (g : List Decl) (r : Peer) (ms : List Message) (m : Message) → taking g r (ms ++ m ∷ []) ≡ delivered g m (taking g r ms)
taking-push g r [] m = refl
taking-push g r (k ∷ ms) m = taking-push g (delivered g k r) ms m

-- one message more
pub joined-push : (g : List Decl) (ms : List Message) (m : Message) → delivered g m (replica_before g (replica_of g ms) m) ≡ joined g (ms ++ m ∷ [])
joined-push g [] m = refl
joined-push g (k ∷ ms) m = sym (taking-push g (fresh_peer g (length k.counts)) (k ∷ ms) m)

-- each message is of so many nodes
abbrev pub AreOfNodes : ℕ → List Message → Type 0
AreOfNodes nodes [] = Unit {0}
AreOfNodes nodes (m ∷ ms) = (length m.counts ≡ nodes) × AreOfNodes nodes ms

larger-same : (s t : List ℕ) → length t ≡ length s → length (larger s t) ≡ length s
larger-same s t e = omega (arith, length-larger s t, e)

taking-nodes : (g : List Decl) (nodes : ℕ) (r : Peer) (ms : List Message) → length r.counts ≡ nodes → AreOfNodes nodes ms → length (taking g r ms).counts ≡ nodes
taking-nodes g nodes r [] e h = e
taking-nodes g nodes r (m ∷ ms) e h = taking-nodes g nodes (delivered g m r) ms (larger-same r.counts m.counts (h.0 ∙ sym e) ∙ e) h.1

-- a replica that took messages of as many nodes as the first is of these nodes
pub joined-nodes : (g : List Decl) (ms : List Message) → AreOfNodes (nodes_in ms) ms → length (joined g ms).counts ≡ nodes_in ms
joined-nodes g ms h = taking-nodes g (nodes_in ms) (fresh_peer g (nodes_in ms)) ms (length-zeros (nodes_in ms)) h

-- a message is of as many nodes as the first exactly where it is of as many as the replica before it
pub before-nodes : (g : List Decl) (ms : List Message) (m : Message) → AreOfNodes (nodes_in ms) ms → length (replica_before g (replica_of g ms) m).counts ≡ nodes_in (ms ++ m ∷ [])
before-nodes g [] m h = length-zeros (length m.counts)
before-nodes g (k ∷ ms) m h = joined-nodes g (k ∷ ms) h

push-all : (nodes : ℕ) (ms : List Message) (m : Message) → AreOfNodes nodes ms → length m.counts ≡ nodes → AreOfNodes nodes (ms ++ m ∷ [])
push-all nodes [] m h e = (e, tt)
push-all nodes (k ∷ ms) m h e = (h.0, push-all nodes ms m h.1 e)

pub nodes-push : (ms : List Message) (m : Message) → AreOfNodes (nodes_in ms) ms → length m.counts ≡ nodes_in (ms ++ m ∷ []) → AreOfNodes (nodes_in (ms ++ m ∷ [])) (ms ++ m ∷ [])
nodes-push [] m h e = (refl, tt)
nodes-push (k ∷ ms) m h e = push-all (nodes_in (k ∷ ms)) (k ∷ ms) m h e
