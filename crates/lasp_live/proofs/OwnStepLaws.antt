-- What a node counts of its own updates, command by command.
use Rattle.std.proofs.Common.{◌≡◌, ℕ, ◌+◌, ◌*◌, ◌<◌, ◌≤◌, ◌==◌, Bool, true, false, List, [], ◌∷◌, ◌++◌, length, Some, refl, sym, ap, subst, ◌∙◌, append-nil, append_assoc, arith}
use Rattle.std.specs.Prelude.{◌≢◌, drop, slice_get}
use Rattle.std.proofs.lemmas.Bool.Decides.{nat_tests}
use Rattle.std.proofs.lemmas.List.{get_or-set_same, get_or-set_other}
use Rattle.model_graph.specs.Evaluation.{content_at, least_of}
use Rattle.model_graph.specs.Graph.{Counter, Decl, kind_at}
use Rattle.model_graph.proofs.PlaceLaws.{map-length}
use Rattle.model_states.specs.Content.{Content, least, join_contents}
use Rattle.model_states.specs.Counts.{count_at, count_max}
use Rattle.model_states.specs.Update.{Op, delta}
use Rattle.model_states.specs.Update as op
use Rattle.model_states.proofs.CountLaws.{length-zeros}
use Rattle.model_world.specs.Command.{Command, Script}
use Rattle.model_world.specs.World.{Peer, fresh_peer, updated}
use Rattle.model_live.specs.Steps.{Updates, Step, Does, step_at, steps}
use Rattle.model_live.specs.Together.{after_steps}
use Rattle.model_live.proofs.AloneLaws.{Suits, holds, after-append, later-steps}
use Rattle.model_live.proofs.StepLaws.{steps-next, steps-all}
use Rattle.model_live.proofs.UpdateLaws.{inc-count}
use Rattle.model_live.proofs.WithinLaws.{fresh-wide}
use Rattle.lasp_live.specs.Did.{IsStepAt}
use Rattle.lasp_live.specs.Own.{steps_before, peer_before, total_in, most_counted, counted_by, CountsOwn, HasUpdated}
use Rattle.lasp_live.specs.declared.own.Own.{Own}

-- ---- the steps before a command

pub before-next : (script : Script) (p i : ℕ) (s : Step) → IsStepAt script p i s → steps_before script p (i + 1) ≡ steps_before script p i ++ s ∷ []
before-next script p i s at = steps-next p script.commands i at.command at.at ∙ ap (λ (l : List Step). steps_before script p i ++ l) at.step

pub before-skip : (script : Script) (p i : ℕ) (k : Command) → slice_get script.commands i ≡ Some k → step_at p (i + 1) k ≡ [] → steps_before script p (i + 1) ≡ steps_before script p i
before-skip script p i k at none = steps-next p script.commands i k at ∙ ap (λ (l : List Step). steps_before script p i ++ l) none ∙ append-nil (steps_before script p i)

-- all steps, of which this is one
pub all-around : (script : Script) (p i : ℕ) (s : Step) → IsStepAt script p i s → steps p 1 script.commands ≡ steps_before script p i ++ s ∷ steps p (i + 2) (drop (i + 1) script.commands)
all-around script p i s at =
    steps-all p script.commands i at.command at.at
    ∙ ap (λ (l : List Step). steps_before script p i ++ l ++ steps p (i + 2) (drop (i + 1) script.commands)) at.step
    ∙ append_assoc (steps_before script p i) (s ∷ []) (steps p (i + 2) (drop (i + 1) script.commands))

-- ---- the node by itself

pub peer-updates : (g : List Decl) (script : Script) (p i x : ℕ) (o : Op) → IsStepAt script p i (Does (Updates x o)) → peer_before g script p (i + 1) ≡ updated p x o (peer_before g script p i)
unfolding after_steps
peer-updates g script p i x o at =
    ap (λ (l : List Step). after_steps p l (fresh_peer g script.nodes)) (before-next script p i (Does (Updates x o)) at)
    ∙ after-append p (steps_before script p i) (Does (Updates x o) ∷ []) (fresh_peer g script.nodes)

peer-size : (g : List Decl) (script : Script) (p i : ℕ) → length (peer_before g script p i).contents ≡ length g
peer-size g script p i = (later-steps p (steps_before script p i) (fresh_peer g script.nodes)).size ∙ map-length (λ (d : Decl). least_of script.nodes d.kind) g

peer-nodes : (g : List Decl) (script : Script) (p i : ℕ) → length (peer_before g script p i).counts ≡ script.nodes
peer-nodes g script p i = (later-steps p (steps_before script p i) (fresh_peer g script.nodes)).nodes ∙ length-zeros script.nodes

peer-wide : (g : List Decl) (script : Script) (p i y : ℕ) → y < length g → kind_at g y ≡ Counter → script.nodes ≤ length (content_at (peer_before g script p i).contents y).counts
peer-wide g script p i y low kind =
    let more = (later-steps p (steps_before script p i) (fresh_peer g script.nodes)).wide y in
    let begin = fresh-wide script.nodes g y low kind in
    omega (arith, more, begin)

-- ---- what it counts

-- an operation of a counter brings what it counts up
counter-brings : (o : Op) (p k : ℕ) (s : Content) → Suits o Counter → p < length s.counts → count_at s.counts p + counted_by o ≤ count_max → count_at (join_contents s (delta o s p k)).counts p ≡ count_at s.counts p + counted_by o
counter-brings (op.Add v) p k s suits low few = absurd cc
counter-brings (op.Remove v) p k s suits low few = absurd cc
counter-brings (op.Insert v) p k s suits low few = absurd cc
counter-brings (op.Inc by) p k s suits low few = let small : count_at s.counts p + by ≤ count_max = few in let most = inc-count by p k s low in omega (arith, most, small)
counter-brings (op.Max n) p k s suits low few = absurd cc
counter-brings (op.Join t) p k s suits low few = absurd suits

pub counts-updates : (g : List Decl) (script : Script) (p i x : ℕ) (o : Op) (own new : Own) → p < script.nodes → i < 100000 → x < length g → Suits o (kind_at g x) → IsStepAt script p i (Does (Updates x o))
    → CountsOwn g script p i own → HasUpdated x o own new → CountsOwn g script p (i + 1) new
counts-updates g script p i x o own new member early low suits at c h = record {
  size = h.size ∙ c.size;
  updates =
      h.updates ∙ ap (λ (n : ℕ). n + 1) c.updates
      ∙ sym (get_or-set_same q.counts p (count_at q.counts p + 1) 0 (omega (arith, member, peer-nodes g script p i)))
      ∙ ap (λ (r : Peer). count_at r.counts p) (sym next);
  totals = λ y there kind. each y there kind (y == x) refl ∙ ap (λ (r : Peer). count_at (content_at r.contents y).counts p) (sym next);
  few = omega (arith, h.updates, c.few);
  little = λ y. most y (y == x) refl;
} where
  q : Peer
  q = peer_before g script p i

  next : peer_before g script p (i + 1) ≡ updated p x o q
  next = peer-updates g script p i x o at

  each : (y : ℕ) → y < length g → kind_at g y ≡ Counter → (b : Bool) → (y == x) ≡ b → total_in new y ≡ count_at (content_at (updated p x o q).contents y).counts p
  each y there kind true e =
      let is : x ≡ y = grind (arith, nat_tests, e) in
      let own_kind : kind_at g x ≡ Counter = ap (kind_at g) is ∙ kind in
      let before = c.totals x low own_kind in
      let little = c.little x in
      let bounded : count_at (content_at q.contents x).counts p + counted_by o ≤ count_max = omega (arith, before, little, h.little, early) in
      subst (λ (z : ℕ). total_in new z ≡ count_at (content_at (updated p x o q).contents z).counts p) is
      (h.here ∙ ap (λ (n : ℕ). n + counted_by o) before
      ∙ sym (counter-brings o p (count_at q.counts p + 1) (content_at q.contents x) (subst (Suits o) own_kind suits) (let wide = peer-wide g script p i x low own_kind in omega (arith, wide, member)) bounded)
      ∙ ap (λ (s : Content). count_at s.counts p) (sym (get_or-set_same q.contents x (holds p x o q) least (omega (arith, low, peer-size g script p i)))))
  each y there kind false e =
      let away : y ≢ x = λ is. absurd (grind (arith, nat_tests, e, is)) in
      h.others y away ∙ c.totals y there kind ∙ ap (λ (s : Content). count_at s.counts p) (sym (get_or-set_other q.contents x y (holds p x o q) least away))

  most : (y : ℕ) → (b : Bool) → (y == x) ≡ b → total_in new y ≤ (i + 1) * most_counted
  most y true e =
      let is : x ≡ y = grind (arith, nat_tests, e) in
      let before = c.little x in
      subst (λ (z : ℕ). total_in new z ≤ (i + 1) * most_counted) is (omega (arith, h.here, before, h.little))
  most y false e =
      let away : y ≢ x = λ is. absurd (grind (arith, nat_tests, e, is)) in
      let before = c.little y in
      let same = h.others y away in
      omega (arith, before, same)

-- a command that updates nothing at the node
pub counts-same : (g : List Decl) (script : Script) (p i : ℕ) (own : Own) → peer_before g script p (i + 1) ≡ peer_before g script p i → CountsOwn g script p i own → CountsOwn g script p (i + 1) own
counts-same g script p i own same c = record {
  size = c.size;
  updates = c.updates ∙ ap (λ (r : Peer). count_at r.counts p) (sym same);
  totals = λ y there kind. c.totals y there kind ∙ ap (λ (r : Peer). count_at (content_at r.contents y).counts p) (sym same);
  few = omega (arith, c.few);
  little = λ y. let before = c.little y in omega (arith, before);
}

-- a step that updates nothing
pub peer-still : (g : List Decl) (script : Script) (p i : ℕ) (s : Step) → IsStepAt script p i s → ((r : Peer) → after_steps p (s ∷ []) r ≡ r) → peer_before g script p (i + 1) ≡ peer_before g script p i
peer-still g script p i s at still =
    ap (λ (l : List Step). after_steps p l (fresh_peer g script.nodes)) (before-next script p i s at)
    ∙ after-append p (steps_before script p i) (s ∷ []) (fresh_peer g script.nodes)
    ∙ still (peer_before g script p i)
