-- By a call no site loses anything: the contents and the counts of each replica are at least what they were.
use Rattle.std.proofs.Common.{refl, sym, ap, subst, ◌∙◌, arith}
use Rattle.std.specs.Prelude.{◌≡◌, ◌<◌, ◌==◌, ℕ, zero, suc, ◌+◌, Bool, true, false, List, [], ◌∷◌, length, map, slice_index_or, slice_set, Option, Ok}
use Rattle.std.proofs.lemmas.Bool.{eqb-true, eq-eqb}
use Rattle.model_states.specs.Content.{Content, IsContentAtMost, join_contents}
use Rattle.model_states.specs.Counts.{count_at, AreCountsAtMost}
use Rattle.model_states.specs.Update.{Op, delta}
use Rattle.model_states.proofs.ContentLaws.{at_most-itself, join-left}
use Rattle.model_states.proofs.CountLaws.{length-zeros}
use Rattle.model_graph.specs.Evaluation.{content_at}
use Rattle.model_graph.specs.Graph.{Decl}
use Rattle.model_graph.specs.Order.{ContentsAtMost}
use Rattle.model_graph.specs.Lawful.{IsGraph}
use Rattle.model_graph.proofs.EvalLaws.{eval-monotone}
use Rattle.model_graph.proofs.PlaceLaws.{at-set}
use Rattle.model_journal.proofs.GainLaws.{gain-grows}
use Rattle.model_graph.specs.Message.{Message, gained, brought}
use Rattle.model_world.specs.Command.{Command}
use Rattle.model_world.specs.World.{Peer, fresh_peer, sent_number, updated, delivered, message_at, shown_at}
use Rattle.model_program.specs.Merge.{taking}
use Rattle.model_site.specs.History.{SiteCall, Sites, kept_at, taken_by, IsCalled, AreCalled, replica_of}
use Rattle.model_site.specs.Site.{own, AreOwn, update_done, done_by, updates_done}
use Rattle.model_site.specs.Told.{heard}
use Rattle.model_site.proofs.HistoryLaws.{taking-append, goes-on}
use Rattle.model_site.proofs.KeptLaws.{taking-grows, taking-wide, all-counted}
use Rattle.model_site.proofs.SiteLaws.{own-told, ok-same, one-more, none-left}
use Rattle.model_site.proofs.WorldLaws.{update-passed, bound-ok}

-- ---- contents

gained-above : (gains : ℕ → Option Content) (n : ℕ) (ss : List Content) → ContentsAtMost ss (gained gains n ss)
gained-above gains n [] x = at_most-itself (content_at [] x)
gained-above gains n (s ∷ ss) zero = gain-grows s (gains n)
gained-above gains n (s ∷ ss) (suc x) = gained-above gains (n + 1) ss x

set-above : (ss : List Content) (x : ℕ) (new : Content) → IsContentAtMost (content_at ss x) new → ContentsAtMost ss (slice_set ss x new)
set-above [] x new above y = at_most-itself (content_at [] y)
set-above (s ∷ ss) zero new above zero = above
set-above (s ∷ ss) zero new above (suc y) = at_most-itself (content_at ss y)
set-above (s ∷ ss) (suc x) new above zero = at_most-itself s
set-above (s ∷ ss) (suc x) new above (suc y) = set-above ss x new above y

taking-above : (g : List Decl) (r : Peer) (ms : List Message) → ContentsAtMost r.contents (taking g r ms).contents
taking-above g r [] x = at_most-itself (content_at r.contents x)
taking-above g r (m ∷ ms) x = λ key. omega (arith, gained-above (brought g m) 0 r.contents x key, taking-above g (delivered g m r) ms x key)

updated-above : (p x : ℕ) (op : Op) (r : Peer) → ContentsAtMost r.contents (updated p x op r).contents
updated-above p x op r =
    set-above r.contents x (join_contents (content_at r.contents x) (delta op (content_at r.contents x) p (count_at r.counts p + 1)))
    (join-left (content_at r.contents x) (delta op (content_at r.contents x) p (count_at r.counts p + 1)))

updates-above : (p : ℕ) (g : List Decl) (c : ℕ) (r last : Peer) (commands : List Command) → AreOwn p commands → updates_done p g c r commands ≡ Ok last → ContentsAtMost r.contents last.contents
updates-above p g c r last [] mine e =
    subst (λ (t : Peer). ContentsAtMost r.contents t.contents) (ok-same r last (sym (none-left p g c r) ∙ e)) (λ x. at_most-itself (content_at r.contents x))
updates-above p g c r last (k ∷ rest) mine e =
    let one = mine.0 in
    let both = bound-ok (done_by p g c r (own p k)) (λ next. updates_done p g (c + 1) next rest) last (sym (one-more p g c r k rest) ∙ e) in
    let done : update_done p g c r (one.0, one.1) ≡ Ok both.0 = ap (λ (o : Option (ℕ × Op)). done_by p g c r o) (sym (own-told p k one.0 one.1 one.2)) ∙ both.1 in
    let is : both.0 ≡ updated p one.0 one.1 r = (update-passed p g c r both.0 (one.0, one.1) done).0 in
    let first = updated-above p one.0 one.1 r in
    let later = updates-above p g (c + 1) (updated p one.0 one.1 r) last rest mine.1 (subst (λ (x : Peer). updates_done p g (c + 1) x rest ≡ Ok last) is both.2) in
    λ x k. omega (arith, first x k, later x k)

-- ---- calls

record Grows (r t : Peer) : Type 0 where
  contents : ContentsAtMost r.contents t.contents
  counts : AreCountsAtMost r.counts t.counts

grows-itself : (r : Peer) → Grows r r
grows-itself r = record { contents = λ x. at_most-itself (content_at r.contents x); counts = λ q. omega arith }

module _ (g : List Decl) (nodes : ℕ) (calls : List SiteCall) (sites next : Sites) (k : SiteCall) (called : AreCalled g nodes calls sites) (call : IsCalled g nodes sites k next) where
  abbrev p : ℕ
  p = k.site

  many : length sites.kept ≡ nodes
  many = (goes-on g nodes calls sites next k called call).0

  abbrev files : List Message
  files = map (sent_number sites.written) k.files

  took : taking g (replica_of g nodes sites p) files ≡ heard g nodes (taken_by sites k)
  took = sym (taking-append g (fresh_peer g nodes) (kept_at sites p) files)

  member : p < length (heard g nodes (taken_by sites k)).counts
  member = omega (arith, call.member, length-zeros nodes, taking-wide g (fresh_peer g nodes) (taken_by sites k))

  -- the site that was called
  grown : Grows (replica_of g nodes sites p) call.last
  grown =
      let above = updates-above p g 1 (heard g nodes (taken_by sites k)) call.last k.commands call.own call.done in
      let more = (all-counted p g 1 (heard g nodes (taken_by sites k)) call.last k.commands member call.own call.done).more in
      let held = subst (λ (r : Peer). Grows (replica_of g nodes sites p) r) took (record { contents = taking-above g (replica_of g nodes sites p) files; counts = taking-grows g (replica_of g nodes sites p) files }) in
      record { contents = λ x key. omega (arith, held.contents x key, above x key); counts = λ q. omega (arith, held.counts q, more q) }

  here : (q : ℕ) → q < nodes → q ≡ p → replica_of g nodes next q ≡ call.last
  here q low is =
      ap (λ (ks : List (List Message)). heard g nodes (slice_index_or ks q [])) call.kept
      ∙ ap (λ (ms : List Message). heard g nodes ms)
      (at-set (λ (ms : List Message). ms ≡ message_at g call.last ∷ []) sites.kept p (message_at g call.last ∷ []) [] q (omega (arith, low, many)) (λ _. refl) (λ apart. absurd (apart is)))
      ∙ (goes-on g nodes calls sites next k called call).1

  elsewhere : (q : ℕ) → q < nodes → (q ≡ p → ⊥) → replica_of g nodes next q ≡ replica_of g nodes sites q
  elsewhere q low apart =
      ap (λ (ks : List (List Message)). heard g nodes (slice_index_or ks q [])) call.kept
      ∙ ap (λ (ms : List Message). heard g nodes ms)
      (at-set (λ (ms : List Message). ms ≡ kept_at sites q) sites.kept p (message_at g call.last ∷ []) [] q (omega (arith, low, many)) (λ is. absurd (apart is)) (λ _. refl))

  grows : (q : ℕ) → q < nodes → (b : Bool) → (q == p) ≡ b → Grows (replica_of g nodes sites q) (replica_of g nodes next q)
  grows q low true e =
      let is : q ≡ p = eqb-true q p e in
      subst (λ (t : Peer). Grows (replica_of g nodes sites q) t) (sym (here q low is)) (subst (λ (n : ℕ). Grows (replica_of g nodes sites n) call.last) (sym is) grown)
  grows q low false e = subst (λ (t : Peer). Grows (replica_of g nodes sites q) t) (sym (elsewhere q low (λ is. differ (eq-eqb q p is) e))) (grows-itself (replica_of g nodes sites q)) where
    differ : (q == p) ≡ true → (q == p) ≡ false → ⊥
    differ t f = cc

  pub contents-grow : (q : ℕ) → q < nodes → ContentsAtMost (replica_of g nodes sites q).contents (replica_of g nodes next q).contents
  contents-grow q low = (grows q low (q == p) refl).contents

  pub counts-grow : (q : ℕ) → q < nodes → AreCountsAtMost (replica_of g nodes sites q).counts (replica_of g nodes next q).counts
  counts-grow q low = (grows q low (q == p) refl).counts

  -- and so does what it shows
  pub shown-grow : IsGraph g → (q : ℕ) → q < nodes → ContentsAtMost (shown_at g (replica_of g nodes sites q)) (shown_at g (replica_of g nodes next q))
  shown-grow is q low = eval-monotone g (replica_of g nodes sites q).contents (replica_of g nodes next q).contents is (λ x _ _. contents-grow q low x)
