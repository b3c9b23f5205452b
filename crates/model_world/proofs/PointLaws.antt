-- Where a point, and where a delivery, stops a run, in words.
use Rattle.std.proofs.Common.{◌≡◌, ℕ, zero, suc, ◌+◌, ◌<◌, ◌↔◌, List, [], ◌∷◌, Option, Some, None, Result, Ok, Err, refl, sym, ap, ◌∙◌, arith}
use Rattle.model_graph.specs.Graph.{Decl}
use Rattle.model_graph.specs.Evaluation.{first_large}
use Rattle.model_graph.specs.Limit.{AreWithinLimit, IsFirstLarge}
use Rattle.model_graph.proofs.LimitLaws.{large-words, small-words}
use Rattle.model_world.specs.World.{Peer, Run, Point, Take, act, peer_at, with_peer, delivered, sent_number, shown_at, stop_from, point_from}
use Rattle.model_world.specs.Stops.{IsFirstShown, AreAllWithinLimit}
use Rattle.model_world.specs.declared.stop.Stop.{Stop}
use Rattle.model_world.specs.declared.stop.Stop.TheVariants.{TooLarge}
use Rattle.model_world.proofs.StopLaws.{point-same}

-- ---- a search that stops or goes on

stopped : (o : Option ℕ) (c p : ℕ) (rest : Result Run Stop) (x : ℕ) → o ≡ Some x → stop_from o c p rest ≡ Err (TooLarge c p x)
stopped o c p rest x e = ap (λ (n : Option ℕ). stop_from n c p rest) e

goes-on : (o : Option ℕ) (c p : ℕ) (rest : Result Run Stop) → o ≡ None → stop_from o c p rest ≡ rest
goes-on o c p rest e = ap (λ (n : Option ℕ). stop_from n c p rest) e

-- ---- a point, node by node

-- of these nodes, the first of which is p, one is the first that shows too many rows
abbrev IsStopped : ℕ → ℕ → List Decl → List Peer → Stop → Type 0
IsStopped c p g peers stop = (q : ℕ) × (x : ℕ) × (stop ≡ TooLarge c (p + q) x) × IsFirstShown g peers q x

later-shown : (g : List Decl) (r : Peer) (peers : List Peer) (q x : ℕ) → AreWithinLimit (shown_at g r) → IsFirstShown g peers q x → IsFirstShown g (r ∷ peers) (suc q) x
later-shown g r peers q x small first = record { node = (let node = first.node in omega (arith, node)); here = first.here; before = before } where
  before : (z : ℕ) → z < suc q → AreWithinLimit (shown_at g (peer_at (r ∷ peers) z))
  before zero low = small
  before (suc z) low = first.before z (omega (arith, low))

point-found : (c p : ℕ) (peers : List Peer) (run : Run) (stop : Stop) → point_from c p peers run ≡ Err stop → IsStopped c p run.graph peers stop
point-found c p [] run stop e = absurd cc
point-found c p (r ∷ peers) run stop e = choose (first_large 0 (shown_at run.graph r)) refl (λ h. point-found c (p + 1) peers run stop h) e where
  choose : (o : Option ℕ) → first_large 0 (shown_at run.graph r) ≡ o → (point_from c (p + 1) peers run ≡ Err stop → IsStopped c (p + 1) run.graph peers stop)
      → stop_from o c p (point_from c (p + 1) peers run) ≡ Err stop → IsStopped c p run.graph (r ∷ peers) stop
  choose None t later h =
      let found = later h in
      let there : (p + 1) + found.0 ≡ p + suc found.0 = omega arith in
      (suc found.0, found.1, found.2 ∙ ap (λ (n : ℕ). TooLarge c n found.1) there, later-shown run.graph r peers found.0 found.1 ((small-words (shown_at run.graph r)).0 t) found.3)
  choose (Some x) t later h =
      let here : p ≡ p + 0 = omega arith in
      let same : stop ≡ TooLarge c p x = cc in
      (0, x, same ∙ ap (λ (n : ℕ). TooLarge c n x) here, record { node = omega arith; here = (large-words (shown_at run.graph r) x).0 t; before = λ q low. absurd (omega (arith, low)) })

point-stops : (c p : ℕ) (peers : List Peer) (run : Run) (q x : ℕ) → IsFirstShown run.graph peers q x → point_from c p peers run ≡ Err (TooLarge c (p + q) x)
point-stops c p [] run q x first = absurd (let node = first.node in omega (arith, node))
point-stops c p (r ∷ peers) run zero x first =
    let here : p ≡ p + 0 = omega arith in
    stopped (first_large 0 (shown_at run.graph r)) c p (point_from c (p + 1) peers run) x ((large-words (shown_at run.graph r) x).1 first.here) ∙ ap (λ (n : ℕ). Err (TooLarge c n x)) here
point-stops c p (r ∷ peers) run (suc q) x first =
    let there : (p + 1) + q ≡ p + suc q = omega arith in
    goes-on (first_large 0 (shown_at run.graph r)) c p (point_from c (p + 1) peers run) ((small-words (shown_at run.graph r)).1 (first.before 0 (omega arith)))
    ∙ point-stops c (p + 1) peers run q x (record { node = (let node = first.node in omega (arith, node)); here = first.here; before = λ z low. first.before (suc z) (omega (arith, low)) })
    ∙ ap (λ (n : ℕ). Err (TooLarge c n x)) there

point-small : (c p : ℕ) (peers : List Peer) (run last : Run) → point_from c p peers run ≡ Ok last → AreAllWithinLimit run.graph peers
point-small c p [] run last e q low = absurd (omega (arith, low))
point-small c p (r ∷ peers) run last e q low = choose (first_large 0 (shown_at run.graph r)) refl (λ h. point-small c (p + 1) peers run last h) e q low where
  choose : (o : Option ℕ) → first_large 0 (shown_at run.graph r) ≡ o → (point_from c (p + 1) peers run ≡ Ok last → AreAllWithinLimit run.graph peers)
      → stop_from o c p (point_from c (p + 1) peers run) ≡ Ok last → AreAllWithinLimit run.graph (r ∷ peers)
  choose None t later h zero low = (small-words (shown_at run.graph r)).0 t
  choose None t later h (suc q) low = later h q (omega (arith, low))
  choose (Some x) t later h q low = absurd cc

point-done : (c p : ℕ) (peers : List Peer) (run : Run) → AreAllWithinLimit run.graph peers → point_from c p peers run ≡ Ok run
point-done c p [] run small = refl
point-done c p (r ∷ peers) run small =
    goes-on (first_large 0 (shown_at run.graph r)) c p (point_from c (p + 1) peers run) ((small-words (shown_at run.graph r)).1 (small 0 (omega arith)))
    ∙ point-done c (p + 1) peers run (λ q low. small (suc q) (omega (arith, low)))

pub point-stop : (c : ℕ) (run : Run) (stop : Stop) → act c run Point ≡ Err stop ↔ ((p : ℕ) × (x : ℕ) × (stop ≡ TooLarge c p x) × IsFirstShown run.graph run.peers p x)
point-stop c run stop = (there, back) where
  there : act c run Point ≡ Err stop → (p : ℕ) × (x : ℕ) × (stop ≡ TooLarge c p x) × IsFirstShown run.graph run.peers p x
  there e =
      let found = point-found c 0 run.peers run stop e in
      let same : 0 + found.0 ≡ found.0 = omega arith in
      (found.0, found.1, found.2 ∙ ap (λ (n : ℕ). TooLarge c n found.1) same, found.3)

  back : (p : ℕ) × (x : ℕ) × (stop ≡ TooLarge c p x) × IsFirstShown run.graph run.peers p x → act c run Point ≡ Err stop
  back found =
      let same : 0 + found.0 ≡ found.0 = omega arith in
      point-stops c 0 run.peers run found.0 found.1 found.3 ∙ ap (λ (n : ℕ). Err (TooLarge c n found.1)) same ∙ ap (λ (s : Stop). Err s) (sym found.2)

pub point-end : (c : ℕ) (run last : Run) → act c run Point ≡ Ok last ↔ ((last ≡ run) × AreAllWithinLimit run.graph run.peers)
point-end c run last = (
  λ e. (point-same c 0 run.peers run last e, point-small c 0 run.peers run last e),
  λ h. point-done c 0 run.peers run h.1 ∙ ap (λ (r : Run). Ok r) (sym h.0),
)

-- ---- a delivery

module _ (c p i : ℕ) (run : Run) where
  -- the node after the message
  abbrev after : Peer
  after = delivered run.graph (sent_number run.sent i) (peer_at run.peers p)

  pub take-stop : (stop : Stop) → act c run (Take p i) ≡ Err stop ↔ ((x : ℕ) × (stop ≡ TooLarge c p x) × IsFirstLarge after.contents x)
  take-stop stop = (λ e. there (first_large 0 after.contents) refl e, back) where
    there : (o : Option ℕ) → first_large 0 after.contents ≡ o → stop_from o c p (Ok (with_peer run p after)) ≡ Err stop → (x : ℕ) × (stop ≡ TooLarge c p x) × IsFirstLarge after.contents x
    there None t e = absurd cc
    there (Some x) t e = (x, (let same : stop ≡ TooLarge c p x = cc in same), (large-words after.contents x).0 t)

    back : (x : ℕ) × (stop ≡ TooLarge c p x) × IsFirstLarge after.contents x → act c run (Take p i) ≡ Err stop
    back found = stopped (first_large 0 after.contents) c p (Ok (with_peer run p after)) found.0 ((large-words after.contents found.0).1 found.2) ∙ ap (λ (s : Stop). Err s) (sym found.1)
