use Rattle.std.proofs.Common.{rules, ℕ, ◌++◌, ◌∷◌, [], length, arith, sym, ◌∙◌, subst, map, refl}
use Rattle.std.specs.Prelude.{List, Option, slice_set}
use Rattle.model_wire.specs.Lawful.{IsMessage}
use Rattle.model_readings.specs.Lawful.{IsGraph}
use Rattle.model_world.specs.World.{Post, message_at, peer_at}
use Rattle.model_runs.proofs.HeldLaws.{held-message}
use Rattle.lasp_gossip.specs.Network.{Network}
use Rattle.lasp_drive.specs.Node.{Sends}
use Rattle.lasp_drive.specs.Nodes.{peers_of}
use Rattle.lasp_drive.specs.Driver.{seen, run_of}
use Rattle.lasp_drive.specs.Acts.{Acted, StopsWithin}
use Rattle.lasp_drive.specs.declared.halt.Halt.TheVariants as halt
use Rattle.lasp_drive.specs.declared.node.Tail.{Tail}
use Rattle.lasp_drive.proofs.NodeLaws.{seen-at, seen-low, seen-set, same-place, message-here, below-limit, post-done, post-stops}
use Rattle.lasp_drive.proofs.ActLaws.{stops-at}
use Rattle.lasp_drive.proofs.StepLaws.{acted-post, with_tails}
use Rattle.std.proofs.lemmas.Result.{err_from_is_err_and}
use Rattle.lasp_drive.proofs.driver.Driver.post.Goals as goal

pub letter-requires : goal.letter-requires
letter-requires g c =
    let d = seen g.N.Node.view g.N.Node.read c.args.self.now in
    let n = g.N.Node.view c.index_mut.result.now in
    let at = seen-at g.N.Node.view c.args.self.now.nodes.items c.args.p c.index_mut.result.now (seen-low g.N.Node.view c.args.self.now.nodes.items c.args.p c.requires.lawful.0) c.index_mut.ensures.value in
    subst IsMessage (sym (message-here d.graph d.nodes c.args.p n (c.requires.ready.nodes c.args.p n at).graph at))
    (held-message (length d.nodes) d.graph (peer_at (peers_of d.nodes) c.args.p) (subst IsGraph c.deref.ensures c.recall.ensures) c.requires.ready.some c.requires.ready.few
    (c.requires.ready.sound.held c.args.p c.requires.lawful.0) (below-limit c.args.c (peer_at (peers_of d.nodes) c.args.p).counts c.requires.lawful.1 (c.requires.ready.sound.below c.args.p c.requires.lawful.0)))

pub returns-in_err-whole : goal.returns-in_err-whole
returns-in_err-whole g c =
    let d = seen g.N.Node.view g.N.Node.read c.args.self.now in
    let nodes = c.args.self.now.nodes.items in
    let n = g.N.Node.view c.index_mut.result.now in
    let new = c.letter.new.self in
    let low = seen-low g.N.Node.view nodes c.args.p c.requires.lawful.0 in
    let at = seen-at g.N.Node.view nodes c.args.p c.index_mut.result.now low c.index_mut.ensures.value in
    let p = err_from_is_err_and c.from_residual.result c.from_residual.ensures.1 in
    rw (p.1, p.2) (record {
      acts = seen-set g.N.Node.view nodes c.args.p new (λ ns. StopsWithin c.args.c d (Post c.args.p ∷ []) halt.Memory ns)
          (stops-at c.args.c c.args.p d (Post c.args.p) halt.Memory n (g.N.Node.view new) at c.in_err-whole.ensures.err.learns.calls tt);
      reads = tt;
      in_place = same-place g.N.Node.place nodes c.args.p c.index_mut.result.now new low c.index_mut.ensures.value c.letter.ensures.place;
    })

pub returns-in_err-push-in-Ok : goal.returns-in_err-push-in-Ok
returns-in_err-push-in-Ok g c =
    let d = seen g.N.Node.view g.N.Node.read c.args.self.now in
    let nodes = c.args.self.now.nodes.items in
    let n = g.N.Node.view c.index_mut.result.now in
    let new = c.letter.new.self in
    let low = seen-low g.N.Node.view nodes c.args.p c.requires.lawful.0 in
    let at = seen-at g.N.Node.view nodes c.args.p c.index_mut.result.now low c.index_mut.ensures.value in
    let p = err_from_is_err_and c.from_residual-in_err-push-in-Ok.result c.from_residual-in_err-push-in-Ok.ensures.1 in
    rw (p.1, p.2) (record {
      acts = seen-set g.N.Node.view nodes c.args.p new (λ ns. StopsWithin c.args.c d (Post c.args.p ∷ []) halt.Memory ns)
          (stops-at c.args.c c.args.p d (Post c.args.p) halt.Memory n (g.N.Node.view new) at c.in_ok-whole.ensures.sends.learns.calls tt);
      reads = tt;
      in_place = same-place g.N.Node.place nodes c.args.p c.index_mut.result.now new low c.index_mut.ensures.value c.letter.ensures.place;
    })

pub returns-in-Ok : goal.returns-in-Ok
returns-in-Ok g c =
    let d = seen g.N.Node.view g.N.Node.read c.args.self.now in
    let nodes = c.args.self.now.nodes.items in
    let n = g.N.Node.view c.index_mut.result.now in
    let new = c.letter.new.self in
    let low = seen-low g.N.Node.view nodes c.args.p c.requires.lawful.0 in
    let at = seen-at g.N.Node.view nodes c.args.p c.index_mut.result.now low c.index_mut.ensures.value in
    let m = c.in_ok-whole.field-0.whole in
    let t = c.in_ok-whole.field-0.tail in
    record {
      acts = subst (λ (net : Network). Acted c.args.c c.args.c d (Post c.args.p ∷ []) (with_tails d (map g.N.Node.view (slice_set nodes c.args.p new)) net.sent net.limit c.push.new.self.items)) (sym c.in-Ok.ensures.ok)
          (subst (λ (ts : List (Option Tail)). Acted c.args.c c.args.c d (Post c.args.p ∷ []) (with_tails d (map g.N.Node.view (slice_set nodes c.args.p new)) (d.sent ++ m ∷ []) d.limit ts)) (sym c.in_ok-push-in-Ok.ensures.items)
          (seen-set g.N.Node.view nodes c.args.p new (λ ns. Acted c.args.c c.args.c d (Post c.args.p ∷ []) (with_tails d ns (d.sent ++ m ∷ []) d.limit (d.tails ++ t ∷ [])))
          (acted-post c.args.c c.args.p d n (g.N.Node.view new) m t c.requires.ready c.requires.lawful.0 at c.in_ok-whole.ensures.whole c.in_ok-whole.ensures.tail
          (subst (λ (i : ℕ). Sends i n (g.N.Node.view new)) c.len-number.ensures.exact c.in_ok-whole.ensures.sends)
          (post-done (run_of d) c.args.c m (message_at d.graph (peer_at (peers_of d.nodes) c.args.p))
          (c.in_ok-whole.ensures.whole ∙ message-here d.graph d.nodes c.args.p n (c.requires.ready.nodes c.args.p n at).graph at) (omega (arith, c.in-Ok.ensures.room, c.requires.ready.limit))))));
      reads = refl;
      in_place = same-place g.N.Node.place nodes c.args.p c.index_mut.result.now new low c.index_mut.ensures.value c.letter.ensures.place;
    }

pub returns-in-Err-NetworkFull : goal.returns-in-Err-NetworkFull
returns-in-Err-NetworkFull g c =
    let d = seen g.N.Node.view g.N.Node.read c.args.self.now in
    let nodes = c.args.self.now.nodes.items in
    let n = g.N.Node.view c.index_mut.result.now in
    let new = c.letter.new.self in
    let low = seen-low g.N.Node.view nodes c.args.p c.requires.lawful.0 in
    let at = seen-at g.N.Node.view nodes c.args.p c.index_mut.result.now low c.index_mut.ensures.value in
    record {
      acts = seen-set g.N.Node.view nodes c.args.p new (λ ns. StopsWithin c.args.c d (Post c.args.p ∷ []) (halt.NetworkFull c.args.c) ns)
          (stops-at c.args.c c.args.p d (Post c.args.p) (halt.NetworkFull c.args.c) n (g.N.Node.view new) at c.in_ok-whole.ensures.sends.learns.calls
          (post-stops (run_of d) c.args.c c.in_ok-whole.field-0.whole (message_at d.graph (peer_at (peers_of d.nodes) c.args.p))
          (c.in_ok-whole.ensures.whole ∙ message-here d.graph d.nodes c.args.p n (c.requires.ready.nodes c.args.p n at).graph at)
          (omega (arith, c.in-Err-NetworkFull.ensures.full (search rules), c.requires.ready.limit))));
      reads = tt;
      in_place = same-place g.N.Node.place nodes c.args.p c.index_mut.result.now new low c.index_mut.ensures.value c.letter.ensures.place;
    }

pub returns : goal.returns
returns g c =
    let d = seen g.N.Node.view g.N.Node.read c.args.self.now in
    let nodes = c.args.self.now.nodes.items in
    let n = g.N.Node.view c.index_mut.result.now in
    let new = c.letter.new.self in
    let low = seen-low g.N.Node.view nodes c.args.p c.requires.lawful.0 in
    let at = seen-at g.N.Node.view nodes c.args.p c.index_mut.result.now low c.index_mut.ensures.value in
    record {
      acts = seen-set g.N.Node.view nodes c.args.p new (λ ns. StopsWithin c.args.c d (Post c.args.p ∷ []) halt.Memory ns)
          (stops-at c.args.c c.args.p d (Post c.args.p) halt.Memory n (g.N.Node.view new) at c.in_ok-whole.ensures.sends.learns.calls tt);
      reads = tt;
      in_place = same-place g.N.Node.place nodes c.args.p c.index_mut.result.now new low c.index_mut.ensures.value c.letter.ensures.place;
    }
