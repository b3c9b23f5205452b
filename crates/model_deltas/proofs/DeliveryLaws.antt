-- What the messages of a lawful run bring as deltas, at each place.
use Rattle.std.proofs.Common.{◌≡◌, ℕ, ◌<◌, inl, inr, List, [], length, Option, Some, None, Ok, refl, sym, ap, subst, ◌∙◌, append-nil}
use Rattle.model_graph.specs.Graph.{Decl}
use Rattle.model_graph.specs.Message.{Message}
use Rattle.model_world.specs.Command.{Command}
use Rattle.model_world.specs.World.{Run, Post, peer_at, message_at, sent_number, act}
use Rattle.model_world.specs.Follow.{Followed}
use Rattle.model_world.specs.Holds.{IsPlaceOf}
use Rattle.model_world.proofs.EffectLaws.{act-effect}
use Rattle.model_world.proofs.HoldLaws.{sends-known}
use Rattle.model_world.proofs.PlayLaws.{place-sound}
use Rattle.model_runs.specs.Part.{BringsAsMuch}
use Rattle.model_wire.specs.Lawful.{IsMessage}
use Rattle.model_deltas.specs.Delta.{Delta, delta_of, carried}
use Rattle.model_deltas.specs.Applied.{first_gap, joined, limited, unless, applied}
use Rattle.model_deltas.specs.Before.{IsBefore}
use Rattle.model_deltas.specs.World.{IsToldAmong, IsMessageIn}
use Rattle.model_deltas.proofs.TellLaws.{in-world, delta-world}
use Rattle.model_deltas.proofs.WayLaws.{sent-told}
use Rattle.model_deltas.specs.Gossip.{Gossip, nothing_told, told_by, last_told, delta_number, gossip_after, gossip_start}
use Rattle.model_deltas.specs.Going.{IsSentNumber, Travels}
use Rattle.model_deltas.proofs.BringLaws.{delta-brings}
use Rattle.model_deltas.proofs.TravelLaws.{travels-post, going-start}

-- ---- act by act

pub travels-begin : (g : List Decl) (nodes : ℕ) → Travels (gossip_start g nodes)
travels-begin g nodes = (going-start g nodes).travels

pub travels-sent : (c p : ℕ) (s : Gossip) (next : Run) → Travels s → p < length s.run.peers → IsMessage (last_told s p) → IsMessage (message_at s.run.graph (peer_at s.run.peers p)) → IsBefore (last_told s p) (message_at s.run.graph (peer_at s.run.peers p))
    → act c s.run (Post p) ≡ Ok next → Travels (gossip_after s (Post p) next)
travels-sent c p s next travels member lawful whole earlier e =
    subst (λ (r : Run). Travels (gossip_after s (Post p) r)) (sym (act-effect c s.run next (Post p) e)) (travels-post s p travels member lawful whole earlier)

-- ---- at a place

module _ (g : List Decl) (nodes : ℕ) (commands : List Command) (f : Followed) (s : Gossip) (place : IsPlaceOf g nodes commands f) (same : f.run ≡ s.run) where
  sent-in : (j : ℕ) → j < length s.run.sent → IsMessageIn g nodes commands (sent_number s.run.sent j)
  sent-in j low =
      inr (subst (λ (r : Run). IsToldAmong g nodes commands (sent_number r.sent j)) same (sent-told g nodes commands f place j (subst (λ (r : Run). j < length r.sent) (sym same) low)))

  told-in : (o : Option ℕ) → IsSentNumber s.run o → IsMessageIn g nodes commands (told_by s.run o)
  told-in None h = inl (ap nothing_told (ap (λ (r : Run). length r.peers) (sym same) ∙ (place-sound g nodes commands f place).many))
  told-in (Some j) h = sent-in j h

  abbrev mine : ℕ → Message
  mine p = message_at s.run.graph (peer_at s.run.peers p)

  mine-in : (p : ℕ) → p < nodes → IsMessageIn g nodes commands (mine p)
  mine-in p member =
      inr (subst (λ (r : Run). IsToldAmong g nodes commands (message_at r.graph (peer_at r.peers p))) same
      (record { done = commands; rest = []; all = append-nil commands; at = f; place = place; node = p; member = member; is = refl }))

  pub applied-place : Travels s → (p i : ℕ) → p < nodes → i < length s.run.sent
      → applied (mine p) (delta_number s i) ≡ unless (first_gap 0 (peer_at s.run.peers p).counts (delta_number s i).from) (limited (joined (mine p) (sent_number s.run.sent i)))
  applied-place travels p i member within =
      let d = travels.deltas i within in
      let by = delta-world (told_by s.run d.number) (sent_number s.run.sent i) (mine p)
      (record { graph = g; nodes = nodes; commands = commands; at = f; place = place; earlier = told-in d.number d.there; later = sent-in i within; third = mine-in p member }) d.earlier in
      subst (λ (e : Delta). applied (mine p) e ≡ unless (first_gap 0 (peer_at s.run.peers p).counts e.from) (limited (joined (mine p) (sent_number s.run.sent i)))) (sym d.delta) by

  -- what the delta carries brings a node as much as the message, where it counts all that the delta goes on from
  pub carried-place : Travels s → (p i : ℕ) → p < nodes → i < length s.run.sent → first_gap 0 (peer_at s.run.peers p).counts (delta_number s i).from ≡ None
      → BringsAsMuch s.run.graph (peer_at s.run.peers p).contents (sent_number s.run.sent i) (carried (delta_number s i))
  carried-place travels p i member within none =
      let d = travels.deltas i within in
      let holds = (place-sound g nodes commands f place).holds p member in
      let sent = in-world g nodes commands f place (sent_number s.run.sent i) (sent-in i within) in
      let told = in-world g nodes commands f place (told_by s.run d.number) (told-in d.number d.there) in
      subst (λ (e : Delta). BringsAsMuch s.run.graph (peer_at s.run.peers p).contents (sent_number s.run.sent i) (carried e)) (sym d.delta)
      (subst (λ (r : Run). BringsAsMuch r.graph (peer_at r.peers p).contents (sent_number s.run.sent i) (carried (delta_of (told_by s.run d.number) (sent_number s.run.sent i)))) same
      (delta-brings f.run.graph nodes f.deltas (told_by s.run d.number) (sent_number s.run.sent i) (peer_at f.run.peers p) told.carries
      (sends-known f.run.graph nodes f.deltas (peer_at f.run.peers p).contents (peer_at f.run.peers p).counts holds) holds.long (holds.wide ∙ sym sent.wide) sent.ordered d.earlier
      (subst (λ (r : Run). first_gap 0 (peer_at r.peers p).counts (told_by s.run d.number).counts ≡ None) (sym same) (subst (λ (e : Delta). first_gap 0 (peer_at s.run.peers p).counts e.from ≡ None) d.delta none))))
