-- Messages of one world: each is known by its counts at every later place, is of the graph that has grown there, and goes before what its node tells there.
use Rattle.std.proofs.Common.{◌≡◌, ℕ, ◌<◌, inl, inr, List, [], ◌++◌, length, refl, sym, ap, subst, ◌∙◌, append_assoc, append-nil, arith}
use Rattle.model_states.specs.Counts.{AreCountsAtMost}
use Rattle.model_states.specs.Content.{IsOrdered}
use Rattle.model_states.proofs.CountLaws.{count_at-zeros, length-zeros}
use Rattle.model_states.proofs.ContentLaws.{ordered-least}
use Rattle.model_graph.specs.Graph.{Decl}
use Rattle.model_graph.specs.Lawful.{sources_among}
use Rattle.model_graph.specs.Message.{Message}
use Rattle.model_graph.proofs.MessageLaws.{sent-among, among-append}
use Rattle.model_world.specs.Command.{Command}
use Rattle.model_world.specs.World.{Peer, peer_at, message_at}
use Rattle.model_world.specs.Delta as known
use Rattle.model_world.specs.Follow.{Followed}
use Rattle.model_world.specs.Holds.{Holds, Carries, IsPlaceOf}
use Rattle.model_world.proofs.HoldLaws.{sends-known}
use Rattle.model_world.proofs.PlayLaws.{place-sound}
use Rattle.model_world.proofs.SoundLaws.{IsSound}
use Rattle.model_world.proofs.VariableLaws.{known-ordered}
use Rattle.model_deltas.specs.Before.{IsBefore, AreAlike, IsInOrder}
use Rattle.model_deltas.specs.World.{nothing_told, told_at, IsMessageIn, AreOfOneWorld, DeltaStandsFor}
use Rattle.model_deltas.proofs.BeginLaws.{decls_of, alike-begun, before-from, nothing-carries}
use Rattle.model_deltas.proofs.WayLaws.{GoesOn, goes-on}
use Rattle.model_deltas.proofs.WorldLaws.{tells-ordered, holds-more, delta-known}

-- what holds of a message of a world
pub record IsOfWorld (g : List Decl) (nodes : ℕ) (all : List (List known.Delta)) (m : Message) : Type 0 where
  pub carries : Carries g nodes all m
  pub wide : length m.counts ≡ nodes
  pub more : List Decl
  pub begins : decls_of m.sources ++ more ≡ sources_among g
  pub ordered : IsInOrder m

-- what a node tells is in order, since all that is known is
told-ordered : (g : List Decl) (nodes : ℕ) (all : List (List known.Delta)) (r : Peer) → Holds g nodes all r.contents r.counts → IsInOrder (message_at g r)
told-ordered g nodes all r h = tells-ordered g r h.long (λ x low source. subst IsOrdered (sym (h.knows x low)) (known-ordered g nodes all r.counts x))

told-here : (nodes : ℕ) (f : Followed) (p : ℕ) → IsSound nodes f → p < nodes → IsOfWorld f.run.graph nodes f.deltas (told_at f p)
told-here nodes f p s member =
    let h : Holds f.run.graph nodes f.deltas (peer_at f.run.peers p).contents (peer_at f.run.peers p).counts = s.holds p member in
    record {
      carries = sends-known f.run.graph nodes f.deltas (peer_at f.run.peers p).contents (peer_at f.run.peers p).counts h;
      wide = h.wide;
      more = [];
      begins = append-nil (decls_of (told_at f p).sources) ∙ sent-among f.run.graph (peer_at f.run.peers p).contents h.long;
      ordered = told-ordered f.run.graph nodes f.deltas (peer_at f.run.peers p) h;
    }

nothing-here : (g : List Decl) (nodes : ℕ) (all : List (List known.Delta)) → IsOfWorld g nodes all (nothing_told nodes)
nothing-here g nodes all = record { carries = nothing-carries g nodes all; wide = length-zeros nodes; more = sources_among g; begins = refl; ordered = λ j. ordered-least }

told-later : (nodes : ℕ) (f last : Followed) (m : Message) → GoesOn nodes f last → IsOfWorld f.run.graph nodes f.deltas m → IsOfWorld last.run.graph nodes last.deltas m
told-later nodes f last m way h = record {
  carries = way.carries m h.carries;
  wide = h.wide;
  more = h.more ++ sources_among way.more;
  begins = sym (append_assoc (decls_of m.sources) h.more (sources_among way.more)) ∙ ap (λ (ds : List Decl). ds ++ sources_among way.more) h.begins ∙ sym (among-append f.run.graph way.more) ∙ ap sources_among way.graph;
  ordered = h.ordered;
}

pub in-world : (g : List Decl) (nodes : ℕ) (commands : List Command) (f : Followed) → IsPlaceOf g nodes commands f → (m : Message) → IsMessageIn g nodes commands m → IsOfWorld f.run.graph nodes f.deltas m
in-world g nodes commands f place m (inl nothing) = subst (IsOfWorld f.run.graph nodes f.deltas) (sym nothing) (nothing-here f.run.graph nodes f.deltas)
in-world g nodes commands f place m (inr told) =
    let there : IsPlaceOf g nodes (told.done ++ told.rest) f = subst (λ (ks : List Command). IsPlaceOf g nodes ks f) (sym told.all) place in
    subst (IsOfWorld f.run.graph nodes f.deltas) (sym told.is)
    (told-later nodes told.at f (told_at told.at told.node) (goes-on g nodes told.done told.rest told.at f told.place there) (told-here nodes told.at told.node (place-sound g nodes told.done told.at told.place) told.member))

pub world-ordered : (g : List Decl) (nodes : ℕ) (commands : List Command) (f : Followed) → IsPlaceOf g nodes commands f → (m : Message) → IsMessageIn g nodes commands m → IsInOrder m
world-ordered g nodes commands f place m a = (in-world g nodes commands f place m a).ordered

-- ---- they go together

pub worlds-alike : (g : List Decl) (nodes : ℕ) (commands : List Command) (f : Followed) → IsPlaceOf g nodes commands f → (m n : Message) → IsMessageIn g nodes commands m → IsMessageIn g nodes commands n → AreAlike m n
worlds-alike g nodes commands f place m n a b =
    let x = in-world g nodes commands f place m a in
    let y = in-world g nodes commands f place n b in
    record { nodes = x.wide ∙ sym y.wide; sources = alike-begun m.sources n.sources x.more y.more (x.begins ∙ sym y.begins) }

pub nothing-before : (g : List Decl) (nodes : ℕ) (commands : List Command) (f : Followed) → IsPlaceOf g nodes commands f → (m : Message) → IsMessageIn g nodes commands m → IsBefore (nothing_told nodes) m
nothing-before g nodes commands f place m a =
    let x = in-world g nodes commands f place m a in
    record { nodes = length-zeros nodes ∙ sym x.wide; counts = λ q. omega (arith, count_at-zeros nodes q); sources = tt }

pub told-before : (g : List Decl) (nodes : ℕ) (commands more : List Command) (f last : Followed) → IsPlaceOf g nodes commands f → IsPlaceOf g nodes (commands ++ more) last → (p : ℕ) → p < nodes → IsBefore (told_at f p) (told_at last p)
told-before g nodes commands more f last at there p member =
    let here : IsSound nodes f = place-sound g nodes commands f at in
    let now : IsSound nodes last = place-sound g nodes (commands ++ more) last there in
    let way : GoesOn nodes f last = goes-on g nodes commands more f last at there in
    let old : IsOfWorld last.run.graph nodes last.deltas (told_at f p) = told-later nodes f last (told_at f p) way (told-here nodes f p here member) in
    let new : IsOfWorld last.run.graph nodes last.deltas (told_at last p) = told-here nodes last p now member in
    let rise : AreCountsAtMost (told_at f p).counts (told_at last p).counts = way.rise p (omega (arith, member, here.many)) in
    record {
      nodes = old.wide ∙ sym new.wide;
      counts = rise;
      sources = before-from (told_at f p).sources (told_at last p).sources (old.more, old.begins ∙ sym (sent-among last.run.graph (peer_at last.run.peers p).contents (now.holds p member).long))
          (holds-more last.run.graph nodes last.deltas (told_at f p) (told_at last p) old.carries new.carries (omega (arith, old.wide, new.wide)) rise);
    }

-- ---- and so do the deltas between them

pub delta-world : (before after m : Message) → AreOfOneWorld before after m → IsBefore before after → DeltaStandsFor before after m
delta-world before after m w step =
    delta-known w.at.run.graph w.nodes w.at.deltas before after m (in-world w.graph w.nodes w.commands w.at w.place before w.earlier).carries (in-world w.graph w.nodes w.commands w.at w.place m w.third).carries
    (in-world w.graph w.nodes w.commands w.at w.place after w.later).ordered step
    (worlds-alike w.graph w.nodes w.commands w.at w.place m after w.third w.later)
