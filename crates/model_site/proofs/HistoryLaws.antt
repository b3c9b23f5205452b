-- Sites over time are the replicas of a world, beside which it is followed what each update brought: so each holds what is known by its counts.
use Rattle.std.proofs.Common.{refl, sym, ap, subst, ◌∙◌, arith, append-nil, append_assoc}
use Rattle.std.specs.Prelude.{◌≡◌, ◌<◌, ◌≤◌, ◌==◌, ℕ, zero, suc, ◌+◌, ◌++◌, Bool, true, false, if◌then◌else◌, IsTrue, List, [], ◌∷◌, length, map, replicate, slice_index_or, slice_set, Option, Ok}
use Rattle.std.proofs.lemmas.Bool.{eqb-true, eq-eqb}
use Rattle.model_states.specs.Counts.{count_at, larger, zeros, AreCountsAtMost}
use Rattle.model_states.proofs.CountLaws.{count_at-set, count_at-zeros, larger-commutative, larger-at_most, length-zeros}
use Rattle.model_states.specs.Update.{Op, Join}
use Rattle.model_states.specs.Content.{Content, IsContentAtMost, least}
use Rattle.model_graph.specs.Evaluation.{content_at, least_of}
use Rattle.model_graph.specs.Graph.{Decl, OrSet, GSet, Counter, MaxReg, is_source, kind_at, no_decl}
use Rattle.model_graph.proofs.PlaceLaws.{at-set, set-length, at-replicate, length-replicate, map-length, at-map-low}
use Rattle.model_graph.specs.Message.{Message}
use Rattle.model_world.specs.Delta.{Delta, deltas_at, first_deltas, brought_to, join_all, known_contents}
use Rattle.model_world.specs.Follow.{Followed, begin, delta_of, followed}
use Rattle.model_world.specs.Holds.{Holds, Carries}
use Rattle.model_world.specs.Owner.{delta_at}
use Rattle.model_world.proofs.HoldLaws.{sends-known, takes-known}
use Rattle.model_world.proofs.KnownLaws.{known-above}
use Rattle.model_world.specs.Known.{Each, IsOfSource}
use Rattle.model_world.proofs.PlaceLaws.{holds-contents}
use Rattle.model_world.proofs.PlayLaws.{source-of}
use Rattle.model_world.proofs.SoundLaws.{IsSound, sound-begin, sound-act}
use Rattle.model_world.specs.Command.{Command}
use Rattle.model_world.specs.Lawful.{opening_stage, stage_after, MayBeDone, AreLawful}
use Rattle.model_world.specs.World.{Peer, Update, Take, Post, fresh_peer, no_peer, peer_at, sent_number, updated, delivered, message_at, shown_at}
use Rattle.model_program.specs.Merge.{merge_text, taking, joined}
use Rattle.model_site.specs.History.{SiteCall, Sites, no_sites, kept_at, taken_by, IsCalled, AreCalled, none, more, HaveBrought, nothing, brings, delta_by, after_own, deltas_by, brought_after, updates_by, replica_of, told_by}
use Rattle.model_site.specs.Site.{own, IsOwn, adds, removes, inserts, counts, raises, AreOwn, update_done, done_by, updates_done}
use Rattle.model_site.specs.Told.{heard}
use Rattle.model_site.proofs.SiteLaws.{own-told, ok-same, one-more, none-left}
use Rattle.model_site.proofs.WorldLaws.{update-passed, bound-ok}

other : (q p : ℕ) → (q == p) ≡ false → q ≡ p → ⊥
other q p e same = differ (eq-eqb q p same) e where
  differ : (q == p) ≡ true → (q == p) ≡ false → ⊥
  differ t f = cc

-- ---- one site at work: replica p has come to r, these states are written, and the other replicas are as they were

pub record IsAtWork (p nodes : ℕ) (g : List Decl) (written : List Message) (base f : Followed) (r : Peer) : Type 0 where
  pub sound : IsSound nodes f
  pub graph : f.run.graph ≡ g
  pub sent : f.run.sent ≡ written
  pub peer : peer_at f.run.peers p ≡ r
  pub others : (q : ℕ) → q < nodes → (q ≡ p → ⊥) → peer_at f.run.peers q ≡ peer_at base.run.peers q

replaced : (nodes p : ℕ) (peers : List Peer) (new : Peer) → length peers ≡ nodes → p < nodes → peer_at (slice_set peers p new) p ≡ new
replaced nodes p peers new long member = at-set (λ (x : Peer). x ≡ new) peers p new no_peer p (omega (arith, long, member)) (λ _. refl) (λ other. absurd (other refl))

left-alone : (nodes p q : ℕ) (peers : List Peer) (new : Peer) → length peers ≡ nodes → q < nodes → (q ≡ p → ⊥) → peer_at (slice_set peers p new) q ≡ peer_at peers q
left-alone nodes p q peers new long low apart = at-set (λ (x : Peer). x ≡ peer_at peers q) peers p new no_peer q (omega (arith, long, low)) (λ e. absurd (apart e)) (λ _. refl)

take-one : (p nodes : ℕ) (g : List Decl) (written : List Message) (base f : Followed) (r : Peer) (i : ℕ) → p < nodes → IsAtWork p nodes g written base f r → IsAtWork p nodes g written base (followed f (Take p i)) (delivered g (sent_number written i) r)
take-one p nodes g written base f r i member at = record {
  sound = sound-act nodes f (Take p i) at.sound tt;
  graph = at.graph;
  sent = at.sent;
  peer = replaced nodes p f.run.peers (delivered f.run.graph (sent_number f.run.sent i) (peer_at f.run.peers p)) at.sound.many member
      ∙ ap (λ (h : List Decl). delivered h (sent_number f.run.sent i) (peer_at f.run.peers p)) at.graph
      ∙ ap (λ (ms : List Message). delivered g (sent_number ms i) (peer_at f.run.peers p)) at.sent
      ∙ ap (λ (x : Peer). delivered g (sent_number written i) x) at.peer;
  others = λ q low apart. left-alone nodes p q f.run.peers (delivered f.run.graph (sent_number f.run.sent i) (peer_at f.run.peers p)) at.sound.many low apart ∙ at.others q low apart;
}

-- it took states in, by which it made no update
record IsTaking (p nodes : ℕ) (g : List Decl) (written : List Message) (base f last : Followed) (r : Peer) : Type 0 where
  pub at : IsAtWork p nodes g written base last r
  pub deltas : last.deltas ≡ f.deltas

take-all : (p nodes : ℕ) (g : List Decl) (written : List Message) (base f : Followed) (r : Peer) (files : List ℕ) → p < nodes → IsAtWork p nodes g written base f r
    → (last : Followed) × IsTaking p nodes g written base f last (taking g r (map (sent_number written) files))
take-all p nodes g written base f r [] member at = (f, record { at = at; deltas = refl })
take-all p nodes g written base f r (i ∷ files) member at =
    let rest = take-all p nodes g written base (followed f (Take p i)) (delivered g (sent_number written i) r) files member (take-one p nodes g written base f r i member at) in
    (rest.0, record { at = rest.1.at; deltas = rest.1.deltas })

-- an update of a site's own that its stage allows is of a source of the graph, and joins nothing in
own-fits : (p nodes : ℕ) (g : List Decl) (k : Command) (x : ℕ) (op : Op) → IsOwn p k x op → MayBeDone nodes (opening_stage g) k → (x < length g) × IsTrue (is_source (kind_at g x)) × ((t : Content) → op ≡ Join t → ⊥)
own-fits p nodes g _ _ _ (adds {x = x}) h = (h.0.1, source-of g x OrSet refl h.1, λ t e. absurd cc)
own-fits p nodes g _ _ _ (removes {x = x}) h = (h.0.1, source-of g x OrSet refl h.1, λ t e. absurd cc)
own-fits p nodes g _ _ _ (inserts {x = x}) h = (h.0.1, source-of g x GSet refl h.1, λ t e. absurd cc)
own-fits p nodes g _ _ _ (counts {x = x}) h = (h.0.1, source-of g x Counter refl h.1, λ t e. absurd cc)
own-fits p nodes g _ _ _ (raises {x = x}) h = (h.0.1, source-of g x MaxReg refl h.1, λ t e. absurd cc)

-- and leaves the stage as it is
own-stage : (p nodes : ℕ) (g : List Decl) (k : Command) (x : ℕ) (op : Op) → IsOwn p k x op → stage_after nodes (opening_stage g) k ≡ opening_stage g
own-stage p nodes g _ _ _ adds = refl
own-stage p nodes g _ _ _ removes = refl
own-stage p nodes g _ _ _ inserts = refl
own-stage p nodes g _ _ _ counts = refl
own-stage p nodes g _ _ _ raises = refl

update-one : (p nodes : ℕ) (g : List Decl) (written : List Message) (base f : Followed) (r : Peer) (x : ℕ) (op : Op) → p < nodes → x < length g → IsTrue (is_source (kind_at g x)) → ((t : Content) → op ≡ Join t → ⊥)
    → IsAtWork p nodes g written base f r → IsAtWork p nodes g written base (followed f (Update p x op)) (updated p x op r)
update-one p nodes g written base f r x op member low source plain at = record {
  sound = sound-act nodes f (Update p x op) at.sound (
    member,
    subst (λ (h : List Decl). x < length h) (sym at.graph) low,
    subst (λ (h : List Decl). IsTrue (is_source (kind_at h x))) (sym at.graph) source,
    λ t e. absurd (plain t e),
  );
  graph = at.graph;
  sent = at.sent;
  peer = replaced nodes p f.run.peers (updated p x op (peer_at f.run.peers p)) at.sound.many member ∙ ap (λ (y : Peer). updated p x op y) at.peer;
  others = λ q low apart. left-alone nodes p q f.run.peers (updated p x op (peer_at f.run.peers p)) at.sound.many low apart ∙ at.others q low apart;
}

-- a list with an item of its own put at its place again
set-own : (all : List (List Delta)) (p : ℕ) → p < length all → slice_set all p (deltas_at all p ++ []) ≡ all
set-own [] p low = absurd (omega (arith, low))
set-own (ds ∷ all) zero low = ap (λ (es : List Delta). es ∷ all) (append-nil ds)
set-own (ds ∷ all) (suc p) low = ap (λ (rest : List (List Delta)). ds ∷ rest) (set-own all p (omega (arith, low)))

-- an item put in a place twice
set-twice : (all : List (List Delta)) (p : ℕ) (first second : List Delta) → slice_set (slice_set all p first) p second ≡ slice_set all p second
set-twice [] p first second = refl
set-twice (ds ∷ all) zero first second = refl
set-twice (ds ∷ all) (suc p) first second = ap (λ (rest : List (List Delta)). ds ∷ rest) (set-twice all p first second)

-- what stands where it was put
set-there : (all : List (List Delta)) (p : ℕ) (new : List Delta) → p < length all → deltas_at (slice_set all p new) p ≡ new
set-there all p new low = at-set (λ (ds : List Delta). ds ≡ new) all p new [] p low (λ _. refl) (λ apart. absurd (apart refl))

-- the updates were made, and brought this
record IsUpdated (p nodes : ℕ) (g : List Decl) (written : List Message) (base f end : Followed) (r last : Peer) (commands : List Command) : Type 0 where
  pub at : IsAtWork p nodes g written base end last
  pub count : count_at last.counts p ≡ count_at r.counts p + length commands
  pub deltas : end.deltas ≡ slice_set f.deltas p (deltas_at f.deltas p ++ deltas_by p r commands)

brings-none : (p : ℕ) (r : Peer) → deltas_by p r [] ≡ []
unfolding deltas_by
brings-none p r = refl

brings-more : (p : ℕ) (r : Peer) (k : Command) (rest : List Command) → deltas_by p r (k ∷ rest) ≡ delta_by p r (own p k) ++ deltas_by p (after_own p r (own p k)) rest
unfolding deltas_by
brings-more p r k rest = refl

update-all : (p nodes : ℕ) (g : List Decl) (written : List Message) (base f : Followed) (c : ℕ) (r last : Peer) (commands : List Command) → p < nodes → AreLawful nodes (opening_stage g) commands → AreOwn p commands → IsAtWork p nodes g written base f r
    → updates_done p g c r commands ≡ Ok last → (end : Followed) × IsUpdated p nodes g written base f end r last commands
update-all p nodes g written base f c r last [] member lawful mine at e =
    let same : r ≡ last = ok-same r last (sym (none-left p g c r) ∙ e) in (
      f,
      record {
        at = subst (IsAtWork p nodes g written base f) same at;
        count = omega (arith, ap (λ (x : Peer). count_at x.counts p) same);
        deltas = sym (ap (λ (ds : List Delta). slice_set f.deltas p (deltas_at f.deltas p ++ ds)) (brings-none p r) ∙ set-own f.deltas p (omega (arith, at.sound.logs, member)));
      },
    )
update-all p nodes g written base f c r last (k ∷ rest) member lawful mine at e =
    let one = mine.0 in
    let both = bound-ok (done_by p g c r (own p k)) (λ next. updates_done p g (c + 1) next rest) last (sym (one-more p g c r k rest) ∙ e) in
    let told = own-told p k one.0 one.1 one.2 in
    let done : update_done p g c r (one.0, one.1) ≡ Ok both.0 = ap (λ (o : Option (ℕ × Op)). done_by p g c r o) (sym told) ∙ both.1 in
    let is : both.0 ≡ updated p one.0 one.1 r = (update-passed p g c r both.0 (one.0, one.1) done).0 in
    let fits = own-fits p nodes g k one.0 one.1 one.2 lawful.0 in
    let next = update-one p nodes g written base f r one.0 one.1 member fits.0 fits.1 fits.2 at in
    let later = update-all p nodes g written base (followed f (Update p one.0 one.1)) (c + 1) (updated p one.0 one.1 r) last rest member
    (subst (λ (s : _). AreLawful nodes s rest) (own-stage p nodes g k one.0 one.1 one.2) lawful.1) mine.1 next
    (subst (λ (x : Peer). updates_done p g (c + 1) x rest ≡ Ok last) is both.2) in
    let wide : length (peer_at f.run.peers p).counts ≡ nodes = (at.sound.holds p member).wide in
    let long : length r.counts ≡ nodes = ap (λ (x : Peer). length x.counts) (sym at.peer) ∙ wide in
    let counted : count_at (updated p one.0 one.1 r).counts p ≡ count_at r.counts p + 1 =
    count_at-set r.counts p (count_at r.counts p + 1) p (omega (arith, long, member)) ∙ ap (λ (b : Bool). if b then count_at r.counts p + 1 else count_at r.counts p) (eq-eqb p p refl) in
    let first : List Delta = deltas_at f.deltas p ++ delta_of (peer_at f.run.peers p) p one.0 one.1 ∷ [] in
    let behind : List Delta = deltas_by p (updated p one.0 one.1 r) rest in
    let brought : deltas_by p r (k ∷ rest) ≡ delta_of r p one.0 one.1 ∷ behind =
    brings-more p r k rest ∙ ap (λ (o : Option (ℕ × Op)). delta_by p r o ++ deltas_by p (after_own p r o) rest) told in
    let joined : first ++ behind ≡ deltas_at f.deltas p ++ deltas_by p r (k ∷ rest) =
    append_assoc (deltas_at f.deltas p) (delta_of (peer_at f.run.peers p) p one.0 one.1 ∷ []) behind
    ∙ ap (λ (x : Peer). deltas_at f.deltas p ++ delta_of x p one.0 one.1 ∷ behind) at.peer ∙ ap (λ (ds : List Delta). deltas_at f.deltas p ++ ds) (sym brought) in (
      later.0,
      record {
        at = later.1.at;
        count = omega (arith, later.1.count, counted);
        deltas = later.1.deltas ∙ set-twice f.deltas p first (deltas_at (slice_set f.deltas p first) p ++ behind)
            ∙ ap (λ (ds : List Delta). slice_set f.deltas p (ds ++ behind)) (set-there f.deltas p first (omega (arith, at.sound.logs, member)))
            ∙ ap (slice_set f.deltas p) joined;
      },
    )

-- ---- all sites

pub record Mirrors (g : List Decl) (nodes : ℕ) (calls : List SiteCall) (sites : Sites) (f : Followed) : Type 0 where
  pub sound : IsSound nodes f
  pub graph : f.run.graph ≡ g
  pub sent : f.run.sent ≡ sites.written
  pub many : length sites.kept ≡ nodes
  pub kept : (p : ℕ) → p < nodes → replica_of g nodes sites p ≡ peer_at f.run.peers p
  pub counted : (p : ℕ) → p < nodes → count_at (peer_at f.run.peers p).counts p ≡ updates_by p calls
  pub wide : (i : ℕ) → i < length sites.written → length (sent_number sites.written i).counts ≡ nodes

-- each state is of as many nodes as there are sites
wide-push : (nodes : ℕ) (ms : List Message) (m : Message) → ((i : ℕ) → i < length ms → length (sent_number ms i).counts ≡ nodes) → length m.counts ≡ nodes
    → (i : ℕ) → i < length (ms ++ m ∷ []) → length (sent_number (ms ++ m ∷ []) i).counts ≡ nodes
wide-push nodes [] m all last zero low = last
wide-push nodes [] m all last (suc i) low = absurd (none low) where
  none : suc i < 1 → ⊥
  none h = omega (arith, h)
wide-push nodes (k ∷ ms) m all last zero low = all zero (omega arith)
wide-push nodes (k ∷ ms) m all last (suc i) low = wide-push nodes ms m (λ j h. all (suc j) (omega (arith, h))) last i (omega (arith, low))

at-none : (nodes p : ℕ) → slice_index_or {A = List Message} (replicate nodes []) p [] ≡ []
at-none zero p = refl
at-none (suc nodes) zero = refl
at-none (suc nodes) (suc p) = at-none nodes p

-- a replica that took several states in took them one after the other
pub taking-append : (g : List Decl) (r : Peer) (ms ns : List Message) → taking g r (ms ++ ns) ≡ taking g (taking g r ms) ns
taking-append g r [] ns = refl
taking-append g r (m ∷ ms) ns = taking-append g (delivered g m r) ms ns

-- what is known by the counts of a replica is all that it holds
peer-same : (g : List Decl) (nodes : ℕ) (all : List (List Delta)) (r t : Peer) → Holds g nodes all r.contents r.counts → Holds g nodes all t.contents t.counts → r.counts ≡ t.counts → r ≡ t
peer-same g nodes all r t h k same = λ i. record { contents = contents i; counts = same i } where
  contents : r.contents ≡ t.contents
  contents = holds-contents g nodes all r.contents r.counts h ∙ ap (known_contents g nodes all) same ∙ sym (holds-contents g nodes all t.contents t.counts k)

first-zeros : (n : ℕ) (all : List (List Delta)) → first_deltas all (zeros n) ≡ []
first-zeros zero [] = refl
first-zeros zero (ds ∷ all) = refl
first-zeros (suc n) [] = refl
first-zeros (suc n) (ds ∷ all) = first-zeros n all

-- a replica to which nothing has happened holds what is known by its counts, whatever the updates of others brought
fresh-holds : (g : List Decl) (nodes : ℕ) (all : List (List Delta)) → Holds g nodes all (fresh_peer g nodes).contents (fresh_peer g nodes).counts
fresh-holds g nodes all = record {
  long = map-length (λ d. least_of nodes d.kind) g;
  wide = length-zeros nodes;
  made = λ q. omega (arith, count_at-zeros nodes q);
  knows = λ x low. at-map-low (λ (d : Decl). least_of nodes d.kind) g x no_decl least low
      ∙ ap (λ (ds : List Delta). join_all (least_of nodes (kind_at g x)) (brought_to x ds)) (sym (first-zeros nodes all));
}

-- so does one that takes a state in
told-holds : (g : List Decl) (nodes : ℕ) (all : List (List Delta)) (m : Message) → Each (IsOfSource g) all → Carries g nodes all m → Holds g nodes all (told_by g nodes m).contents (told_by g nodes m).counts
told-holds g nodes all m sources carries = takes-known g nodes all (fresh_peer g nodes).contents (fresh_peer g nodes).counts m sources (fresh-holds g nodes all) carries

-- a replica goes on from its own last state as it was
told-again : (g : List Decl) (nodes : ℕ) (all : List (List Delta)) (r : Peer) → Each (IsOfSource g) all → Holds g nodes all r.contents r.counts → told_by g nodes (message_at g r) ≡ r
told-again g nodes all r sources h =
    peer-same g nodes all (told_by g nodes (message_at g r)) r (told-holds g nodes all (message_at g r) sources (sends-known g nodes all r.contents r.counts h)) h
    (larger-at_most (zeros nodes) r.counts (omega (arith, length-zeros nodes, h.wide)) (λ q. omega (arith, count_at-zeros nodes q)))

-- ---- calls

updates-more : (p : ℕ) (calls : List SiteCall) (k : SiteCall) → updates_by p (calls ++ k ∷ []) ≡ updates_by p calls + (if p == k.site then length k.commands else 0)
updates-more p [] k = omega arith
updates-more p (j ∷ calls) k = omega (arith, updates-more p calls k)

no-place : (i : ℕ) → i < 0 → ⊥
no-place i low = omega (arith, low)

mirror-none : (g : List Decl) (nodes : ℕ) → Mirrors g nodes [] (no_sites nodes) (begin g nodes)
mirror-none g nodes = record {
  sound = sound-begin g nodes;
  graph = refl;
  sent = refl;
  many = length-replicate nodes [];
  kept = λ p low. ap (heard g nodes) (at-none nodes p) ∙ sym (at-replicate nodes p (fresh_peer g nodes) no_peer low);
  counted = λ p low. ap (λ (r : Peer). count_at r.counts p) (at-replicate nodes p (fresh_peer g nodes) no_peer low) ∙ count_at-zeros nodes p;
  wide = λ i low. absurd (no-place i low);
}

-- the world after a call
mirror-more : (g : List Decl) (nodes : ℕ) (calls : List SiteCall) (sites next : Sites) (k : SiteCall) (f : Followed) → Mirrors g nodes calls sites f → (call : IsCalled g nodes sites k next)
    → (end : Followed) × Mirrors g nodes (calls ++ k ∷ []) next end × (end.deltas ≡ brought_after g nodes sites k f.deltas) × (told_by g nodes (message_at g call.last) ≡ call.last)
mirror-more g nodes calls sites next k f before call = (end, after, brought, again) where
  p : ℕ
  p = k.site

  begun : IsAtWork p nodes g sites.written f f (peer_at f.run.peers p)
  begun = record { sound = before.sound; graph = before.graph; sent = before.sent; peer = refl; others = λ q low apart. refl }

  taken : (mid : Followed) × IsTaking p nodes g sites.written f f mid (taking g (peer_at f.run.peers p) (map (sent_number sites.written) k.files))
  taken = take-all p nodes g sites.written f f (peer_at f.run.peers p) k.files call.member begun

  -- what the site took in is what its replica took
  same : taking g (peer_at f.run.peers p) (map (sent_number sites.written) k.files) ≡ heard g nodes (taken_by sites k)
  same = ap (λ (r : Peer). taking g r (map (sent_number sites.written) k.files)) (sym (before.kept p call.member)) ∙ sym (taking-append g (fresh_peer g nodes) (kept_at sites p) (map (sent_number sites.written) k.files))

  done : (mid : Followed) × IsUpdated p nodes g sites.written f taken.0 mid (heard g nodes (taken_by sites k)) call.last k.commands
  done = update-all p nodes g sites.written f taken.0 1 (heard g nodes (taken_by sites k)) call.last k.commands call.member call.lawful call.own
      (subst (IsAtWork p nodes g sites.written f taken.0) same taken.1.at) call.done

  mid : Followed
  mid = done.0

  end : Followed
  end = followed mid (Post p)

  sound : IsSound nodes end
  sound = sound-act nodes mid (Post p) done.1.at.sound tt

  holds : Holds g nodes mid.deltas call.last.contents call.last.counts
  holds = subst (λ (r : Peer). Holds g nodes mid.deltas r.contents r.counts) done.1.at.peer (subst (λ (h : List Decl). Holds h nodes mid.deltas (peer_at mid.run.peers p).contents (peer_at mid.run.peers p).counts) done.1.at.graph (done.1.at.sound.holds p call.member))

  again : told_by g nodes (message_at g call.last) ≡ call.last
  again = told-again g nodes mid.deltas call.last (subst (λ (h : List Decl). Each (IsOfSource h) mid.deltas) done.1.at.graph done.1.at.sound.sources) holds

  -- the site counts its own updates alone as they are made
  own_before : count_at (heard g nodes (taken_by sites k)).counts p ≡ updates_by p calls
  own_before =
      ap (λ (r : Peer). count_at r.counts p) (sym same ∙ sym taken.1.at.peer)
      ∙ taken.1.at.sound.own p call.member
      ∙ ap (λ (all : List (List Delta)). length (deltas_at all p)) taken.1.deltas
      ∙ sym (before.sound.own p call.member)
      ∙ before.counted p call.member

  kept_now : (q : ℕ) → q < nodes → (b : Bool) → (q == p) ≡ b → replica_of g nodes next q ≡ peer_at end.run.peers q
  kept_now q low true e =
      let here : q ≡ p = eqb-true q p e in
      ap (λ (ks : List (List Message)). heard g nodes (slice_index_or ks q [])) call.kept
      ∙ ap (λ (ms : List Message). heard g nodes ms)
      (at-set (λ (ms : List Message). ms ≡ message_at g call.last ∷ []) sites.kept p (message_at g call.last ∷ []) [] q (omega (arith, low, before.many)) (λ _. refl) (λ apart. absurd (apart here)))
      ∙ again ∙ sym done.1.at.peer ∙ ap (λ (n : ℕ). peer_at mid.run.peers n) (sym here)
  kept_now q low false e =
      let apart : q ≡ p → ⊥ = λ h. other q p e h in
      ap (λ (ks : List (List Message)). heard g nodes (slice_index_or ks q [])) call.kept
      ∙ ap (λ (ms : List Message). heard g nodes ms)
      (at-set (λ (ms : List Message). ms ≡ kept_at sites q) sites.kept p (message_at g call.last ∷ []) [] q (omega (arith, low, before.many)) (λ h. absurd (apart h)) (λ _. refl))
      ∙ before.kept q low ∙ sym (done.1.at.others q low apart)

  counted_now : (q : ℕ) → q < nodes → (b : Bool) → (q == p) ≡ b → count_at (peer_at end.run.peers q).counts q ≡ updates_by q calls + (if b then length k.commands else 0)
  counted_now q low true e =
      let here : q ≡ p = eqb-true q p e in
      ap (λ (n : ℕ). count_at (peer_at mid.run.peers n).counts n) here
      ∙ ap (λ (r : Peer). count_at r.counts p) done.1.at.peer
      ∙ done.1.count
      ∙ ap (λ (n : ℕ). n + length k.commands) own_before
      ∙ ap (λ (n : ℕ). updates_by n calls + length k.commands) (sym here)
  counted_now q low false e =
      ap (λ (r : Peer). count_at r.counts q) (done.1.at.others q low (λ h. other q p e h)) ∙ before.counted q low ∙ (let nothing : updates_by q calls ≡ updates_by q calls + 0 = omega arith in nothing)

  brought : end.deltas ≡ brought_after g nodes sites k f.deltas
  brought = done.1.deltas ∙ ap (λ (all : List (List Delta)). brought_after g nodes sites k all) taken.1.deltas

  after : Mirrors g nodes (calls ++ k ∷ []) next end
  after = record {
    sound = sound;
    graph = done.1.at.graph;
    sent = ap (λ (ms : List Message). ms ++ message_at mid.run.graph (peer_at mid.run.peers p) ∷ []) done.1.at.sent
        ∙ ap (λ (h : List Decl). sites.written ++ message_at h (peer_at mid.run.peers p) ∷ []) done.1.at.graph
        ∙ ap (λ (r : Peer). sites.written ++ message_at g r ∷ []) done.1.at.peer
        ∙ sym call.written;
    many = ap (λ (ks : List (List Message)). length ks) call.kept ∙ set-length sites.kept p (message_at g call.last ∷ []) ∙ before.many;
    kept = λ q low. kept_now q low (q == p) refl;
    counted = λ q low. counted_now q low (q == p) refl ∙ sym (updates-more q calls k);
    wide = subst (λ (ms : List Message). (i : ℕ) → i < length ms → length (sent_number ms i).counts ≡ nodes) (sym call.written) (wide-push nodes sites.written (message_at g call.last) before.wide holds.wide);
  }

-- sites that have brought this are a world in which this was brought
mirrored-brought : (g : List Decl) (nodes : ℕ) (calls : List SiteCall) (sites : Sites) (all : List (List Delta)) → HaveBrought g nodes calls sites all → (f : Followed) × Mirrors g nodes calls sites f × (f.deltas ≡ all)
mirrored-brought g nodes _ _ _ nothing = (begin g nodes, mirror-none g nodes, refl)
mirrored-brought g nodes _ _ _ (brings {calls = calls} {sites = sites} {next = next} {k = k} {all = all} had call) =
    let before = mirrored-brought g nodes calls sites all had in
    let after = mirror-more g nodes calls sites next k before.0 before.1 call in
    (after.0, after.1, after.2 ∙ ap (λ (ds : List (List Delta)). brought_after g nodes sites k ds) before.2)

-- of all calls it is told what they brought
pub calls-brought : (g : List Decl) (nodes : ℕ) (calls : List SiteCall) (sites : Sites) → AreCalled g nodes calls sites → (all : List (List Delta)) × HaveBrought g nodes calls sites all
calls-brought g nodes _ _ none = (replicate nodes [], nothing)
calls-brought g nodes _ _ (more {calls = calls} {sites = sites} {next = next} {k = k} called call) =
    let before = calls-brought g nodes calls sites called in (brought_after g nodes sites k before.0, brings before.1 call)

mirrored : (g : List Decl) (nodes : ℕ) (calls : List SiteCall) (sites : Sites) → AreCalled g nodes calls sites → (f : Followed) × Mirrors g nodes calls sites f
mirrored g nodes calls sites called = let all = calls-brought g nodes calls sites called in let same = mirrored-brought g nodes calls sites all.0 all.1 in (same.0, same.1)

-- a site that goes on from the state of a call goes on from where that call came to
pub goes-on : (g : List Decl) (nodes : ℕ) (calls : List SiteCall) (sites next : Sites) (k : SiteCall) → AreCalled g nodes calls sites → (call : IsCalled g nodes sites k next) → (length sites.kept ≡ nodes) × (told_by g nodes (message_at g call.last) ≡ call.last)
goes-on g nodes calls sites next k called call =
    let before = mirrored g nodes calls sites called in
    (before.1.many, (mirror-more g nodes calls sites next k before.0 before.1 call).3)

-- ---- in a user's words

module _ (g : List Decl) (nodes : ℕ) (calls : List SiteCall) (sites : Sites) (called : AreCalled g nodes calls sites) where
  abbrev f : Followed
  f = (mirrored g nodes calls sites called).0

  here : Mirrors g nodes calls sites f
  here = (mirrored g nodes calls sites called).1

  sources : Each (IsOfSource g) f.deltas
  sources = subst (λ (h : List Decl). Each (IsOfSource h) f.deltas) here.graph here.sound.sources

  carries : (i : ℕ) → Carries g nodes f.deltas (sent_number sites.written i)
  carries i = subst (λ (ms : List Message). Carries g nodes f.deltas (sent_number ms i)) here.sent (subst (λ (h : List Decl). Carries h nodes f.deltas (sent_number f.run.sent i)) here.graph (here.sound.carries i))

  kept-holds : (p : ℕ) → p < nodes → Holds g nodes f.deltas (replica_of g nodes sites p).contents (replica_of g nodes sites p).counts
  kept-holds p low = subst (λ (r : Peer). Holds g nodes f.deltas r.contents r.counts) (sym (here.kept p low)) (subst (λ (h : List Decl). Holds h nodes f.deltas (peer_at f.run.peers p).contents (peer_at f.run.peers p).counts) here.graph (here.sound.holds p low))

  -- sites whose counts are equal have the same
  pub sites-agree : (p q : ℕ) → p < nodes → q < nodes → (replica_of g nodes sites p).counts ≡ (replica_of g nodes sites q).counts → replica_of g nodes sites p ≡ replica_of g nodes sites q
  sites-agree p q low there same = peer-same g nodes f.deltas (replica_of g nodes sites p) (replica_of g nodes sites q) (kept-holds p low) (kept-holds q there) same

  -- and show the same
  pub sites-show : (p q : ℕ) → p < nodes → q < nodes → (replica_of g nodes sites p).counts ≡ (replica_of g nodes sites q).counts → shown_at g (replica_of g nodes sites p) ≡ shown_at g (replica_of g nodes sites q)
  sites-show p q low there same = ap (λ (r : Peer). shown_at g r) (sites-agree p q low there same)

  -- two states with equal counts tell the same, whoever wrote them, and when
  pub states-agree : (i j : ℕ) → (sent_number sites.written i).counts ≡ (sent_number sites.written j).counts → told_by g nodes (sent_number sites.written i) ≡ told_by g nodes (sent_number sites.written j)
  states-agree i j same =
      peer-same g nodes f.deltas (told_by g nodes (sent_number sites.written i)) (told_by g nodes (sent_number sites.written j))
      (told-holds g nodes f.deltas (sent_number sites.written i) sources (carries i)) (told-holds g nodes f.deltas (sent_number sites.written j) sources (carries j))
      (ap (λ (cs : List ℕ). larger (zeros nodes) cs) same)

  -- a site counts each of its updates
  pub own-counted : (p : ℕ) → p < nodes → count_at (replica_of g nodes sites p).counts p ≡ updates_by p calls
  own-counted p low = ap (λ (r : Peer). count_at r.counts p) (here.kept p low) ∙ here.counted p low

  -- a site that counts what a state counts has all of it: taking it in once more changes nothing
  pub nothing-lost : (p i : ℕ) → p < nodes → AreCountsAtMost (sent_number sites.written i).counts (replica_of g nodes sites p).counts
      → delivered g (sent_number sites.written i) (replica_of g nodes sites p) ≡ replica_of g nodes sites p
  nothing-lost p i low counted =
      peer-same g nodes f.deltas (delivered g (sent_number sites.written i) (replica_of g nodes sites p)) (replica_of g nodes sites p)
      (takes-known g nodes f.deltas (replica_of g nodes sites p).contents (replica_of g nodes sites p).counts (sent_number sites.written i) sources (kept-holds p low) (carries i))
      (kept-holds p low)
      (larger-commutative (replica_of g nodes sites p).counts (sent_number sites.written i).counts
      ∙ larger-at_most (sent_number sites.written i).counts (replica_of g nodes sites p).counts (omega (arith, (carries i).narrow, (kept-holds p low).wide)) counted)

  taking-holds : (r : Peer) (files : List ℕ) → Holds g nodes f.deltas r.contents r.counts → Holds g nodes f.deltas (taking g r (map (sent_number sites.written) files)).contents (taking g r (map (sent_number sites.written) files)).counts
  taking-holds r [] h = h
  taking-holds r (i ∷ files) h = taking-holds (delivered g (sent_number sites.written i) r) files (takes-known g nodes f.deltas r.contents r.counts (sent_number sites.written i) sources h (carries i))

  -- what states are merged to is what a site shows that counts the same
  pub merges-show : (p i : ℕ) (files : List ℕ) → p < nodes → i < length sites.written → (joined g (map (sent_number sites.written) (i ∷ files))).counts ≡ (replica_of g nodes sites p).counts
      → merge_text g (joined g (map (sent_number sites.written) (i ∷ files))) ≡ merge_text g (replica_of g nodes sites p)
  merges-show p i files low there same = ap (merge_text g) (all ∙ peer-same g nodes f.deltas together (replica_of g nodes sites p) (taking-holds (fresh_peer g nodes) (i ∷ files) (fresh-holds g nodes f.deltas)) (kept-holds p low) (sym (ap (λ (r : Peer). r.counts) all) ∙ same)) where
    ms : List Message
    ms = map (sent_number sites.written) (i ∷ files)

    together : Peer
    together = heard g nodes ms

    all : joined g ms ≡ together
    all = ap (λ (n : ℕ). taking g (fresh_peer g n) ms) (here.wide i there)

pub ruleset histories = (sites-agree, sites-show, states-agree, own-counted, nothing-lost, merges-show)

-- ---- what updates brought

module _ (g : List Decl) (nodes : ℕ) (calls : List SiteCall) (sites : Sites) (all : List (List Delta)) (had : HaveBrought g nodes calls sites all) where
  abbrev world : Followed
  world = (mirrored-brought g nodes calls sites all had).0

  mirrors : Mirrors g nodes calls sites world
  mirrors = (mirrored-brought g nodes calls sites all had).1

  same-deltas : world.deltas ≡ all
  same-deltas = (mirrored-brought g nodes calls sites all had).2

  site-holds : (p : ℕ) → p < nodes → Holds g nodes all (replica_of g nodes sites p).contents (replica_of g nodes sites p).counts
  site-holds p low = subst (λ (ds : List (List Delta)). Holds g nodes ds (replica_of g nodes sites p).contents (replica_of g nodes sites p).counts) same-deltas
      (subst (λ (r : Peer). Holds g nodes world.deltas r.contents r.counts) (sym (mirrors.kept p low))
      (subst (λ (h : List Decl). Holds h nodes world.deltas (peer_at world.run.peers p).contents (peer_at world.run.peers p).counts) mirrors.graph (mirrors.sound.holds p low)))

  pub updates-made : (p : ℕ) → p < nodes → length (deltas_at all p) ≡ updates_by p calls
  updates-made p low = ap (λ (ds : List (List Delta)). length (deltas_at ds p)) (sym same-deltas) ∙ sym (mirrors.sound.own p low) ∙ mirrors.counted p low

  -- no site counts more updates of any than that one made
  pub counts-made : (p q : ℕ) → p < nodes → q < nodes → count_at (replica_of g nodes sites p).counts q ≤ updates_by q calls
  counts-made p q low there = omega (arith, (site-holds p low).made q, updates-made q there)

  pub updates-stand : (p q j x : ℕ) → p < nodes → x < length g → j < count_at (replica_of g nodes sites p).counts q → (delta_at all q j).var ≡ x
      → IsContentAtMost (delta_at all q j).content (content_at (replica_of g nodes sites p).contents x)
  updates-stand p q j x low there counted e =
      let holds = site-holds p low in
      subst (IsContentAtMost (delta_at all q j).content) (sym (holds.knows x there)) (known-above g nodes all (replica_of g nodes sites p).counts x q j counted (omega (arith, counted, holds.made q)) e)

  pub sites-know : (p : ℕ) → p < nodes → (replica_of g nodes sites p).contents ≡ known_contents g nodes all (replica_of g nodes sites p).counts
  sites-know p low = holds-contents g nodes all (replica_of g nodes sites p).contents (replica_of g nodes sites p).counts (site-holds p low)

  pub states-know : (i : ℕ) → (told_by g nodes (sent_number sites.written i)).contents ≡ known_contents g nodes all (told_by g nodes (sent_number sites.written i)).counts
  states-know i = holds-contents g nodes all (told_by g nodes m).contents (told_by g nodes m).counts (told-holds g nodes all m sources carries) where
    m : Message
    m = sent_number sites.written i

    sources : Each (IsOfSource g) all
    sources = subst (λ (ds : List (List Delta)). Each (IsOfSource g) ds) same-deltas (subst (λ (h : List Decl). Each (IsOfSource h) world.deltas) mirrors.graph mirrors.sound.sources)

    carries : Carries g nodes all m
    carries = subst (λ (ds : List (List Delta)). Carries g nodes ds m) same-deltas (subst (λ (ms : List Message). Carries g nodes world.deltas (sent_number ms i)) mirrors.sent
        (subst (λ (h : List Decl). Carries h nodes world.deltas (sent_number world.run.sent i)) mirrors.graph (mirrors.sound.carries i)))

pub ruleset standing = (calls-brought, updates-made, counts-made, updates-stand, sites-know, states-know)
