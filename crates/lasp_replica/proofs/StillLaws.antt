-- What an update leaves that brings nothing to its source.
use Rattle.std.proofs.Common.{ℕ, pos, ◌≡◌, ◌+◌, ◌<◌, ◌≤◌, nat_lt, Bool, true, false, if◌then◌else◌, IsTrue, List, ◌∷◌, [], ◌++◌, length, map, slice_set, Option, refl, sym, ap, subst, ◌∙◌, arith}
use Rattle.std.proofs.lemmas.Bool.Decides.{nat_tests}
use Rattle.std.proofs.lemmas.List.{set-get_or}
use Rattle.std.specs.Option.{option_map}
use Rattle.std.specs.Arc.{arc_value}
use Rattle.model_states.specs.Counts.{count_at}
use Rattle.model_states.specs.Content.{Content, least, join_contents, size_of, row_limit, is_content_at_most}
use Rattle.model_states.specs.Threshold.{Shape, is_shape, set}
use Rattle.model_states.specs.Update as plain
use Rattle.model_states.proofs.ContentLaws.{join-idempotent, at_most-itself}
use Rattle.model_graph.specs.Graph.{Decl, kind_at}
use Rattle.model_graph.specs.Evaluation.{content_at}
use Rattle.model_graph.specs.Lawful.{shape_of}
use Rattle.model_graph.proofs.PlaceLaws.{at-map, set-length}
use Rattle.model_runs.specs.Held.{IsHeld, IsUpdate}
use Rattle.model_core.specs.Peer.{peer_of}
use Rattle.model_core.specs.Known.{BringsNothing}
use Rattle.model_core.proofs.LegalLaws.{legal-update}
use Rattle.model_core.proofs.HeldLaws.{held-update}
use Rattle.model_core.proofs.PeerLaws.{graph-updated}
use Rattle.model_core.proofs.ValidLaws.{val-small, val-ordered}
use Rattle.model_journal.specs.Entry as model
use Rattle.model_journal.specs.Entry.{Frame}
use Rattle.model_journal.specs.Journal as journal
use Rattle.model_journal.specs.Journal.{val}
use Rattle.model_journal.specs.Legal.{IsLegal}
use Rattle.lasp_state.specs.declared.op.Op.{Op}
use Rattle.lasp_state.specs.State.{op_of}
use Rattle.lasp_graph.specs.States.{Held, held_at, contents_of, grown}
use Rattle.lasp_replica.specs.Parts.{Parts, IsKept}
use Rattle.lasp_replica.specs.Replica.{frame_of, entries_of, parts_of, told, base_of, jobs_of, IsReplica, IsSmall, Goes, shape_for, update_check, update_refusal, or_too_many}
use Rattle.lasp_replica.specs.Update.{IsInFormat}
use Rattle.lasp_replica.specs.declared.process.Process.{Process}
use Rattle.lasp_replica.specs.declared.replica.Replica.{Replica}
use Rattle.lasp_replica.proofs.ReplicaLaws.{frame-same, replica-kept}
use Rattle.lasp_replica.proofs.SuitLaws.{suited-more}
use Rattle.lasp_replica.proofs.PartLaws.{held-val}
use Rattle.lasp_replica.proofs.OneLaws.{kept-updated-still}
use Rattle.lasp_replica.proofs.UpdateLaws.{IsChecked, is-update, update_entry}

module _ (old : Replica) (x : ℕ) (o : Op) (is : IsReplica old) (known : BringsNothing (content_at (contents_of old.states) x) old.counts old.me (op_of o)) where
  abbrev X : Frame
  X = frame_of old

  abbrev h : List model.Entry
  h = entries_of old

  abbrev d : Held
  d = held_at old.states x

  -- what the variable holds
  held : content_at (contents_of old.states) x ≡ d.content
  held = at-map (λ (s : Held). s.content) old.states x (record { shape = set; content = least; number = pos 0 })

  value : d.content ≡ val X h x
  value = held-val X h (parts_of old) is.kept x

  -- it stays that
  stays : join_contents (val X h x) (plain.delta (op_of o) (val X h x) old.me (count_at (journal.counts X h) old.me + 1)) ≡ val X h x
  stays = subst (λ (c : Content). join_contents c (plain.delta (op_of o) c old.me (count_at (journal.counts X h) old.me + 1)) ≡ c) (held ∙ value)
      (subst (λ (cs : List ℕ). BringsNothing (content_at (contents_of old.states) x) cs old.me (op_of o)) is.kept.counts known)

  small : size_of (join_contents (val X h x) (plain.delta (op_of o) (val X h x) old.me (count_at (journal.counts X h) old.me + 1))) ≤ row_limit
  small = subst (λ (c : Content). size_of c ≤ row_limit) (sym stays) (val-small X h is.legal x)

  -- and so the update isn't refused for its rows
  pub refusal-known : update_refusal (length old.counts) old.me (arc_value old.graph) (contents_of old.states) old.counts x o ≡ or_too_many (update_check (length old.counts) old.me (arc_value old.graph) old.counts x o) false
  refusal-known =
      ap (λ (c : Content). or_too_many (update_check (length old.counts) old.me (arc_value old.graph) old.counts x o) (nat_lt row_limit (size_of c))) (known ∙ held ∙ value)
      ∙ ap (λ (b : Bool). or_too_many (update_check (length old.counts) old.me (arc_value old.graph) old.counts x o) b) (few (size_of (val X h x)) (val-small X h is.legal x)) where
        few : (n : ℕ) → n ≤ row_limit → nat_lt row_limit n ≡ false
        few n most = grind (arith, nat_tests, most)

  brought : join_contents (val X h x) d.content ≡ join_contents (val X h x) (plain.delta (op_of o) (val X h x) old.me (count_at (journal.counts X h) old.me + 1))
  brought = ap (join_contents (val X h x)) value ∙ join-idempotent (val X h x) (val-ordered X h is.legal x) ∙ sym stays

  -- a state joined with itself
  same : grown d d ≡ d
  same = λ i. record { shape = d.shape; content = (subst (λ (c : Content). join_contents c c ≡ c) (sym value) (join-idempotent (val X h x) (val-ordered X h is.legal x))) i; number = own (is_content_at_most d.content d.content) i } where
    own : (b : Bool) → (if b then d.number else d.number) ≡ d.number
    own true = refl
    own false = refl

  -- the replica after it
  pub updated-known : (new : Replica) (by : ℕ) → IsSmall (length old.counts) o → IsInFormat o → IsChecked old x o
      → arc_value new.graph ≡ arc_value old.graph → new.opening ≡ old.opening → new.me ≡ old.me → new.counts ≡ slice_set old.counts old.me (count_at old.counts old.me + 1) → new.states ≡ old.states
      → map told new.histories.items ≡ map told old.histories.items → new.processes.items ≡ old.processes.items
      → entries_of new ≡ entries_of old ++ model.entry by (model.Update x (op_of o)) ∷ [] → (kept_op : Op) → new.journal.items ≡ old.journal.items ++ update_entry by x kept_op ∷ [] → shape_for (length old.counts) kept_op ≡ shape_for (length old.counts) o
      → Goes (model.entry by (model.Update x (op_of o))) old new
  updated-known new by within format c graph opening me counts states histories processes entries kept_op items shape = record {
    sound = replica-kept X h' new frame entries kept' legal' held' (omega (arith, is.opened, opening, longs)) (omega (arith, is.few, wide))
        (suited-more old new (update_entry by x kept_op) wide graph items is.suited
        (record { declared = c.declared; suits = subst (λ (s : Shape). IsTrue (is_shape s (shape_of (length old.counts) (kind_at (arc_value old.graph) x)))) (sym shape) c.suits }));
    frame = frame;
    entries = entries;
    busy = ap (λ (ps : List (Option Process)). map jobs_of ps) processes;
  } where
    e : model.Entry
    e = model.entry by (model.Update x (op_of o))

    h' : List model.Entry
    h' = h ++ e ∷ []

    longs : length (arc_value new.graph) ≡ length (arc_value old.graph)
    longs = ap (λ (g : List Decl). length g) graph

    wide : length new.counts ≡ length old.counts
    wide = ap (λ (cs : List ℕ). length cs) counts ∙ set-length old.counts old.me (count_at old.counts old.me + 1)

    frame : frame_of new ≡ frame_of old
    frame = frame-same old new opening me wide graph

    low : x < length (journal.graph X h)
    low = subst (λ (g : List Decl). x < length g) is.kept.graph c.declared

    update-is : IsUpdate X.nodes (journal.graph X h) x (op_of o)
    update-is = subst (λ (g : List Decl). IsUpdate X.nodes g x (op_of o)) is.kept.graph (is-update X.nodes (arc_value old.graph) x o within format c.source c.suits)

    few : count_at (journal.counts X h) old.me < 100000
    few = subst (λ (cs : List ℕ). count_at cs old.me < 100000) is.kept.counts c.few

    legal' : IsLegal X h'
    legal' = legal-update X h is.legal e x (op_of o) refl low update-is few small

    held-before : IsHeld X.nodes (journal.graph X h) (peer_of X h)
    held-before = subst (λ (g : List Decl). IsHeld X.nodes g (peer_of X h)) is.kept.graph is.held

    held' : IsHeld X.nodes (arc_value new.graph) (peer_of X h')
    held' = subst (λ (g : List Decl). IsHeld X.nodes g (peer_of X h')) (graph-updated X h e x (op_of o) refl ∙ sym is.kept.graph ∙ sym graph) (held-update X h is.legal held-before e x (op_of o) refl low update-is few small)

    states' : slice_set old.states x (grown d d) ≡ new.states
    states' = ap (slice_set old.states x) same ∙ set-get_or old.states x (record { shape = set; content = least; number = pos 0 }) ∙ sym states

    after : Parts
    after = record {
      graph = arc_value old.graph;
      counts = slice_set old.counts old.me (count_at old.counts old.me + 1);
      states = slice_set old.states x (grown d d);
      histories = map told old.histories.items;
      bases = map (option_map base_of) old.processes.items;
    }

    parts : after ≡ parts_of new
    parts = λ i. record {
      graph = sym graph i;
      counts = sym counts i;
      states = states' i;
      histories = sym histories i;
      bases = map (option_map base_of) (sym processes i);
    }

    kept' : IsKept X h' (parts_of new)
    kept' = subst (λ (p : Parts). IsKept X h' p) parts (kept-updated-still X h is.legal e x (op_of o) refl (parts_of old) is.kept c.declared c.source d brought (at_most-itself d.content))
