-- What a replica is before a delivery, and after one.
use Rattle.std.proofs.Common.{◌≡◌, ℕ, zero, suc, ◌≤◌, ◌<◌, ◌⊎◌, inl, inr, Bool, true, false, if◌then◌else◌, IsTrue, List, [], ◌∷◌, ◌++◌, length, map, Option, Some, None, refl, sym, ap, subst, ◌∙◌, arith}
use Rattle.std.specs.Arc.{arc_value}
use Rattle.std.proofs.lemmas.List.{map-append}
use Rattle.std.specs.Option.{option_map}
use Rattle.model_values.specs.Row.{Row}
use Rattle.model_states.specs.Counts.{larger}
use Rattle.model_states.specs.Content.{Content, least, size_of, row_limit, IsContentAtMost}
use Rattle.model_states.proofs.CountLaws.{length-larger}
use Rattle.model_graph.specs.Graph.{Decl, is_source, kind_at}
use Rattle.model_graph.specs.Evaluation.{first_large}
use Rattle.model_graph.specs.Limit.{AreWithinLimit}
use Rattle.model_graph.specs.Lawful.{shape_of}
use Rattle.model_graph.proofs.LimitLaws.{small-words}
use Rattle.model_graph.proofs.PlaceLaws.{below-or-not, at-map, at-past, map-length}
use Rattle.model_graph.specs.Message.{Message, brought, gained}
use Rattle.model_wire.specs.Lawful.{IsMessage}
use Rattle.model_world.specs.World.{delivered}
use Rattle.model_runs.specs.Held.{IsHeld, IsSentTo}
use Rattle.model_journal.specs.Entry.{Deliver, Entry, entry}
use Rattle.model_journal.specs.Journal.{graph, vals, sources_from}
use Rattle.model_journal.specs.Legal.{IsLegal}
use Rattle.model_journal.proofs.CleanLaws.{vals-length}
use Rattle.model_core.specs.Peer.{peer_of}
use Rattle.model_core.proofs.LegalLaws.{legal-deliver}
use Rattle.model_core.proofs.HeldLaws.{held-deliver}
use Rattle.model_core.proofs.MessageLaws.{sent-to}
use Rattle.model_core.proofs.PeerLaws.{graph-delivered}
use Rattle.model_core.proofs.SourceLaws.{sources-gained}
use Rattle.model_core.proofs.ValidLaws.{val-small}
use Rattle.lasp_replica.specs.History.{History, grown, AreBelow}
use Rattle.lasp_replica.specs.Kept.{Kept}
use Rattle.lasp_graph.specs.States.{Held, held_at}
use Rattle.lasp_replica.specs.Parts.{history_at, news_of, AreRowsOf, IsKept}
use Rattle.lasp_replica.specs.TakenIn.{AreRecorded, IsTakenIn}
use Rattle.lasp_replica.proofs.DeliveryLaws.{kept-delivered}
use Rattle.lasp_replica.proofs.OrderLaws.{message-in-order}
use Rattle.lasp_replica.proofs.PartLaws.{states-long, held-val}
use Rattle.lasp_replica.specs.declared.entry.Entry as written
use Rattle.lasp_replica.specs.declared.replica.Replica.{Replica}
use Rattle.lasp_replica.specs.declared.process.Process.{Process}
use Rattle.lasp_replica.specs.Entries.{entry_of}
use Rattle.lasp_replica.specs.Replica.{told, base_of, frame_of, entries_of, parts_of, jobs_of, IsReplica, IsSuited, Goes, IsBeginning, no_kept, kept_at}
use Rattle.lasp_graph.specs.States.{AreSourcesOfKind}
use Rattle.lasp_replica.specs.Delivery.{grows_at, recorded, AreSmall, IsReady, IsReadyFor, AreJoined, AreRecordable, AreRecordedTo}
use Rattle.lasp_replica.proofs.ReplicaLaws.{frame-same, replica-kept}
use Rattle.lasp_replica.proofs.SuitLaws.{suited-more}

-- ---- before a delivery

module _ (r : Replica) (is : IsReplica r) where
  pub long-before : length r.states ≡ length (arc_value r.graph)
  long-before = states-long (frame_of r) (entries_of r) is.legal (parts_of r) is.kept

  pub many-before : length r.histories.items ≡ length (arc_value r.graph)
  many-before = sym (map-length told r.histories.items) ∙ is.kept.histories_many

  pub small-before : AreSmall r.states
  small-before x low = subst (λ (c : Content). size_of c ≤ row_limit) (sym (held-val (frame_of r) (entries_of r) (parts_of r) is.kept x)) (val-small (frame_of r) (entries_of r) is.legal x)

  pub kinds-before : (nodes : ℕ) → nodes ≡ length r.counts → AreSourcesOfKind nodes (arc_value r.graph) r.states
  kinds-before nodes same x low source = is.kept.shapes x low ∙ ap (λ (n : ℕ). shape_of n (kind_at (arc_value r.graph) x)) (sym same)

  pub sent-before : (m : Message) → IsMessage m → IsBeginning m (arc_value r.graph) → IsSentTo (length m.counts) (arc_value r.graph) m
  sent-before m message begins = sent-to (length m.counts) (arc_value r.graph) m message refl begins

-- ---- histories

told-at : (histories : List Kept) (x : ℕ) → history_at (map told histories) x ≡ (kept_at histories x).history
told-at histories x = at-map told histories x no_kept

-- a variable that grows is one of those that were asked
grows-within : (grow : List Bool) (x : ℕ) → IsTrue (grows_at grow x) → x < length grow
grows-within grow x grows = choose (below-or-not x (length grow)) where
  choose : (x < length grow) ⊎ (length grow ≤ x) → x < length grow
  choose (inl low) = low
  choose (inr high) = absurd (let both : true ≡ false = sym grows ∙ at-past grow x false high in cc)

module _ (r : Replica) (is : IsReplica r) (m : Message) (states : List Held) (made : List Kept) (grow : List Bool) (same : map told made ≡ map told r.histories.items) (joined : AreJoined (arc_value r.graph) m r.states states made grow) where
  pub recordable : AreRecordable grow (length r.journal.items) made
  recordable x grows = (prepared (brought (arc_value r.graph) m x) (joined.ready x low), below) where
    low : x < length (arc_value r.graph)
    low = omega (arith, grows-within grow x grows, joined.many)

    prepared : (o : Option Content) → IsReadyFor (held_at r.states x) o (grows_at grow x) (kept_at made x) → IsTrue (kept_at made x).prepared
    prepared None still = absurd (let both : true ≡ false = sym grows ∙ still in cc)
    prepared (Some c) ready = ready.prepared grows

    below : AreBelow (length r.journal.items) (kept_at made x).history.growths
    below =
        subst (λ (n : ℕ). AreBelow n (kept_at made x).history.growths) (map-length _ r.journal.items)
        (subst (λ (h : History). AreBelow (length (entries_of r)) h.growths) (ap (λ (hs : List History). history_at hs x) (sym same) ∙ told-at made x) (is.kept.histories x low).below)

-- ---- after a delivery

-- derived places hold nothing, so they are not too large
small-from : (g : List Decl) (ss : List Content) → AreWithinLimit ss → AreWithinLimit (sources_from g ss)
small-from [] ss small x = omega arith
small-from (d ∷ g) [] small x = omega arith
small-from (d ∷ g) (s ∷ ss) small zero = choose (is_source d.kind) where
  choose : (b : Bool) → size_of (if b then s else least) ≤ row_limit
  choose true = small 0
  choose false = omega arith
small-from (d ∷ g) (s ∷ ss) small (suc x) = small-from g ss (λ y. small (suc y)) x

-- an entry was pushed
pub pushed : (old new : List written.Entry) (v : written.Entry) (e : Entry) → new ≡ old ++ v ∷ [] → entry_of v ≡ e → map entry_of new ≡ map entry_of old ++ e ∷ []
pushed old new v e is same = ap (λ (all : List written.Entry). map entry_of all) is ∙ map-append entry_of old (v ∷ []) ∙ ap (λ (x : Entry). map entry_of old ++ x ∷ []) same

module _ (old new : Replica) (is : IsReplica old) (by number : ℕ) (m : Message) (made : List Kept) (grow : List Bool) (message : IsMessage m) (wide : length m.counts ≡ length old.counts) (begins : IsBeginning m (arc_value old.graph))
    (same : map told made ≡ map told old.histories.items) (joined : AreJoined (arc_value old.graph) m old.states new.states made grow) (written_down : AreRecordedTo (length grow) grow (length old.journal.items) made new.histories.items)
    (opening : new.opening ≡ old.opening) (me : new.me ≡ old.me) (graphs : arc_value new.graph ≡ arc_value old.graph) (processes : new.processes.items ≡ old.processes.items) (counted : new.counts ≡ larger old.counts m.counts)
    (entries : entries_of new ≡ entries_of old ++ entry by (Deliver number m) ∷ []) (v : written.Entry) (items : new.journal.items ≡ old.journal.items ++ v ∷ []) (fits : IsSuited (length old.counts) (arc_value old.graph) v) where
  -- what stands in a history after it was recorded
  history-after : (x : ℕ) → x < length (arc_value old.graph) → history_at (map told new.histories.items) x ≡ recorded (grows_at grow x) (kept_at made x) (length (entries_of old))
  history-after x low =
      told-at new.histories.items x ∙ written_down.done x (omega (arith, low, joined.many)) ∙ ap (recorded (grows_at grow x) (kept_at made x)) (sym (map-length entry_of old.journal.items))

  history-before : (x : ℕ) → (kept_at made x).history ≡ history_at (map told old.histories.items) x
  history-before x = sym (told-at made x) ∙ ap (λ (hs : List History). history_at hs x) same

  histories : AreRecorded m (length (entries_of old)) (parts_of old) (map told new.histories.items)
  histories = record {
    many = long;
    still = λ x low covered. history-after x low ∙ unmoved x (grows_at grow x) (brought (arc_value old.graph) m x) covered (joined.ready x low) ∙ history-before x;
    grew = λ x low c brings more. moved x (grows_at grow x) c more (subst (λ (o : Option Content). IsReadyFor (held_at old.states x) o (grows_at grow x) (kept_at made x)) brings (joined.ready x low)) (history_at (map told new.histories.items) x) (history-after x low);
  } where
    long : length (map told new.histories.items) ≡ length (map told old.histories.items)
    long =
        let lists : length (map told made) ≡ length (map told old.histories.items) = ap (λ (hs : List History). length hs) same in
        omega (arith, lists, map-length told new.histories.items, map-length told made, written_down.many)

    unmoved : (x : ℕ) (b : Bool) (o : Option Content) → ((c : Content) → o ≡ Some c → IsContentAtMost c (held_at old.states x).content) → IsReadyFor (held_at old.states x) o b (kept_at made x)
        → recorded b (kept_at made x) (length (entries_of old)) ≡ (kept_at made x).history
    unmoved x false o covered ready = refl
    unmoved x true None covered ready = absurd (let both : true ≡ false = ready in cc)
    unmoved x true (Some c) covered ready = absurd (ready.grew refl (covered c refl))

    moved : (x : ℕ) (b : Bool) (c : Content) → (IsContentAtMost c (held_at old.states x).content → ⊥) → IsReady (held_at old.states x) c b (kept_at made x) → (h : History) → h ≡ recorded b (kept_at made x) (length (entries_of old))
        → (rows : List Row) × AreRowsOf (news_of (held_at old.states x).shape (held_at old.states x).content c) rows × (h ≡ grown (history_at (map told old.histories.items) x) rows (length (entries_of old)))
    moved x true c more ready h after = ((kept_at made x).pending, ready.pending refl, after ∙ ap (λ (t : History). grown t (kept_at made x).pending (length (entries_of old))) (history-before x))
    moved x false c more ready h after = absurd (more (ready.still refl))

  taken : IsTakenIn m (length (entries_of old)) (parts_of old) (parts_of new)
  taken = record {
    graph = graphs;
    bases = ap (λ (ps : List (Option Process)). map (option_map base_of) ps) processes;
    counts = counted;
    contents = joined.contents;
    shapes = λ x low. joined.shapes x;
    derived = λ y d. joined.derived y d.process;
    histories = histories;
  }

  kept-after : IsKept (frame_of old) (entries_of old ++ entry by (Deliver number m) ∷ []) (parts_of new)
  kept-after = kept-delivered (frame_of old) (entries_of old) is.legal (entry by (Deliver number m)) number m refl (parts_of old) (parts_of new) is.kept (message-in-order m (parts_of old) message) taken

  first : IsBeginning m (graph (frame_of old) (entries_of old))
  first = subst (IsBeginning m) is.kept.graph begins

  small : first_large 0 (delivered (graph (frame_of old) (entries_of old)) m (peer_of (frame_of old) (entries_of old))).contents ≡ None
  small =
      let all : first_large 0 (gained (brought (graph (frame_of old) (entries_of old)) m) 0 (vals (frame_of old) (entries_of old))) ≡ None = sym (λ i. first_large 0 (gained (brought (is.kept.graph i) m) 0 (is.kept.contents i))) ∙ joined.small in
      ap (first_large 0) (sym (sources-gained (graph (frame_of old) (entries_of old)) m (vals (frame_of old) (entries_of old)) (vals-length (frame_of old) (entries_of old) is.legal)))
      ∙ (small-words (sources_from (graph (frame_of old) (entries_of old)) (gained (brought (graph (frame_of old) (entries_of old)) m) 0 (vals (frame_of old) (entries_of old))))).1
      (small-from (graph (frame_of old) (entries_of old)) (gained (brought (graph (frame_of old) (entries_of old)) m) 0 (vals (frame_of old) (entries_of old)))
      ((small-words (gained (brought (graph (frame_of old) (entries_of old)) m) 0 (vals (frame_of old) (entries_of old)))).0 all))

  legal-after : IsLegal (frame_of old) (entries_of old ++ entry by (Deliver number m) ∷ [])
  legal-after = legal-deliver (frame_of old) (entries_of old) is.legal (entry by (Deliver number m)) number m refl message wide first small

  held-after : IsHeld (length old.counts) (arc_value new.graph) (peer_of (frame_of old) (entries_of old ++ entry by (Deliver number m) ∷ []))
  held-after =
      subst (λ (g : List Decl). IsHeld (length old.counts) g (peer_of (frame_of old) (entries_of old ++ entry by (Deliver number m) ∷ [])))
      (graph-delivered (frame_of old) (entries_of old) (entry by (Deliver number m)) number m refl ∙ sym is.kept.graph ∙ sym graphs)
      (held-deliver (frame_of old) (entries_of old) is.legal (subst (λ (g : List Decl). IsHeld (length old.counts) g (peer_of (frame_of old) (entries_of old))) is.kept.graph is.held) (entry by (Deliver number m)) number m refl message wide first small)

  long-after : length new.counts ≡ length old.counts
  long-after = (let counts : length new.counts ≡ length (larger old.counts m.counts) = ap (λ (cs : List ℕ). length cs) counted in omega (arith, counts, length-larger old.counts m.counts, wide))

  same-frame : frame_of new ≡ frame_of old
  same-frame = frame-same old new opening me long-after graphs

  pub goes : Goes (entry by (Deliver number m)) old new
  goes = record {
    sound = replica-kept (frame_of old) (entries_of old ++ entry by (Deliver number m) ∷ []) new same-frame entries kept-after legal-after held-after
        (omega (arith, opening, is.opened, ap (λ (g : List Decl). length g) graphs)) (omega (arith, is.few, long-after))
        (suited-more old new v long-after graphs items is.suited fits);
    frame = same-frame;
    entries = entries;
    busy = ap (λ (ps : List (Option Process)). map jobs_of ps) processes;
  }
