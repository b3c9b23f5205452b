-- What each act leaves: a driver that stands where the world has come to.
use Rattle.std.proofs.Common.{refl, sym, ap, subst, ◌∙◌, arith}
use Rattle.std.specs.Prelude.{◌≡◌, ℕ, ◌+◌, ◌<◌, ◌≤◌, List, [], ◌∷◌, ◌++◌, map, length, slice_get, slice_set, slice_index_or, replicate, Option, Some, None, IfSome, Ok, Err, nat_lt, Bool, true, false, if◌then◌else◌, IsTrue, OnOk, Result}
use Rattle.std.specs.List.{AllByRecursion, Contains}
use Rattle.std.proofs.lemmas.List.{length-set, length-map, map-append, get_or-set_same}
use Rattle.std.proofs.lemmas.Option.{slice_get_within, get_or_from_slice_get}
use Rattle.model_functions.specs.Library.{Library}
use Rattle.model_readings.specs.Lawful.{FitsAll}
use Rattle.model_states.specs.Content.{Content, size_of, row_limit, is_content_at_most}
use Rattle.model_states.specs.Threshold.{Shape, Threshold, fold, suits, meets}
use Rattle.model_states.specs.Update.{Op, Join}
use Rattle.model_graph.specs.Graph.{Decl, is_source, kind_at, name_at, no_decl}
use Rattle.model_graph.specs.Lawful.{shape_of}
use Rattle.model_graph.specs.Chain.{◌>>=◌}
use Rattle.model_graph.specs.Evaluation.{content_at, first_large}
use Rattle.model_graph.specs.Message.{Message}
use Rattle.model_graph.proofs.LeastLaws.{no-fold}
use Rattle.model_world.specs.Command.{Until}
use Rattle.model_world.specs.Command as plain
use Rattle.model_world.specs.Lawful.{Stage, opening_stage, IsPlace, MayAsk, MayBeDone}
use Rattle.std.specs.Fmt.{decimal}
use Rattle.model_world.specs.Line.{line, shown_content}
use Rattle.model_world.specs.World as world
use Rattle.model_world.specs.World.{Peer, Run, Marked, Opened, peer_at, mark_at, fresh_peer, start, network_limit, Update, Keep, Post, Take, Point, Show, Open, Reach, Extend, Act, act, each, with_peer, checked_update, updated, delivered, extended, sent_number, message_at, shown_at, shown_content_at, with_read, point_from}
use Rattle.model_world.specs.declared.stop.Stop.{Stop}
use Rattle.model_world.specs.declared.stop.Stop.TheVariants.{NotReached, TooLarge}
use Rattle.model_journal.specs.Entry as model
use Rattle.model_journal.specs.Entry.{Entry}
use Rattle.model_core.specs.Core.{Read}
use Rattle.model_runs.specs.Sound.{IsSound, IsOpened, no_read}
use Rattle.model_runs.specs.Held.{IsSentTo, IsUpdate}
use Rattle.model_wire.specs.Lawful.{IsSource}
use Rattle.model_core.specs.Known.{BringsNothing}
use Rattle.model_runs.proofs.SourceLaws.{source-kind, update-source}
use Rattle.model_runs.specs.Calls.{fed, call_of}
use Rattle.model_runs.proofs.SoundLaws.{sound-start, sound-update, sound-take, sound-post, sound-keep, sound-show, sound-open, sound-extend, sound-later, sound-suits}
use Rattle.std.specs.Arc.{arc_value}
use Rattle.lasp_state.specs.State.{IsOpOf, op_of, content_of}
use Rattle.lasp_state.specs.declared.op.Op as rust
use Rattle.lasp_drive.specs.Node.{NodeView, IsNode, IsStill, ShowsNoMore, IsIdleUpdate, AreNodes, AreSettled, Grew, LearnsAnd, OnlyLearns, Sends, IsTailOf, MayUpdate, MayRead, AreFresh}
use Rattle.lasp_drive.specs.Nodes.{peers_of, MaySettle, AllLearn, AllSettled, SettlesAll, AllExtend}
use Rattle.lasp_drive.specs.Reads.{IsNextRead, opens_next, looks_once}
use Rattle.lasp_drive.specs.Waiting.{AreWaiting, opened_count, GoOnByReads}
use Rattle.lasp_drive.specs.Calls.{GoOnByCalls}
use Rattle.lasp_drive.specs.Marks.{marked_of, HoldsMark, HoldsMarkAt, HoldMarks, AllGrow, IsNoted}
use Rattle.lasp_drive.specs.Tails.{AreTailed}
use Rattle.lasp_drive.specs.declared.node.Tail.{Tail}
use Rattle.lasp_drive.specs.Driver.{DriverView, opened_of, run_of, stage_of, IsRunKnown, Stands, Starts}
use Rattle.lasp_drive.specs.Acts.{MayDo, Acted, ActsSeen}
use Rattle.lasp_script.specs.Command.{until_of}
use Rattle.lasp_script.specs.declared.command.Until as rust_until
use Rattle.lasp_script.specs.declared.command.Until.TheVariants as rust_variants
use Rattle.lasp_drive.specs.Play.{IsUntilWithin}
use Rattle.lasp_drive.specs.Report.{AreOpened}
use Rattle.lasp_drive.specs.declared.halt.Halt.{Halt}
use Rattle.lasp_drive.specs.declared.driver.Mark.{Mark}
use Rattle.lasp_drive.specs.declared.driver.OpenRead.{OpenRead}
use Rattle.lasp_drive.proofs.NodeLaws.{mapped-or, same-set, nodes-set, node-stays, learned-grew, peer-here, held-here, update-here, suits-here, room-here, var-here, suited-here, update-done, deliver-done, sent-here, with_peers}
use Rattle.lasp_drive.proofs.WaitLaws.{all-later, all-released, all-called, all-looked, all-opened, all-fresh, opened-kept, opened-one}
use Rattle.lasp_drive.proofs.CallLaws.{calls-stay, calls-set, updated-there, updated-elsewhere, taken-there, taken-elsewhere, calls-each, counts-stay, one-opened}
use Rattle.lasp_drive.proofs.ActLaws.{acted-one, acted-then, stops-still}
use Rattle.lasp_drive.proofs.MarkLaws.{grow-set, show-set, mark-var, marks-shown, marks-grow, kept-held, marks-more, mark-held, idle-source, joined-held}
use Rattle.lasp_drive.proofs.TailLaws.{tailed-start, tailed-grow, tailed-post, tailed-extend, short-sent}
use Rattle.lasp_drive.proofs.KnownLaws.{known-start, known-update, known-keep, known-post, known-take, known-show, known-open, known-extend}

-- the driver with these nodes
abbrev pub with_nodes : DriverView → List NodeView → DriverView
with_nodes d nodes = record { graph = d.graph; nodes = nodes; sent = d.sent; limit = d.limit; tails = d.tails; marks = d.marks; reads = d.reads; text = d.text }

-- as many nodes of the same run, whose world is sound
stands-with : (c next : ℕ) (d : DriverView) (nodes : List NodeView) → Stands c d → length nodes ≡ length d.nodes → AreNodes d.graph (length d.nodes) nodes → IsSound (length d.nodes) next (stage_of d) (with_peers (run_of d) (peers_of nodes))
    → IsRunKnown (length d.nodes) (with_peers (run_of d) (peers_of nodes)) → AreWaiting next nodes d.reads → AllGrow d.nodes nodes → Stands next (with_nodes d nodes)
stands-with c next d nodes ready size each sound known waiting grow = record {
  some = omega (arith, ready.some, size);
  few = omega (arith, ready.few, size);
  nodes = subst (λ (many : ℕ). AreNodes d.graph many nodes) (sym size) each;
  limit = ready.limit;
  sound = subst (λ (many : ℕ). IsSound many next (stage_of d) (with_peers (run_of d) (peers_of nodes))) (sym size) sound;
  known = subst (λ (many : ℕ). IsRunKnown many (with_peers (run_of d) (peers_of nodes))) (sym size) known;
  waiting = waiting;
  marked = marks-grow d.nodes nodes d.marks grow ready.marked;
  tailed = tailed-grow d.graph d.nodes nodes d.sent d.tails grow ready.tailed;
}

-- no read was opened
none-opened : (nodes : List NodeView) (p : ℕ) (n new : NodeView) → slice_get nodes p ≡ Some n → Grew n new → GoOnByReads nodes (slice_set nodes p new) (λ q. 0)
none-opened nodes p n new at grew = counts-stay nodes (slice_set nodes p new) (same-set opened_count nodes p n new at (opened-kept new.shown n.reads new.reads grew.released))

none-called : (nodes : List NodeView) (p : ℕ) (n new : NodeView) → slice_get nodes p ≡ Some n → new.calls ≡ n.calls → GoOnByCalls nodes (slice_set nodes p new) (λ q. [])
none-called nodes p n new at same = calls-stay nodes (slice_set nodes p new) (same-set (λ (n : NodeView). n.calls) nodes p n new at same)

-- ---- a node that was asked

-- it learned
pub acted-learns : (c p : ℕ) (d : DriverView) (n new : NodeView) → Stands c d → slice_get d.nodes p ≡ Some n → OnlyLearns n new → Acted c c d [] (with_nodes d (slice_set d.nodes p new))
acted-learns c p d n new ready at learned =
    let nodes = slice_set d.nodes p new in
    let grew = learned-grew n new learned in
    let peers : peers_of nodes ≡ peers_of d.nodes = same-set (λ (n : NodeView). n.peer) d.nodes p n new at learned.learns.peer in
    let same : run_of d ≡ with_peers (run_of d) (peers_of nodes) = ap (with_peers (run_of d)) (sym peers) in
    record {
      ready = stands-with c c d nodes ready (length-set d.nodes p new) (nodes-set d.graph (length d.nodes) d.nodes p new ready.nodes (node-stays d.graph (length d.nodes) p n new (ready.nodes p n at) learned.learns.still))
          (subst (λ (run : Run). IsSound (length d.nodes) c (stage_of d) run) same ready.sound) (subst (IsRunKnown (length d.nodes)) same ready.known) (all-called c p d.nodes d.reads n new at grew ready.waiting) (grow-set d.nodes p n new at grew.more grew.sent);
      size = length-set d.nodes p new;
      stage = refl;
      run = ap (λ (run : Run). Ok run) same;
      calls = none-called d.nodes p n new at learned.learns.calls;
      opened = none-opened d.nodes p n new at grew;
    }

-- it learned beside an act that was done
pub acted-asked : (c p : ℕ) (d e : DriverView) (n new : NodeView) (a : Act) → slice_get e.nodes p ≡ Some n → OnlyLearns n new → Acted c c d (a ∷ []) e → Acted c c d (a ∷ []) (with_nodes e (slice_set e.nodes p new))
acted-asked c p d e n new a at learned done = acted-then c c c d e (with_nodes e (slice_set e.nodes p new)) (a ∷ []) [] done (acted-learns c p e n new done.ready at learned)

-- every node learned at most
pub stands-asked : (c : ℕ) (d : DriverView) (nodes : List NodeView) → Stands c d → AllLearn d.nodes nodes → Stands c (with_nodes d nodes)
stands-asked c d nodes ready learn =
    let same : run_of d ≡ with_peers (run_of d) (peers_of nodes) = ap (with_peers (run_of d)) (sym learn.peers) in
    stands-with c c d nodes ready learn.size (λ p n at. let was = learn.still p n at in node-stays d.graph (length d.nodes) p was.0 n (ready.nodes p was.0 was.1) was.2) (subst (λ (run : Run). IsSound (length d.nodes) c (stage_of d) run) same ready.sound) (subst (IsRunKnown (length d.nodes)) same ready.known) (learn.reads.waiting c d.reads ready.waiting) learn.reads.grow

-- ---- updates

-- a node may be updated as its world may
pub may-update : (c p x : ℕ) (op : rust.Op) (d : DriverView) (n : NodeView) → Stands c d → MayDo c d (Update p x (op_of op)) → IsOpOf op p (shape_of (length d.nodes) (kind_at d.graph x)) → slice_get d.nodes p ≡ Some n → MayUpdate n x op
may-update c p x op d n ready may suits at =
    let here : IsNode d.graph (length d.nodes) p n = ready.nodes p n at in
    let held = ready.sound.held p may.0.0 in
    record {
      held = held-here d.graph (length d.nodes) d.nodes p n here at held;
      member = omega (arith, here.replica, here.nodes, may.0.0);
      var = var-here d.graph x n here.graph may.0.1;
      may = update-here d.graph (length d.nodes) p x n (op_of op) here may.1;
      suits_it = suits-here d.graph (length d.nodes) p x n op here suits;
      room = room-here d.graph (length d.nodes) c d.nodes p n here at may.0.0 held.wide (ready.sound.below p may.0.0) may.2;
    }

pub acted-update : (c p x : ℕ) (op : Op) (d : DriverView) (n new : NodeView) → Stands c d → MayDo c d (Update p x op) → slice_get d.nodes p ≡ Some n → IsStill n new → new.peer ≡ updated n.number x op n.peer → size_of (content_at (updated n.number x op n.peer).contents x) ≤ row_limit
    → new.calls ≡ n.calls ++ fed (model.Update x op) ∷ [] → Grew n new → Acted c (c + 1) d (Update p x op ∷ []) (with_nodes d (slice_set d.nodes p new))
acted-update c p x op d n new ready may at still is small calls grew =
    let here : IsNode d.graph (length d.nodes) p n = ready.nodes p n at in
    let done = update-done (run_of d) d.nodes c p x op n new refl here.replica at is small in
    acted-one c (c + 1) d (with_nodes d (slice_set d.nodes p new)) (Update p x op)
    (stands-with c (c + 1) d (slice_set d.nodes p new) ready (length-set d.nodes p new) (nodes-set d.graph (length d.nodes) d.nodes p new ready.nodes (node-stays d.graph (length d.nodes) p n new here still))
    (sound-update (length d.nodes) c p x (stage_of d) op (run_of d) (with_peers (run_of d) (peers_of (slice_set d.nodes p new))) ready.sound may.2 may.0.0 may.0.1 may.1 done)
    (known-update (length d.nodes) c (run_of d) (with_peers (run_of d) (peers_of (slice_set d.nodes p new))) ready.known p x op may.0.0 may.0.1 may.1 done)
    (all-later-called c d p n new at grew ready.waiting) (grow-set d.nodes p n new at grew.more grew.sent))
    (length-set d.nodes p new) refl done
    (calls-set d.nodes p n new (λ q. call_of (run_of d) q (Update p x op)) at (calls ∙ ap (λ (h : List Entry). n.calls ++ h) (sym (updated-there (run_of d) p x op))) (updated-elsewhere (run_of d) p x op))
    (none-opened d.nodes p n new at grew)
  where
    all-later-called : (c : ℕ) (d : DriverView) (p : ℕ) (n new : NodeView) → slice_get d.nodes p ≡ Some n → Grew n new → AreWaiting c d.nodes d.reads → AreWaiting (c + 1) (slice_set d.nodes p new) d.reads
    all-later-called c d p n new at grew waiting = all-later c (slice_set d.nodes p new) d.reads (all-called c p d.nodes d.reads n new at grew waiting)

-- there is one node at a place
pub same-node : (nodes : List NodeView) (p : ℕ) (n m : NodeView) → slice_get nodes p ≡ Some n → slice_get nodes p ≡ Some m → n ≡ m
same-node nodes p n m here there = sym (get_or_from_slice_get nodes p n n here) ∙ get_or_from_slice_get nodes p m n there

-- what a mark keeps may be joined into its variable
pub mark-suits : (c p x k : ℕ) (d : DriverView) (m : Mark) → Stands c d → MayBeDone (length d.nodes) (stage_of d) (plain.Bind p x k) → slice_get d.marks k ≡ Some m → ((marked_of m).shape ≡ shape_of (length d.nodes) (kind_at d.graph x)) × (shape_of (length d.nodes) (kind_at d.graph x) ≡ fold → ⊥)
mark-suits c p x k d m ready may there = (shape, no-fold (length d.nodes) (kind_at d.graph x) may.1) where
  shape : (marked_of m).shape ≡ shape_of (length d.nodes) (kind_at d.graph x)
  shape =
      sym (ap (λ (w : Marked). w.shape) (mapped-or marked_of d.marks k m world.no_mark there))
      ∙ (ready.sound.marks k (omega (arith, may.2.0, length-map d.marks (λ (m : Mark). m.var), length-map d.marks marked_of))).shape
      ∙ ap (λ (y : ℕ). shape_of (length d.nodes) (kind_at d.graph y)) may.2.1

-- a bind may be done as an update
pub mark-may : (c p x k : ℕ) (d : DriverView) (op : Op) → Stands c d → MayBeDone (length d.nodes) (stage_of d) (plain.Bind p x k) → c ≤ 100000 → op ≡ Join (mark_at (map marked_of d.marks) k).content → MayDo c d (Update p x op)
mark-may c p x k d op ready may few joins = (
  may.0,
  subst (λ (o : Op). IsUpdate (length d.nodes) d.graph x o) (sym joins)
      (subst (λ (y : ℕ). IsSource (length d.nodes) (kind_at d.graph y) (mark_at (map marked_of d.marks) k).content) may.2.1
      (ready.sound.marks k (omega (arith, may.2.0, length-map d.marks (λ (m : Mark). m.var), length-map d.marks marked_of))).source),
  few,
)

-- a mark that a node is told to hold brings it nothing
pub mark-idle : (c p x k : ℕ) (d : DriverView) (n : NodeView) (m : Mark) (op : rust.Op) → Stands c d → MayDo c d (Update p x (op_of op)) → ShowsNoMore n → slice_get d.nodes p ≡ Some n → slice_get d.marks k ≡ Some m → m.var ≡ x → Contains m.known.items p
    → op_of op ≡ Join (content_of (arc_value m.state)) → IsIdleUpdate n x op
mark-idle c p x k d n m op ready may shows at there var known joins =
    subst (λ (o : Op). BringsNothing now n.peer.counts n.number o) (sym joins) (idle-source (length d.nodes) (kind_at d.graph x) now kept source other most)
  where
    kept : Content
    kept = content_of (arc_value m.state)

    now : Content
    now = content_at n.peer.contents x

    here : IsNode d.graph (length d.nodes) p n
    here = ready.nodes p n at

    other : IsSource (length d.nodes) (kind_at d.graph x) kept
    other = subst (λ (o : Op). IsUpdate (length d.nodes) d.graph x o) joins may.1

    of_source : IsTrue (is_source (kind_at d.graph x))
    of_source = source-kind (length d.nodes) (kind_at d.graph x) kept other

    source : IsSource (length d.nodes) (kind_at d.graph x) now
    source = subst (λ (r : Peer). IsSource (length d.nodes) (kind_at d.graph x) (content_at r.contents x)) (peer-here d.nodes p n at) ((ready.sound.held p may.0.0).sources x may.0.1 of_source)

    most : IsTrue (is_content_at_most kept now)
    most = subst (λ (t : Content). IsTrue (is_content_at_most kept t)) (shows.sources x (var-here d.graph x n here.graph may.0.1) (subst (λ (g : List Decl). IsTrue (is_source (kind_at g x))) (sym here.graph) of_source))
        (subst (λ (y : ℕ). IsTrue (is_content_at_most kept (content_at n.shown y))) var (mark-held d.nodes d.marks k p m n ready.marked there known at))

-- what an update leaves of a run
updated-run : (c p x : ℕ) (run next : Run) (r : Peer) → (checked_update c p x run r >>= (λ n. each c n [])) ≡ Ok next → with_peer run p r ≡ next
updated-run c p x run next r = choose (nat_lt row_limit (size_of (content_at r.contents x))) where
  choose : (b : Bool) → ((if b then Err (TooLarge c p x) else Ok (with_peer run p r)) >>= (λ n. each c n [])) ≡ Ok next → with_peer run p r ≡ next
  choose true e = absurd cc
  choose false e = let both : Ok (with_peer run p r) ≡ Ok next = e in cc

-- a node into which a mark was joined holds it
pub bound-held : (c p x : ℕ) (d e : DriverView) (n : NodeView) (m : Mark) (op : rust.Op) → Stands c d → MayDo c d (Update p x (op_of op)) → Acted c (c + 1) d (Update p x (op_of op) ∷ []) e → ShowsNoMore n → slice_get e.nodes p ≡ Some n → m.var ≡ x
    → op_of op ≡ Join (content_of (arc_value m.state)) → HoldsMarkAt e.nodes m p
bound-held c p x d e n m op ready may done shows at var joins k there =
    subst (λ (l : NodeView). HoldsMark l m) (same-node e.nodes p n k at there)
    (subst (λ (y : ℕ). IsTrue (is_content_at_most kept (content_at n.shown y))) (sym var) (subst (λ (t : Content). IsTrue (is_content_at_most kept t)) (sym (shows.sources x low of_source)) most))
  where
    kept : Content
    kept = content_of (arc_value m.state)

    before : Peer
    before = peer_at (peers_of d.nodes) p

    run : with_peer (run_of d) p (updated p x (op_of op) before) ≡ run_of e
    run = updated-run c p x (run_of d) (run_of e) (updated p x (op_of op) before) done.run

    graph : n.decls ≡ d.graph
    graph = (done.ready.nodes p n at).graph ∙ sym (ap (λ (r : Run). r.graph) run)

    low : x < length n.decls
    low = var-here d.graph x n graph may.0.1

    of_source : IsTrue (is_source (kind_at n.decls x))
    of_source = subst (λ (g : List Decl). IsTrue (is_source (kind_at g x))) (sym graph) (update-source (length d.nodes) d.graph x (op_of op) may.1)

    peer : n.peer ≡ updated p x (Join kept) before
    peer = sym (peer-here e.nodes p n at) ∙ sym (ap (λ (r : Run). peer_at r.peers p) run)
        ∙ get_or-set_same (peers_of d.nodes) p (updated p x (op_of op) before) _ (omega (arith, may.0.0, length-map d.nodes (λ (n : NodeView). n.peer)))
        ∙ ap (λ (o : Op). updated p x o before) joins

    most : IsTrue (is_content_at_most kept (content_at n.peer.contents x))
    most = subst (λ (r : Peer). IsTrue (is_content_at_most kept (content_at r.contents x))) (sym peer) (joined-held p x kept before (omega (arith, may.0.1, (ready.sound.held p may.0.0).long)))

-- ---- messages

pub may-take : (c p i : ℕ) (d : DriverView) (n : NodeView) (m : Message) → Stands c d → MayDo c d (Take p i) → slice_get d.nodes p ≡ Some n → m ≡ sent_number d.sent i → IsSentTo n.among n.decls m
may-take c p i d n m ready may at is =
    sent-here d.graph (length d.nodes) p n m (ready.nodes p n at) (subst (λ (k : Message). IsSentTo (length d.nodes) d.graph k) (sym is) (ready.sound.sent i may.1))

pub acted-take : (c p i : ℕ) (d : DriverView) (n new : NodeView) (m : Message) → Stands c d → MayDo c d (Take p i) → slice_get d.nodes p ≡ Some n → m ≡ sent_number d.sent i → IsStill n new → new.peer ≡ delivered n.decls m n.peer → first_large 0 (delivered n.decls m n.peer).contents ≡ None
    → new.calls ≡ n.calls ++ fed (model.Deliver i m) ∷ [] → Grew n new → Acted c c d (Take p i ∷ []) (with_nodes d (slice_set d.nodes p new))
acted-take c p i d n new m ready may at same still is small calls grew =
    let here : IsNode d.graph (length d.nodes) p n = ready.nodes p n at in
    let done = deliver-done (run_of d) m (sent_number d.sent i) d.nodes c p n new refl here.graph same at is small in
    acted-one c c d (with_nodes d (slice_set d.nodes p new)) (Take p i)
    (stands-with c c d (slice_set d.nodes p new) ready (length-set d.nodes p new) (nodes-set d.graph (length d.nodes) d.nodes p new ready.nodes (node-stays d.graph (length d.nodes) p n new here still))
    (sound-take (length d.nodes) c p i (stage_of d) (run_of d) (with_peers (run_of d) (peers_of (slice_set d.nodes p new))) ready.sound may.0 may.1 done)
    (known-take (length d.nodes) c (run_of d) (with_peers (run_of d) (peers_of (slice_set d.nodes p new))) ready.known p i done)
    (all-called c p d.nodes d.reads n new at grew ready.waiting) (grow-set d.nodes p n new at grew.more grew.sent))
    (length-set d.nodes p new) refl done
    (calls-set d.nodes p n new (λ q. call_of (run_of d) q (Take p i)) at
    (calls ∙ ap (λ (k : Message). n.calls ++ fed (model.Deliver i k) ∷ []) same ∙ ap (λ (h : List Entry). n.calls ++ h) (sym (taken-there (run_of d) p i))) (taken-elsewhere (run_of d) p i))
    (none-opened d.nodes p n new at grew)

-- the driver with one message more
abbrev pub with_sent : DriverView → List Message → ℕ → DriverView
with_sent d sent limit = record { graph = d.graph; nodes = d.nodes; sent = sent; limit = limit; tails = d.tails; marks = d.marks; reads = d.reads; text = d.text }

length-more : {X : Type 0} (xs : List X) (y : X) → length (xs ++ y ∷ []) ≡ length xs + 1
length-more [] y = refl
length-more (x ∷ xs) y = omega (arith, length-more xs y)

-- the same nodes stand in another world
stands-in : (c : ℕ) (d e : DriverView) → Stands c d → e.nodes ≡ d.nodes → e.graph ≡ d.graph → e.limit ≡ d.limit → e.reads ≡ d.reads → IsSound (length d.nodes) c (stage_of e) (run_of e) → IsRunKnown (length d.nodes) (run_of e) → HoldMarks d.nodes e.marks → e.sent ≡ d.sent → e.tails ≡ d.tails → Stands c e
stands-in c d e ready nodes graph limit reads sound known marked sent tails = record {
  some = omega (arith, ready.some, ap (λ (ns : List NodeView). length ns) nodes);
  few = omega (arith, ready.few, ap (λ (ns : List NodeView). length ns) nodes);
  nodes = subst (λ (g : List Decl). AreNodes g (length e.nodes) e.nodes) (sym graph) (subst (λ (ns : List NodeView). AreNodes d.graph (length ns) ns) (sym nodes) ready.nodes);
  limit = limit ∙ ready.limit;
  sound = subst (λ (many : ℕ). IsSound many c (stage_of e) (run_of e)) (sym (ap (λ (ns : List NodeView). length ns) nodes)) sound;
  known = subst (λ (many : ℕ). IsRunKnown many (run_of e)) (sym (ap (λ (ns : List NodeView). length ns) nodes)) known;
  waiting = subst (λ (rs : List (OpenRead Read)). AreWaiting c e.nodes rs) (sym reads) (subst (λ (ns : List NodeView). AreWaiting c ns d.reads) (sym nodes) ready.waiting);
  marked = subst (λ (ns : List NodeView). HoldMarks ns e.marks) (sym nodes) marked;
  tailed = subst (λ (g : List Decl). AreTailed g e.nodes e.sent e.tails) (sym graph)
      (subst (λ (ns : List NodeView). AreTailed d.graph ns e.sent e.tails) (sym nodes)
      (subst (λ (ms : List Message). AreTailed d.graph d.nodes ms e.tails) (sym sent)
      (subst (λ (ts : List (Option Tail)). AreTailed d.graph d.nodes d.sent ts) (sym tails) ready.tailed)));
}

-- the driver with these nodes, messages, and what is kept of them
abbrev pub with_tails : DriverView → List NodeView → List Message → ℕ → List (Option Tail) → DriverView
with_tails d nodes sent limit tails = record { graph = d.graph; nodes = nodes; sent = sent; limit = limit; tails = tails; marks = d.marks; reads = d.reads; text = d.text }

-- the driver with these nodes and a message more
abbrev pub with_letter : DriverView → List NodeView → Message → Option Tail → DriverView
with_letter d nodes m t = with_tails d nodes (d.sent ++ m ∷ []) d.limit (d.tails ++ t ∷ [])

pub acted-post : (c p : ℕ) (d : DriverView) (n new : NodeView) (m : Message) (t : Option Tail) → Stands c d → p < length d.nodes → slice_get d.nodes p ≡ Some n → m ≡ message_at n.decls n.peer → IfSome t (IsTailOf n) → Sends (length d.sent) n new
    → act c (run_of d) (Post p) ≡ Ok (run_of (with_sent d (d.sent ++ m ∷ []) d.limit)) → Acted c c d (Post p ∷ []) (with_letter d (slice_set d.nodes p new) m t)
acted-post c p d n new m t ready member at whole tail sends posted = acted-one c c d e (Post p)
    (record {
      some = omega (arith, ready.some, size);
      few = omega (arith, ready.few, size);
      nodes = subst (λ (many : ℕ). AreNodes d.graph many nodes) (sym size) (nodes-set d.graph (length d.nodes) d.nodes p new ready.nodes (node-stays d.graph (length d.nodes) p n new here sends.learns.still));
      limit = ready.limit;
      sound = subst (λ (many : ℕ). IsSound many c (stage_of e) (run_of e)) (sym size) (subst (λ s. IsSound (length d.nodes) c s (run_of e)) (sym stage) (sound-post (length d.nodes) c p (stage_of d) (run_of d) (run_of e) ready.sound member done));
      known = subst (λ (many : ℕ). IsRunKnown many (run_of e)) (sym size) (known-post (length d.nodes) c (run_of d) (run_of e) ready.known p done);
      waiting = all-released c p d.nodes d.reads n new at sends.learns.more sends.reads ready.waiting;
      marked = marks-shown d.nodes nodes d.marks (show-set d.nodes p n new at sends.learns.more) ready.marked;
      tailed = tailed-post d.graph d.nodes d.sent d.tails p n new m t ready.tailed at here.graph
          (subst (λ (r : Peer). length r.contents ≡ length d.graph) (peer-here d.nodes p n at) (ready.sound.held p member).long) (whole ∙ ap (λ (g : List Decl). message_at g n.peer) here.graph) tail sends;
    })
    size stage done (none-called d.nodes p n new at sends.learns.calls) (counts-stay d.nodes nodes (same-set opened_count d.nodes p n new at (opened-kept new.shown n.reads new.reads sends.reads)))
  where
    nodes : List NodeView
    nodes = slice_set d.nodes p new

    e : DriverView
    e = with_letter d nodes m t

    here : IsNode d.graph (length d.nodes) p n
    here = ready.nodes p n at

    size : length nodes ≡ length d.nodes
    size = length-set d.nodes p new

    done : act c (run_of d) (Post p) ≡ Ok (run_of e)
    done = posted ∙ ap (λ (ps : List Peer). Ok (with_peers (run_of (with_sent d (d.sent ++ m ∷ []) d.limit)) ps)) (sym (same-set (λ (n : NodeView). n.peer) d.nodes p n new at sends.learns.peer))

    stage : stage_of e ≡ record { graph = d.graph; marked = map (λ (m : Mark). m.var) d.marks; sent = length d.sent + 1 }
    stage = ap (λ (n : ℕ). record { graph = d.graph; marked = map (λ (m : Mark). m.var) d.marks; sent = n }) (length-more d.sent m)

-- ---- marks

abbrev pub with_marks : DriverView → List Mark → DriverView
with_marks d marks = record { graph = d.graph; nodes = d.nodes; sent = d.sent; limit = d.limit; tails = d.tails; marks = marks; reads = d.reads; text = d.text }

abbrev marked : Shape → Content → Marked
marked shape content = record { shape = shape; content = content }

pub acted-keep : (c p x : ℕ) (d : DriverView) (n : NodeView) (m : Mark) → Stands c d → MayDo c d (Keep p x) → slice_get d.nodes p ≡ Some n → m.var ≡ x → (marked_of m).shape ≡ shape_of n.among (kind_at n.decls x) → (marked_of m).content ≡ content_at n.peer.contents x
    → AllByRecursion (HoldsMarkAt d.nodes m) m.known.items → Acted c c d (Keep p x ∷ []) (with_marks d (d.marks ++ m ∷ []))
acted-keep c p x d n m ready may at var shape content held =
    let here : IsNode d.graph (length d.nodes) p n = ready.nodes p n at in
    let e = with_marks d (d.marks ++ m ∷ []) in
    let many : n.among ≡ length (peers_of d.nodes) = here.nodes ∙ sym (length-map d.nodes (λ (n : NodeView). n.peer)) in
    let is : marked_of m ≡ marked (shape_of (length (peers_of d.nodes)) (kind_at d.graph x)) (content_at (peer_at (peers_of d.nodes) p).contents x) =
    ap (λ (s : Shape). marked s (marked_of m).content) (shape ∙ ap (λ (k : ℕ). shape_of k (kind_at n.decls x)) many ∙ ap (λ (h : List Decl). shape_of (length (peers_of d.nodes)) (kind_at h x)) here.graph)
    ∙ ap (marked (shape_of (length (peers_of d.nodes)) (kind_at d.graph x))) (content ∙ ap (λ (r : Peer). content_at r.contents x) (sym (peer-here d.nodes p n at))) in
    let done : act c (run_of d) (Keep p x) ≡ Ok (run_of e) =
    ap (λ (ms : List Marked). Ok (record { graph = d.graph; peers = peers_of d.nodes; sent = d.sent; marks = ms; reads = map opened_of d.reads; text = d.text }))
    (ap (λ (k : Marked). map marked_of d.marks ++ k ∷ []) (sym is) ∙ sym (map-append marked_of d.marks (m ∷ []))) in
    let stage : stage_of e ≡ record { graph = d.graph; marked = map (λ (m : Mark). m.var) d.marks ++ x ∷ []; sent = length d.sent } =
    ap (λ (vs : List ℕ). record { graph = d.graph; marked = vs; sent = length d.sent }) (map-append (λ (m : Mark). m.var) d.marks (m ∷ []) ∙ ap (λ (v : ℕ). map (λ (m : Mark). m.var) d.marks ++ v ∷ []) var) in
    acted-one c c d e (Keep p x)
    (stands-in c d e ready refl refl refl refl (subst (λ s. IsSound (length d.nodes) c s (run_of e)) (sym stage) (sound-keep (length d.nodes) c p x (stage_of d) (run_of d) (run_of e) ready.sound may.0.0 may.0.1 may.1 done)) (known-keep (length d.nodes) c (run_of d) (run_of e) ready.known p x done) (marks-more d.nodes d.marks m ready.marked held) refl refl)
    refl stage done (calls-stay d.nodes d.nodes refl) (counts-stay d.nodes d.nodes refl)

-- the node whose source was marked holds the mark
pub keep-held : (c p x : ℕ) (d : DriverView) (n k : NodeView) (m : Mark) → Stands c d → MayDo c d (Keep p x) → ShowsNoMore k → slice_get d.nodes p ≡ Some k → slice_get d.nodes p ≡ Some n → m.var ≡ x → (marked_of m).content ≡ content_at n.peer.contents x → m.known.items ≡ p ∷ []
    → AllByRecursion (HoldsMarkAt d.nodes m) m.known.items
keep-held c p x d n k m ready may shows here at var content known = subst (AllByRecursion (HoldsMarkAt d.nodes m)) (sym known) (λ l there. subst (λ (h : NodeView). HoldsMark h m) (same-node d.nodes p k l here there) holds, tt) where
  node : IsNode d.graph (length d.nodes) p k
  node = ready.nodes p k here

  shown : content_at k.shown x ≡ content_at k.peer.contents x
  shown = shows.sources x (var-here d.graph x k node.graph may.0.1) (subst (λ (g : List Decl). IsTrue (is_source (kind_at g x))) (sym node.graph) may.1)

  holds : HoldsMark k m
  holds = kept-held (marked_of m).content (content_at k.shown m.var) (content ∙ ap (λ (h : NodeView). content_at h.peer.contents x) (same-node d.nodes p n k at here) ∙ sym shown ∙ ap (λ (y : ℕ). content_at k.shown y) (sym var))

-- it was noted of a mark who holds it
pub acted-noted : (c next k p : ℕ) (d e : DriverView) (all : List Act) (marks : List Mark) → Acted c next d all e → IsNoted e.marks k p marks → ((m : Mark) → slice_get e.marks k ≡ Some m → HoldsMarkAt e.nodes m p) → Acted c next d all (with_marks e marks)
acted-noted c next k p d e all marks done noted holds =
    let run : run_of (with_marks e marks) ≡ run_of e = ap (λ (ms : List Marked). record { graph = e.graph; peers = peers_of e.nodes; sent = e.sent; marks = ms; reads = map opened_of e.reads; text = e.text }) noted.marked in
    let stage : stage_of (with_marks e marks) ≡ stage_of e = ap (λ (vs : List ℕ). record { graph = e.graph; marked = vs; sent = length e.sent }) noted.vars in
    record {
      ready = stands-in next e (with_marks e marks) done.ready refl refl refl refl
          (subst (λ (s : Stage). IsSound (length e.nodes) next s (run_of (with_marks e marks))) (sym stage) (subst (λ (r : Run). IsSound (length e.nodes) next (stage_of e) r) (sym run) done.ready.sound))
          (subst (IsRunKnown (length e.nodes)) (sym run) done.ready.known) (noted.held e.nodes holds done.ready.marked) refl refl;
      size = done.size;
      stage = stage ∙ done.stage;
      run = done.run ∙ ap (λ (r : Run). Ok r) (sym run);
      calls = done.calls;
      opened = done.opened;
    }

-- a node into which a mark was joined is told with it
pub acted-bound : (c p x k : ℕ) (d e : DriverView) (n : NodeView) (op : rust.Op) (marks : List Mark) → Stands c d → MayDo c d (Update p x (op_of op)) → slice_index_or (map (λ (m : Mark). m.var) d.marks) k 0 ≡ x → op_of op ≡ Join (mark_at (map marked_of d.marks) k).content
    → Acted c (c + 1) d (Update p x (op_of op) ∷ []) e → ShowsNoMore n → slice_get e.nodes p ≡ Some n → IsNoted e.marks k p marks → Acted c (c + 1) d (Update p x (op_of op) ∷ []) (with_marks e marks)
acted-bound c p x k d e n op marks ready may var joins done shows at noted =
    acted-noted c (c + 1) k p d e (Update p x (op_of op) ∷ []) marks done noted (λ m there. bound-held c p x d e n m op ready may done shows at (mark-var e.marks k x m (ap (λ (s : Stage). slice_index_or s.marked k 0) done.stage ∙ var) there) (joins ∙ ap (λ (s : Content). Join s) (kept m there)))
  where
    kept : (m : Mark) → slice_get e.marks k ≡ Some m → (mark_at (map marked_of d.marks) k).content ≡ content_of (arc_value m.state)
    kept m there =
        ap (λ (r : Run). (mark_at r.marks k).content) (updated-run c p x (run_of d) (run_of e) (updated p x (op_of op) (peer_at (peers_of d.nodes) p)) done.run)
        ∙ ap (λ (w : Marked). w.content) (mapped-or marked_of e.marks k m world.no_mark there)

-- ---- what settled nodes show

-- what a settled node shows of a variable, the run shows
pub shown-here : (g : List Decl) (nodes : List NodeView) (p x : ℕ) (n : NodeView) → AreSettled nodes → slice_get nodes p ≡ Some n → n.decls ≡ g → content_at n.shown x ≡ content_at (shown_at g (peer_at (peers_of nodes) p)) x
shown-here g nodes p x n settled at graph =
    ap (λ (cs : List Content). content_at cs x) (settled p n at ∙ ap (λ (h : List Decl). shown_at h n.peer) graph ∙ ap (shown_at g) (sym (peer-here nodes p n at)))

abbrev pub with_text : DriverView → List ℕ → DriverView
with_text d text = record { graph = d.graph; nodes = d.nodes; sent = d.sent; limit = d.limit; tails = d.tails; marks = d.marks; reads = d.reads; text = text }

-- the line of a print
pub show-done : (c p x : ℕ) (d : DriverView) (n : NodeView) (decl : Decl) (name shown text : List ℕ) → Stands c d → AreSettled d.nodes → slice_get d.nodes p ≡ Some n → slice_get d.graph x ≡ Some decl → name ≡ decl.name
    → shown ≡ shown_content (kind_at n.decls x) (content_at n.shown x) → text ≡ d.text ++ line (decimal p ∷ name ∷ shown ∷ []) → act c (run_of d) (Show p x) ≡ Ok (run_of (with_text d text))
show-done c p x d n decl name shown text ready settled at there named showing is =
    ap (λ (bytes : List ℕ). Ok (record { graph = d.graph; peers = peers_of d.nodes; sent = d.sent; marks = map marked_of d.marks; reads = map opened_of d.reads; text = bytes }))
    (ap (λ (word : List ℕ). d.text ++ line (decimal p ∷ word ∷ shown_content (kind_at d.graph x) (shown_content_at (run_of d) p x) ∷ [])) (name-here d.graph x decl there ∙ sym named)
    ∙ ap (λ (word : List ℕ). d.text ++ line (decimal p ∷ name ∷ word ∷ []))
    (ap (λ (s : Content). shown_content (kind_at d.graph x) s) (sym (shown-here d.graph d.nodes p x n settled at (ready.nodes p n at).graph)) ∙ ap (λ (g : List Decl). shown_content (kind_at g x) (content_at n.shown x)) (sym (ready.nodes p n at).graph) ∙ sym showing)
    ∙ sym is)
  where
    name-here : (g : List Decl) (x : ℕ) (decl : Decl) → slice_get g x ≡ Some decl → name_at g x ≡ decl.name
    name-here g x decl there = ap (λ (k : Decl). k.name) (get_or_from_slice_get g x decl no_decl there)

pub acted-show : (c p x : ℕ) (d : DriverView) (text : List ℕ) → Stands c d → act c (run_of d) (Show p x) ≡ Ok (run_of (with_text d text)) → Acted c c d (Show p x ∷ []) (with_text d text)
acted-show c p x d text ready done =
    acted-one c c d (with_text d text) (Show p x) (stands-in c d (with_text d text) ready refl refl refl refl (sound-show (length d.nodes) c p x (stage_of d) (run_of d) (run_of (with_text d text)) ready.sound done) (known-show (length d.nodes) c (run_of d) (run_of (with_text d text)) ready.known p x done) ready.marked refl refl)
    refl refl done (calls-stay d.nodes d.nodes refl) (counts-stay d.nodes d.nodes refl)

-- ---- reads

-- a node may be read as its world may
pub may-read : (c p x : ℕ) (until : Until) (d : DriverView) (n : NodeView) (t : Threshold) → Stands c d → MayDo c d (Open p x until) → slice_get d.nodes p ≡ Some n → t ≡ world.threshold_of (map marked_of d.marks) until → MayRead n x t
may-read c p x until d n t ready may at is =
    let here : IsNode d.graph (length d.nodes) p n = ready.nodes p n at in
    record {
      var = var-here d.graph x n here.graph may.0.1;
      suits_it = suited-here d.graph (length d.nodes) p x n t here
          (subst (λ (t : Threshold). IsTrue (suits t (shape_of (length d.nodes) (kind_at d.graph x)))) (sym is) (sound-suits (length d.nodes) c x (stage_of d) until (run_of d) ready.sound may.0.1 may.1));
    }

-- the driver with these nodes and reads
abbrev pub with_both : DriverView → List NodeView → List (OpenRead Read) → DriverView
with_both d nodes reads = record { graph = d.graph; nodes = nodes; sent = d.sent; limit = d.limit; tails = d.tails; marks = d.marks; reads = reads; text = d.text }

abbrev pub open_read : ℕ → Read → OpenRead Read
open_read p r = record { node = p; read = r }

pub acted-open : (c p x : ℕ) (until : Until) (d : DriverView) (n new : NodeView) (r : Read) → Stands c d → MayDo c d (Open p x until) → slice_get d.nodes p ≡ Some n → c ≤ 4294967295 → IsNextRead n.reads x (world.threshold_of (map marked_of d.marks) until) r
    → LearnsAnd (opens_next x (world.threshold_of (map marked_of d.marks) until)) n new → Acted c (c + 1) d (Open p x until ∷ []) (with_both d (slice_set d.nodes p new) (d.reads ++ open_read p r ∷ []))
acted-open c p x until d n new r ready may at few next learned =
    let t = world.threshold_of (map marked_of d.marks) until in
    let nodes = slice_set d.nodes p new in
    let e = with_both d nodes (d.reads ++ open_read p r ∷ []) in
    let size = length-set d.nodes p new in
    let peers : peers_of nodes ≡ peers_of d.nodes = same-set (λ (n : NodeView). n.peer) d.nodes p n new at learned.learns.peer in
    let last : opened_of (open_read p r) ≡ record { node = p; var = x; threshold = t } = (λ i. record { node = p; var = next.var i; threshold = next.waits_for i }) in
    let done : act c (run_of d) (Open p x until) ≡ Ok (run_of e) =
    ap (λ (ps : List Peer). Ok (with_read (with_peers (run_of d) ps) (record { node = p; var = x; threshold = t }))) (sym peers)
    ∙ ap (λ (os : List Opened). Ok (record { graph = d.graph; peers = peers_of nodes; sent = d.sent; marks = map marked_of d.marks; reads = os; text = d.text }))
    (ap (λ (o : Opened). map opened_of d.reads ++ o ∷ []) (sym last) ∙ sym (map-append opened_of d.reads (open_read p r ∷ []))) in
    acted-one c (c + 1) d e (Open p x until)
    (record {
      some = omega (arith, ready.some, size);
      few = omega (arith, ready.few, size);
      nodes = subst (λ (many : ℕ). AreNodes d.graph many nodes) (sym size) (nodes-set d.graph (length d.nodes) d.nodes p new ready.nodes (node-stays d.graph (length d.nodes) p n new (ready.nodes p n at) learned.learns.still));
      limit = ready.limit;
      sound = subst (λ (many : ℕ). IsSound many (c + 1) (stage_of d) (run_of e)) (sym size)
          (sound-later (length d.nodes) c (stage_of d) (run_of e) (sound-open (length d.nodes) c p x (stage_of d) until (run_of d) (run_of e) ready.sound may.0.0 may.0.1 (sound-suits (length d.nodes) c x (stage_of d) until (run_of d) ready.sound may.0.1 may.1) done));
      known = subst (λ (many : ℕ). IsRunKnown many (run_of e)) (sym size) (known-open (length d.nodes) c (run_of d) (run_of e) ready.known p x until done);
      waiting = all-opened c p x t d.nodes d.reads n new r (omega (arith, few)) at next learned ready.waiting;
      marked = marks-grow d.nodes nodes d.marks (grow-set d.nodes p n new at learned.learns.more learned.sent) ready.marked;
      tailed = tailed-grow d.graph d.nodes nodes d.sent d.tails (grow-set d.nodes p n new at learned.learns.more learned.sent) ready.tailed;
    })
    size refl done (none-called d.nodes p n new at learned.learns.calls)
    (one-opened d.nodes p n new at (opened-one c p d.reads n new (opens_next x t) (omega (arith, few)) (λ s. refl) learned (ready.waiting p n at)))

abbrev reached_by : ℕ → Run → Bool → Result Run Stop
reached_by c run met = if met then Ok run else Err (NotReached c)

-- what the threshold is asked of
reach-is : (c p x : ℕ) (until : Until) (d : DriverView) (n : NodeView) (t : Threshold) (met : Bool) → Stands c d → AreSettled d.nodes → slice_get d.nodes p ≡ Some n → t ≡ world.threshold_of (map marked_of d.marks) until → met ≡ meets t (content_at n.shown x)
    → meets (world.threshold_of (map marked_of d.marks) until) (shown_content_at (run_of d) p x) ≡ met
reach-is c p x until d n t met ready settled at same is =
    ap (meets (world.threshold_of (map marked_of d.marks) until)) (sym (shown-here d.graph d.nodes p x n settled at (ready.nodes p n at).graph))
    ∙ ap (λ (u : Threshold). meets u (content_at n.shown x)) (sym same) ∙ sym is

-- the run goes on
pub reach-met : (c p x : ℕ) (until : Until) (d : DriverView) (n : NodeView) (t : Threshold) (met : Bool) → Stands c d → AreSettled d.nodes → slice_get d.nodes p ≡ Some n → t ≡ world.threshold_of (map marked_of d.marks) until → met ≡ meets t (content_at n.shown x)
    → met ≡ true → act c (run_of d) (Reach p x until) ≡ Ok (run_of d)
reach-met c p x until d n t met ready settled at same is true_here = ap (reached_by c (run_of d)) (reach-is c p x until d n t met ready settled at same is ∙ true_here)

-- or it stops
pub reach-unmet : (c p x : ℕ) (until : Until) (d : DriverView) (n : NodeView) (t : Threshold) (met : Bool) → Stands c d → AreSettled d.nodes → slice_get d.nodes p ≡ Some n → t ≡ world.threshold_of (map marked_of d.marks) until → met ≡ meets t (content_at n.shown x)
    → met ≡ false → act c (run_of d) (Reach p x until) ≡ Err (NotReached c)
reach-unmet c p x until d n t met ready settled at same is false_here = ap (reached_by c (run_of d)) (reach-is c p x until d n t met ready settled at same is ∙ false_here)

pub acted-reach : (c p x : ℕ) (until : Until) (d : DriverView) (n new : NodeView) → Stands c d → slice_get d.nodes p ≡ Some n → c ≤ 4294967295 → LearnsAnd looks_once n new → act c (run_of d) (Reach p x until) ≡ Ok (run_of d)
    → Acted c (c + 1) d (Reach p x until ∷ []) (with_nodes d (slice_set d.nodes p new))
acted-reach c p x until d n new ready at few learned reached =
    let nodes = slice_set d.nodes p new in
    let peers : peers_of nodes ≡ peers_of d.nodes = same-set (λ (n : NodeView). n.peer) d.nodes p n new at learned.learns.peer in
    let same : run_of d ≡ with_peers (run_of d) (peers_of nodes) = ap (with_peers (run_of d)) (sym peers) in
    acted-one c (c + 1) d (with_nodes d nodes) (Reach p x until)
    (stands-with c (c + 1) d nodes ready (length-set d.nodes p new) (nodes-set d.graph (length d.nodes) d.nodes p new ready.nodes (node-stays d.graph (length d.nodes) p n new (ready.nodes p n at) learned.learns.still))
    (subst (λ (run : Run). IsSound (length d.nodes) (c + 1) (stage_of d) run) same (sound-later (length d.nodes) c (stage_of d) (run_of d) ready.sound))
    (subst (IsRunKnown (length d.nodes)) same ready.known)
    (all-looked c p d.nodes d.reads n new (omega (arith, few)) at learned ready.waiting) (grow-set d.nodes p n new at learned.learns.more learned.sent))
    (length-set d.nodes p new) refl (reached ∙ ap (λ (run : Run). Ok run) same) (none-called d.nodes p n new at learned.learns.calls)
    (one-opened d.nodes p n new at (opened-one c p d.reads n new looks_once (omega (arith, few)) (λ s. refl) learned (ready.waiting p n at)))

-- ---- points and declarations

pub acted-point : (c : ℕ) (d : DriverView) (nodes : List NodeView) → Stands c d → AllSettled d.graph d.nodes nodes → point_from c 0 (peers_of d.nodes) (run_of d) ≡ Ok (run_of d) → Acted c c d (Point ∷ []) (with_nodes d nodes)
acted-point c d nodes ready all done =
    let same : run_of d ≡ with_peers (run_of d) (peers_of nodes) = ap (with_peers (run_of d)) (sym all.peers) in
    acted-one c c d (with_nodes d nodes) Point
    (stands-with c c d nodes ready all.size all.nodes_are (subst (λ (run : Run). IsSound (length d.nodes) c (stage_of d) run) same ready.sound) (subst (IsRunKnown (length d.nodes)) same ready.known) (all.reads.waiting c d.reads ready.waiting) all.reads.grow)
    all.size refl (done ∙ ap (λ (run : Run). Ok run) same) (calls-stay d.nodes nodes all.calls) (counts-stay d.nodes nodes all.reads.counts)

abbrev pub with_graph : DriverView → List Decl → List NodeView → DriverView
with_graph d graph nodes = record { graph = graph; nodes = nodes; sent = d.sent; limit = d.limit; tails = d.tails; marks = d.marks; reads = d.reads; text = d.text }

pub acted-extend : (c : ℕ) (decl : Decl) (d : DriverView) (nodes : List NodeView) → Stands c d → AllExtend (d.graph ++ decl ∷ []) decl d.nodes nodes → Acted c c d (Extend decl ∷ []) (with_graph d (d.graph ++ decl ∷ []) nodes)
acted-extend c decl d nodes ready all =
    let e = with_graph d (d.graph ++ decl ∷ []) nodes in
    let done : act c (run_of d) (Extend decl) ≡ Ok (run_of e) =
    ap (λ (ps : List Peer). Ok (record { graph = d.graph ++ decl ∷ []; peers = ps; sent = d.sent; marks = map marked_of d.marks; reads = map opened_of d.reads; text = d.text }))
    (ap (λ (k : ℕ). map (extended k decl) (peers_of d.nodes)) (length-map d.nodes (λ (n : NodeView). n.peer)) ∙ sym all.peers) in
    acted-one c c d e (Extend decl)
    (record {
      some = omega (arith, ready.some, all.size);
      few = omega (arith, ready.few, all.size);
      nodes = subst (λ (many : ℕ). AreNodes (d.graph ++ decl ∷ []) many nodes) (sym all.size) all.nodes_are;
      limit = ready.limit;
      sound = subst (λ (many : ℕ). IsSound many c (stage_of e) (run_of e)) (sym all.size) (sound-extend (length d.nodes) c (stage_of d) decl (run_of d) (run_of e) ready.sound done);
      known = subst (λ (many : ℕ). IsRunKnown many (run_of e)) (sym all.size) (known-extend (length d.nodes) c (run_of d) (run_of e) ready.known decl done);
      waiting = all.reads.waiting c d.reads ready.waiting;
      marked = marks-grow d.nodes nodes d.marks all.reads.grow ready.marked;
      tailed = tailed-extend d.graph decl d.sent (short-sent (length d.nodes) (run_of d) ready.known) nodes d.tails (tailed-grow d.graph d.nodes nodes d.sent d.tails all.reads.grow ready.tailed);
    })
    all.size refl done (calls-each d.nodes nodes (fed (model.Extend decl) ∷ []) all.calls) (counts-stay d.nodes nodes all.reads.counts)

-- the nodes of a run may be settled
pub may-settle : (c : ℕ) (lib : Library) (d : DriverView) → Stands c d → FitsAll lib d.graph → MaySettle lib d.graph d.nodes
may-settle c lib d ready fits = record { few = ready.few; nodes_are = ready.nodes; held = ready.sound.held; fits = fits }

pub acts-point : {A : Type 0} (c : ℕ) (d : DriverView) (nodes : List NodeView) (result : Result A Halt) → Stands c d → SettlesAll c d.graph d.nodes result nodes → ActsSeen c c d (Point ∷ []) result (with_nodes d nodes)
acts-point c d nodes (Ok done) ready all = acted-point c d nodes ready all.0 (all.1 (run_of d) refl)
acts-point c d nodes (Err why) ready all = stops-still c d Point why nodes all.1 (all.0 (run_of d) refl)

pub settled-point : {A : Type 0} (c : ℕ) (g : List Decl) (old new : List NodeView) (result : Result A Halt) → SettlesAll c g old result new → OnOk result (AreSettled new)
settled-point c g old new (Ok done) all = all.0.settled
settled-point c g old new (Err why) all = tt

-- ---- the start

pub starts-fresh : (g : List Decl) (many : ℕ) (d : DriverView) → 1 ≤ many → many ≤ 8 → AreFresh g many many d.nodes → d.graph ≡ g → d.sent ≡ [] → d.limit ≡ network_limit → d.tails ≡ [] → d.marks ≡ [] → d.reads ≡ [] → d.text ≡ [] → Starts g many d
starts-fresh g many d some few fresh graph sent limit tails marks reads text =
    let run : run_of d ≡ start g many =
    ap (λ (h : List Decl). record { graph = h; peers = peers_of d.nodes; sent = d.sent; marks = map marked_of d.marks; reads = map opened_of d.reads; text = d.text }) graph
    ∙ ap (λ (ps : List Peer). record { graph = g; peers = ps; sent = d.sent; marks = map marked_of d.marks; reads = map opened_of d.reads; text = d.text }) fresh.peers
    ∙ ap (λ (ms : List Message). record { graph = g; peers = replicate many (fresh_peer g many); sent = ms; marks = map marked_of d.marks; reads = map opened_of d.reads; text = d.text }) sent
    ∙ ap (λ (ms : List Mark). record { graph = g; peers = replicate many (fresh_peer g many); sent = []; marks = map marked_of ms; reads = map opened_of d.reads; text = d.text }) marks
    ∙ ap (λ (rs : List (OpenRead Read)). record { graph = g; peers = replicate many (fresh_peer g many); sent = []; marks = []; reads = map opened_of rs; text = d.text }) reads
    ∙ ap (λ (bytes : List ℕ). record { graph = g; peers = replicate many (fresh_peer g many); sent = []; marks = []; reads = []; text = bytes }) text in
    let stage : stage_of d ≡ opening_stage g =
    ap (λ (h : List Decl). record { graph = h; marked = map (λ (m : Mark). m.var) d.marks; sent = length d.sent }) graph
    ∙ ap (λ (ms : List Mark). record { graph = g; marked = map (λ (m : Mark). m.var) ms; sent = length d.sent }) marks
    ∙ ap (λ (ms : List Message). record { graph = g; marked = []; sent = length ms }) sent in
    record {
      size = fresh.size;
      ready = record {
        some = omega (arith, some, fresh.size);
        few = omega (arith, few, fresh.size);
        nodes = subst (λ (k : ℕ). AreNodes d.graph k d.nodes) (sym fresh.size) (subst (λ (h : List Decl). AreNodes h many d.nodes) (sym graph) fresh.nodes_are);
        limit = limit;
        sound = subst (λ (k : ℕ). IsSound k 1 (stage_of d) (run_of d)) (sym fresh.size)
            (subst (λ (r : Run). IsSound many 1 (stage_of d) r) (sym run) (subst (λ (s : Stage). IsSound many 1 s (start g many)) (sym stage) (sound-start many g)));
        known = subst (λ (k : ℕ). IsRunKnown k (run_of d)) (sym fresh.size) (subst (IsRunKnown many) (sym run) (known-start many g));
        waiting = subst (λ (rs : List (OpenRead Read)). AreWaiting 1 d.nodes rs) (sym reads) (all-fresh d.nodes fresh.reads);
        marked = subst (HoldMarks d.nodes) (sym marks) tt;
        tailed = subst (λ (ms : List Message). AreTailed d.graph d.nodes ms d.tails) (sym sent) (subst (λ (ts : List (Option Tail)). AreTailed d.graph d.nodes [] ts) (sym tails) (tailed-start d.graph d.nodes fresh.sent));
      };
      run = run;
      stage = stage;
      calls = fresh.calls;
      reads = fresh.reads;
    }

-- ---- the report

-- each read of a driver can be polled at its end
pub opened-ready : (c : ℕ) (d : DriverView) → Stands c d → AreSettled d.nodes → AreOpened d.nodes d.reads
opened-ready c d ready settled k r at = record {
  settled = settled;
  node = here.node;
  may = λ n there.
      let place : IsNode d.graph (length d.nodes) r.node n = ready.nodes r.node n there in
      record {
        var = var-here d.graph r.read.var n place.graph here.var;
        suits_it = suited-here d.graph (length d.nodes) r.node r.read.var n r.read.threshold place here.suits_it;
      };
} where
  here : IsOpened (length d.nodes) d.graph (opened_of r)
  here = subst (IsOpened (length d.nodes) d.graph) (mapped-or opened_of d.reads k r no_read at) (ready.sound.reads k (omega (arith, slice_get_within d.reads k r at, length-map d.reads opened_of)))

-- ---- thresholds and places

-- a threshold that a command may ask for has a mark that is there
pub until-within : (d : DriverView) (x : ℕ) (until : rust_until.Until) → MayAsk (length d.nodes) (stage_of d) x (until_of until) → IsUntilWithin (length d.marks) until
until-within d x (rust_variants.AtLeast m) may = omega (arith, may.0, length-map d.marks (λ (m : Mark). m.var))
until-within d x (rust_variants.Above m) may = omega (arith, may.0, length-map d.marks (λ (m : Mark). m.var))
until-within d x (rust_variants.Count k) may = tt
until-within d x (rust_variants.Added vs) may = tt
until-within d x (rust_variants.Removed vs) may = tt

-- ---- what stands behind a point

-- the place of a command is there
pub place-stays : (c p x : ℕ) (d e : DriverView) → Acted c c d (Point ∷ []) e → IsPlace (length d.nodes) (stage_of d) p x → IsPlace (length e.nodes) (stage_of e) p x
place-stays c p x d e done place = (omega (arith, place.0, done.size), omega (arith, place.1, ap (λ (s : Stage). length s.graph) done.stage))

pub asked-stays : (c x : ℕ) (until : Until) (d e : DriverView) → Acted c c d (Point ∷ []) e → MayAsk (length d.nodes) (stage_of d) x until → MayAsk (length e.nodes) (stage_of e) x until
asked-stays c x until d e done may =
    subst (λ (many : ℕ). MayAsk many (stage_of e) x until) (sym done.size) (subst (λ (s : Stage). MayAsk (length d.nodes) s x until) (sym done.stage) may)
