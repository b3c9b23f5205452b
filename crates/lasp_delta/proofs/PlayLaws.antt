-- A script by deltas, command by command.
use Rattle.std.proofs.Common.{refl, sym, ap, subst, ◌∙◌, arith, drop}
use Rattle.std.specs.Prelude.{◌≡◌, ℕ, ◌+◌, ◌≤◌, true, List, [], ◌∷◌, ◌++◌, codes, length, replicate, slice_get, Option, Some, None, Result, Ok, Err, OnOk}
use Rattle.std.specs.Fmt.{decimal}
use Rattle.std.proofs.lemmas.List.{length-map}
use Rattle.model_values.proofs.ListLaws.{drop-at}
use Rattle.model_functions.specs.Library.{Library}
use Rattle.model_graph.specs.Chain.{◌>>=◌}
use Rattle.model_graph.specs.Graph.{Decl}
use Rattle.model_readings.specs.Lawful.{IsGraph, FitsAll}
use Rattle.model_scripts.specs.Progress.{grown, grown_by}
use Rattle.model_world.specs.Command.{Command, Script}
use Rattle.model_world.specs.Command as command
use Rattle.model_world.specs.Line.{line}
use Rattle.model_world.specs.Report.{report_of}
use Rattle.model_world.specs.Lawful.{Stage, stage_after, AreLawful}
use Rattle.model_world.specs.World.{Run, Act, Point, start, act, acts, sync_acts, each, play, ended}
use Rattle.model_world.specs.declared.stop.Stop.{Stop}
use Rattle.model_deltas.specs.Delta.{Delta}
use Rattle.model_deltas.specs.Gossip.{Gossip, gossip_after, gossip, gossip_start, gossiped, gossip_output, delta_size}
use Rattle.model_deltas.proofs.RunLaws.{forget, forget-play}
use Rattle.model_deltas.proofs.TravelLaws.{IsQuietCommand, going-start, going-quiet}
use Rattle.lasp_drive.specs.Node.{NodeView, AreSettled}
use Rattle.lasp_drive.specs.Driver.{DriverView, run_of, stage_of, Starts}
use Rattle.lasp_drive.specs.Acts.{Halts, Acted, ActsSeen}
use Rattle.lasp_drive.specs.Run.{IsRunnable}
use Rattle.lasp_drive.specs.declared.halt.Halt.{Halt}
use Rattle.lasp_drive.proofs.ActLaws.{halts-as, halts-then, stands-later}
use Rattle.lasp_drive.proofs.PlayLaws.{command-stage, stage-graph, may-begin, may-play, drop-past, graph-so-far, fits-so-far}
use Rattle.lasp_delta.specs.Seen.{DeltaView, gossip_of}
use Rattle.lasp_delta.specs.Acts.{Went, Goes, GoesBy, MayGoBy, is_quiet}
use Rattle.lasp_delta.specs.Play.{Begins, GoesOn, Played, Plays}
use Rattle.lasp_delta.proofs.GoLaws.{act-one, going-in}

-- ---- one command

abbrev pub with_driver : DeltaView → DriverView → DeltaView
with_driver d e = record { driver = e; last = d.last; deltas = d.deltas; deliveries = d.deliveries; gaps = d.gaps }

staged-command : (d : DriverView) (k : Command) (e : DriverView) (c : ℕ) → Acted c (c + 1) d (acts (run_of d) k) e → stage_after (length d.nodes) (stage_of d) k ≡ stage_of e
staged-command d k e c done = sym (done.stage ∙ command-stage (length d.nodes) (stage_of d) (run_of d) k (length-map d.nodes (λ (n : NodeView). n.peer)))

-- a command by which nothing is sent and nothing taken
pub goes-quiet : {A : Type 0} (c : ℕ) (d : DeltaView) (k : Command) (result : Result A Halt) (e : DriverView) → IsQuietCommand k → MayGoBy c d k → ActsSeen c (c + 1) d.driver (acts (run_of d.driver) k) result e → GoesBy c d k result (with_driver d e)
goes-quiet c d k (Ok done) e quiet may acted =
    let went = going-quiet (length d.driver.nodes) c (stage_of d.driver) (gossip_of d) k (run_of e) quiet may.under_way.going may.lawful acted.run in
    record {
      under_way = record {
        ready = acted.ready;
        going = going-in (length d.driver.nodes) (length e.nodes) (stage_after (length d.driver.nodes) (stage_of d.driver) k) (stage_of e) (gossip_of (with_driver d e)) (gossip_of (with_driver d e)) (sym acted.size) (staged-command d.driver k e c acted) refl went.going;
      };
      size = acted.size;
      stage = acted.stage;
      run = went.gossip;
    }
goes-quiet c d k (Err why) e quiet may acted = acted.halts

pub quiet-command : (k : Command) → is_quiet k ≡ true → IsQuietCommand k
quiet-command (command.Send p) e = absurd cc
quiet-command (command.Deliver p i) e = absurd cc
quiet-command command.Sync e = absurd cc
quiet-command (command.Add p x v) e = tt
quiet-command (command.Remove p x v) e = tt
quiet-command (command.Insert p x v) e = tt
quiet-command (command.Inc p x by) e = tt
quiet-command (command.Max p x n) e = tt
quiet-command (command.Mark p x) e = tt
quiet-command (command.Bind p x m) e = tt
quiet-command command.Settle e = tt
quiet-command (command.Print p x) e = tt
quiet-command (command.Read p x until) e = tt
quiet-command (command.Await p x until) e = tt
quiet-command (command.Declare d) e = tt

-- the run stands before the next command
pub goes-later : {A : Type 0} (c : ℕ) (d e : DeltaView) (all : List Act) (result : Result A Halt) → Goes c c d all result e → Goes c (c + 1) d all result e
goes-later c d e all (Ok done) h = record { under_way = record { ready = stands-later c e.driver h.under_way.ready; going = h.under_way.going }; size = h.size; stage = h.stage; run = h.run }
goes-later c d e all (Err why) h = h

-- a sync is that of all nodes
pub goes-sync-by : {A : Type 0} (c many : ℕ) (d e : DeltaView) (result : Result A Halt) → length d.driver.nodes ≡ many → Goes c c d (sync_acts many (length d.driver.sent)) result e → GoesBy c d command.Sync result e
goes-sync-by c many d e result size h =
    goes-later c d e (acts (run_of d.driver) command.Sync) result
    (subst (λ (n : ℕ). Goes c c d (sync_acts n (length d.driver.sent)) result e) (sym (length-map d.driver.nodes (λ (n : NodeView). n.peer) ∙ size)) h)

-- ---- command after command

pub goes-begin : (lib : Library) (g : List Decl) (script : Script) (d : DeltaView) → IsRunnable lib g script → Begins g script.nodes d → GoesOn lib 1 d d script.commands script.commands
goes-begin lib g script d runnable begins = record {
  under_way = begins.under_way;
  may = may-begin lib d.driver script.commands (may-play lib g script d.driver runnable begins.starts);
  run = refl;
}

stage-next : (c : ℕ) (now next : DeltaView) (k : Command) → Went c (c + 1) now (acts (run_of now.driver) k) next → stage_of next.driver ≡ stage_after (length now.driver.nodes) (stage_of now.driver) k
stage-next c now next k done = done.stage ∙ command-stage (length now.driver.nodes) (stage_of now.driver) (run_of now.driver) k (length-map now.driver.nodes (λ (n : NodeView). n.peer))

pub goes-next : (lib : Library) (c : ℕ) (old now next : DeltaView) (k : Command) (all left : List Command) → GoesOn lib c old now all (k ∷ left) → Went c (c + 1) now (acts (run_of now.driver) k) next → GoesOn lib (c + 1) old next all left
unfolding gossip
goes-next lib c old now next k all left way done =
    let stage = stage-next c now next k done in
    let graph = ap (λ (s : Stage). s.graph) stage ∙ stage-graph (length now.driver.nodes) (stage_of now.driver) k in
    record {
      under_way = done.under_way;
      may = record {
        ready = done.under_way.ready;
        lawful = subst (λ (many : ℕ). AreLawful many (stage_of next.driver) left) (sym done.size) (subst (λ (s : Stage). AreLawful (length now.driver.nodes) s left) (sym stage) way.may.lawful.1);
        few = omega (arith, way.may.few);
        graph = subst (λ (h : List Decl). IsGraph (grown h left)) (sym graph) way.may.graph;
        fits = subst (λ (h : List Decl). FitsAll lib (grown h left)) (sym graph) way.may.fits;
      };
      run = ap (λ (r : Result Gossip Stop). r >>= (λ s. gossip (c + 1) s left)) (sym done.run) ∙ way.run;
    }

-- what is to come of the run alone
run-to-come : (lib : Library) (c : ℕ) (old now : DeltaView) (all left : List Command) → GoesOn lib c old now all left → play 1 (run_of old.driver) all ≡ play c (run_of now.driver) left
run-to-come lib c old now all left way = sym (forget-play 1 (gossip_of old) all) ∙ ap forget (sym way.run) ∙ forget-play c (gossip_of now) left

whole : (g : List Decl) (script : Script) (d : DeltaView) → gossip_of d ≡ gossip_start g script.nodes → ended g script ≡ play 1 (run_of d.driver) script.commands
whole g script d is = ap (λ (s : Gossip). play 1 s.run script.commands) (sym is)

pub goes-halts : (lib : Library) (g : List Decl) (script : Script) (c : ℕ) (old now : DeltaView) (k : Command) (left : List Command) (why : Halt) → gossip_of old ≡ gossip_start g script.nodes → GoesOn lib c old now script.commands (k ∷ left)
    → Halts (each c (run_of now.driver) (acts (run_of now.driver) k)) why → Halts (ended g script) why
unfolding play
goes-halts lib g script c old now k left why is way h =
    halts-as (ended g script) (play c (run_of now.driver) (k ∷ left)) why (whole g script old is ∙ run-to-come lib c old now script.commands (k ∷ left) way)
    (halts-then (each c (run_of now.driver) (acts (run_of now.driver) k)) (λ next. play (c + 1) next left) why h)

as-it-is : (c : ℕ) (r : Result Run Stop) → r ≡ r >>= (λ next. each c next [])
as-it-is c (Ok run) = refl
as-it-is c (Err stop) = refl

pub goes-stops : (lib : Library) (g : List Decl) (script : Script) (c : ℕ) (old now : DeltaView) (why : Halt) → gossip_of old ≡ gossip_start g script.nodes → GoesOn lib c old now script.commands []
    → Halts (each c (run_of now.driver) (Point ∷ [])) why → Halts (ended g script) why
unfolding play
goes-stops lib g script c old now why is way h =
    halts-as (ended g script) (play c (run_of now.driver) []) why (whole g script old is ∙ run-to-come lib c old now script.commands [] way)
    (halts-as (act c (run_of now.driver) Point) (each c (run_of now.driver) (Point ∷ [])) why (as-it-is c (act c (run_of now.driver) Point)) h)

-- behind the last command every node is settled
pub goes-ends : (lib : Library) (c : ℕ) (old now : DeltaView) (all : List Command) (e : DriverView) → GoesOn lib c old now all [] → Acted c c now.driver (Point ∷ []) e → gossip 1 (gossip_of old) all ≡ Ok (gossip_of (with_driver now e))
unfolding gossip
goes-ends lib c old now all e way acted =
    sym way.run ∙ ap (λ (r : Result Run Stop). r >>= (λ next. Ok (gossip_after (gossip_of now) Point next))) (act-one c (run_of now.driver) (run_of e) Point acted.run)

-- ---- the beginning

pub begins-so : (g : List Decl) (nodes : ℕ) (d : DeltaView) → Starts g nodes d.driver → gossip_of d ≡ gossip_start g nodes → Begins g nodes d
begins-so g nodes d starts is = record {
  starts = starts;
  under_way = record {
    ready = starts.ready;
    going = going-in nodes (length d.driver.nodes) _ (stage_of d.driver) (gossip_start g nodes) (gossip_of d) (sym starts.size) (sym starts.stage) (sym is) (going-start g nodes);
  };
  gossip_is = is;
}

pub begins-fresh : (g : List Decl) (nodes : ℕ) (d : DriverView) (last : List (Option ℕ)) (deltas : List Delta) → Starts g nodes d → last ≡ replicate nodes None → deltas ≡ [] → Begins g nodes (record { driver = d; last = last; deltas = deltas; deliveries = 0; gaps = 0 })
begins-fresh g nodes d last deltas starts is none =
    begins-so g nodes (record { driver = d; last = last; deltas = deltas; deliveries = 0; gaps = 0 }) starts
    (ap (λ (r : Run). record { run = r; last = last; deltas = deltas; deliveries = 0; gaps = 0 }) starts.run
    ∙ ap (λ (numbers : List (Option ℕ)). record { run = start g nodes; last = numbers; deltas = deltas; deliveries = 0; gaps = 0 }) is
    ∙ ap (λ (ds : List Delta). record { run = start g nodes; last = replicate nodes None; deltas = ds; deliveries = 0; gaps = 0 }) none)

-- ---- a script by its places

-- what the next command needs
pub record MayGoNext (lib : Library) (c : ℕ) (d : DeltaView) (k : Command) : Type 0 where
  pub may : MayGoBy c d k
  pub graph : IsGraph (grown d.driver.graph (k ∷ []))
  pub fits : FitsAll lib d.driver.graph

pub goes-command : (lib : Library) (i : ℕ) (commands all : List Command) (old now : DeltaView) (k : Command) → GoesOn lib (i + 1) old now all (drop i commands) → slice_get commands i ≡ Some k → MayGoNext lib (i + 1) now k
goes-command lib i commands all old now k way at =
    let here = subst (λ (left : List Command). GoesOn lib (i + 1) old now all left) (drop-at commands i k at) way in
    record {
      may = record { under_way = here.under_way; few = omega (arith, here.may.few); lawful = here.may.lawful.0 };
      graph = graph-so-far (grown_by now.driver.graph k) (drop (i + 1) commands) here.may.graph;
      fits = fits-so-far lib now.driver.graph (k ∷ drop (i + 1) commands) here.may.fits;
    }

pub goes-after : (lib : Library) (i : ℕ) (commands all : List Command) (old now next : DeltaView) (k : Command) → GoesOn lib (i + 1) old now all (drop i commands) → slice_get commands i ≡ Some k → Went (i + 1) (i + 1 + 1) now (acts (run_of now.driver) k) next
    → GoesOn lib (i + 1 + 1) old next all (drop (i + 1) commands)
goes-after lib i commands all old now next k way at done =
    goes-next lib (i + 1) old now next k all (drop (i + 1) commands) (subst (λ (left : List Command). GoesOn lib (i + 1) old now all left) (drop-at commands i k at) way) done

pub goes-stopped : (lib : Library) (g : List Decl) (script : Script) (i : ℕ) (old now : DeltaView) (k : Command) (why : Halt) → Begins g script.nodes old → GoesOn lib (i + 1) old now script.commands (drop i script.commands) → slice_get script.commands i ≡ Some k
    → Halts (each (i + 1) (run_of now.driver) (acts (run_of now.driver) k)) why → Halts (ended g script) why
goes-stopped lib g script i old now k why begins way at h =
    goes-halts lib g script (i + 1) old now k (drop (i + 1) script.commands) why begins.gossip_is (subst (λ (left : List Command). GoesOn lib (i + 1) old now script.commands left) (drop-at script.commands i k at) way) h

-- the point behind the last command
pub goes-point : {A : Type 0} (lib : Library) (g : List Decl) (script : Script) (i : ℕ) (old now : DeltaView) (e : DriverView) (result : Result A Halt) → Begins g script.nodes old → GoesOn lib (i + 1) old now script.commands (drop i script.commands)
    → length script.commands ≤ i → ActsSeen (i + 1) (i + 1) now.driver (Point ∷ []) result e → OnOk result (AreSettled e.nodes) → Plays g script old result (with_driver now e)
goes-point lib g script i old now e (Ok done) begins way past acted settled = record {
  ready = (i + 1, acted.ready);
  settled = settled;
  run = goes-ends lib (i + 1) old now script.commands e (subst (λ (left : List Command). GoesOn lib (i + 1) old now script.commands left) (drop-past script.commands i past) way) acted;
}
goes-point lib g script i old now e (Err why) begins way past acted settled =
    goes-stops lib g script (i + 1) old now why begins.gossip_is (subst (λ (left : List Command). GoesOn lib (i + 1) old now script.commands left) (drop-past script.commands i past) way) acted.halts

pub goes-whole : (g : List Decl) (script : Script) (old new : DeltaView) → Begins g script.nodes old → Played old script.commands new → gossiped g script ≡ Ok (gossip_of new)
goes-whole g script old new begins played = ap (λ (s : Gossip). gossip 1 s script.commands) (sym begins.gossip_is) ∙ played.run

-- ---- what is written

pub written-whole : (d : DeltaView) (before after : List ℕ) (size : ℕ) → before ≡ report_of (run_of d.driver) → size ≡ delta_size d.deltas → after ≡ before ++ line (codes "delta" ∷ decimal d.deliveries ∷ decimal d.gaps ∷ decimal size ∷ []) → after ≡ gossip_output (gossip_of d)
written-whole d before after size report is more =
    more ∙ ap (λ (text : List ℕ). text ++ line (codes "delta" ∷ decimal d.deliveries ∷ decimal d.gaps ∷ decimal size ∷ [])) report
    ∙ ap (λ (n : ℕ). report_of (run_of d.driver) ++ line (codes "delta" ∷ decimal d.deliveries ∷ decimal d.gaps ∷ decimal n ∷ [])) is
