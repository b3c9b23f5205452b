-- A run goes on command by command.
use Rattle.std.proofs.Common.{zero, suc, refl, sym, ap, subst, ◌∙◌, arith, drop, take}
use Rattle.std.specs.Prelude.{◌≡◌, ℕ, ◌+◌, ◌≤◌, ◌==◌, not, Bool, true, false, if◌then◌else◌, OnOk, List, [], ◌∷◌, ◌++◌, map, flat_map, filter, length, Some, slice_get, Result, Ok, Err}
use Rattle.std.specs.List.{range_with_len}
use Rattle.std.proofs.lemmas.List.{length-map}
use Rattle.std.proofs.lemmas.List.FromFn.{length-range_with_len}
use Rattle.std.proofs.lemmas.Option.{slice_get_within}
use Rattle.model_functions.specs.Library.{Library}
use Rattle.model_graph.specs.Chain.{◌>>=◌}
use Rattle.model_graph.specs.Graph.{Decl}
use Rattle.model_readings.specs.Lawful.{IsNext, IsGraph, FitsAll}
use Rattle.model_scripts.specs.Progress.{grown_by, grown}
use Rattle.model_scripts.proofs.GrowthLaws.{grown-added}
use Rattle.model_world.specs.Command as plain
use Rattle.model_world.specs.Command.{Command, Script}
use Rattle.model_world.specs.Lawful.{Stage, opening_stage, stage_after, AreLawful}
use Rattle.model_world.specs.World.{Run, Act, Point, Post, Take, act, acts, each, step, play, takes, sync_acts, ended}
use Rattle.model_world.specs.declared.stop.Stop.{Stop}
use Rattle.model_journal.specs.Entry.{Entry}
use Rattle.model_runs.specs.Calls.{when_done, calls_of_acts, calls}
use Rattle.model_runs.proofs.MatchLaws.{append-nothing, append-again}
use Rattle.lasp_drive.specs.Node.{NodeView, AreSettled}
use Rattle.lasp_drive.specs.Calls.{calls_at}
use Rattle.lasp_drive.specs.Waiting.{opened_by, counted_on}
use Rattle.lasp_drive.specs.Driver.{DriverView, run_of, stage_of, Stands, Starts}
use Rattle.lasp_drive.specs.Acts.{Halts, all_staged, all_asks, Acted, ActsSeen, StopsWithin}
use Rattle.lasp_drive.specs.Stretch.{GoesOn, MayGoOn}
use Rattle.lasp_drive.specs.Play.{asked, all_asked, stages_after, MayPlay, Played, PlaysSeen, StopsAmong}
use Rattle.lasp_drive.specs.Run.{IsRunnable, Ends}
use Rattle.lasp_drive.specs.declared.halt.Halt.{Halt}
use Rattle.lasp_drive.proofs.ActLaws.{acts-later, halts-as, halts-then, takes_of, posted-stage, all-taken-stage, staged-append, asks-append}
use Rattle.lasp_drive.proofs.CallLaws.{counted-twice, no_calls, called-alone, opened-alone, part-before, part-behind}

pub take-at : {X : Type 0} (xs : List X) (i : ℕ) (x : X) → slice_get xs i ≡ Some x → take (i + 1) xs ≡ take i xs ++ x ∷ []
take-at xs i x e = ap (λ (n : ℕ). take n xs) (let next : i + 1 ≡ suc i = omega arith in next) ∙ more xs i x e where
  more : {X : Type 0} (xs : List X) (i : ℕ) (x : X) → slice_get xs i ≡ Some x → take (suc i) xs ≡ take i xs ++ x ∷ []
  more [] i x e = absurd cc
  more (y ∷ xs) zero x e = ap (λ z. z ∷ []) (let same : y ≡ x = cc in same)
  more (y ∷ xs) (suc i) x e = ap (λ ys. y ∷ ys) (more xs i x e)

pub drop-past : {X : Type 0} (xs : List X) (i : ℕ) → length xs ≤ i → drop i xs ≡ []
drop-past [] zero h = refl
drop-past [] (suc i) h = refl
drop-past (x ∷ xs) zero h = absurd (omega (arith, h))
drop-past (x ∷ xs) (suc i) h = drop-past xs i (omega (arith, h))

-- ---- the graph of a script

slice-append : {X : Type 0} (xs ys : List X) (i : ℕ) (x : X) → slice_get xs i ≡ Some x → slice_get (xs ++ ys) i ≡ Some x
slice-append [] ys i x e = absurd cc
slice-append (z ∷ xs) ys zero x e = e
slice-append (z ∷ xs) ys (suc i) x e = slice-append xs ys i x e

take-append : {X : Type 0} (xs ys : List X) (i : ℕ) → i ≤ length xs → take i (xs ++ ys) ≡ take i xs
take-append xs ys zero h = refl
take-append [] ys (suc i) h = absurd (omega (arith, h))
take-append (x ∷ xs) ys (suc i) h = ap (λ zs. x ∷ zs) (take-append xs ys i (omega (arith, h)))

length-append : {X : Type 0} (xs ys : List X) → length xs ≤ length (xs ++ ys)
length-append [] ys = omega arith
length-append (x ∷ xs) ys = omega (arith, length-append xs ys)

graph-before : (g h : List Decl) → IsGraph (g ++ h) → IsGraph g
graph-before g h graph = record {
  few = omega (arith, length-append g h, graph.few);
  each = λ i d at. subst (λ (before : List Decl). IsNext before d) (take-append g h i (omega (arith, slice_get_within g i d at))) (graph.each i d (slice-append g h i d at));
}

-- what is declared so far is a graph, and its functions fit
pub graph-so-far : (g : List Decl) (ks : List Command) → IsGraph (grown g ks) → IsGraph g
graph-so-far g ks graph = graph-before g (grown [] ks) (subst IsGraph (grown-added g ks) graph)

pub fits-so-far : (lib : Library) (g : List Decl) (ks : List Command) → FitsAll lib (grown g ks) → FitsAll lib g
fits-so-far lib g ks fits i d at = subst (λ (h : List Decl). FitsAll lib h) (grown-added g ks) fits i d (slice-append g (grown [] ks) i d at)

slice-last : {X : Type 0} (xs : List X) (x : X) → slice_get (xs ++ x ∷ []) (length xs) ≡ Some x
slice-last [] x = refl
slice-last (y ∷ xs) x = slice-last xs x

take-all : {X : Type 0} (xs ys : List X) → take (length xs) (xs ++ ys) ≡ xs
take-all [] ys = refl
take-all (x ∷ xs) ys = ap (λ zs. x ∷ zs) (take-all xs ys)

-- the declaration at the end may follow those before it
pub next-last : (g : List Decl) (d : Decl) → IsGraph (g ++ d ∷ []) → IsNext g d
next-last g d graph = subst (λ (before : List Decl). IsNext before d) (take-all g (d ∷ [])) (graph.each (length g) d (slice-last g d))

-- a command declares what its stage has more
pub stage-graph : (many : ℕ) (s : Stage) (k : Command) → (stage_after many s k).graph ≡ grown_by s.graph k
stage-graph many s (plain.Add p x v) = refl
stage-graph many s (plain.Remove p x v) = refl
stage-graph many s (plain.Insert p x v) = refl
stage-graph many s (plain.Inc p x k) = refl
stage-graph many s (plain.Max p x n) = refl
stage-graph many s (plain.Mark p x) = refl
stage-graph many s (plain.Bind p x m) = refl
stage-graph many s (plain.Send p) = refl
stage-graph many s (plain.Deliver p i) = refl
stage-graph many s plain.Sync = refl
stage-graph many s plain.Settle = refl
stage-graph many s (plain.Print p x) = refl
stage-graph many s (plain.Read p x u) = refl
stage-graph many s (plain.Await p x u) = refl
stage-graph many s (plain.Declare d) = refl

-- ---- a command as its acts

-- a sync sends as many messages as there are nodes
sync-stage : (many : ℕ) (s : Stage) (run : Run) → length run.peers ≡ many → all_staged s (acts run plain.Sync) ≡ stage_after many s plain.Sync
sync-stage many s run size =
    staged-append s posts taken_all
    ∙ ap (λ (t : Stage). all_staged t taken_all) (posted-stage s (range_with_len 0 (length run.peers)))
    ∙ all-taken-stage (record { graph = s.graph; marked = s.marked; sent = s.sent + length (range_with_len 0 (length run.peers)) }) (length run.peers) (length run.sent) (range_with_len 0 (length run.peers))
    ∙ ap (λ (n : ℕ). record { graph = s.graph; marked = s.marked; sent = s.sent + n }) (length-range_with_len 0 (length run.peers) ∙ size)
  where
    posts : List Act
    posts = map Post (range_with_len 0 (length run.peers))

    taken_all : List Act
    taken_all = flat_map (takes (length run.peers) (length run.sent)) (range_with_len 0 (length run.peers))

pub command-stage : (many : ℕ) (s : Stage) (run : Run) (k : Command) → length run.peers ≡ many → all_staged s (acts run k) ≡ stage_after many s k
command-stage many s run (plain.Add p x v) size = refl
command-stage many s run (plain.Remove p x v) size = refl
command-stage many s run (plain.Insert p x v) size = refl
command-stage many s run (plain.Inc p x k) size = refl
command-stage many s run (plain.Max p x n) size = refl
command-stage many s run (plain.Mark p x) size = refl
command-stage many s run (plain.Bind p x m) size = refl
command-stage many s run (plain.Send p) size = refl
command-stage many s run (plain.Deliver p i) size = refl
command-stage many s run plain.Sync size = sync-stage many s run size
command-stage many s run plain.Settle size = refl
command-stage many s run (plain.Print p x) size = refl
command-stage many s run (plain.Read p x u) size = refl
command-stage many s run (plain.Await p x u) size = refl
command-stage many s run (plain.Declare d) size = refl

-- messages that are sent and taken open no read
posts-ask : (q : ℕ) (ps : List ℕ) → all_asks q (map Post ps) ≡ 0
posts-ask q [] = refl
posts-ask q (p ∷ ps) = omega (arith, posts-ask q ps)

taken-ask : (q i p : ℕ) (ks : List ℕ) → all_asks q (takes_of i p ks) ≡ 0
taken-ask q i p [] = refl
taken-ask q i p (k ∷ ks) = here (not (k == p)) (taken-ask q i p ks) where
  here : (b : Bool) → all_asks q (takes_of i p ks) ≡ 0 → all_asks q (map (λ (j : ℕ). Take p (i + j)) (if b then k ∷ filter (λ j. not (j == p)) ks else filter (λ j. not (j == p)) ks)) ≡ 0
  here true rest = omega (arith, rest)
  here false rest = rest

all-taken-ask : (q n i : ℕ) (ps : List ℕ) → all_asks q (flat_map (takes n i) ps) ≡ 0
all-taken-ask q n i [] = refl
all-taken-ask q n i (p ∷ ps) = omega (arith, asks-append q (takes n i p) (flat_map (takes n i) ps), taken-ask q i p (range_with_len 0 n), all-taken-ask q n i ps)

pub command-asks : (q : ℕ) (run : Run) (k : Command) → all_asks q (acts run k) ≡ asked q k
command-asks q run (plain.Add p x v) = refl
command-asks q run (plain.Remove p x v) = refl
command-asks q run (plain.Insert p x v) = refl
command-asks q run (plain.Inc p x k) = refl
command-asks q run (plain.Max p x n) = refl
command-asks q run (plain.Mark p x) = refl
command-asks q run (plain.Bind p x m) = refl
command-asks q run (plain.Send p) = refl
command-asks q run (plain.Deliver p i) = refl
command-asks q run plain.Sync = omega (arith, asks-append q (map Post (range_with_len 0 (length run.peers))) (flat_map (takes (length run.peers) (length run.sent)) (range_with_len 0 (length run.peers))), posts-ask q (range_with_len 0 (length run.peers)), all-taken-ask q (length run.peers) (length run.sent) (range_with_len 0 (length run.peers)))
command-asks q run plain.Settle = refl
command-asks q run (plain.Print p x) = refl
command-asks q run (plain.Read p x u) = omega arith
command-asks q run (plain.Await p x u) = omega arith
command-asks q run (plain.Declare d) = refl

-- a sync as a command
pub steps-sync : {A : Type 0} (c n : ℕ) (d e : DriverView) (result : Result A Halt) → length d.nodes ≡ n → ActsSeen c c d (sync_acts n (length d.sent)) result e → ActsSeen c (c + 1) d (acts (run_of d) plain.Sync) result e
steps-sync c n d e result size done =
    acts-later c d e (acts (run_of d) plain.Sync) result
    (subst (λ (many : ℕ). ActsSeen c c d (sync_acts many (length d.sent)) result e) (sym (length-map d.nodes (λ (n : NodeView). n.peer) ∙ size)) done)

-- ---- the commands of a script

pub way-begins : (b : ℕ) (d : DriverView) (all : List Command) → Stands b d → GoesOn b b d d all all
way-begins b d all ready = record { ready = ready; size = refl; stage = refl; run = refl; calls = λ p low. record { first = []; is = sym (append-nothing (calls_at d.nodes p)); part = refl }; opened = λ p low. refl }

-- the next command was done
pub way-next : (b c : ℕ) (old now next : DriverView) (k : Command) (left all : List Command) → GoesOn b c old now all (k ∷ left) → Acted c (c + 1) now (acts (run_of now) k) next → GoesOn b (c + 1) old next all left
unfolding play calls
way-next b c old now next k left all way done = record {
  ready = done.ready;
  size = done.size ∙ way.size;
  stage = ap (λ (s : Stage). stages_after (length old.nodes) s left) (done.stage ∙ command-stage (length old.nodes) (stage_of now) (run_of now) k (length-map now.nodes (λ (n : NodeView). n.peer) ∙ way.size)) ∙ way.stage;
  run = sym (ap (λ (r : Result Run Stop). r >>= (λ n. play (c + 1) n left)) done.run) ∙ way.run;
  calls = λ p low.
      let part = way.calls p low in
      let here = calls_of_acts c (run_of now) p (acts (run_of now) k) in
      record {
        first = part.first ++ here;
        is = done.calls p (omega (arith, low, way.size)) ∙ ap (λ (h : List Entry). h ++ here) part.is ∙ append-again (calls_at old.nodes p) part.first here;
        part = append-again part.first here (calls (c + 1) (run_of next) p left)
            ∙ ap (λ (r : Result Run Stop). part.first ++ (here ++ when_done r (λ n. calls (c + 1) n p left))) (sym done.run)
            ∙ part.part;
      };
  opened = λ p low.
      ap (counted_on (all_asked p left)) (done.opened p (omega (arith, low, way.size))) ∙ counted-twice (all_asks p (acts (run_of now) k)) (all_asked p left) (opened_by now.nodes p)
      ∙ ap (λ (j : ℕ). counted_on (j + all_asked p left) (opened_by now.nodes p)) (command-asks p (run_of now) k) ∙ way.opened p low;
}

-- the next command stopped the run
pub way-stops : (b c : ℕ) (old now : DriverView) (k : Command) (left all : List Command) (why : Halt) (nodes : List NodeView) → GoesOn b c old now all (k ∷ left) → StopsWithin c now (acts (run_of now) k) why nodes → StopsAmong b old all why nodes
unfolding play calls
way-stops b c old now k left all why nodes way stop = record {
  halts = halts-as (play b (run_of old) all) (step c (run_of now) k >>= (λ n. play (c + 1) n left)) why (sym way.run) (halts-then (step c (run_of now) k) (λ n. play (c + 1) n left) why stop.halts);
  calls = λ p low.
      let part = way.calls p low in
      let here = calls_of_acts c (run_of now) p (acts (run_of now) k) in
      let behind = when_done (step c (run_of now) k) (λ n. calls (c + 1) n p left) in
      part-behind (calls_at old.nodes p) (calls_at now.nodes p) (calls_at nodes p) part.first (here ++ behind) (calls b (run_of old) p all) part.is (sym part.part)
      (part-before (calls_at now.nodes p) (calls_at nodes p) here (here ++ behind) (record { tail = behind; is = refl }) (stop.calls p (omega (arith, low, way.size))));
}

-- some commands were done, and then others of those that were left
pub way-then : (b c e : ℕ) (old mid new : DriverView) (all left rest : List Command) → GoesOn b c old mid all left → GoesOn c e mid new left rest → GoesOn b e old new all rest
way-then b c e old mid new all left rest first second = record {
  ready = second.ready;
  size = second.size ∙ first.size;
  stage = ap (λ (many : ℕ). stages_after many (stage_of new) rest) (sym first.size) ∙ second.stage ∙ ap (λ (many : ℕ). stages_after many (stage_of mid) left) first.size ∙ first.stage;
  run = second.run ∙ first.run;
  calls = λ p low.
      let one = first.calls p low in
      let two = second.calls p (omega (arith, low, first.size)) in
      record {
        first = one.first ++ two.first;
        is = two.is ∙ ap (λ (h : List Entry). h ++ two.first) one.is ∙ append-again (calls_at old.nodes p) one.first two.first;
        part = append-again one.first two.first (calls e (run_of new) p rest) ∙ ap (λ (h : List Entry). one.first ++ h) two.part ∙ one.part;
      };
  opened = λ p low. second.opened p (omega (arith, low, first.size)) ∙ first.opened p low;
}

-- the run stopped among those that were left
pub way-halts : (b c : ℕ) (old mid : DriverView) (all left : List Command) (why : Halt) (nodes : List NodeView) → GoesOn b c old mid all left → StopsAmong c mid left why nodes → StopsAmong b old all why nodes
way-halts b c old mid all left why nodes first stop = record {
  halts = halts-as (play b (run_of old) all) (play c (run_of mid) left) why (sym first.run) stop.halts;
  calls = λ p low.
      let one = first.calls p low in
      part-behind (calls_at old.nodes p) (calls_at mid.nodes p) (calls_at nodes p) one.first (calls c (run_of mid) p left) (calls b (run_of old) p all) one.is (sym one.part) (stop.calls p (omega (arith, low, first.size)));
}

-- none is left: the end of a script is a point
pub way-ends : {A : Type 0} (c : ℕ) (old now new : DriverView) (all : List Command) (result : Result A Halt) → c ≤ 100000 → GoesOn 1 c old now all [] → ActsSeen c c now (Point ∷ []) result new → OnOk result (AreSettled new.nodes) → PlaysSeen old all result new
unfolding play calls
way-ends c old now new all (Ok done) few way point settled = record {
  last = c;
  few = few;
  ready = point.ready;
  size = point.size ∙ way.size;
  settled = settled;
  stage = point.stage ∙ way.stage;
  run = sym way.run ∙ sym (one-point (act c (run_of now) Point)) ∙ point.run;
  calls = λ p low.
      let part = way.calls p low in
      point.calls p (omega (arith, low, way.size)) ∙ ap (λ (h : List Entry). calls_at now.nodes p ++ h) (none-called (act c (run_of now) Point)) ∙ append-nothing (calls_at now.nodes p)
      ∙ part.is ∙ ap (λ (h : List Entry). calls_at old.nodes p ++ h) (sym (append-nothing part.first) ∙ part.part);
  opened = λ p low. point.opened p (omega (arith, low, way.size)) ∙ way.opened p low;
} where
  one-point : (r : Result Run Stop) → r >>= (λ n. each c n []) ≡ r
  one-point (Ok n) = refl
  one-point (Err e) = refl

  none-called : (r : Result Run Stop) → when_done r (λ n. no_calls) ≡ no_calls
  none-called (Ok n) = refl
  none-called (Err e) = refl
way-ends c old now new all (Err why) few way point settled = record {
  halts = halts-as (play 1 (run_of old) all) (each c (run_of now) (Point ∷ [])) why (sym way.run ∙ sym (one-point (act c (run_of now) Point))) point.halts;
  calls = λ p low.
      let part = way.calls p low in
      let here = calls_of_acts c (run_of now) p (Point ∷ []) in
      part-behind (calls_at old.nodes p) (calls_at now.nodes p) (calls_at new.nodes p) part.first here (calls 1 (run_of old) p all) part.is
      (sym part.part ∙ ap (λ (h : List Entry). part.first ++ h) (sym (none-called (act c (run_of now) Point)))) (point.calls p (omega (arith, low, way.size)));
} where
  one-point : (r : Result Run Stop) → r >>= (λ n. each c n []) ≡ r
  one-point (Ok n) = refl
  one-point (Err e) = refl

  none-called : (r : Result Run Stop) → when_done r (λ n. no_calls) ≡ no_calls
  none-called (Ok n) = refl
  none-called (Err e) = refl

-- a command that is done leaves its graph
pub graph-next : (c many : ℕ) (now next : DriverView) (k : Command) → length now.nodes ≡ many → Acted c (c + 1) now (acts (run_of now) k) next → next.graph ≡ grown_by now.graph k
graph-next c many now next k size done =
    ap (λ (s : Stage). s.graph) (done.stage ∙ command-stage many (stage_of now) (run_of now) k (length-map now.nodes (λ (n : NodeView). n.peer) ∙ size)) ∙ stage-graph many (stage_of now) k

pub stage-next : (c many : ℕ) (now next : DriverView) (k : Command) → length now.nodes ≡ many → Acted c (c + 1) now (acts (run_of now) k) next → stage_of next ≡ stage_after many (stage_of now) k
stage-next c many now next k size done = done.stage ∙ command-stage many (stage_of now) (run_of now) k (length-map now.nodes (λ (n : NodeView). n.peer) ∙ size)

-- what is left once the next command was done may be done
pub may-next : (lib : Library) (c : ℕ) (now next : DriverView) (k : Command) (left : List Command) → MayGoOn lib c now (k ∷ left) → Acted c (c + 1) now (acts (run_of now) k) next → MayGoOn lib (c + 1) next left
may-next lib c now next k left may done =
    let graph = graph-next c (length now.nodes) now next k refl done in
    record {
      ready = done.ready;
      lawful = subst (λ (many : ℕ). AreLawful many (stage_of next) left) (sym done.size)
          (subst (λ (s : Stage). AreLawful (length now.nodes) s left) (sym (stage-next c (length now.nodes) now next k refl done)) may.lawful.1);
      few = omega (arith, may.few);
      graph = subst (λ (h : List Decl). IsGraph (grown h left)) (sym graph) may.graph;
      fits = subst (λ (h : List Decl). FitsAll lib (grown h left)) (sym graph) may.fits;
    }

-- the first stretch of a script
pub may-begin : (lib : Library) (d : DriverView) (all : List Command) → MayPlay lib d all → MayGoOn lib 1 d all
may-begin lib d all may = record {
  ready = may.ready;
  lawful = subst (λ (s : Stage). AreLawful (length d.nodes) s all) (sym may.stage) may.lawful;
  few = omega (arith, may.few);
  graph = may.graph;
  fits = may.fits;
}

-- ---- a whole script

pub may-play : (lib : Library) (g : List Decl) (script : Script) (d : DriverView) → IsRunnable lib g script → Starts g script.nodes d → MayPlay lib d script.commands
may-play lib g script d runnable begins =
    let graph : g ≡ d.graph = sym (ap (λ (s : Stage). s.graph) begins.stage) in
    record {
      ready = begins.ready;
      stage = begins.stage ∙ ap opening_stage graph;
      lawful = subst (λ (many : ℕ). AreLawful many (opening_stage d.graph) script.commands) (sym begins.size) (subst (λ (h : List Decl). AreLawful script.nodes (opening_stage h) script.commands) graph runnable.lawful.each);
      few = runnable.limits.few;
      graph = subst (λ (h : List Decl). IsGraph (grown h script.commands)) graph runnable.graph;
      fits = subst (λ (h : List Decl). FitsAll lib (grown h script.commands)) graph runnable.fits;
    }

pub runs-to : (g : List Decl) (script : Script) (d e : DriverView) → Starts g script.nodes d → Played d script.commands e → Ends g script e
runs-to g script d e begins played = record {
  run = ap (λ (r : Run). play 1 r script.commands) (sym begins.run) ∙ played.run;
  size = played.size ∙ begins.size;
  last = played.last;
  few = played.few;
  ready = played.ready;
  settled = played.settled;
  stage = played.stage ∙ ap (λ (many : ℕ). stages_after many (stage_of d) script.commands) begins.size ∙ ap (λ (s : Stage). stages_after script.nodes s script.commands) begins.stage;
  calls = λ p low. called-alone d.nodes e.nodes script.nodes (λ q. calls 1 (run_of d) q script.commands) begins.calls begins.size played.calls p low ∙ ap (λ (r : Run). calls 1 r p script.commands) begins.run;
  opened = λ p low. opened-alone d.nodes e.nodes script.nodes (λ q. all_asked q script.commands) begins.reads begins.size played.opened p low;
}

pub runs-halt : (g : List Decl) (script : Script) (d : DriverView) (why : Halt) → Starts g script.nodes d → Halts (play 1 (run_of d) script.commands) why → Halts (ended g script) why
runs-halt g script d why begins h = halts-as (ended g script) (play 1 (run_of d) script.commands) why (ap (λ (r : Run). play 1 r script.commands) (sym begins.run)) h
