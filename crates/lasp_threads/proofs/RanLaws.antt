-- What a run leaves at its nodes.
use Rattle.std.proofs.Common.{◌≡◌, ℕ, List, [], ◌++◌, replicate, Result, Ok, Err, OnOk, OnErr, refl, sym, ap, ◌∙◌, append-nil, zero, suc, arith}
use Rattle.std.specs.Prelude.{slice_index_or}
use Rattle.model_graph.specs.Graph.{Decl}
use Rattle.model_journal.specs.Entry.{Entry}
use Rattle.model_runs.specs.Calls.{calls}
use Rattle.model_world.specs.Command.{Script}
use Rattle.model_world.specs.World.{Run, start, ended}
use Rattle.model_world.specs.declared.stop.Stop.{Stop}
use Rattle.lasp_drive.specs.Calls.{calls_at}
use Rattle.lasp_drive.specs.Node.{NodeView, AreFresh, HaveNoReads}
use Rattle.lasp_drive.specs.Nodes.{calls_of, AllLearn}
use Rattle.lasp_drive.specs.Driver.{DriverView, run_of, Starts}
use Rattle.lasp_drive.specs.Play.{StopsAmong}
use Rattle.lasp_drive.specs.Run.{Ends}
use Rattle.lasp_drive.specs.declared.halt.Halt.{Halt}
use Rattle.lasp_drive.proofs.CallLaws.{no_calls}
use Rattle.lasp_drive.proofs.PointLaws.{learned-nodes}
use Rattle.lasp_threads.specs.Ran.{HaveEnded, HaveBegun}

same-run : (a b : Run) (r : Result Run Stop) → r ≡ Ok a → r ≡ Ok b → a ≡ b
same-run a b r one two = let same : ◌≡◌ {A = Result Run Stop} (Ok a) (Ok b) = sym one ∙ two in cc

-- nodes that nobody has called
none-called : (nodes : List NodeView) (many p : ℕ) → calls_of nodes ≡ replicate many [] → calls_at nodes p ≡ no_calls
none-called nodes many p is = ap (λ (hs : List (List Entry)). slice_index_or hs p []) is ∙ none-in many p where
  none-in : (many p : ℕ) → slice_index_or (replicate many no_calls) p [] ≡ no_calls
  none-in zero p = refl
  none-in (suc many) zero = refl
  none-in (suc many) (suc p) = none-in many p

-- the driver stood at the run's end, and then its nodes were only asked
pub ended-asked : (g : List Decl) (script : Script) (d : DriverView) (nodes : List NodeView) → Ends g script d → AllLearn d.nodes nodes → HaveEnded g script nodes
ended-asked g script d nodes ends learn = record {
  calls = λ p low. ap (λ (all : List (List Entry)). slice_index_or all p []) learn.calls ∙ ends.calls p low;
  peers = λ run is. learn.peers ∙ ap (λ (r : Run). r.peers) (same-run (run_of d) run (ended g script) ends.run is);
  settled = learn.settled ends.settled;
}

-- a run that came to its end came as far as one that stopped
pub ended-begun : (g : List Decl) (script : Script) (nodes : List NodeView) → HaveEnded g script nodes → HaveBegun g script nodes
ended-begun g script nodes ran p low = (no_calls, append-nil (calls_at nodes p) ∙ ran.calls p low)

-- the run stopped on its way
pub stopped-begun : (g : List Decl) (script : Script) (d : DriverView) (why : Halt) (nodes : List NodeView) → Starts g script.nodes d → StopsAmong 1 d script.commands why nodes → HaveBegun g script nodes
stopped-begun g script d why nodes begins stop p low =
    let got = stop.calls p (omega (arith, low, begins.size)) in (
      got.rest,
      ap (λ (h : List Entry). h ++ got.rest) (got.part.is ∙ ap (λ (h : List Entry). h ++ got.part.first) (none-called d.nodes script.nodes p begins.calls)) ∙ got.part.part ∙ ap (λ (r : Run). calls 1 r p script.commands) begins.run,
    )

-- nothing has happened yet
pub fresh-begun : (g : List Decl) (script : Script) (nodes : List NodeView) → AreFresh g script.nodes script.nodes nodes → HaveBegun g script nodes
fresh-begun g script nodes fresh p low =
    let all = calls 1 (start g script.nodes) p script.commands in
    (all, ap (λ (h : List Entry). h ++ all) (none-called nodes script.nodes p fresh.calls))

-- ---- nodes that learned

-- nothing has happened to them either
pub fresh-learned : (g : List Decl) (many : ℕ) (old new : List NodeView) → AreFresh g many many old → AllLearn old new → HaveNoReads new → AreFresh g many many new
fresh-learned g many old new fresh learn none = record {
  size = learn.size ∙ fresh.size;
  nodes_are = learned-nodes g many old new learn fresh.nodes_are;
  peers = learn.peers ∙ fresh.peers;
  calls = learn.calls ∙ fresh.calls;
  reads = none;
  sent = λ p n at. let was = learn.reads.grow p n at in was.3 ∙ fresh.sent p was.0 was.1;
}

pub ended-learned : (g : List Decl) (script : Script) (old new : List NodeView) → HaveEnded g script old → AllLearn old new → HaveEnded g script new
ended-learned g script old new ran learn = record {
  calls = λ p low. ap (λ (all : List (List Entry)). slice_index_or all p []) learn.calls ∙ ran.calls p low;
  peers = λ run is. learn.peers ∙ ran.peers run is;
  settled = learn.settled ran.settled;
}

pub begun-learned : (g : List Decl) (script : Script) (old new : List NodeView) → HaveBegun g script old → AllLearn old new → HaveBegun g script new
begun-learned g script old new begun learn p low =
    let part = begun p low in
    (part.0, ap (λ (all : List (List Entry)). slice_index_or all p [] ++ part.0) learn.calls ∙ part.1)

-- ---- what follows from a clause of one kind of answer

pub ok-then : {A E P Q : Type 0} (r : Result A E) → OnOk r P → (P → Q) → OnOk r Q
ok-then (Ok a) p f = f p
ok-then (Err e) p f = tt

pub err-then : {A E P Q : Type 0} (r : Result A E) → OnErr r P → (P → Q) → OnErr r Q
err-then (Ok a) p f = tt
err-then (Err e) p f = f p
