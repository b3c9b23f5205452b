-- Laws of the report: its lines, and the nodes that are asked for them.
use Rattle.std.proofs.Common.{sym, ap, ◌∙◌, append_assoc, append-nil, arith, drop}
use Rattle.std.specs.Prelude.{◌≡◌, ℕ, ◌+◌, ◌≤◌, Bool, List, ◌++◌, length, Some, slice_get}
use Rattle.model_values.proofs.ListLaws.{drop-at}
use Rattle.model_states.specs.Threshold.{meets}
use Rattle.model_world.specs.Line.{known_line, read_line}
use Rattle.model_world.specs.Report.{known_lines, read_lines}
use Rattle.model_world.specs.World.{Peer, Opened, Run, shown_content_at}
use Rattle.model_core.specs.Core.{Read}
use Rattle.lasp_drive.specs.Node.{NodeView}
use Rattle.lasp_drive.specs.Nodes.{AllLearn}
use Rattle.lasp_drive.specs.Driver.{DriverView, run_of}
use Rattle.lasp_drive.specs.Report.{MayPoll, AreOpened}
use Rattle.lasp_drive.specs.declared.driver.OpenRead.{OpenRead}
use Rattle.lasp_drive.proofs.NodeLaws.{var-here, suited-here, with_peers}
use Rattle.lasp_drive.proofs.StepLaws.{with_nodes}
use Rattle.lasp_drive.proofs.PlayLaws.{drop-past}

-- the line of the next node
pub known-next : (p : ℕ) (peers : List Peer) (r : Peer) (counts text next all : List ℕ) → slice_get peers p ≡ Some r → counts ≡ r.counts → next ≡ text ++ known_line p counts
    → text ++ known_lines p (drop p peers) ≡ all → next ++ known_lines (p + 1) (drop (p + 1) peers) ≡ all
known-next p peers r counts text next all at same is so_far =
    ap (λ (t : List ℕ). t ++ known_lines (p + 1) (drop (p + 1) peers)) is ∙ append_assoc text (known_line p counts) (known_lines (p + 1) (drop (p + 1) peers))
    ∙ ap (λ (cs : List ℕ). text ++ (known_line p cs ++ known_lines (p + 1) (drop (p + 1) peers))) same
    ∙ sym (ap (λ (rs : List Peer). text ++ known_lines p rs) (drop-at peers p r at)) ∙ so_far

-- there is no further node
pub known-end : (p : ℕ) (peers : List Peer) (text all : List ℕ) → length peers ≤ p → text ++ known_lines p (drop p peers) ≡ all → text ≡ all
known-end p peers text all past so_far = sym (append-nil text) ∙ sym (ap (λ (rs : List Peer). text ++ known_lines p rs) (drop-past peers p past)) ∙ so_far

-- the line of the next read
pub read-next : (k : ℕ) (run : Run) (reads : List Opened) (o : Opened) (met : Bool) (text next all : List ℕ) → slice_get reads k ≡ Some o → met ≡ meets o.threshold (shown_content_at run o.node o.var) → next ≡ text ++ read_line k met
    → text ++ read_lines k run (drop k reads) ≡ all → next ++ read_lines (k + 1) run (drop (k + 1) reads) ≡ all
read-next k run reads o met text next all at same is so_far =
    ap (λ (t : List ℕ). t ++ read_lines (k + 1) run (drop (k + 1) reads)) is ∙ append_assoc text (read_line k met) (read_lines (k + 1) run (drop (k + 1) reads))
    ∙ ap (λ (b : Bool). text ++ (read_line k b ++ read_lines (k + 1) run (drop (k + 1) reads))) same
    ∙ sym (ap (λ (os : List Opened). text ++ read_lines k run os) (drop-at reads k o at)) ∙ so_far

-- there is no further read
pub read-end : (k : ℕ) (run : Run) (reads : List Opened) (text all : List ℕ) → length reads ≤ k → text ++ read_lines k run (drop k reads) ≡ all → text ≡ all
read-end k run reads text all past so_far = sym (append-nil text) ∙ sym (ap (λ (os : List Opened). text ++ read_lines k run os) (drop-past reads k past)) ∙ so_far

-- a driver whose nodes were asked
pub asked-run : (d : DriverView) (nodes : List NodeView) → AllLearn d.nodes nodes → run_of (with_nodes d nodes) ≡ run_of d
asked-run d nodes learn = ap (with_peers (run_of d)) learn.peers

-- reads of nodes that learned can be polled as before
pub opened-still : (old new : List NodeView) (reads : List (OpenRead Read)) → AllLearn old new → AreOpened old reads → AreOpened new reads
opened-still old new reads learn opened k r at = record {
  settled = learn.settled may.settled;
  node = omega (arith, may.node, learn.size);
  may = λ n there.
      let was = learn.still r.node n there in
      let here = may.may was.0 was.1 in
      record { var = var-here was.0.decls r.read.var n was.2.graph here.var; suits_it = suited-here was.0.decls was.0.among was.0.number r.read.var n r.read.threshold was.2 here.suits_it };
} where
  may : MayPoll old r
  may = opened k r at
