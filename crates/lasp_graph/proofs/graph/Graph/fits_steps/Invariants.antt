use Rattle.std.proofs.Common.{◌≡◌, ℕ, ◌<◌, slice_get, Some}
use Rattle.model_graph.specs.Graph.{Decl}
use Rattle.model_readings.specs.Lawful.{Fits}
use Rattle.lasp_fns.specs.Steps as counted
use Rattle.lasp_graph.specs.Library.{library_of}
use Rattle.lasp_graph.proofs.graph.Graph.fits_steps.Given as goal

abbrev pub invariant-loop-var : goal.invariant-loop-var
invariant-loop-var g l = (i : ℕ) (d : Decl) → i < l.var → slice_get l.self i ≡ Some d → Fits (library_of (counted.library_of l.lib)) d.kind
