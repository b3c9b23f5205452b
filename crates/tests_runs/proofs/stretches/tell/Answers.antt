use Rattle.std.proofs.Common.{sym, subst}
use Rattle.std.specs.Prelude.{List}
use Rattle.model_graph.specs.Graph.{Decl}
use Rattle.model_readings.specs.Lawful.{FitsAll}
use Rattle.lasp_graph.specs.Library.{library_of}
use Rattle.lasp_drive.specs.Run.{IsRunnable}
use Rattle.tests_runs.proofs.stretches.tell.Goals as goal

pub tell_stretch-requires : goal.tell_stretch-requires
tell_stretch-requires g c =
    subst (λ (ds : List Decl). IsRunnable (library_of c.args.lib.now) ds c.in_ok-script.script) c.deref.ensures (record {
      lawful = c.in_ok-script.ensures.lawful;
      limits = c.in_ok-script.ensures.limits;
      graph = c.in_ok-script.ensures.graph;
      fits = c.in_ok-script.ensures.fits (subst (FitsAll (library_of c.args.lib.now)) (sym c.deref.ensures) c.requires);
    })

pub tell_run-requires-clause-runnable : goal.tell_run-requires-clause-runnable
tell_run-requires-clause-runnable g c =
    subst (λ (ds : List Decl). IsRunnable (library_of c.args.lib.now) ds c.in_ok-script.script) c.deref.ensures (record {
      lawful = c.in_ok-script.ensures.lawful;
      limits = c.in_ok-script.ensures.limits;
      graph = c.in_ok-script.ensures.graph;
      fits = c.in_ok-script.ensures.fits (subst (FitsAll (library_of c.args.lib.now)) (sym c.deref.ensures) c.requires);
    })
