use Rattle.std.specs.Prelude.{List}
use Rattle.std.specs.Arc.{arc_value}
use Rattle.model_program.specs.Follows.{View, view}
use Rattle.lasp_call.specs.Words.{words_of}
use Rattle.lasp_graph.specs.Library.{library_of}
use Rattle.lasp_top.specs.Live.{lived_of}
use Rattle.lasp_top.proofs.LiveLaws.{live-follows, live-stops}
use Rattle.lasp_top.proofs.live.open_live.Goals as goal

pub returns-in-Ok-clause-follows : goal.returns-in-Ok-clause-follows
returns-in-Ok-clause-follows g c =
    let v : View = view (g.F.Files.content c.args.files.now) (g.F.Files.faults c.args.files.now) (g.F.Files.faults c.open_run.new.files) in
    live-follows (library_of c.args.lib.now) (words_of c.args.words.now) v (arc_value c.in-Ok.field-0.graph) c.in-Ok.field-0.script (lived_of c.live_over.result) c.in-Ok.ensures.part c.live_over.ensures

pub returns-in-Err-clause-follows : goal.returns-in-Err-clause-follows
returns-in-Err-clause-follows g c =
    let v : View = view (g.F.Files.content c.args.files.now) (g.F.Files.faults c.args.files.now) (g.F.Files.faults c.open_run.new.files) in
    live-stops (library_of c.args.lib.now) (words_of c.args.words.now) v c.in-Err.failure c.in-Err.ensures.part
