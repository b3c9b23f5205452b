use Rattle.std.proofs.Common.{◌-◌, length}
use Rattle.std.specs.Arc.{arc_value}
use Rattle.model_program.specs.Follows.{View, view}
use Rattle.model_site.specs.Program.{is_for, taking_in}
use Rattle.lasp_call.specs.Words.{words_of}
use Rattle.lasp_site.specs.Failure.{answered}
use Rattle.lasp_site.proofs.OwnLaws.{script-own, script-node, follows-given, follows-refused}
use Rattle.lasp_site.proofs.site.run_script.Goals as goal

pub take_in-requires-clause-member : goal.take_in-requires-clause-member
take_in-requires-clause-member g c = script-node c.args.me c.args.script.now c.in-Ok.field-0 c.in-Ok.ensures

pub take_in-requires-clause-own : goal.take_in-requires-clause-own
take_in-requires-clause-own g c = script-own c.args.me c.args.script.now c.in-Ok.field-0 c.in-Ok.ensures

pub returns-in-Ok-clause-follows : goal.returns-in-Ok-clause-follows
returns-in-Ok-clause-follows g c =
    let v : View = view (g.F.Files.content c.args.files.now) (g.F.Files.faults c.args.files.now) (g.F.Files.faults c.take_in.new.files) in
    follows-given (words_of c.args.words.now) v (is_for c.args.me c.args.script.now) (taking_in c.args.me (arc_value c.args.graph.now) c.args.script.now (length c.args.words.now - 4)) (answered c.take_in.result) c.in-Ok.field-0 c.in-Ok.ensures c.take_in.ensures.follows

pub returns-in-Err-clause-follows : goal.returns-in-Err-clause-follows
returns-in-Err-clause-follows g c =
    let v : View = view (g.F.Files.content c.args.files.now) (g.F.Files.faults c.args.files.now) (g.F.Files.faults c.args.files.now) in
    follows-refused (words_of c.args.words.now) v (is_for c.args.me c.args.script.now) (taking_in c.args.me (arc_value c.args.graph.now) c.args.script.now (length c.args.words.now - 4)) c.in-Err.failure c.in-Err.ensures
