use Rattle.std.proofs.Common.{◌≡◌, ◌++◌, ◌∷◌, [], map}
use Rattle.std.proofs.lemmas.Result.{err_from_is_err_and}
use Rattle.std.proofs.lemmas.List.{map_push}
use Rattle.model_graph.specs.Message.{Sent}
use Rattle.model_wire.specs.Reader.{list_at}
use Rattle.model_wire.specs.Message.{any_source_at, nothing_of_sources}
use Rattle.lasp_wire.specs.Sent.{sent_of}
use Rattle.lasp_wire.proofs.Loop.{goes_on, ends, is_done}
use Rattle.lasp_wire.proofs.read.sources.sources_of.Goals as goal

pub returns-in_err-source : goal.returns-in_err-source
returns-in_err-source c =
    let read = any_source_at c.args.version c.args.nodes in
    let p = err_from_is_err_and c.from_residual.result c.from_residual.ensures.1 in
    rw (p.1, p.2) (ends _ Sent read nothing_of_sources c.in_err-source.field-0.0 (map sent_of c.loop.sources.items) c.args.count c.loop.counter tt c.loop.rest.now (list_at read nothing_of_sources c.args.count tt c.args.bytes.now)
    c.loop-test.true c.in_err-source.ensures c.loop.invariant)

pub loop-preserved : goal.loop-preserved
loop-preserved c =
    let read = any_source_at c.args.version c.args.nodes in
    let e : map sent_of c.push.new.self.items ≡ map sent_of c.loop.sources.items ++ sent_of c.in_ok-source.source ∷ [] = rw c.in_ok-push.ensures.items (map_push _ c.loop.sources.items c.in_ok-source.source) in
    rw e (goes_on _ Sent read nothing_of_sources (map sent_of c.loop.sources.items) c.args.count c.loop.counter tt c.loop.rest.now (sent_of c.in_ok-source.source) c.in_ok-source.after.now (list_at read nothing_of_sources c.args.count tt c.args.bytes.now)
    c.loop-test.true c.in_ok-source.ensures c.loop.invariant)

pub returns : goal.returns
returns c =
    let read = any_source_at c.args.version c.args.nodes in
    is_done _ Sent read nothing_of_sources (map sent_of c.loop.sources.items) c.args.count c.loop.counter tt c.loop.rest.now (list_at read nothing_of_sources c.args.count tt c.args.bytes.now) c.loop-test.false c.loop.invariant
