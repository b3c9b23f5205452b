use Rattle.std.proofs.Common.{rules, ◌≡◌, Some, sym, subst}
use Rattle.std.proofs.lemmas.Result.{IfOk-weaker}
use Rattle.model_graph.specs.Message.{Message}
use Rattle.model_deltas.specs.Delta.{delta_of}
use Rattle.lasp_delta.specs.Since.{LeadTo}
use Rattle.lasp_delta.proofs.run.act.changes.Goals as goal

pub delta_since-requires : goal.delta_since-requires
delta_since-requires c =
    let same : c.args.last ≡ Some c.in-Some.tail.before = search rules in
    (c.args.sent.now, subst (λ (m : Message). LeadTo c.args.before.now m c.args.sent.now) (sym c.deref.ensures) (c.requires.kept c.in-Some.tail c.in-Some.is same))

pub returns-in-Some : goal.returns-in-Some
returns-in-Some c =
    let same : c.args.last ≡ Some c.in-Some.tail.before = search rules in
    let leads : LeadTo c.args.before.now c.deref.result.now c.args.sent.now =
    subst (λ (m : Message). LeadTo c.args.before.now m c.args.sent.now) (sym c.deref.ensures) (c.requires.kept c.in-Some.tail c.in-Some.is same) in
    IfOk-weaker c.delta_since.result (λ delta. (after : Message) → LeadTo c.args.before.now c.deref.result.now after → delta ≡ delta_of c.args.before.now after) (λ delta. delta ≡ delta_of c.args.before.now c.args.sent.now)
    (λ delta made. made c.args.sent.now leads) c.delta_since.ensures
