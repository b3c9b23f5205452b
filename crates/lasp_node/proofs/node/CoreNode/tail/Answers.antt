use Rattle.std.proofs.Common.{◌≤◌, length, refl, sym, subst}
use Rattle.std.specs.Prelude.{Option}
use Rattle.model_graph.specs.Message.{Message}
use Rattle.lasp_core.specs.Since.{IsTailSince}
use Rattle.lasp_node.specs.View.{entries_sent}
use Rattle.lasp_node.specs.declared.node.LastSent.{LastSent}
use Rattle.lasp_node.proofs.TailLaws.{tail-of}
use Rattle.lasp_node.proofs.node.CoreNode.tail.Goals as goal

pub tail_since-requires : goal.tail_since-requires
tail_since-requires c = subst (λ (s : Option LastSent). entries_sent s ≤ length c.args.self.now.core.entries) c.in-Some.is c.args.self.now.early

pub returns-in_ok-new-in-Some : goal.returns-in_ok-new-in-Some
returns-in_ok-new-in-Some c =
    let core = c.args.self.now.core in
    let last = c.in-Some.last in
    tail-of core c.recall.ensures.core c.args.self.now.sent last c.in-Some.is (record { before = last.number; rows = c.in_ok-new-in-Some.field-0 }) refl
    (subst (λ (m : Message). IsTailSince core.frame core.entries last.entries m) (sym c.in_ok-new-in-Some.ensures.ok) c.in_ok-rows-in-Some.ensures)
