use Rattle.std.proofs.Common.{◌≡◌, List, subst}
use Rattle.std.specs.Prelude.{IfOk}
use Rattle.std.specs.Arc.{arc_value}
use Rattle.model_graph.specs.Graph.{Decl}
use Rattle.lasp_histlock.specs.Passes.{first_pass}
use Rattle.tests_store.proofs.Passes.{feed-opened}
use Rattle.tests_store.proofs.feeding.opened.Goals as goal

pub returns : goal.returns
returns c =
    feed-opened c.new.result (arc_value c.args.graph.now) c.args.me 2
    (subst (λ (g : List Decl). IfOk c.new.result (λ made. made.1 ≡ first_pass made.0 (record { opening = g; replica = c.args.me; nodes = 2 }))) c.in_ok-share.ensures c.new.ensures.feed)
    c.new.ensures.seated
