use Rattle.std.proofs.Common.{◌≡◌, ℕ, List, ap, subst, ◌∙◌}
use Rattle.std.specs.Prelude.{IfOk}
use Rattle.model_graph.specs.Graph.{name_at}
use Rattle.model_scripts.specs.Progress.{grown}
use Rattle.lasp_graph.specs.Decl.{decl_of}
use Rattle.lasp_run.proofs.NameLaws.{name-at}
use Rattle.lasp_run.proofs.name.declared_name.Goals as goal

pub returns-then-var-len : goal.returns-then-var-len
returns-then-var-len c =
    subst (λ (n : List ℕ). IfOk c.try_clone.result (λ name. name ≡ n))
    (name-at c.args.graph.now c.args.script.now.commands c.from-var.result (decl_of c.at.result.now) c.at.ensures.decl
    ∙ ap (λ (x : ℕ). name_at (grown c.args.graph.now c.args.script.now.commands) x) c.from-var.ensures)
    c.try_clone.ensures
