use Rattle.std.proofs.Common.{◌≡◌, ◌++◌, ℕ, subst, arith, string_bytes}
use Rattle.model_program.specs.Check.{check_line}
use Rattle.lasp_graph.specs.Decl.{decl_of}
use Rattle.lasp_run.proofs.CheckLaws.{lines-next}
use Rattle.lasp_run.proofs.check.graph_text.Goals as goal

pub loop-var-preserved : goal.loop-var-preserved
loop-var-preserved c =
    let d = decl_of c.at.result.now in
    let text = string_bytes c.loop-var.text in
    let more = string_bytes c.push_variable.new.text in
    record {
      within = omega (arith, c.loop-var-test.true, c.len-var-end.ensures.count);
      text = lines-next c.args.graph.now c.loop-var.var d text more c.at.ensures.decl (omega (arith, c.loop-var-test.true, c.len-var-end.ensures.count))
          (subst (λ (w : ℕ). more ≡ text ++ check_line d w) c.width.ensures c.in_ok-push_variable.ensures) c.loop-var.invariant.text;
    }
