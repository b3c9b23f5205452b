use Rattle.std.proofs.Common.{◌&&◌, ◌==◌, nat_eq, ℕ, Bool, List, length, sym, ap, ◌∙◌}
use Rattle.lasp_call.proofs.MessageLaws.{taken-test}
use Rattle.lasp_call.proofs.message.fits.Goals as goal

pub returns-then-begins : goal.returns-then-begins
returns-then-begins c r same =
    ap (λ (n : ℕ). nat_eq n c.len-then-begins.result) (c.len.ensures ∙ ap (λ (counts : List ℕ). length counts) c.counts.ensures)
    ∙ ap (λ (n : ℕ). nat_eq (length c.args.message.now.counts) n) (c.len-then-begins.ensures ∙ ap (λ (counts : List ℕ). length counts) (sym same))
    ∙ ap (λ (b : Bool). b && (length c.args.message.now.counts == length r.counts)) (sym c.if-begins.true)
    ∙ taken-test c.args.graph.now r c.args.message.now c.begins.result c.begins.ensures

pub returns-else-begins : goal.returns-else-begins
returns-else-begins c r same =
    c.if-begins.false
    ∙ ap (λ (b : Bool). b && (length c.args.message.now.counts == length r.counts)) (sym c.if-begins.false)
    ∙ taken-test c.args.graph.now r c.args.message.now c.begins.result c.begins.ensures
