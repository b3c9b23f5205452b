use Rattle.std.proofs.Common.{ℕ, nat_le, sym, ap, ◌∙◌}
use Rattle.model_states.specs.Content.{row_limit}
use Rattle.lasp_replica.proofs.SizeLaws.{size-set, few-joined}
use Rattle.lasp_replica.proofs.replica.sizes.rows_fit.Goals as goal

pub returns-then-are_few : goal.returns-then-are_few
returns-then-are_few c = few-joined c.args.set.now c.args.more.now c.are_few.result c.are_few.ensures c.if-are_few.true

pub returns : goal.returns
returns c = ap (λ (n : ℕ). nat_le n row_limit) (c.joined_rows.ensures ∙ sym (size-set c.args.set.now c.args.more.now))
