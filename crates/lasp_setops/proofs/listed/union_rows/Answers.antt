use Rattle.std.proofs.Common.{◌∙◌, ◌++◌, ap}
use Rattle.lasp_setops.proofs.ListedLaws.{union-listed}
use Rattle.lasp_setops.proofs.listed.union_rows.Goals as goal

pub returns : goal.returns
returns c =
    union-listed c.args.first.now c.args.second.now c.append_rows-2.new.out.items
    (c.in_ok-append_rows-2.ensures ∙ ap (λ l. l ++ c.args.second.now) (c.in_ok-append_rows.ensures ∙ ap (λ l. l ++ c.args.first.now) c.in_ok-out.ensures.items))
