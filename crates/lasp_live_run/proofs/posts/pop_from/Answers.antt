use Rattle.std.proofs.Common.{rules, ◌≡◌, ◌+◌, length, refl}
use Rattle.std.specs.Prelude.{Some, slice_get, vec_len}
use Rattle.std.proofs.lemmas.Option.{slice_get_read}
use Rattle.lasp_live_run.proofs.PostLaws.{none-from, popped-from}
use Rattle.lasp_live_run.proofs.posts.pop_from.Goals as goal

pub returns-clause-some : goal.returns-clause-some
returns-clause-some c =
    let ins = c.args.ins.now.items in
    let at : slice_get ins c.args.p ≡ Some c.index_mut.result.now = slice_get_read ins (length ins) c.args.p c.index_mut.result.now refl c.requires (search rules) in
    popped-from c.pop.result c.args.p ins c.index_mut.result.now c.pop.new.self at c.pop.ensures.items

pub returns-clause-none : goal.returns-clause-none
returns-clause-none c =
    let ins = c.args.ins.now.items in
    let before = c.index_mut.result.now in
    let at : slice_get ins c.args.p ≡ Some before = slice_get_read ins (length ins) c.args.p before refl c.requires (search rules) in
    let size : length before.items ≡ vec_len before = search rules in
    none-from (λ e. vec_len c.pop.new.self + 1 ≡ vec_len before) c.pop.result c.args.p ins before (vec_len before) (vec_len c.pop.new.self) at c.pop.ensures.cases size
