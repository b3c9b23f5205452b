use Rattle.std.proofs.Common.{rules, ◌≡◌, length, refl}
use Rattle.std.specs.Prelude.{Some, slice_get}
use Rattle.std.proofs.lemmas.Option.{slice_get_read}
use Rattle.lasp_live_run.proofs.posts.push_to.Goals as goal

pub returns : goal.returns
returns c =
    let ins = c.args.ins.now.items in
    let at : slice_get ins c.args.p ≡ Some c.index_mut.result.now = slice_get_read ins (length ins) c.args.p c.index_mut.result.now refl c.requires (search rules) in
    record { before = c.index_mut.result.now; after = c.push.new.self; at = at; is = refl; items = c.in_ok-push.ensures.items }
