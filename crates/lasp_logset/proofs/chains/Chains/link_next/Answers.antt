use Rattle.std.proofs.Common.{List, ℕ, ◌++◌, ◌∷◌, [], ap, ◌∙◌, arith}
use Rattle.lasp_logset.specs.Chains.{value_hash}
use Rattle.lasp_logset.proofs.ChainLaws.{chained-linked}
use Rattle.lasp_logset.proofs.chains.Chains.link_next.Goals as goal

pub returns : goal.returns
returns c =
    chained-linked c.args.rows.now.entries c.args.self.now.newest.entries c.insert.new.self.entries c.args.self.now.older.items c.push_reserved.new.self.items c.hash_of-hash.result c.len-place.result c.newest_live-before.result
    c.in-Some.name.now c.in-Some.field-0-1.now c.requires (omega (arith, c.len-place.ensures, c.args.self.now.older.ok.0)) c.in-Some.ensures.entry (c.hash_of-hash.ensures ∙ ap value_hash c.value.ensures)
    c.newest_live-before.ensures.behind c.newest_live-before.ensures.live c.in_ok-insert.ensures.updates.0 (c.push_reserved.ensures.items ∙ ap (λ (s : List ℕ). s ++ c.newest_live-before.result ∷ []) c.reserve.ensures.items)
