use Rattle.std.proofs.Common.{List, ℕ, ◌++◌, ◌∷◌, [], ap, ◌∙◌, sym, subst, arith}
use Rattle.lasp_logset.specs.Chains.{value_hash}
use Rattle.lasp_logset.specs.Places.{AreFound}
use Rattle.lasp_logset.proofs.LiveLaws.{got-within}
use Rattle.lasp_logset.proofs.ChainLaws.{hash-here}
use Rattle.lasp_logset.proofs.PlaceLaws.{found-link}
use Rattle.lasp_logset.proofs.places.Places.link_next.Goals as goal

pub returns : goal.returns
returns c =
    let hash = hash-here c.args.rows.now.entries c.len-place.result c.in-Some.name.now c.in-Some.field-0-1.now c.hash_of-hash.result c.in-Some.ensures.entry (c.hash_of-hash.ensures ∙ ap value_hash c.value.ensures) in
    subst (λ (o : List ℕ). AreFound c.args.rows.now.entries c.insert.new.self.entries o) (sym (c.push_reserved.ensures.items ∙ ap (λ (s : List ℕ). s ++ c.begin-before.result ∷ []) c.reserve.ensures.items))
    (found-link c.args.rows.now.entries c.args.self.now.newest.entries c.insert.new.self.entries c.args.self.now.older.items c.hash_of-hash.result c.len-place.result c.begin-before.result c.requires
    (omega (arith, c.len-place.ensures, c.args.self.now.older.ok.0)) (got-within c.args.rows.now.entries c.len-place.result (c.in-Some.name.now, c.in-Some.field-0-1.now) (sym c.in-Some.ensures.entry)) hash
    c.begin-before.ensures c.in_ok-insert.ensures.updates.0)
