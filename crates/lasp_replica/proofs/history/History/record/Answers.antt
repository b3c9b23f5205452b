use Rattle.std.proofs.Common.{◌≡◌, ◌+◌, ◌++◌, ◌==◌, [], IsTrue, sym, ap, subst, ◌∙◌, arith}
use Rattle.lasp_replica.specs.History.{grown}
use Rattle.lasp_replica.specs.Kept.{Kept}
use Rattle.lasp_replica.proofs.KeptLaws.{goes-on, put-none, where-ok}
use Rattle.lasp_replica.proofs.history.History.record.Goals as goal

pub invariant_of-self : goal.invariant_of-self
invariant_of-self c =
    let kept = c.self.inside in
    let ready : IsTrue kept.prepared = subst (λ (k : Kept). IsTrue k.prepared) (sym c.self.view_is) c.requires.prepared in
    let first = c.is_empty-is_first.ensures ∙ ap (λ n. n == 0) kept.growths.ok.0 in
    let on = goes-on c.append.result c.push.result c.args.self.now.history kept.first kept.log.items kept.pending_first kept.pending.items kept.growths.items c.self.invariant.sound c.self.invariant.covered c.self.invariant.first_alone
    (ap (λ (k : Kept). k.history) c.self.view_is) c.is_empty-is_first.result first c.args.entry c.put_first.new.first c.append.new.self.items c.push.new.self.items c.new.result (c.rows.result + c.len.result)
    c.put_first.ensures.first (c.append.ensures.succeeds (c.self.invariant.rows_fit ready)) c.append.ensures.items
    (omega (arith, c.rows.ensures.exact, c.len.ensures, c.append.new.self.ok.0)) c.new.ensures (c.push.ensures.succeeds (c.self.invariant.entry_fits ready)) c.push.ensures.items c.requires.after in
    record { sound = on.sound'; covered = on.covered'; first_alone = λ some. c.put_first.ensures.prepared ∙ put-none kept.first kept.log.items kept.pending_first kept.pending.items kept.growths.items c.self.invariant.sound c.self.invariant.covered c.self.invariant.first_alone c.is_empty-is_first.result first; rows_fit = λ e. cc; most_fit = λ e. cc; entry_fits = λ e. cc }

pub returns-clause-history : goal.returns-clause-history
returns-clause-history c =
    let kept = c.self.inside in
    let ready : IsTrue kept.prepared = subst (λ (k : Kept). IsTrue k.prepared) (sym c.self.view_is) c.requires.prepared in
    let first = c.is_empty-is_first.ensures ∙ ap (λ n. n == 0) kept.growths.ok.0 in
    let on = goes-on c.append.result c.push.result c.args.self.now.history kept.first kept.log.items kept.pending_first kept.pending.items kept.growths.items c.self.invariant.sound c.self.invariant.covered c.self.invariant.first_alone
    (ap (λ (k : Kept). k.history) c.self.view_is) c.is_empty-is_first.result first c.args.entry c.put_first.new.first c.append.new.self.items c.push.new.self.items c.new.result (c.rows.result + c.len.result)
    c.put_first.ensures.first (c.append.ensures.succeeds (c.self.invariant.rows_fit ready)) c.append.ensures.items
    (omega (arith, c.rows.ensures.exact, c.len.ensures, c.append.new.self.ok.0)) c.new.ensures (c.push.ensures.succeeds (c.self.invariant.entry_fits ready)) c.push.ensures.items c.requires.after in
    on.is ∙ ap (λ (k : Kept). grown k.history k.pending c.args.entry) c.self.view_is

pub returns-clause-pending : goal.returns-clause-pending
returns-clause-pending c =
    let kept = c.self.inside in
    let ready : IsTrue kept.prepared = subst (λ (k : Kept). IsTrue k.prepared) (sym c.self.view_is) c.requires.prepared in
    let none : c.append.new.other.items ≡ [] = where-ok c.append.result c.append.new.other.items [] kept.pending.items (c.append.ensures.succeeds (c.self.invariant.rows_fit ready)) c.append.ensures.other_items in
    let empty = c.put_first.ensures.prepared ∙ put-none kept.first kept.log.items kept.pending_first kept.pending.items kept.growths.items c.self.invariant.sound c.self.invariant.covered c.self.invariant.first_alone
    c.is_empty-is_first.result (c.is_empty-is_first.ensures ∙ ap (λ n. n == 0) kept.growths.ok.0) in
    λ i. empty i ++ none i
