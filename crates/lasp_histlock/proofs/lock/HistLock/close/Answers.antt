use Rattle.std.proofs.Common.{◌≡◌, true, sym, ap, subst, ◌∙◌}
use mathlib.Core.List.{IsPrefix}
use Rattle.lasp_histlock.specs.History.{entries_of, added}
use Rattle.lasp_histlock.specs.Views.{turned_to}
use Rattle.lasp_histlock.proofs.Prefixes.{prefix_added, none_past}
use Rattle.lasp_histlock.proofs.lock.HistLock.close.Goals as goal

pub returns-clause-others : goal.returns-clause-others
returns-clause-others g c =
    let names = g.T.Kept.names in
    let seen = c.args.p.seen in let list = g.T.Kept.list c.begin.result in
    let v = c.p.inside.seat.me.0 in
    let view : c.open.new.seat.me.0 ≡ turned_to true v = ap (λ m. m.0) c.if-not-open.ensures.turn in
    let seen_is = ap (λ q. q.seen) c.p.view_is in
    let first : v.number ≡ 0 = ap (λ q. q.number) c.p.view_is ∙ c.requires.first in
    let prefix : IsPrefix seen list = subst (λ l. IsPrefix l list) (ap (λ u. u.seen) view ∙ seen_is) c.begin.ensures.seen in
    let old : entries_of names 0 seen ≡ v.own = sym (ap (entries_of names 0) seen_is) ∙ (sym (ap (λ n. entries_of names n v.seen) first) ∙ sym c.p.invariant.own) in
    let new : v.own ≡ entries_of names 0 list = sym (ap (λ u. u.own) view) ∙ (c.begin.ensures.own ∙ ap (λ n. entries_of names n list) (ap (λ u. u.number) view ∙ first)) in
    none_past names 0 seen (added seen list) (old ∙ (new ∙ sym (ap (entries_of names 0) (prefix_added seen list prefix))))
