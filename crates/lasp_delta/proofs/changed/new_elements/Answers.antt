use Rattle.std.proofs.Common.{◌≡◌, ◌↔◌, ◌++◌, ◌∷◌, [], IsTrue, List, map, sym, ap, subst, ◌∙◌, append-nil, append_assoc}
use Rattle.std.proofs.lemmas.List.{map_push}
use Rattle.model_values.specs.Value.{Val}
use Rattle.model_sets.specs.Values.{AreAscending, IsHeld}
use Rattle.model_deltas.specs.Delta.{new_values}
use Rattle.lasp_value.specs.Value.{val_of}
use Rattle.lasp_delta.proofs.ChangedLaws.{new-kept, new-ascends}
use Rattle.lasp_delta.proofs.changed.new_elements.Goals as goal

pub loop-value-preserved-in_ok-push : goal.loop-value-preserved-in_ok-push
loop-value-preserved-in_ok-push c =
    let kept = map val_of c.loop-value.values.items in
    let v = val_of c.in-Some.value.now in
    let rest = new_values c.args.before.now c.next.new.self in
    let pushed : map val_of c.push.new.self.items ≡ kept ++ v ∷ [] =
    ap (map val_of) c.in_ok-push.ensures.items ∙ map_push _ c.loop-value.values.items c.in_ok-try_clone.field-0 ∙ ap (λ (u : Val). kept ++ u ∷ []) c.in_ok-try_clone.ensures in
    ap (λ (l : List Val). l ++ rest) pushed ∙ append_assoc kept (v ∷ []) rest
    ∙ ap (λ (l : List Val). kept ++ l) (sym (ap (new_values c.args.before.now) c.in-Some.ensures.some ∙ new-kept c.args.before.now v c.next.new.self c.has.result (subst (λ (s : List Val). IsTrue c.has.result ↔ IsHeld s v) c.in_ok-known.ensures c.has.ensures) c.if-not-has.true))
    ∙ c.loop-value.invariant

pub from_ascending-requires : goal.from_ascending-requires
from_ascending-requires c =
    let kept = map val_of c.loop-value.values.items in
    let all : kept ≡ new_values c.args.before.now c.args.after.now =
    sym (append-nil kept) ∙ ap (λ (l : List Val). kept ++ new_values c.args.before.now l) (sym c.in_default.ensures.none) ∙ c.loop-value.invariant in
    subst AreAscending (sym all) (new-ascends c.args.before.now c.args.after.now c.ascends.ensures)
