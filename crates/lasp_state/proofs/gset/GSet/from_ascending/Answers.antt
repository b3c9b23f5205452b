use Rattle.std.proofs.Common.{◌≡◌, ◌++◌, ◌∷◌, [], List, length, map, sym, ap, subst, ◌∙◌, append-nil, arith}
use Rattle.std.specs.Vec.Iter.{into_iter_items}
use Rattle.model_values.specs.Row.{Row}
use Rattle.model_sets.specs.Rows.{IsAscending}
use Rattle.lasp_value.specs.Value.{val_of}
use Rattle.lasp_value.specs.declared.value.Value.{Value}
use Rattle.lasp_state.specs.Members.{member, values_of, AreMembers}
use Rattle.lasp_state.proofs.MemberLaws.{are_members, values_of-member, ascending-members}
use Rattle.lasp_state.proofs.gset.GSet.from_ascending.Goals as goal

-- where no value is left, the rows are those of all values
rows-all : (yielded left values : List Value) (rows : List Row) → yielded ++ left ≡ values → rows ≡ map member (map val_of yielded) → length left ≡ 0 → rows ≡ map member (map val_of values)
rows-all yielded [] values rows all is none = is ∙ ap (λ (l : List Value). map member (map val_of l)) (sym (append-nil yielded) ∙ all)
rows-all yielded (v ∷ left) values rows all is none = absurd (omega (arith, none))

pub of_ascending-requires : goal.of_ascending-requires
of_ascending-requires c =
    let at = c.loop-value in
    let rows = rows-all at.yielded (into_iter_items at.value-iterator) c.args.values.items at.rows.items (at.invariant.0 ∙ c.into_iter-value-iterator.ensures.into_iter_gives.0) at.invariant.1 (sym at.invariant.2 ∙ c.in-None.ensures.steps.0) in
    subst IsAscending (sym rows) (ascending-members (map val_of c.args.values.items) c.requires)

pub invariant_of-result : goal.invariant_of-result
invariant_of-result c =
    subst AreMembers (sym (c.in_ok-of_ascending.ensures ∙ c.loop-value.invariant.1)) (are_members (map val_of c.loop-value.yielded))

pub returns : goal.returns
returns c =
    let at = c.loop-value in
    let rows = rows-all at.yielded (into_iter_items at.value-iterator) c.args.values.items at.rows.items (at.invariant.0 ∙ c.into_iter-value-iterator.ensures.into_iter_gives.0) at.invariant.1 (sym at.invariant.2 ∙ c.in-None.ensures.steps.0) in
    ap values_of (c.in_ok-of_ascending.ensures ∙ rows) ∙ values_of-member (map val_of c.args.values.items)
