use Rattle.std.proofs.Common.{◌≡◌, ◌++◌, ◌∷◌, [], List, drop, get_or, slice_get, ◌+◌, Some, ap, sym, subst, ◌∙◌, arith}
use Rattle.std.proofs.lemmas.Option.{slice_get-get_or}
use Rattle.std.specs.Option.{option_map}
use Rattle.std.specs.declared.cmp.Ordering.TheVariants.{Less}
use Rattle.model_values.specs.Value.{Val}
use Rattle.model_sets.specs.Values.{live_values, IsWithin}
use Rattle.model_sets.proofs.RowLaws.{is-Less}
use Rattle.lasp_value.specs.Value.{val_of}
use Rattle.lasp_logset.specs.Shown.{order_behind, thinned}
use Rattle.lasp_logset.specs.Few.{values_at}
use Rattle.lasp_logset.proofs.FewLaws.{standing-next, rises-next, within-next, standing-done}
use Rattle.lasp_logset.proofs.shown.standing_values.Goals as goal

pub loop-place-preserved : goal.loop-place-preserved
loop-place-preserved c =
    let rows = c.args.rows.now.entries in
    let places = c.args.places.now in
    let i = c.loop-place.place-index in
    let v = val_of c.in-Some.value.now in
    let last = option_map (λ v. val_of v.now) c.loop-place.last in
    let before = c.loop-place.values.items in
    let less : order_behind last v ≡ Less = sym c.order_behind.ensures ∙ is-Less c.order_behind.result (sym c.is_lt.ensures ∙ c.if-not-is_lt.false) in
    let at : slice_get places i ≡ Some (get_or places i 0) = slice_get-get_or places i 0 c.loop-place-test.true in
    let put : c.push.new.self.items ≡ before ++ v ∷ [] = c.in_ok-push.ensures.items ∙ ap (λ (u : Val). before ++ u ∷ []) c.of.ensures in record {
      whole =
          ap (λ (s : List Val). s ++ thinned (Some v) (values_at rows (drop (i + 1) places))) put
          ∙ standing-next rows places i (get_or places i 0) last v before at c.in-Some.ensures less c.loop-place.invariant.whole;
      rises = rises-next rows places i (get_or places i 0) last v at c.in-Some.ensures less c.loop-place.invariant.rises;
      live = subst (λ (s : List Val). IsWithin s (live_values rows)) (sym put) (within-next rows (get_or places i 0) v before c.in-Some.ensures c.loop-place.invariant.live);
    }

pub returns : goal.returns
returns c =
    standing-done c.args.rows.now.entries c.args.places.now c.loop-place.place-index (option_map (λ v. val_of v.now) c.loop-place.last) c.loop-place.values.items (omega (arith, c.loop-place-test.false)) c.loop-place.invariant.whole c.loop-place.invariant.rises
    c.loop-place.invariant.live
