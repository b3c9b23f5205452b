use Rattle.std.proofs.Common.{◌+◌, refl, sym, ap, ◌∙◌}
use Rattle.lasp_value.specs.Value.{val_of}
use Rattle.lasp_logset.specs.declared.few.Few.{Few}
use Rattle.lasp_logset.proofs.LiveLaws.{got-within}
use Rattle.lasp_logset.proofs.FewLaws.{seen-put, seen-known, seen-dead, seen-same}
use Rattle.lasp_logset.proofs.few.Few.take_next.Goals.{then-not-dead+in-Some-place_for+in_ok-insert, then-not-dead+in_default-place_for, else-not-dead}
use Rattle.lasp_logset.proofs.few.Few.take_next.Goals as goal

pub returns : goal.returns
returns c =
    let rows = c.args.rows.now.entries in
    let few = c.args.self.now in
    let k = c.in-Some.name.now in
    let dead = c.in-Some.dead.now in
    elim c.if-not-dead.branch [
      | then-not-dead+in-Some-place_for+in_ok-insert w ↦
          seen-put rows few.places.items c.if-not-dead.self.places.items w.in-Some-place_for.at few.upto c.requires (got-within rows few.upto (k, dead) (sym c.in-Some.ensures.entry)) (ap (λ (f : Few). f.places.items) w.self-is ∙ w.in_ok-insert.ensures.items)
      | then-not-dead+in_default-place_for w ↦
          seen-same rows few.places.items c.if-not-dead.self.places.items (few.upto + 1) (few.upto + 1) (ap (λ (f : Few). f.places.items) w.self-is) refl
          (seen-known rows few.places.items few.upto k dead (val_of w.value.result.now) c.requires c.in-Some.ensures.entry w.value.ensures w.in_default-place_for.ensures.none)
      | else-not-dead w ↦ seen-same rows few.places.items c.if-not-dead.self.places.items (few.upto + 1) (few.upto + 1) (ap (λ (f : Few). f.places.items) w.self-is) refl (seen-dead rows few.places.items few.upto k dead c.requires c.in-Some.ensures.entry w.if-not-dead.false)
    ]
